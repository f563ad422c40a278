-- What a meter keeps of its state: beside each rate the end of its last period that was counted.
use Rattle.std.specs.Prelude.{◌≡◌}
use Rattle.std.proofs.Common.{sym}
use Rattle.color_meter.specs.declared.meter.Meter.TheInside.{Inside}
use Rattle.color_meter.specs.Clock.{rate_in, whole_time, clock_of}
use Rattle.color_meter.specs.Meter.{MeterState, IsMeterState}

abbrev pub state_of : Inside → MeterState
state_of m =
    record {
      setting = record {
        kind = m.kind;
        aware = m.aware;
        cir = rate_in m.cir;
        other = rate_in m.other;
        cbs = m.cbs;
        other_size = m.other_size;
      };
      counts = m.counts;
      high = m.high;
    }

abbrev pub inside_of : MeterState → Inside
inside_of m =
    record {
      kind = m.setting.kind;
      aware = m.setting.aware;
      cir = clock_of m.setting.cir m.high;
      other = clock_of m.setting.other m.high;
      cbs = m.setting.cbs;
      other_size = m.setting.other_size;
      counts = m.counts;
      high = m.high;
    }

-- each rate's time is the last whole period at the meter's moment
pub record IsKept (m : Inside) : Type 0 where
  pub sound : IsMeterState (state_of m)
  pub cir : m.cir.time ≡ whole_time (rate_in m.cir) m.high
  pub other : m.other.time ≡ whole_time (rate_in m.other) m.high

-- so the state gives back what was kept
pub inside-of-state : (m : Inside) → IsKept m → inside_of (state_of m) ≡ m
inside-of-state m kept i =
    record {
      kind = m.kind;
      aware = m.aware;
      cir = record { bytes = m.cir.bytes; period = m.cir.period; time = sym kept.cir i };
      other = record { bytes = m.other.bytes; period = m.other.period; time = sym kept.other i };
      cbs = m.cbs;
      other_size = m.other_size;
      counts = m.counts;
      high = m.high;
    }
