-- What a meter is set to.
use Rattle.std.specs.Prelude.{ℕ, Bool}
use Rattle.profile_plan.specs.declared.meter.MeterKind.{MeterKind}
use Rattle.profile_plan.specs.declared.meter.MeterPlan.{MeterPlan}
use Rattle.color_meter.specs.Drip.{Rate, rate_of}

-- `other` is the peak rate of RFC 2698 or the excess rate of RFC 4115; `other_size` is EBS or PBS
pub record Setting : Type 0 where
  pub kind : MeterKind
  pub aware : Bool
  pub cir : Rate
  pub other : Rate
  pub cbs : ℕ
  pub other_size : ℕ

abbrev pub setting_of : MeterPlan → Setting
setting_of plan =
    record {
      kind = plan.kind;
      aware = plan.aware;
      cir = rate_of plan.cir;
      other = rate_of plan.other;
      cbs = plan.cbs;
      other_size = plan.other_size;
    }
