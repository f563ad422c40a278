-- A visit of one pipe of a subport.
use Rattle.std.specs.Prelude.{ℕ, ◌+◌, ◌%◌, ◌==◌, if◌then◌else◌, List, length, slice_get, slice_set, Option, None, Some}
use Rattle.qos_base.specs.declared.packet.Departure.{Departure}
use Rattle.port_sched.specs.Pipe.{Pipe}
use Rattle.port_sched.specs.Subport.{Subport}
use Rattle.port_sched.specs.Renewal.{subport_renewed, pipe_renewed}
use Rattle.port_sched.specs.Classes.{Visit, classes_turn}

-- a subport in its turn: port time, how many packets may still be sent, and those that were
pub record Service (T : Type 0) : Type 0 where
  pub subport : Subport T
  pub time : ℕ
  pub room : ℕ
  pub sends : List (Departure T)

-- the cursor stays at the pipe where the room is used up, and else moves on to the pipe after it
abbrev pub cursor_after : ℕ → ℕ → ℕ → ℕ
cursor_after pipe pipes room = if room == 0 then pipe else (pipe + 1) % pipes

module _ {T : Type 0} where
  -- the visit begins with what was renewed
  abbrev pub visit_start : Service T → Pipe T → Visit T
  visit_start g p =
      let renewed = subport_renewed g.time g.subport in
      record {
        oversub = g.subport.oversub;
        subport = renewed.level;
        pipe = pipe_renewed g.time renewed p;
        time = g.time;
        room = g.room;
        sends = g.sends;
      }

  -- the visit's subport and pipe go back to their places
  abbrev pub visit_end : ℕ → Service T → Visit T → Service T
  visit_end q g v = record {
    subport = record (subport_renewed g.time g.subport) {
      level = v.subport;
      cursor = cursor_after q (length g.subport.pipes) v.room;
      pipes = slice_set g.subport.pipes q v.pipe;
    };
    time = v.time;
    room = v.room;
    sends = v.sends;
  }

  -- pipe q is visited: what is due is renewed, and its classes send
  abbrev pub visit_pipe : (T → ℕ) → ℕ → Service T → Service T
  visit_pipe cost q g = visit_of (slice_get g.subport.pipes q)
    where
      visit_of : Option (Pipe T) → Service T
      visit_of (Some p) = visit_end q g (classes_turn cost (visit_start g p))
      visit_of None = g
