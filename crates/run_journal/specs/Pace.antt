-- How a port of a profile is paced.
use Rattle.std.specs.Prelude.{ℕ}
use Rattle.profile_plan.specs.declared.port.PortPlan.{PortPlan}
use Rattle.profile_plan.specs.declared.port.Span.{Span}
use Rattle.profile_plan.specs.declared.port.Span.TheVariants.{Bytes, Ms}
use Rattle.profile_plan.specs.Whole.{bytes_in}
use Rattle.run_journal.specs.declared.pace.Pace.{Pace}

-- how long a port goes on after the last arrival, in byte times of a line of this rate
abbrev pub drain_of : ℕ → Span → ℕ
drain_of line (Bytes n) = n
drain_of line (Ms n) = bytes_in line n

abbrev pub pace_of : PortPlan → Pace
pace_of plan = record { burst = plan.burst; quantum = plan.quantum; drain = drain_of plan.line plan.drain }
