-- What a subport and a pipe both have: a token bucket and the credits of thirteen traffic classes (DPDK Programmer's Guide,
-- Quality of Service Framework: traffic shaping, traffic class upper limits).
use Rattle.std.specs.Prelude.{ℕ, ◌+◌, ◌-◌, ◌/◌, min, Bool, nat_le, if◌then◌else◌, List, slice_index, slice_set}
use Rattle.credit_book.specs.Bucket.{multiples, after_periods}
use Rattle.profile_plan.specs.declared.shaping.Whole.{Whole}

-- credits are in bytes, moments in byte times of the line
pub record Level : Type 0 where
  pub plan : Whole
  -- the credits in the token bucket
  pub credits : ℕ
  -- the credits of each class
  pub classes : List ℕ
  -- when the class credits are renewed next
  pub due : ℕ

-- the bucket starts half full, the classes whole, and the first renewal is due at one period
abbrev pub level_start : Whole → Level
level_start plan = record { plan = plan; credits = plan.tb_size / 2; classes = plan.tc_credits; due = plan.tc_period }

-- at each multiple of its period from one moment up to another the bucket earns one period's credits, never above its size
abbrev pub level_tick : ℕ → ℕ → Level → Level
level_tick from to l = record l {
  credits = after_periods l.plan.tb_size l.plan.tb_credits (multiples l.plan.tb_period from to) l.credits;
}

abbrev pub is_due : ℕ → Level → Bool
is_due moment l = nat_le l.due moment

-- where the renewal is due every class has its whole credits again, and the next one is due a period after this moment
abbrev pub level_renewed : ℕ → Level → Level
level_renewed moment l =
    if is_due moment l then record l { classes = l.plan.tc_credits; due = moment + l.plan.tc_period } else l

-- what a class has used of its whole credits
abbrev pub used : ℕ → Level → ℕ
used class l = slice_index l.plan.tc_credits class - slice_index l.classes class

-- what a class may send: the lesser of the bucket's credits and its own
abbrev pub allowance : ℕ → Level → ℕ
allowance class l = min l.credits (slice_index l.classes class)

-- the bucket and the class have paid a cost
abbrev pub level_paid : ℕ → ℕ → Level → Level
level_paid class cost l = record l {
  credits = l.credits - cost;
  classes = slice_set l.classes class (slice_index l.classes class - cost);
}
