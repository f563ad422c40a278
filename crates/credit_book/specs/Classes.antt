-- The credits of the thirteen traffic classes: whole at each renewal, and what is taken from them.
use Rattle.std.specs.Prelude.{◌≡◌, ℕ, ◌+◌, ◌-◌, ◌^◌, ◌≤◌, ◌<◌, nat_le, if◌then◌else◌, List, length, slice_index, slice_set}

-- the classes' credits in bytes, by number of class; period and due time in byte times of the line
pub record TrafficClasses : Type 0 where
  pub whole : List ℕ
  pub period : ℕ
  pub due : ℕ
  pub credits : List ℕ

-- thirteen classes within the limits, none above its whole credits
pub record IsTrafficClasses (c : TrafficClasses) : Type 0 where
  pub classes : length c.whole ≡ 13
  pub credits_classes : length c.credits ≡ 13
  pub whole_at_most : (k : ℕ) → k < 13 → slice_index c.whole k ≤ 2 ^ 40
  pub within : (k : ℕ) → k < 13 → slice_index c.credits k ≤ slice_index c.whole k
  pub period_at_least : 1 ≤ c.period
  pub period_at_most : c.period ≤ 2 ^ 40
  pub due_at_most : c.due ≤ 2 ^ 63 + 2 ^ 40

-- at the start: whole credits, and the first renewal due at one period
abbrev pub new_classes : List ℕ → ℕ → TrafficClasses
new_classes whole period = record { whole = whole; period = period; due = period; credits = whole }

-- renewed at a moment: every class has its whole credits, and the next renewal is due one period after that moment
abbrev pub renewed : ℕ → TrafficClasses → TrafficClasses
renewed moment c = record c { due = moment + c.period; credits = c.whole }

-- brought up to a moment: renewed where the renewal is due, and otherwise the same
abbrev pub classes_brought : ℕ → TrafficClasses → TrafficClasses
classes_brought moment c = if nat_le c.due moment then renewed moment c else c

-- the credits that a class has
abbrev pub credits_of : ℕ → TrafficClasses → ℕ
credits_of class c = slice_index c.credits class

-- what a class has used since its last renewal: its whole credits less those that it has
abbrev pub used_of : ℕ → TrafficClasses → ℕ
used_of class c = slice_index c.whole class - slice_index c.credits class

-- the classes after one of them has paid a cost
abbrev pub class_paid : ℕ → ℕ → TrafficClasses → TrafficClasses
class_paid class cost c = record c { credits = slice_set c.credits class (credits_of class c - cost) }
