-- Ranges across keys.
use Rattle.std.specs.Prelude.{◌==◌, ℕ, ◌*◌, ◌^◌, Bool, true, not, ◌&&◌, nat_le, if◌then◌else◌, List, find, Option, None, Some}
use Rattle.std.specs.Option.{option_map}
use Rattle.profile_plan.specs.Meter.{periods_of}
use Rattle.profile_plan.specs.declared.meter.MeterRate.{MeterRate}
use Rattle.profile_plan.specs.declared.meter.MeterRate.TheVariants.{Periods, PerSecond}
use Rattle.qos_profile.specs.declared.fact.Fact.{Fact}
use Rattle.qos_profile.specs.declared.head.Head.{Head}
use Rattle.qos_profile.specs.declared.head.Head.TheVariants as heads
use Rattle.qos_profile.specs.declared.section.Section.{Section}
use Rattle.qos_profile.specs.Values.{is_within}
use Rattle.qos_profile.specs.Facts.{mode_of}
use Rattle.qos_profile.specs.Lookups.{has, number_at}
use Rattle.qos_profile.specs.Missing.{is_rate}

-- `tc period` is in milliseconds in rate form, else in byte times
abbrev pub keeps_period : List Fact → Bool
keeps_period facts =
    if is_rate (mode_of facts) then is_within 1 10000 (number_at facts 4 0 0) else is_within 1 (2 ^ 40) (number_at facts 4 0 0)

-- a rate of a meter, by its group: a rate gives the slot between those of its bytes and its period
abbrev pub rate_at : List Fact → ℕ → MeterRate
rate_at facts group =
    if has facts group 1
    then PerSecond (number_at facts group 1 0)
    else Periods (number_at facts group 0 0) (number_at facts group 2 1)

-- the first rate is at most the second, as fractions
abbrev pub is_at_most : ℕ × ℕ → ℕ × ℕ → Bool
is_at_most a b = nat_le (a.0 * b.1) (b.0 * a.1)

-- srtcm needs one size above 0; trtcm needs both, and a peak rate that is not below the committed rate
abbrev pub keeps_kind : Option ℕ → List Fact → Bool
keeps_kind (Some mode) facts =
    if mode == 0 then not (number_at facts 4 0 0 == 0 && number_at facts 5 0 0 == 0)
    else (if mode == 1 then not (number_at facts 4 0 0 == 0) && not (number_at facts 5 0 0 == 0) && is_at_most (periods_of (rate_at facts 2)) (periods_of (rate_at facts 3))
    else true)
keeps_kind None facts = true

-- a section keeps the ranges across its keys
abbrev pub keeps_ranges : Head → List Fact → Bool
keeps_ranges (heads.SubportKind n) facts = keeps_period facts
keeps_ranges (heads.PipeKind n) facts = keeps_period facts
keeps_ranges (heads.Meter name) facts = keeps_kind (mode_of facts) facts
keeps_ranges _ facts = true

-- the first section that breaks a range across keys
unfoldable pub across_line : List Section → Option ℕ
across_line sections = option_map (λ s. s.line) (find (λ s. not (keeps_ranges s.head s.facts)) sections)
