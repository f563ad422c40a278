-- What follows from the choice of a rule.
use Rattle.std.specs.Prelude.{◌≡◌, ℕ, ◌≤◌, true, false, None, Some, All, Contains}
use Rattle.profile_plan.specs.Profile.{Plan, KeepsLimits}
use Rattle.profile_plan.specs.declared.rule.RulePlan.{RulePlan}
use Rattle.port_classify.specs.declared.frame.Frame.{Frame}
use Rattle.port_classify.specs.declared.destination.Place.{Place}
use Rattle.port_classify.specs.Frame.{HasCodes}
use Rattle.port_classify.specs.Place.{matches, place_by, place_of}

-- a rule of the profile matches a frame, and each rule that matches has its number or a greater one
pub record IsLeastMatch (p : Plan) (input : ℕ) (f : Frame) (r : RulePlan) : Type 0 where
  pub listed : Contains p.rules r
  pub matching : matches p input f r ≡ true
  pub least : (other : RulePlan) → Contains p.rules other → matches p input f other ≡ true → r.number ≤ other.number

-- a place is that of the least rule that matches
abbrev pub PlacesAreLeast : Type 0
PlacesAreLeast =
    (p : Plan) (input : ℕ) (f : Frame) (place : Place) → KeepsLimits p → place_of p input f ≡ Some place →
    (r : RulePlan) × IsLeastMatch p input f r × (place_by p f r ≡ Some place)

-- where no rule matches there is no place, and only there
abbrev pub UnmatchedHasNone : Type 0
UnmatchedHasNone =
    (p : Plan) (input : ℕ) (f : Frame) → All (λ r. matches p input f r ≡ false) p.rules → place_of p input f ≡ None

abbrev pub NoneIsUnmatched : Type 0
NoneIsUnmatched =
    (p : Plan) (input : ℕ) (f : Frame) → KeepsLimits p → HasCodes f → place_of p input f ≡ None →
    All (λ r. matches p input f r ≡ false) p.rules

pub record PlacesByLeast : Type 0 where
  pub least : PlacesAreLeast
  pub unmatched : UnmatchedHasNone
  pub none : NoneIsUnmatched
