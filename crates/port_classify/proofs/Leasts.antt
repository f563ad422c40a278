-- The place of a frame is that of the least rule that matches.
use Rattle.std.proofs.Common.{◌≡◌, ℕ, true, false, Option, None, Some, find, All, refl, inl, inr, is_some, arith}
use Rattle.std.specs.Option.{option_and_then, option_map}
use Rattle.std.proofs.lemmas.Bool.{and_parts}
use Rattle.std.proofs.lemmas.Option.{slice_get_cases}
use Rattle.code_table.specs.declared.entry.Entry.{Entry}
use Rattle.profile_plan.specs.Profile.{Plan, KeepsLimits}
use Rattle.profile_plan.specs.declared.rule.CodeChoice.{CodeChoice}
use Rattle.profile_plan.specs.declared.rule.CodeChoice.TheVariants.{Dscp, Fixed}
use Rattle.profile_plan.specs.declared.rule.RulePlan.{RulePlan}
use Rattle.port_classify.specs.declared.frame.Frame.{Frame}
use Rattle.port_classify.specs.declared.destination.Place.{Place}
use Rattle.port_classify.specs.Frame.{HasCodes}
use Rattle.port_classify.specs.Place.{meets, matches, pipe_by, pipes_of, entry_by, place_with, place_by}
use Rattle.port_classify.specs.Laws.{IsLeastMatch, PlacesAreLeast, UnmatchedHasNone, NoneIsUnmatched, PlacesByLeast}
use Rattle.port_classify.proofs.Choosing.{found, found-least, none-passes, none-found}

module _ (p : Plan) (input : ℕ) (f : Frame) (limits : KeepsLimits p) where
  -- what is found among the rules
  abbrev IsChosen : Option RulePlan → Type 0
  IsChosen o = find (matches p input f) p.rules ≡ o

  place-at : (place : Place) (o : Option RulePlan) → IsChosen o → option_and_then (place_by p f) o ≡ Some place →
      (r : RulePlan) × IsLeastMatch p input f r × (place_by p f r ≡ Some place)
  place-at place None none e = absurd (cc)
  place-at place (Some r) some e =
      let at = found (matches p input f) p.rules r some in
      let least = found-least (λ rule. rule.number) p.rules limits.rules_order (matches p input f) r at.0 at.1 in
      (r, record { listed = (at.0, at.1.within, at.1.there); matching = at.1.passing; least = least }, e)

  -- a code point has an entry
  some-entry : HasCodes f → (choice : CodeChoice) → entry_by choice p.codes f.dscp ≡ None → ⊥
  some-entry codes Dscp e =
      elim (slice_get_cases p.codes f.dscp).1 [
        | inl there ↦ cc (there.2, e)
        | inr past ↦ omega (arith, past.0, limits.code_count, codes.dscp)
      ]
  some-entry codes (Fixed entry) e = cc

  -- a rule that gives a pipe gives a place
  some-place : HasCodes f → (r : RulePlan) (pipe : Option ℕ) (entry : Option Entry) → entry_by r.code p.codes f.dscp ≡ entry →
      is_some pipe ≡ true → option_and_then (λ n. option_map (place_with r n) entry) pipe ≡ None → ⊥
  some-place codes r None entry e there none = cc
  some-place codes r (Some n) None e there none = some-entry codes r.code e
  some-place codes r (Some n) (Some entry) e there none = cc

  none-at : HasCodes f → (o : Option RulePlan) → IsChosen o → option_and_then (place_by p f) o ≡ None →
      All (λ r. matches p input f r ≡ false) p.rules
  none-at codes None none e = none-passes (matches p input f) p.rules none
  none-at codes (Some r) some e =
      let pipe : Option ℕ = pipe_by r.pipe (pipes_of p r) f in
      let matching = (found (matches p input f) p.rules r some).1.passing in
      absurd (some-place codes r pipe _ refl (and_parts (meets input f r) (is_some pipe) matching).1 e)

least : PlacesAreLeast
least p input f place limits e = place-at p input f limits place _ refl e

none : NoneIsUnmatched
none p input f limits codes e = none-at p input f limits codes _ refl e

unmatched : UnmatchedHasNone
unmatched p input f all = rw (none-found (matches p input f) p.rules all)

pub places-by_least : PlacesByLeast
places-by_least = record { least = least; unmatched = unmatched; none = none }
