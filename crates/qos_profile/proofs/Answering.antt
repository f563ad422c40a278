-- The answer for a text from that for its sections.
use Rattle.std.proofs.Common.{◌≡◌, ℕ, ◌<◌, ◌≤◌, cond, List, [], length, None, Some, Result, Ok, Err, sym, ap, subst, ◌∙◌, nat_lt, Bool, true, false, Option, refl}
use Rattle.std.specs.Prelude.{IfOk}
use Rattle.std.proofs.lemmas.Bool.{lt-ltb, le-ltb}
use Rattle.profile_plan.specs.Profile.{Plan, KeepsLimits}
use Rattle.qos_profile.specs.declared.fault.FaultKind.{FaultKind}
use Rattle.qos_profile.specs.declared.fault.ProfileFault.{ProfileFault}
use Rattle.qos_profile.specs.declared.fault.ProfileError.{ProfileError}
use Rattle.qos_profile.specs.declared.fault.ProfileError.TheVariants as errors
use Rattle.qos_profile.specs.declared.section.Section.{Section}
use Rattle.qos_profile.specs.Sections.{first_fault, sections_of}
use Rattle.qos_profile.specs.Steps.{lines_of, ReadsSections}
use Rattle.qos_profile.specs.Faults.{with_total, or_of_sections, fault_of_sections, fault_of_text, AreClear, Answers}
use Rattle.qos_profile.specs.Planned.{plan_of, profile_of}
use Rattle.qos_profile.specs.OneAnswer.{IsAnswer, HasOneAnswer}
use Rattle.qos_profile.proofs.Sound.{IsSound, lines-sound}
use Rattle.qos_profile.proofs.PlanLimits.{plan-limits}

pub text-long : (text : List ℕ) → 1048576 < length text → fault_of_text text ≡ Some (with_total (length text))
unfolding fault_of_text
text-long text h =
    ap (λ t. cond t (Some (with_total (length text))) (or_of_sections (first_fault [] (lines_of text)) (sections_of 1 (lines_of text)))) (lt-ltb 1048576 (length text) h)

text-short : (text : List ℕ) → length text ≤ 1048576 → fault_of_text text ≡ or_of_sections (first_fault [] (lines_of text)) (sections_of 1 (lines_of text))
unfolding fault_of_text
text-short text h =
    ap (λ t. cond t (Some (with_total (length text))) (or_of_sections (first_fault [] (lines_of text)) (sections_of 1 (lines_of text)))) (le-ltb 1048576 (length text) h)

-- a fault of a line
pub error-answers : (X : Type 0) (text : List ℕ) (error : ProfileError) → length text ≤ 1048576 → ReadsSections (lines_of text) (Err error) → Answers {X = X} (Err error) (fault_of_text text)
error-answers X text (errors.Fault f) h reads =
    text-short text h ∙ ap (λ found. or_of_sections found (sections_of 1 (lines_of text))) reads.0 ∙ ap (λ total. Some (record { line = f.line; kind = f.kind; total = total })) (sym reads.1)
error-answers X text errors.NoMemory h reads = tt

-- sections without a fault of a line
pub sections-answer : {X : Type 0} (text : List ℕ) (sections : List Section) (r : Result X ProfileError) → length text ≤ 1048576 → ReadsSections (lines_of text) (Ok sections) → Answers r (fault_of_sections sections) → Answers r (fault_of_text text)
sections-answer text sections r h reads answers =
    let whole : fault_of_text text ≡ fault_of_sections sections = text-short text h ∙ ap (λ found. or_of_sections found (sections_of 1 (lines_of text))) reads.0 ∙ ap fault_of_sections (sym reads.1) in
    subst (λ f. Answers r f) (sym whole) answers

-- the profile of the sections is that of the text
pub sections-plan : (text : List ℕ) (sections : List Section) (r : Result Plan ProfileError) → ReadsSections (lines_of text) (Ok sections) → IfOk r (λ p. p ≡ plan_of sections) → IfOk r (λ p. p ≡ profile_of text)
unfolding profile_of
sections-plan text sections (Ok p) reads e = e ∙ ap plan_of reads.1
sections-plan text sections (Err error) reads e = e

-- sections of lines without a fault, which have none as a whole
pub clear-sound : (sections : List Section) → AreClear sections → fault_of_sections sections ≡ None → IsSound sections
clear-sound sections (lines, clear, same) none =
    subst IsSound (sym same) (lines-sound lines clear (ap fault_of_sections (sym same) ∙ none))

-- a text without a fault has lines without one, and sections without one
text-clear : (text : List ℕ) → fault_of_text text ≡ None → (first_fault [] (lines_of text) ≡ None) × (fault_of_sections (sections_of 1 (lines_of text)) ≡ None)
unfolding fault_of_text
text-clear text h = by (nat_lt 1048576 (length text)) (first_fault [] (lines_of text)) refl h
  where
    by : (t : Bool) (o : Option (ℕ × FaultKind)) → first_fault [] (lines_of text) ≡ o → cond t (Some (with_total (length text))) (or_of_sections o (sections_of 1 (lines_of text))) ≡ None → (first_fault [] (lines_of text) ≡ None) × (fault_of_sections (sections_of 1 (lines_of text)) ≡ None)
    by true o e g = absurd (cc)
    by false (Some found) e g = absurd (cc)
    by false None e g = (e, g)

-- the profile of a text without a fault keeps all limits
pub text-limits : (text : List ℕ) → fault_of_text text ≡ None → KeepsLimits (profile_of text)
unfolding profile_of
text-limits text h =
    let clear = text-clear text h in
    plan-limits (sections_of 1 (lines_of text)) (lines-sound (lines_of text) clear.0 clear.1)

one-fault : (text : List ℕ) (fault : ProfileFault) → fault_of_text text ≡ Some fault → (other : Result Plan ProfileFault) → IsAnswer text other → other ≡ Err fault
one-fault text fault e (Ok plan) is = absurd (clash (sym is.0 ∙ e))
  where
    clash : (let A : Type 0 = Option ProfileFault in ◌≡◌ {A = A} None (Some fault)) → ⊥
    clash h = cc
one-fault text fault e (Err f) is = same (sym is ∙ e)
  where
    same : Some f ≡ Some fault → (let A : Type 0 = Result Plan ProfileFault in ◌≡◌ {A = A} (Err f) (Err fault))
    same h = cc

one-profile : (text : List ℕ) → fault_of_text text ≡ None → (other : Result Plan ProfileFault) → IsAnswer text other → other ≡ Ok (profile_of text)
one-profile text e (Ok plan) is = ap Ok is.1
one-profile text e (Err fault) is = absurd (clash (sym e ∙ is))
  where
    clash : (let A : Type 0 = Option ProfileFault in ◌≡◌ {A = A} None (Some fault)) → ⊥
    clash h = cc

pub one-answer : (text : List ℕ) → HasOneAnswer text
one-answer text = by (fault_of_text text) refl
  where
    by : (o : Option ProfileFault) → fault_of_text text ≡ o → HasOneAnswer text
    by None e = (Ok (profile_of text), (e, refl, text-limits text e), one-profile text e)
    by (Some fault) e = (Err fault, e, one-fault text fault e)
