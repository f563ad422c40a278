-- The heads of sections as a set.
use Rattle.std.proofs.Common.{◌≡◌, ◌==◌, ℕ, zero, suc, ◌-◌, Bool, true, false, cond, not, ◌&&◌, ◌||◌, List, [], ◌∷◌, ◌++◌, length, get_or, set, slice_get, Some, Ok, refl, sym, ap, ◌∙◌}
use Rattle.std.specs.Bool.{OnFalse}
use Rattle.std.specs.List.{list_any}
use Rattle.std.specs.Str.{bytes_eq}
use Rattle.std.specs.HashSet.{contains, IsUnchanged}
use Rattle.qos_profile.specs.contracts.head.HeadPartialEq.TheImpl as block
use Rattle.qos_profile.specs.declared.fact.Fact.{Fact}
use Rattle.qos_profile.specs.declared.head.Head.{Head}
use Rattle.qos_profile.specs.declared.head.Head.TheVariants as heads
use Rattle.qos_profile.specs.declared.section.Section.{Section}
use Rattle.qos_profile.specs.Sections.{same_head, is_red}
use Rattle.qos_profile.specs.Lookups.{is_there}
use Rattle.qos_profile.specs.Pushes.{and_fact, PushesFact}
use Rattle.qos_profile.specs.Known.{Heads, Knows, Notes}

and-comm : (a b : Bool) → (a && b) ≡ (b && a)
and-comm true true = refl
and-comm true false = refl
and-comm false true = refl
and-comm false false = refl

-- the program's test of two heads, where the first is not skipped
eq-same : (a b : Head) → is_red a ≡ false → block.ghosts.eq a b ≡ same_head a b
eq-same heads.Red b r = absurd (cc)
eq-same (heads.Meter a) (heads.Meter b) r = and-comm (bytes_eq a.bytes b.bytes) (a.length == b.length)
eq-same heads.Pool heads.Pool r = refl
eq-same (heads.Port n) (heads.Port m) r = refl
eq-same (heads.SubportKind n) (heads.SubportKind m) r = refl
eq-same (heads.PipeKind n) (heads.PipeKind m) r = refl
eq-same (heads.Subport n k) (heads.Subport m l) r = refl
eq-same heads.Codes heads.Codes r = refl
eq-same (heads.Rule n) (heads.Rule m) r = refl
eq-same _ _ r = refl

any-same : (f g : Head → Bool) → ((x : Head) → f x ≡ g x) → (xs : List Head) → list_any f xs ≡ list_any g xs
any-same f g each [] = refl
any-same f g each (x ∷ xs) = ap (λ t. t || list_any f xs) (each x) ∙ ap (λ t. g x || t) (any-same f g each xs)

keys-same : (heads : Heads) (h : Head) → is_red h ≡ false → contains block.ghosts.eq heads h ≡ list_any (same_head h) heads.keys
keys-same heads h r = any-same (block.ghosts.eq h) (same_head h) (λ x. eq-same h x r) heads.keys

cond-or : (t x : Bool) → cond t true x ≡ (t || x)
cond-or true x = refl
cond-or false x = refl

not-true : (x : Bool) → true ≡ not x → x ≡ false
not-true true e = absurd (cc)
not-true false e = refl

not-false : (x : Bool) → false ≡ not x → x ≡ true
not-false true e = refl
not-false false e = absurd (cc)

-- a head that was put into the set, or was there
pub notes-added : (old new : Heads) (head : Head) (added : Bool) → is_red head ≡ false → added ≡ not (contains block.ghosts.eq old head) → ((q : Head) → contains block.ghosts.eq new q ≡ cond (block.ghosts.eq head q) true (contains block.ghosts.eq old q)) → OnFalse added (IsUnchanged old new) → Notes old new head (Ok added)
notes-added old new head true r added updates same =
    (λ s. sym (keys-same old head r) ∙ not-true (contains block.ghosts.eq old head) added, λ h plain. sym (keys-same new h plain) ∙ updates h ∙ ap (λ t. cond t true (contains block.ghosts.eq old h)) (eq-same head h r) ∙ ap (cond (same_head head h) true) (keys-same old h plain) ∙ cond-or (same_head head h) (list_any (same_head h) old.keys))
notes-added old new head false r added updates same =
    (r, sym (keys-same old head r) ∙ not-false (contains block.ghosts.eq old head) added, same)

red-apart : (h g : Head) → is_red h ≡ true → same_head h g ≡ false
red-apart heads.Red g e = refl
red-apart heads.Pool g e = absurd (cc)
red-apart (heads.Port n) g e = absurd (cc)
red-apart (heads.SubportKind n) g e = absurd (cc)
red-apart (heads.PipeKind n) g e = absurd (cc)
red-apart (heads.Subport p k) g e = absurd (cc)
red-apart heads.Codes g e = absurd (cc)
red-apart (heads.Meter name) g e = absurd (cc)
red-apart (heads.Rule n) g e = absurd (cc)

-- a section that is skipped is put nowhere
pub notes-red : (heads : Heads) (head : Head) → is_red head ≡ true → Notes heads heads head (Ok true)
notes-red heads head r =
    (λ plain. absurd (clash plain), λ h plain. ap (λ t. t || list_any (same_head h) heads.keys) (sym (red-apart head h r)))
  where
    clash : is_red head ≡ false → ⊥
    clash plain = let e = sym r ∙ plain in cc

apart-red : (h g : Head) → is_red g ≡ true → same_head h g ≡ false
apart-red h heads.Red e = by h
  where
    by : (x : Head) → same_head x heads.Red ≡ false
    by heads.Pool = refl
    by (heads.Port n) = refl
    by (heads.SubportKind n) = refl
    by (heads.PipeKind n) = refl
    by (heads.Subport p k) = refl
    by heads.Codes = refl
    by (heads.Meter name) = refl
    by (heads.Rule n) = refl
    by heads.Red = refl
apart-red h _ e = absurd (cc)

none-red : (ss : List Section) (g : Head) → is_red g ≡ true → is_there ss g ≡ false
none-red [] g e = refl
none-red (s ∷ ss) g e = ap (λ t. t || is_there ss g) (apart-red s.head g e) ∙ none-red ss g e

-- a head that was new is of no section that is there
pub new-head : (old new : Heads) (ss : List Section) (head : Head) → Knows old ss → Notes old new head (Ok true) → is_there ss head ≡ false
new-head old new ss head knows notes = by (is_red head) refl
  where
    by : (t : Bool) → is_red head ≡ t → is_there ss head ≡ false
    by true e = none-red ss head e
    by false e = sym (knows head e) ∙ notes.0 e

pub old-head : (old new : Heads) (ss : List Section) (head : Head) → Knows old ss → Notes old new head (Ok false) → is_there ss head ≡ true
old-head old new ss head knows notes = sym (knows head notes.0) ∙ notes.1

there-push : (ss : List Section) (s : Section) (h : Head) → is_there (ss ++ s ∷ []) h ≡ (same_head s.head h || is_there ss h)
there-push [] s h = refl
there-push (x ∷ xs) s h =
    ap (λ t. same_head x.head h || t) (there-push xs s h) ∙ swap (same_head x.head h) (same_head s.head h) (is_there xs h)
  where
    swap : (a b c : Bool) → (a || (b || c)) ≡ (b || (a || c))
    swap true true c = refl
    swap true false c = refl
    swap false true c = refl
    swap false false c = refl

-- the set knows a section that was added
pub knows-more : (old new : Heads) (ss : List Section) (s : Section) → Knows old ss → Notes old new s.head (Ok true) → Knows new (ss ++ s ∷ [])
knows-more old new ss s knows notes h plain =
    notes.1 h plain ∙ ap (λ t. same_head s.head h || t) (knows h plain) ∙ sym (there-push ss s h)

pub knows-same : (old new : Heads) (ss : List Section) → Knows old ss → new.keys ≡ old.keys → Knows new ss
knows-same old new ss knows same h plain = ap (list_any (same_head h)) same ∙ knows h plain

-- a section with another list of facts
there-set : (ss : List Section) (i : ℕ) (t : Section) (facts : List Fact) (h : Head) → t ≡ get_or ss i t → is_there (set ss i (record { line = t.line; head = t.head; facts = facts })) h ≡ is_there ss h
there-set [] i t facts h e = refl
there-set (x ∷ xs) zero t facts h e = ap (λ y. same_head y.head h || is_there xs h) e
there-set (x ∷ xs) (suc i) t facts h e = ap (λ b. same_head x.head h || b) (there-set xs i t facts h e)

pub knows-set : (heads : Heads) (ss : List Section) (i : ℕ) (t : Section) (facts : List Fact) → Knows heads ss → t ≡ get_or ss i t → Knows heads (set ss i (record { line = t.line; head = t.head; facts = facts }))
knows-set heads ss i t facts knows e h plain = knows h plain ∙ sym (there-set ss i t facts h e)

got : (ss : List Section) (i : ℕ) (s d : Section) → slice_get ss i ≡ Some s → get_or ss i d ≡ s
got [] i s d h = absurd (cc)
got (x ∷ xs) zero s d h = cc
got (x ∷ xs) (suc i) s d h = got xs i s d h

pub pushes : (items now : List Section) (i : ℕ) (t : Section) (facts : List Fact) (fact : Fact) → items ≡ now → i ≡ length now - 1 → t ≡ get_or items i t → facts ≡ t.facts ++ fact ∷ [] → PushesFact now (set items i (record { line = t.line; head = t.head; facts = facts })) fact
pushes items now i t facts fact same at is more s last =
    let one : t ≡ s = is ∙ ap (λ ss. get_or ss i t) same ∙ ap (λ k. get_or now k t) at ∙ got now (length now - 1) s t last in
    ap (λ ss. set ss i (record { line = t.line; head = t.head; facts = facts })) same
    ∙ ap (λ k. set now k (record { line = t.line; head = t.head; facts = facts })) at
    ∙ ap (λ fs. set now (length now - 1) (record { line = t.line; head = t.head; facts = fs })) more
    ∙ ap (λ x. set now (length now - 1) (and_fact x fact)) one
