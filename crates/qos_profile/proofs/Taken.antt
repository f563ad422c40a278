-- The slots that are taken, as a map.
use Rattle.std.proofs.Common.{◌≡◌, ◌==◌, ℕ, ◌<◌, ◌≤◌, Bool, true, false, cond, ◌&&◌, ◌||◌, nat_le, List, [], ◌∷◌, ◌++◌, Some, None, refl, sym, ap, subst, ◌∙◌, arith, ◌⊎◌, inl, inr}
use Rattle.std.specs.List.{list_any}
use Rattle.std.specs.Option.{IsSome}
use Rattle.std.specs.declared.cmp.Ordering.{Ordering}
use Rattle.std.specs.declared.cmp.Ordering.TheVariants.{Less, Equal, Greater}
use Rattle.std.specs.Ordering.{nat_cmp, ordering_then, is_gt, is_lt, is_eq, eq_by_cmp}
use Rattle.std.specs.declared.ops.Bound.TheVariants.{Included, Unbounded}
use Rattle.std.specs.BTreeMap.{get}
use Rattle.std.specs.BTreeMap.Range.{IsRangeOf}
use Rattle.std.specs.Map.{lookup}
use Rattle.std.proofs.lemmas.Bool.{and_parts, and_from, leb-true, leb-false, le-leb, eqb-true, eqb-false, ne_eqb, eq-eqb, or_left, or_right}
use Rattle.std.proofs.lemmas.Cmp.{ranked}
use Rattle.qos_profile.specs.declared.fact.Fact.{Fact}
use Rattle.qos_profile.specs.Facts.{overlaps}
use Rattle.qos_profile.specs.Kept.{EachFact}
use Rattle.qos_profile.specs.Taken.{by_slot, Slots, gives_slots, HasSlots, AreTaken, IsFree}

-- two pairs of a group and a slot in order
abbrev IsUpTo : ℕ × ℕ → ℕ × ℕ → Type 0
IsUpTo a b = (a.0 < b.0) ⊎ ((a.0 ≡ b.0) × (a.1 ≤ b.1))

not-above : (a b : ℕ × ℕ) (o p : Ordering) → o ≡ nat_cmp a.0 b.0 → p ≡ nat_cmp a.1 b.1 → is_gt (ordering_then o p) ≡ false → IsUpTo a b
not-above a b Less p e f n = inl (ranked a.0 b.0 Less e)
not-above a b Equal Less e f n = let below = ranked a.1 b.1 Less f in inr (ranked a.0 b.0 Equal e, omega (arith, below))
not-above a b Equal Equal e f n = let same = ranked a.1 b.1 Equal f in inr (ranked a.0 b.0 Equal e, omega (arith, same))
not-above a b Equal Greater e f n = absurd (cc)
not-above a b Greater p e f n = absurd (cc)

not-below : (a b : ℕ × ℕ) (o p : Ordering) → o ≡ nat_cmp a.0 b.0 → p ≡ nat_cmp a.1 b.1 → is_lt (ordering_then o p) ≡ false → IsUpTo b a
not-below a b Greater p e f n = inl (ranked a.0 b.0 Greater e)
not-below a b Equal Greater e f n = let below = ranked a.1 b.1 Greater f in inr (sym (ranked a.0 b.0 Equal e), omega (arith, below))
not-below a b Equal Equal e f n = let same = ranked a.1 b.1 Equal f in inr (sym (ranked a.0 b.0 Equal e), omega (arith, same))
not-below a b Equal Less e f n = absurd (cc)
not-below a b Less p e f n = absurd (cc)

in-order : (a b : ℕ × ℕ) (o p : Ordering) → o ≡ nat_cmp a.0 b.0 → p ≡ nat_cmp a.1 b.1 → a.0 ≡ b.0 → a.1 ≤ b.1 → is_gt (ordering_then o p) ≡ false
in-order a b Less p e f same low = let below = ranked a.0 b.0 Less e in absurd (omega (arith, below))
in-order a b Greater p e f same low = let above = ranked a.0 b.0 Greater e in absurd (omega (arith, above))
in-order a b Equal Less e f same low = refl
in-order a b Equal Equal e f same low = refl
in-order a b Equal Greater e f same low = let above = ranked a.1 b.1 Greater f in absurd (omega (arith, above))

equal-slots : (a b : ℕ × ℕ) (o p : Ordering) → o ≡ nat_cmp a.0 b.0 → p ≡ nat_cmp a.1 b.1 → is_eq (ordering_then o p) ≡ true → (a.0 ≡ b.0) × (a.1 ≡ b.1)
equal-slots a b Equal Equal e f n = (ranked a.0 b.0 Equal e, ranked a.1 b.1 Equal f)
equal-slots a b Equal Less e f n = absurd (cc)
equal-slots a b Equal Greater e f n = absurd (cc)
equal-slots a b Less p e f n = absurd (cc)
equal-slots a b Greater p e f n = absurd (cc)

slot-itself : (a : ℕ × ℕ) (o p : Ordering) → o ≡ nat_cmp a.0 a.0 → p ≡ nat_cmp a.1 a.1 → is_eq (ordering_then o p) ≡ true
slot-itself a Equal Equal e f = refl
slot-itself a Equal Less e f = let below = ranked a.1 a.1 Less f in absurd (omega (arith, below))
slot-itself a Equal Greater e f = let above = ranked a.1 a.1 Greater f in absurd (omega (arith, above))
slot-itself a Less p e f = let below = ranked a.0 a.0 Less e in absurd (omega (arith, below))
slot-itself a Greater p e f = let above = ranked a.0 a.0 Greater e in absurd (omega (arith, above))

-- tests of lists
any-weaker : (p q : Fact → Bool) → ((f : Fact) → p f ≡ true → q f ≡ true) → (facts : List Fact) → list_any p facts ≡ true → list_any q facts ≡ true
any-weaker p q each [] h = absurd (cc)
any-weaker p q each (f ∷ fs) h =
    elim (p f) as (λ t. p f ≡ t → (t || list_any p fs) ≡ true → list_any q (f ∷ fs) ≡ true) [
      | true ↦ λ e g. or_left (q f) (list_any q fs) (each f e)
      | false ↦ λ e g. or_right (q f) (list_any q fs) (any-weaker p q each fs g)
    ] refl h

none-of : (P : Fact → Type 0) (q : Fact → Bool) → ((f : Fact) → P f → q f ≡ true → ⊥) → (facts : List Fact) → EachFact P facts → list_any q facts ≡ false
none-of P q no_one [] each = refl
none-of P q no_one (f ∷ fs) each =
    elim (q f) as (λ t. q f ≡ t → (t || list_any q fs) ≡ false) [ true ↦ λ e. absurd (no_one f each.0 e) | false ↦ λ e. none-of P q no_one fs each.1 ] refl

any-before : (q : Fact → Bool) (facts : List Fact) (fact : Fact) → list_any q facts ≡ true → list_any q (facts ++ fact ∷ []) ≡ true
any-before q [] fact h = absurd (cc)
any-before q (f ∷ fs) fact h =
    elim (q f) as (λ t. (t || list_any q fs) ≡ true → (t || list_any q (fs ++ fact ∷ [])) ≡ true) [ true ↦ λ e. refl | false ↦ λ e. any-before q fs fact e ] h

any-last : (q : Fact → Bool) (facts : List Fact) (fact : Fact) → q fact ≡ true → list_any q (facts ++ fact ∷ []) ≡ true
any-last q [] fact h = or_left (q fact) false h
any-last q (f ∷ fs) fact h = or_right (q f) (list_any q (fs ++ fact ∷ [])) (any-last q fs fact h)

each-more : (P Q : Fact → Type 0) → ((f : Fact) → P f → Q f) → (facts : List Fact) (fact : Fact) → EachFact P facts → Q fact → EachFact Q (facts ++ fact ∷ [])
each-more P Q step [] fact each this = (this, tt)
each-more P Q step (f ∷ fs) fact each this = (step f each.0, each-more P Q step fs fact each.1 this)

-- a fact that gives slots of the map
shares : (fact f : Fact) (g a b : ℕ) → gives_slots g a b f ≡ true → fact.group ≡ g → fact.first ≤ b → a ≤ fact.last → overlaps fact f ≡ true
shares fact f g a b is group low high =
    let parts = and_parts (f.group == g && f.first == a) (f.last == b) is in
    let ends = and_parts (f.group == g) (f.first == a) parts.0 in
    let same : (f.group ≡ g) × (f.first ≡ a) × (f.last ≡ b) = (eqb-true f.group g ends.0, eqb-true f.first a ends.1, eqb-true f.last b parts.1) in
    and_from (fact.group == f.group && nat_le fact.first f.last) (nat_le f.first fact.last) (and_from (fact.group == f.group) (nat_le fact.first f.last) (eq-eqb fact.group f.group (group ∙ sym same.0)) (le-leb fact.first f.last (subst (λ x. fact.first ≤ x) (sym same.2) low))) (le-leb f.first fact.last (subst (λ x. x ≤ fact.last) (sym same.1) high))

-- two facts that give a slot in common
record Shared (a b : Fact) : Type 0 where
  group : a.group ≡ b.group
  low : a.first ≤ b.last
  high : b.first ≤ a.last

shared : (a b : Fact) → overlaps a b ≡ true → Shared a b
shared a b h =
    let parts = and_parts (a.group == b.group && nat_le a.first b.last) (nat_le b.first a.last) h in
    let ends = and_parts (a.group == b.group) (nat_le a.first b.last) parts.0 in
    record { group = eqb-true a.group b.group ends.0; low = leb-true a.first b.last ends.1; high = leb-true b.first a.last parts.1 }

-- the map has a fact's slots
abbrev IsIn : Slots → Fact → Type 0
IsIn taken f = HasSlots taken f.group f.first f.last

is-some : (taken : Slots) (g a b : ℕ) → HasSlots taken g a b → IsSome (get by_slot taken (g, a))
is-some taken g a b has = subst IsSome (sym has) refl

same-last : (taken : Slots) (g a b c : ℕ) → HasSlots taken g a b → HasSlots taken g a c → b ≡ c
same-last taken g a b c h k = same (sym h ∙ k)
  where
    same : Some b ≡ Some c → b ≡ c
    same e = cc

-- where no slots of the map begin up to the end of a fact, the fact shares none
pub none-below : (taken : Slots) (facts : List Fact) (fact : Fact) → AreTaken taken facts → ((q : ℕ × ℕ) → is_gt (by_slot q (fact.group, fact.last)) ≡ false → get by_slot taken q ≡ None) → list_any (overlaps fact) facts ≡ false
none-below taken facts fact are none = none-of (IsIn taken) (overlaps fact) clash facts are.each
  where
    clash : (f : Fact) → HasSlots taken f.group f.first f.last → overlaps fact f ≡ true → ⊥
    clash f has h =
        let s = shared fact f h in
        let gone = none (f.group, f.first) (in-order (f.group, f.first) (fact.group, fact.last) _ _ refl refl (sym s.group) s.high) in
        let e = sym has ∙ gone in cc

-- the last slots of the map that begin up to the end of a fact
pub record IsLastUpTo (taken : Slots) (fact : Fact) (slot : ℕ × ℕ) (last : ℕ) : Type 0 where
  pub has : HasSlots taken slot.0 slot.1 last
  pub up_to : is_gt (by_slot slot (fact.group, fact.last)) ≡ false
  pub greatest : (q : ℕ × ℕ) → is_gt (by_slot q (fact.group, fact.last)) ≡ false → IsSome (get by_slot taken q) → is_lt (by_slot slot q) ≡ false

-- the last of a part of the map that ends with the fact
pub last-of : (taken : Slots) (fact : Fact) (part before : List ((ℕ × ℕ) × ℕ)) (slot : ℕ × ℕ) (last : ℕ) → IsRangeOf by_slot Unbounded (Included (fact.group, fact.last)) taken part → part ≡ before ++ (slot, last) ∷ [] → IsLastUpTo taken fact slot last
last-of taken fact part before slot last is ends =
    record {
      has = (is.3 (slot, last) before ends).1;
      up_to = (is.3 (slot, last) before ends).0.1;
      greatest = λ q up some. is.4 (slot, last) before ends q (tt, up) some;
    }

-- they share one with the fact
pub shares-last : (taken : Slots) (facts : List Fact) (fact : Fact) (slot : ℕ × ℕ) (last : ℕ) → AreTaken taken facts → IsLastUpTo taken fact slot last → slot.0 ≡ fact.group → fact.first ≤ last → list_any (overlaps fact) facts ≡ true
shares-last taken facts fact slot last are is group low =
    any-weaker (gives_slots slot.0 slot.1 last) (overlaps fact) (λ f e. shares fact f slot.0 slot.1 last e (sym group) low begins) facts (are.only slot.0 slot.1 last is.has)
  where
    by : IsUpTo slot (fact.group, fact.last) → slot.1 ≤ fact.last
    by (inl below) = absurd (omega (arith, below, group))
    by (inr (same, le)) = le

    begins : slot.1 ≤ fact.last
    begins = by (not-above slot (fact.group, fact.last) _ _ refl refl is.up_to)

-- or none does
pub shares-none : (taken : Slots) (facts : List Fact) (fact : Fact) (slot : ℕ × ℕ) (last : ℕ) → AreTaken taken facts → IsLastUpTo taken fact slot last → (slot.0 ≡ fact.group → fact.first ≤ last → ⊥) → list_any (overlaps fact) facts ≡ false
shares-none taken facts fact slot last are is apart =
    none-of (IsIn taken) (overlaps fact) clash facts are.each
  where
    upper : IsUpTo slot (fact.group, fact.last)
    upper = not-above slot (fact.group, fact.last) _ _ refl refl is.up_to

    same-group : IsUpTo slot (fact.group, fact.last) → (f : Fact) → fact.group ≡ f.group → IsUpTo (f.group, f.first) slot → (slot.0 ≡ f.group) × (f.first ≤ slot.1)
    same-group (inl below) f group (inl above) = absurd (omega (arith, below, group, above))
    same-group (inl below) f group (inr (same, le)) = absurd (omega (arith, below, group, same))
    same-group (inr (one, at)) f group (inl above) = absurd (omega (arith, one, group, above))
    same-group (inr (one, at)) f group (inr (same, le)) = (sym same, le)

    reach : (f : Fact) → HasSlots taken f.group f.first f.last → HasSlots taken f.group slot.1 last → f.first ≤ slot.1 → f.last ≤ last
    reach f has there le = by (f.first == slot.1) refl
      where
        by : (t : Bool) → (f.first == slot.1) ≡ t → f.last ≤ last
        by true e =
            let at : f.first ≡ slot.1 = eqb-true f.first slot.1 e in
            let same = same-last taken f.group slot.1 f.last last (subst (λ x. HasSlots taken f.group x f.last) at has) there in
            omega (arith, same)
        by false e =
            let ne = eqb-false f.first slot.1 e in
            let below = are.apart f.group f.first f.last slot.1 last has there (omega (arith, le, ne)) in
            let ends = are.ends f.group slot.1 last there in
            omega (arith, below, ends)

    clash : (f : Fact) → HasSlots taken f.group f.first f.last → overlaps fact f ≡ true → ⊥
    clash f has h =
        let s = shared fact f h in
        let within = in-order (f.group, f.first) (fact.group, fact.last) _ _ refl refl (sym s.group) s.high in
        let lower = not-below slot (f.group, f.first) _ _ refl refl (is.greatest (f.group, f.first) within (is-some taken f.group f.first f.last has)) in
        let at = same-group upper f s.group lower in
        let there = subst (λ g. HasSlots taken g slot.1 last) at.0 is.has in
        let ends = reach f has there at.1 in
        let low = s.low in
        apart (at.0 ∙ sym s.group) (omega (arith, ends, low))

-- the program's answer, where they are of the fact's group
pub of-group : (taken : Slots) (facts : List Fact) (fact : Fact) (slot : ℕ × ℕ) (last : ℕ) → AreTaken taken facts → IsLastUpTo taken fact slot last → slot.0 ≡ fact.group → nat_le fact.first last ≡ list_any (overlaps fact) facts
of-group taken facts fact slot last are is group = by (nat_le fact.first last) refl
  where
    by : (t : Bool) → nat_le fact.first last ≡ t → nat_le fact.first last ≡ list_any (overlaps fact) facts
    by true e =
        e ∙ sym (shares-last taken facts fact slot last are is group (leb-true fact.first last e))
    by false e =
        e ∙ sym (shares-none taken facts fact slot last are is (λ same low. (let below = leb-false fact.first last e in omega (arith, low, below))))

-- or of another group
pub of-other : (taken : Slots) (facts : List Fact) (fact : Fact) (slot : ℕ × ℕ) (last : ℕ) → AreTaken taken facts → IsLastUpTo taken fact slot last → (slot.0 ≡ fact.group → ⊥) → (slot.0 == fact.group) ≡ list_any (overlaps fact) facts
of-other taken facts fact slot last are is other =
    ne_eqb slot.0 fact.group other ∙ sym (shares-none taken facts fact slot last are is (λ same low. other same))

-- no slots are taken
pub none-taken : (taken : Slots) → ((q : ℕ × ℕ) → get by_slot taken q ≡ None) → AreTaken taken []
none-taken taken none =
    record {
      each = tt;
      only = λ g a b has. absurd (clash g a b has);
      ends = λ g a b has. absurd (clash g a b has);
      apart = λ g a b c d has other below. absurd (clash g a b has);
    }
  where
    clash : (g a b : ℕ) → HasSlots taken g a b → ⊥
    clash g a b has = let e = sym has ∙ none (g, a) in cc

-- a free fact is added
pub taken-more : (old new : Slots) (facts : List Fact) (fact : Fact) → AreTaken old facts → IsFree facts fact → ((q : ℕ × ℕ) → get by_slot new q ≡ cond (eq_by_cmp by_slot (fact.group, fact.first) q) (Some fact.last) (get by_slot old q)) → AreTaken new (facts ++ fact ∷ [])
taken-more old new facts fact are free updates =
    record {
      each = each-more (IsIn old) (IsIn new) (λ f. kept f.group f.first f.last) facts fact are.each here;
      only = λ g a b has. only-by g a b (split g a b has);
      ends = λ g a b has. ends-by g a b (split g a b has);
      apart = λ g a b c d has other below. apart-by g a b c d (split g a b has) (split g c d other) below;
    }
  where
    IsNew : ℕ → ℕ → ℕ → Type 0
    IsNew g a b = (g ≡ fact.group) × (a ≡ fact.first) × (b ≡ fact.last)

    some-same : (a b : ℕ) → Some a ≡ Some b → a ≡ b
    some-same a b e = cc

    -- slots that are taken lie on one side of the fact
    beside : (g a b : ℕ) → HasSlots old g a b → g ≡ fact.group → (b < fact.first) ⊎ (fact.last < a)
    beside g a b has group = by (nat_le fact.first b) refl (nat_le a fact.last) refl
      where
        by : (t : Bool) → nat_le fact.first b ≡ t → (u : Bool) → nat_le a fact.last ≡ u → (b < fact.first) ⊎ (fact.last < a)
        by true e true f =
            let any = any-weaker (gives_slots g a b) (overlaps fact) (λ x h. shares fact x g a b h (sym group) (leb-true fact.first b e) (leb-true a fact.last f)) facts (are.only g a b has) in
            let clash = sym any ∙ free.1 in absurd (cc)
        by false e u f = inl (leb-false fact.first b e)
        by true e false f = inr (leb-false a fact.last f)

    here : HasSlots new fact.group fact.first fact.last
    here = updates (fact.group, fact.first) ∙ ap (λ t. cond t (Some fact.last) (get by_slot old (fact.group, fact.first))) (slot-itself (fact.group, fact.first) _ _ refl refl)

    kept : (g a b : ℕ) → HasSlots old g a b → HasSlots new g a b
    kept g a b has = by (eq_by_cmp by_slot (fact.group, fact.first) (g, a)) refl
      where
        no : (b < fact.first) ⊎ (fact.last < a) → fact.first ≡ a → ⊥
        no (inl below) same = let ends = are.ends g a b has in omega (arith, below, same, ends)
        no (inr above) same = let ends = free.0 in omega (arith, above, same, ends)

        by : (t : Bool) → eq_by_cmp by_slot (fact.group, fact.first) (g, a) ≡ t → HasSlots new g a b
        by true e =
            let same = equal-slots (fact.group, fact.first) (g, a) _ _ refl refl e in
            absurd (no (beside g a b has (sym same.0)) same.1)
        by false e = updates (g, a) ∙ ap (λ t. cond t (Some fact.last) (get by_slot old (g, a))) e ∙ has

    split : (g a b : ℕ) → HasSlots new g a b → IsNew g a b ⊎ HasSlots old g a b
    split g a b has = by (eq_by_cmp by_slot (fact.group, fact.first) (g, a)) refl
      where
        by : (t : Bool) → eq_by_cmp by_slot (fact.group, fact.first) (g, a) ≡ t → IsNew g a b ⊎ HasSlots old g a b
        by true e =
            let same = equal-slots (fact.group, fact.first) (g, a) _ _ refl refl e in
            let value = sym (updates (g, a) ∙ ap (λ t. cond t (Some fact.last) (get by_slot old (g, a))) e) ∙ has in
            inl (sym same.0, sym same.1, sym (some-same fact.last b value))
        by false e = inr (sym (updates (g, a) ∙ ap (λ t. cond t (Some fact.last) (get by_slot old (g, a))) e) ∙ has)

    only-by : (g a b : ℕ) → IsNew g a b ⊎ HasSlots old g a b → list_any (gives_slots g a b) (facts ++ fact ∷ []) ≡ true
    only-by g a b (inl (group, first, last)) =
        any-last (gives_slots g a b) facts fact (and_from (fact.group == g && fact.first == a) (fact.last == b) (and_from (fact.group == g) (fact.first == a) (eq-eqb fact.group g (sym group)) (eq-eqb fact.first a (sym first))) (eq-eqb fact.last b (sym last)))
    only-by g a b (inr has) = any-before (gives_slots g a b) facts fact (are.only g a b has)

    ends-by : (g a b : ℕ) → IsNew g a b ⊎ HasSlots old g a b → a ≤ b
    ends-by g a b (inl (group, first, last)) = let ends = free.0 in omega (arith, first, last, ends)
    ends-by g a b (inr has) = are.ends g a b has

    apart-by : (g a b c d : ℕ) → IsNew g a b ⊎ HasSlots old g a b → IsNew g c d ⊎ HasSlots old g c d → a < c → b < c
    apart-by g a b c d (inl (group, first, last)) (inl (also, one, end)) below = absurd (omega (arith, first, one, below))
    apart-by g a b c d (inl (group, first, last)) (inr has) below = by (beside g c d has group)
      where
        by : (d < fact.first) ⊎ (fact.last < c) → b < c
        by (inl under) = let ends = are.ends g c d has in absurd (omega (arith, under, first, below, ends))
        by (inr over) = omega (arith, over, last)
    apart-by g a b c d (inr has) (inl (group, first, last)) below = by (beside g a b has group)
      where
        by : (b < fact.first) ⊎ (fact.last < a) → b < c
        by (inl under) = omega (arith, under, first)
        by (inr over) = let ends = free.0 in absurd (omega (arith, over, first, below, ends))
    apart-by g a b c d (inr has) (inr other) below = are.apart g a b c d has other below

-- the same entries
pub taken-same : (old new : Slots) (facts : List Fact) → AreTaken old facts → new.entries ≡ old.entries → AreTaken new facts
taken-same old new facts are same =
    record {
      each = each-same (IsIn old) (IsIn new) (λ f has. at (f.group, f.first) ∙ has) facts are.each;
      only = λ g a b has. are.only g a b (sym (at (g, a)) ∙ has);
      ends = λ g a b has. are.ends g a b (sym (at (g, a)) ∙ has);
      apart = λ g a b c d has other. are.apart g a b c d (sym (at (g, a)) ∙ has) (sym (at (g, c)) ∙ other);
    }
  where
    each-same : (P Q : Fact → Type 0) → ((f : Fact) → P f → Q f) → (fs : List Fact) → EachFact P fs → EachFact Q fs
    each-same P Q step [] each = tt
    each-same P Q step (f ∷ fs) each = (step f each.0, each-same P Q step fs each.1)

    at : (q : ℕ × ℕ) → get by_slot new q ≡ get by_slot old q
    at q = ap (lookup (eq_by_cmp by_slot q)) same
