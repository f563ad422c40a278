-- The profiles of subports and pipes, the ports and the subports, which name one another.
use Rattle.std.proofs.Common.{◌≡◌, ◌==◌, ℕ, zero, suc, ◌+◌, ◌<◌, ◌≤◌, Bool, true, false, cond, ◌||◌, List, [], ◌∷◌, length, map, filter, find, get_or, Option, None, Some, refl, sym, ap, subst, ◌∙◌, arith, ⊎_elim, Result, Ok, Err}
use Rattle.std.specs.Prelude.{All, IsSome}
use Rattle.std.specs.List.{list_any, range_with_len}
use Rattle.std.specs.List.Sorted.{IsStrictlyIncreasing}
use Rattle.std.specs.Option.{option_map}
use Rattle.std.proofs.lemmas.Bool.{eqb-true, eq-eqb, cases_eq}
use Rattle.std.proofs.lemmas.List.Elements.{All-map, All-filter, filter_passes, All-replicate}
use Rattle.std.proofs.lemmas.List.Kept.{IsStrictlyIncreasing-filter}
use Rattle.std.proofs.lemmas.List.FromFn.{get_or-range_with_len, length-range_with_len}
use Rattle.std.proofs.lemmas.List.Sums.{AllPass-from_list_all}
use Rattle.profile_plan.specs.declared.shaping.Shaping.{Shaping}
use Rattle.profile_plan.specs.Limits.{Within, IsShaping, IsPipeKind}
use Rattle.profile_plan.specs.Profile.{IsSubport, IsPort}
use Rattle.profile_plan.specs.Profile as plan
use Rattle.qos_profile.specs.declared.fault.FaultKind.{FaultKind}
use Rattle.qos_profile.specs.declared.fault.FaultKind.TheVariants as faults
use Rattle.qos_profile.specs.declared.value.Value.{Value}
use Rattle.qos_profile.specs.declared.value.Value.TheVariants as values
use Rattle.qos_profile.specs.declared.fact.Fact.{Fact}
use Rattle.qos_profile.specs.declared.head.Head.{Head}
use Rattle.qos_profile.specs.declared.head.Head.TheVariants as heads
use Rattle.qos_profile.specs.declared.section.Section.{Section}
use Rattle.qos_profile.specs.Table.{Key, Form, subport_keys, pipe_kind_keys}
use Rattle.qos_profile.specs.Table as table
use Rattle.qos_profile.specs.Values.{value_of, numbers_in, as_weights, number_or_zero, is_within, are_numbers, are_within}
use Rattle.qos_profile.specs.Lookups.{value_at, number_at, is_there, facts_at}
use Rattle.qos_profile.specs.Kept.{EachFact}
use Rattle.qos_profile.specs.Planned.{shaping_of, pipe_kind_of, weights_or, numbers_there, subport_kinds_of, pipe_kinds_of}
use Rattle.qos_profile.specs.Fits.{FitsKind, FitKinds}
use Rattle.qos_profile.proofs.Slots.{any_mode, IsFactOf, facts-any, number-default, slot-value}
use Rattle.qos_profile.proofs.Sound.{IsHeadKept, IsSound, is_plain, sound-at}
use Rattle.qos_profile.proofs.PartLimits.{within-from, shaping-limits}

-- numbers below a limit

range-limits : (a n : ℕ) → All (λ k. (a ≤ k) × (k < a + n)) (range_with_len a n)
range-limits a n k d below =
    let within : k < n = omega (arith, length-range_with_len a n) in
    subst (λ x. (a ≤ x) × (x < a + n)) (sym (get_or-range_with_len a n k d within)) (omega arith, omega arith)

range-increases : (a n : ℕ) → IsStrictlyIncreasing (range_with_len a n)
range-increases a n k below =
    let within : k + 1 < n = omega (arith, length-range_with_len a n) in
    let here = get_or-range_with_len a n k 0 (omega arith) in
    let next = get_or-range_with_len a n (k + 1) 0 within in
    omega (arith, here, next)

in-range : (a n k : ℕ) → a ≤ k → k < a + n → list_any (λ x. x == k) (range_with_len a n) ≡ true
in-range a zero k low high = absurd (omega arith)
in-range a (suc n) k low high = by (a == k) refl (in-range (a + 1) n k)
  where
    apart : (a == k) ≡ false → a + 1 ≤ k
    apart e = ⊎_elim (λ (s : a ≡ k). let t = eq-eqb a k s in absurd (cc)) (λ (ne : a ≡ k → ⊥). omega (arith, ne)) (cases_eq a k)

    by : (t : Bool) → (a == k) ≡ t → (a + 1 ≤ k → k < a + 1 + n → list_any (λ x. x == k) (range_with_len (a + 1) n) ≡ true) → (t || list_any (λ x. x == k) (range_with_len (a + 1) n)) ≡ true
    by true e later = refl
    by false e later = later (apart e) (omega arith)

-- what all numbers there are
there-limits : (ss : List Section) (head : ℕ → Head) (limit : ℕ) → All (λ n. (is_there ss (head n) ≡ true) × (n < limit)) (numbers_there ss head limit)
there-limits ss head limit k d below =
    (filter_passes (λ n. is_there ss (head n)) (range_with_len 0 limit) k d below, let bound = All-filter (λ n. is_there ss (head n)) (λ n. (0 ≤ n) × (n < 0 + limit)) (range_with_len 0 limit) (range-limits 0 limit) k d below in omega (arith, bound.1))

pub there-increases : (ss : List Section) (head : ℕ → Head) (limit : ℕ) → IsStrictlyIncreasing (numbers_there ss head limit)
there-increases ss head limit =
    IsStrictlyIncreasing-filter (λ n. is_there ss (head n)) (range_with_len 0 limit) (range-increases 0 limit)

-- what each number there makes
pub each-there : {X : Type 0} (P : X → Type 0) (ss : List Section) (head : ℕ → Head) (limit : ℕ) (make : ℕ → X) → ((n : ℕ) → is_there ss (head n) ≡ true → n < limit → P (make n)) → All P (map make (numbers_there ss head limit))
each-there P ss head limit make each =
    All-map P make (numbers_there ss head limit) (λ k d below. let at = there-limits ss head limit k d below in each _ at.0 at.1)

map-key : {X : Type 0} (make : ℕ → X) (key : X → ℕ) → ((n : ℕ) → key (make n) ≡ n) → (xs : List ℕ) → map key (map make xs) ≡ xs
map-key make key law [] = refl
map-key make key law (x ∷ xs) = ap (λ y. y ∷ map key (map make xs)) (law x) ∙ ap (λ ys. x ∷ ys) (map-key make key law xs)

pub keys-increase : {X : Type 0} (ss : List Section) (head : ℕ → Head) (limit : ℕ) (make : ℕ → X) (key : X → ℕ) → ((n : ℕ) → key (make n) ≡ n) → IsStrictlyIncreasing (map key (map make (numbers_there ss head limit)))
keys-increase ss head limit make key law =
    subst IsStrictlyIncreasing (sym (map-key make key law (numbers_there ss head limit))) (there-increases ss head limit)

-- a number there is found by it
find-made : {X : Type 0} (t : ℕ → Bool) (make : ℕ → X) (key : X → ℕ) → ((n : ℕ) → key (make n) ≡ n) → (xs : List ℕ) (n : ℕ) → list_any (λ x. x == n) xs ≡ true → t n ≡ true → IsSome (find (λ x. key x == n) (map make (filter t xs)))
find-made t make key law [] n h there = absurd (cc)
find-made t make key law (x ∷ xs) n h there = by (x == n) refl h (λ g. find-made t make key law xs n g there)
  where
    first : (c : Bool) → IsSome (find (λ y. key y == n) (map make (filter t xs))) → IsSome (cond c (Some (make x)) (find (λ y. key y == n) (map make (filter t xs))))
    first true rest = refl
    first false rest = rest

    more : (b : Bool) → IsSome (find (λ y. key y == n) (map make (filter t xs))) → IsSome (find (λ y. key y == n) (map make (cond b (x ∷ filter t xs) (filter t xs))))
    more false rest = rest
    more true rest = first (key (make x) == n) rest

    by : (c : Bool) → (x == n) ≡ c → (c || list_any (λ y. y == n) xs) ≡ true → (list_any (λ y. y == n) xs ≡ true → IsSome (find (λ y. key y == n) (map make (filter t xs)))) → IsSome (find (λ y. key y == n) (map make (filter t (x ∷ xs))))
    by true e g later =
        let same : x ≡ n = eqb-true x n e in
        let kept : t x ≡ true = ap t same ∙ there in
        let found : (key (make x) == n) ≡ true = eq-eqb (key (make x)) n (law x ∙ same) in
        subst (λ b. IsSome (find (λ y. key y == n) (map make (cond b (x ∷ filter t xs) (filter t xs))))) (sym kept) (subst (λ b. IsSome (cond b (Some (make x)) (find (λ y. key y == n) (map make (filter t xs))))) (sym found) refl)
    by false e g later = more (t x) (later g)

pub found-there : {X : Type 0} (ss : List Section) (head : ℕ → Head) (limit : ℕ) (make : ℕ → X) (key : X → ℕ) → ((n : ℕ) → key (make n) ≡ n) → (n : ℕ) → n < limit → is_there ss (head n) ≡ true → IsSome (find (λ x. key x == n) (map make (numbers_there ss head limit)))
found-there ss head limit make key law n below there =
    find-made (λ k. is_there ss (head k)) make key law (range_with_len 0 limit) n (in-range 0 limit n (omega arith) (omega arith)) there

-- the head of a section that is there keeps its limit
pub number-kept : (ss : List Section) (head : Head) → IsSound ss → is_plain head ≡ true → is_there ss head ≡ true → IsHeadKept head
number-kept ss head sound plain there = (sound-at ss head sound plain there).sound.head

-- each word that is within limits writes such a number
within-word : (least most : ℕ) (words : List (List ℕ)) (k : ℕ) (d : List ℕ) → are_within least most words ≡ true → k < length words → Within least most (number_or_zero (get_or words k d))
within-word least most words k d all below =
    let test = AllPass-from_list_all (λ w. is_within least most (number_or_zero w)) words all k d below in
    within-from least most (number_or_zero (get_or words k d)) test

-- profiles of subports

pub subport-kinds-limits : (ss : List Section) → IsSound ss → All (λ kind. (kind.0 ≤ 63) × IsShaping kind.1) (subport_kinds_of ss)
subport-kinds-limits ss sound =
    each-there (λ kind. (kind.0 ≤ 63) × IsShaping kind.1) ss heads.SubportKind 64 (λ n. (n, shaping_of (facts_at ss (heads.SubportKind n)))) one
  where
    one : (n : ℕ) → is_there ss (heads.SubportKind n) ≡ true → n < 64 → (n ≤ 63) × IsShaping (shaping_of (facts_at ss (heads.SubportKind n)))
    one n there below =
        let s = (sound-at ss (heads.SubportKind n) sound refl there).sound in
        (omega arith, shaping-limits (heads.SubportKind n) (facts_at ss (heads.SubportKind n)) refl s.given s.agrees s.complete s.ranges)

pub subport-kind-found : (ss : List Section) (n : ℕ) → IsSound ss → is_there ss (heads.SubportKind n) ≡ true → (n ≤ 63) × IsSome (plan.subport_kind_of (subport_kinds_of ss) n)
subport-kind-found ss n sound there =
    let kept : n ≤ 63 = number-kept ss (heads.SubportKind n) sound refl there in
    (kept, some (find (λ kind. kind.0 == n) (subport_kinds_of ss)) (found-there ss heads.SubportKind 64 (λ k. (k, shaping_of (facts_at ss (heads.SubportKind k)))) (λ kind. kind.0) (λ k. refl) n (omega arith) there))
  where
    some : (o : Option (ℕ × Shaping)) → IsSome o → IsSome (option_map (λ kind. kind.1) o)
    some None h = h
    some (Some x) h = h

-- profiles of pipes

pub pipe-kind-number : (n : ℕ) (facts : List Fact) → (pipe_kind_of n facts).number ≡ n
unfolding pipe_kind_of
pipe-kind-number n facts = refl

pub pipe-kind-found : (ss : List Section) (n : ℕ) → IsSound ss → is_there ss (heads.PipeKind n) ≡ true → (n ≤ 255) × IsSome (plan.pipe_kind_of (pipe_kinds_of ss) n)
pipe-kind-found ss n sound there =
    let kept : n ≤ 255 = number-kept ss (heads.PipeKind n) sound refl there in
    (kept, found-there ss heads.PipeKind 256 (λ k. pipe_kind_of k (facts_at ss (heads.PipeKind k))) (λ kind. kind.number) (λ k. pipe-kind-number k (facts_at ss (heads.PipeKind k))) n (omega arith) there)

-- four weights of at least 1
weights-words : (words : List (List ℕ)) (ns : List ℕ) → numbers_in 4 1 255 words ≡ Ok ns → All (λ n. 1 ≤ n) ns
unfolding numbers_in
weights-words words ns e = by (are_numbers 4 words) e
  where
    inner : (t : Bool) → are_within 1 255 words ≡ t → cond t (Ok (map number_or_zero words)) (Err faults.OutOfRange) ≡ Ok ns → All (λ n. 1 ≤ n) ns
    inner false w g = absurd (cc)
    inner true w g =
        let same : map number_or_zero words ≡ ns = cc in
        subst (All (λ n. 1 ≤ n)) same (All-map (λ n. 1 ≤ n) number_or_zero words (λ k d below. (within-word 1 255 words k d w below).0))

    by : (t : Bool) → cond t (cond (are_within 1 255 words) (Ok (map number_or_zero words)) (Err faults.OutOfRange)) (Err faults.BadNumber) ≡ Ok ns → All (λ n. 1 ≤ n) ns
    by false h = absurd (cc)
    by true h = inner (are_within 1 255 words) refl h

-- thirteen sizes of at most 65,536
pub sizes-words : (words : List (List ℕ)) (ns : List ℕ) → numbers_in 13 0 65536 words ≡ Ok ns → All (λ n. n ≤ 65536) ns
unfolding numbers_in
sizes-words words ns e = by (are_numbers 13 words) e
  where
    inner : (t : Bool) → are_within 0 65536 words ≡ t → cond t (Ok (map number_or_zero words)) (Err faults.OutOfRange) ≡ Ok ns → All (λ n. n ≤ 65536) ns
    inner false w g = absurd (cc)
    inner true w g =
        let same : map number_or_zero words ≡ ns = cc in
        subst (All (λ n. n ≤ 65536)) same (All-map (λ n. n ≤ 65536) number_or_zero words (λ k d below. (within-word 0 65536 words k d w below).1))

    by : (t : Bool) → cond t (cond (are_within 0 65536 words) (Ok (map number_or_zero words)) (Err faults.OutOfRange)) (Err faults.BadNumber) ≡ Ok ns → All (λ n. n ≤ 65536) ns
    by false h = absurd (cc)
    by true h = inner (are_within 0 65536 words) refl h

abbrev is_weights : Form → Bool
is_weights table.Weights = true
is_weights _ = false

weights-form : (form : Form) (words : List (List ℕ)) (value : Value) → is_weights form ≡ true → value_of form words ≡ Ok value → All (λ n. 1 ≤ n) (weights_or (Some value))
unfolding value_of
weights-form table.Weights words value h e = by (numbers_in 4 1 255 words) refl e
  where
    by : (r : Result (List ℕ) FaultKind) → numbers_in 4 1 255 words ≡ r → as_weights r ≡ Ok value → All (λ n. 1 ≤ n) (weights_or (Some value))
    by (Ok ns) f g =
        let same : values.Weights ns ≡ value = cc in
        subst (λ v. All (λ n. 1 ≤ n) (weights_or (Some v))) same (weights-words words ns f)
    by (Err fault) f g = absurd (cc)
weights-form _ words value h e = absurd (cc)

-- the weights of a pipe profile
weights-limits : (n : ℕ) (facts : List Fact) → EachFact (IsFactOf (heads.PipeKind n) any_mode) facts → All (λ k. 1 ≤ k) (weights_or (value_at facts 5 0))
unfolding pipe_kind_keys
weights-limits n facts each = by (value_at facts 5 0) refl
  where
    by : (o : Option Value) → value_at facts 5 0 ≡ o → All (λ k. 1 ≤ k) (weights_or o)
    by None e = All-replicate (λ k. 1 ≤ k) 4 1 (omega arith)
    by (Some value) e =
        let is = slot-value (heads.PipeKind n) any_mode 5 0 (λ key. is_weights key.form) facts value refl each e in
        weights-form is.key.form is.words value is.passes is.gives

overweight-limits : (n : ℕ) (facts : List Fact) → EachFact (IsFactOf (heads.PipeKind n) any_mode) facts → Within 1 255 (number_at facts 6 0 1)
unfolding pipe_kind_keys
overweight-limits n facts each =
    number-default (heads.PipeKind n) any_mode 6 0 1 255 1 facts refl each (omega arith, omega arith)

pipe-kind-limits : (ss : List Section) (n : ℕ) → IsSound ss → is_there ss (heads.PipeKind n) ≡ true → n < 256 → IsPipeKind (pipe_kind_of n (facts_at ss (heads.PipeKind n))) × FitsKind (pipe_kind_of n (facts_at ss (heads.PipeKind n)))
unfolding pipe_kind_of
pipe-kind-limits ss n sound there below =
    let head = heads.PipeKind n in
    let facts = facts_at ss head in
    let s = (sound-at ss head sound refl there).sound in
    let each = facts-any head facts s.given in
    let weight = overweight-limits n facts each in
    (record { number = omega arith; shaping = shaping-limits head facts refl s.given s.agrees s.complete s.ranges; weights = weights-limits n facts each; ov_weight = weight.0 }, weight.1)

pub pipe-kinds-limits : (ss : List Section) → IsSound ss → All IsPipeKind (pipe_kinds_of ss)
pipe-kinds-limits ss sound =
    each-there IsPipeKind ss heads.PipeKind 256 (λ n. pipe_kind_of n (facts_at ss (heads.PipeKind n))) (λ n there below. (pipe-kind-limits ss n sound there below).0)

pub kinds-fit : (ss : List Section) → IsSound ss → FitKinds ss
kinds-fit ss sound n there =
    let kept : n ≤ 255 = number-kept ss (heads.PipeKind n) sound refl there in
    (pipe-kind-limits ss n sound there (omega arith)).1
