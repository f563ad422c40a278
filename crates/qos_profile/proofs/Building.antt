-- Lists that a loop builds: of the numbers below a limit that pass a test, and of the sections that do.
use Rattle.std.proofs.Common.{◌≡◌, ℕ, zero, suc, ◌+◌, ◌<◌, ◌≤◌, Bool, true, false, cond, ◌&&◌, nat_le, min, max, List, [], ◌∷◌, ◌++◌, length, map, filter, take, drop, get_or, set, Option, Some, refl, sym, ap, subst, ◌∙◌, arith, ⊎_elim}
use Rattle.std.specs.Prelude.{slice_get}
use Rattle.std.specs.List.{range_with_len}
use Rattle.std.proofs.lemmas.List.Edits.{fill_by_more}
use Rattle.std.proofs.lemmas.List.FromFn.{fill_by_all, map-range_with_len_more, length-map-range_with_len, get_or-map-range_with_len}
use Rattle.code_table.specs.declared.entry.Entry.{Entry}
use Rattle.code_table.specs.Entry.{IsValid}
use Rattle.code_table.specs.Dscp.{in_best_effort, default_entry, default_table}
use Rattle.qos_profile.specs.declared.value.Value.{Value}
use Rattle.qos_profile.specs.declared.value.Value.TheVariants as values
use Rattle.qos_profile.specs.declared.fact.Fact.{Fact}
use Rattle.qos_profile.specs.Lookups.{value_at, number_at}
use Rattle.qos_profile.specs.Planned.{entry_or, codes_of, pipes_of, subport_of}
use Rattle.qos_profile.specs.Fits.{FitCodes, FitsSubport}
use Rattle.std.proofs.lemmas.List.{map-append, append-nil, get_or-set_other, length-set}
use Rattle.std.proofs.lemmas.Grind.{get_or-set_at}
use Rattle.std.proofs.lemmas.Bool.{cases_eq, leb-true, leb-false}
use Rattle.std.proofs.lemmas.List.Elements.{filter-append, filter_more}

range-more : (a n : ℕ) → range_with_len a (n + 1) ≡ range_with_len a n ++ (a + n) ∷ []
range-more a zero = ap (λ k. k ∷ []) (let e : a ≡ a + 0 = omega arith in e)
range-more a (suc n) =
    ap (range_with_len a) (let e : suc n + 1 ≡ suc (n + 1) = omega arith in e) ∙ ap (λ ks. a ∷ ks) (range-more (a + 1) n) ∙ ap (λ k. a ∷ range_with_len (a + 1) n ++ k ∷ []) (let e : a + 1 + n ≡ a + suc n = omega arith in e)

module _ {X : Type 0} (make : ℕ → X) (t : ℕ → Bool) where
  made-more : (n : ℕ) → map make (filter t (range_with_len 0 (n + 1))) ≡ map make (filter t (range_with_len 0 n)) ++ map make (cond (t n) (n ∷ []) [])
  made-more n =
      ap (λ ks. map make (filter t ks)) (range-more 0 n)
      ∙ ap (λ k. map make (filter t (range_with_len 0 n ++ k ∷ []))) (let e : 0 + n ≡ n = omega arith in e)
      ∙ ap (map make) (filter-append t (range_with_len 0 n) (n ∷ []))
      ∙ map-append make (filter t (range_with_len 0 n)) (cond (t n) (n ∷ []) [])

  -- a number that passes is made
  pub made-push : (n : ℕ) (xs new : List X) (x : X) → xs ≡ map make (filter t (range_with_len 0 n)) → t n ≡ true → x ≡ make n → new ≡ xs ++ x ∷ [] → new ≡ map make (filter t (range_with_len 0 (n + 1)))
  made-push n xs new x so_far passes made pushed =
      pushed ∙ ap (λ ys. ys ++ x ∷ []) so_far ∙ ap (λ y. map make (filter t (range_with_len 0 n)) ++ y ∷ []) made
      ∙ sym (made-more n ∙ ap (λ b. map make (filter t (range_with_len 0 n)) ++ map make (cond b (n ∷ []) [])) passes)

  -- another number is passed over
  pub made-skip : (n : ℕ) (xs : List X) → xs ≡ map make (filter t (range_with_len 0 n)) → t n ≡ false → xs ≡ map make (filter t (range_with_len 0 (n + 1)))
  made-skip n xs so_far passes =
      so_far ∙ sym (append-nil (map make (filter t (range_with_len 0 n)))) ∙ sym (made-more n ∙ ap (λ b. map make (filter t (range_with_len 0 n)) ++ map make (cond b (n ∷ []) [])) passes)

module _ {S X : Type 0} (make : S → X) (t : S → Bool) (ss : List S) where
  kept-more : (i : ℕ) (d : S) → i < length ss → map make (filter t (take (i + 1) ss)) ≡ map make (filter t (take i ss)) ++ map make (cond (t (get_or ss i d)) (get_or ss i d ∷ []) [])
  kept-more i d below =
      ap (map make) (filter_more t ss i d below) ∙ map-append make (filter t (take i ss)) (cond (t (get_or ss i d)) (get_or ss i d ∷ []) [])

  -- an element that passes is made
  pub kept-push : (i : ℕ) (s : S) (xs new : List X) (x : X) → i < length ss → s ≡ get_or ss i s → xs ≡ map make (filter t (take i ss)) → t s ≡ true → x ≡ make s → new ≡ xs ++ x ∷ [] → new ≡ map make (filter t (take (i + 1) ss))
  kept-push i s xs new x below is so_far passes made pushed =
      pushed ∙ ap (λ ys. ys ++ x ∷ []) so_far ∙ ap (λ y. map make (filter t (take i ss)) ++ y ∷ []) made
      ∙ sym (kept-more i s below ∙ ap (λ y. map make (filter t (take i ss)) ++ map make (cond (t y) (y ∷ []) [])) (sym is) ∙ ap (λ b. map make (filter t (take i ss)) ++ map make (cond b (s ∷ []) [])) passes)

  -- another element is passed over
  pub kept-skip : (i : ℕ) (s : S) (xs : List X) → i < length ss → s ≡ get_or ss i s → xs ≡ map make (filter t (take i ss)) → t s ≡ false → xs ≡ map make (filter t (take (i + 1) ss))
  kept-skip i s xs below is so_far passes =
      so_far ∙ sym (append-nil (map make (filter t (take i ss))))
      ∙ sym (kept-more i s below ∙ ap (λ y. map make (filter t (take i ss)) ++ map make (cond (t y) (y ∷ []) [])) (sym is) ∙ ap (λ b. map make (filter t (take i ss)) ++ map make (cond b (s ∷ []) [])) passes)

-- a number stands at the places from the first up to one, and all others are as they were
pub record IsFilled (old new : List ℕ) (first next v : ℕ) : Type 0 where
  pub count : length new ≡ length old
  pub written : (k : ℕ) → first ≤ k → k < next → get_or new k 0 ≡ v
  pub before : (k : ℕ) → k < first → get_or new k 0 ≡ get_or old k 0
  pub after : (k : ℕ) → next ≤ k → get_or new k 0 ≡ get_or old k 0

pub filled-none : (xs : List ℕ) (first v : ℕ) → IsFilled xs xs first first v
filled-none xs first v =
    record { count = refl; written = λ k low high. absurd (omega arith); before = λ k h. refl; after = λ k h. refl }

pub filled-next : (old xs : List ℕ) (first next v : ℕ) → IsFilled old xs first next v → first ≤ next → next < length xs → IsFilled old (set xs next v) first (next + 1) v
filled-next old xs first next v is low below =
    record {
      count = length-set xs next v ∙ is.count;
      written = λ k a b. ⊎_elim (λ (e : k ≡ next). get_or-set_at xs next k v 0 e below) (λ (ne : k ≡ next → ⊥). get_or-set_other xs next k v 0 ne ∙ is.written k a (omega (arith, ne))) (cases_eq k next);
      before = λ k h. get_or-set_other xs next k v 0 (λ e. absurd (omega arith)) ∙ is.before k h;
      after = λ k h. get_or-set_other xs next k v 0 (λ e. absurd (omega arith)) ∙ is.after k (omega arith);
    }

-- the place of a list whose places from the first to the last were written
pub filled-value : (old new : List ℕ) (first next last v : ℕ) → IsFilled old new first next v → min (last + 1) (length old) ≤ next → next ≤ max first (min (last + 1) (length old)) → (k : ℕ) → k < length old → get_or new k 0 ≡ cond (nat_le first k && nat_le k last) v (get_or old k 0)
filled-value old new first next last v is low high k below = by (nat_le first k) (nat_le k last) refl refl
  where
    by : (a b : Bool) → nat_le first k ≡ a → nat_le k last ≡ b → get_or new k 0 ≡ cond (a && b) v (get_or old k 0)
    by true true a b = is.written k (leb-true first k a) (omega (arith, leb-true k last b))
    by true false a b = is.after k (omega (arith, leb-true first k a, leb-false k last b))
    by false b a e = is.before k (leb-false first k a)

-- one more of a range
pub each-push : {X : Type 0} (make : ℕ → X) (n : ℕ) (xs new : List X) (x : X) → xs ≡ map make (range_with_len 0 n) → x ≡ make n → new ≡ xs ++ x ∷ [] → new ≡ map make (range_with_len 0 (n + 1))
each-push make n xs new x so_far made pushed =
    pushed ∙ ap (λ ys. ys ++ x ∷ []) so_far ∙ ap (λ y. map make (range_with_len 0 n) ++ y ∷ []) made
    ∙ sym (map-range_with_len_more make 0 n n (let e : 0 + n ≡ n = omega arith in e))

-- the entries so far: those of lines up to a code, and those of the default table from it on
pub record IsCoded (facts : List Fact) (table : List Entry) (code : ℕ) : Type 0 where
  pub count : length table ≡ 64
  pub written : (k : ℕ) → k < code → get_or table k (in_best_effort 0) ≡ entry_or (default_entry k) (value_at facts 0 k)
  pub left : (k : ℕ) → code ≤ k → k < 64 → get_or table k (in_best_effort 0) ≡ default_entry k

pub coded-start : (facts : List Fact) (table : List Entry) → table ≡ default_table → IsCoded facts table 0
coded-start facts table is =
    record {
      count = ap length is ∙ length-map-range_with_len default_entry 0 64;
      written = λ k h. absurd (omega arith);
      left = λ k low high. ap (λ t. get_or t k (in_best_effort 0)) is ∙ get_or-map-range_with_len default_entry 0 64 k k (in_best_effort 0) high (let e : 0 + k ≡ k = omega arith in e);
    }

get-there : (xs : List Entry) (i : ℕ) (x d : Entry) → slice_get xs i ≡ Some x → get_or xs i d ≡ x
get-there [] i x d h = absurd (cc)
get-there (y ∷ ys) zero x d h = cc
get-there (y ∷ ys) (suc i) x d h = get-there ys i x d h

pub coded-next : (facts : List Fact) (table new : List Entry) (code : ℕ) (other e : Entry) (v : Option Value) → IsCoded facts table code → code < 64 → slice_get table code ≡ Some other → v ≡ value_at facts 0 code → e ≡ entry_or other v → new ≡ set table code e → IsCoded facts new (code + 1)
coded-next facts table new code other e v is below got value made written =
    let old : other ≡ default_entry code = sym (get-there table code other (in_best_effort 0) got) ∙ is.left code (omega arith) below in
    let entry : e ≡ entry_or (default_entry code) (value_at facts 0 code) = made ∙ ap (λ o. entry_or o v) old ∙ ap (entry_or (default_entry code)) value in
    let next : new ≡ set table code (entry_or (default_entry code) (value_at facts 0 code)) = written ∙ ap (set table code) entry in
    record {
      count = ap length written ∙ length-set table code e ∙ is.count;
      written = λ k h. ap (λ t. get_or t k (in_best_effort 0)) next ∙ fill_by_more (λ j. entry_or (default_entry j) (value_at facts 0 j)) table code (in_best_effort 0) (omega (arith, is.count)) is.written k h;
      left = λ k low high. ap (λ t. get_or t k (in_best_effort 0)) written ∙ get_or-set_other table code k e (in_best_effort 0) (λ same. absurd (omega arith)) ∙ is.left k (omega arith) high;
    }

pub coded-end : (facts : List Fact) (table : List Entry) (code : ℕ) → IsCoded facts table code → 64 ≤ code → table ≡ codes_of facts
unfolding codes_of
coded-end facts table code is all =
    fill_by_all (λ k. entry_or (default_entry k) (value_at facts 0 k)) table 64 (in_best_effort 0) is.count (λ k h. is.written k (omega arith))

pub entry-valid : (facts : List Fact) (code : ℕ) (other e : Entry) (v : Option Value) → FitCodes facts → IsValid other → v ≡ value_at facts 0 code → e ≡ entry_or other v → IsValid e
entry-valid facts code other e v fit valid value made = subst IsValid (sym made) (by v (sym value))
  where
    by : (o : Option Value) → value_at facts 0 code ≡ o → IsValid (entry_or other o)
    by (Some (values.Entry entry)) h = fit code entry h
    by _ h = valid

-- a subport's pipes fit
pub fits-pipes : (facts : List Fact) → FitsSubport (subport_of facts) → (number_at facts 1 0 0 ≤ 4096) × ((k : ℕ) → k < number_at facts 1 0 0 → number_at facts 3 k 0 ≤ 255)
unfolding subport_of
fits-pipes facts fits =
    (omega (arith, fits.count, length-map-range_with_len (λ pipe. number_at facts 3 pipe 0) 0 (number_at facts 1 0 0)), λ k below. let at = fits.pipes k 0 (omega (arith, length-map-range_with_len (λ pipe. number_at facts 3 pipe 0) 0 (number_at facts 1 0 0))) in subst (λ n. n ≤ 255) (get_or-map-range_with_len (λ pipe. number_at facts 3 pipe 0) 0 (number_at facts 1 0 0) k k 0 below (let e : 0 + k ≡ k = omega arith in e)) at)

-- all pipes are written
pub pipes-all : (facts : List Fact) (xs : List ℕ) → FitsSubport (subport_of facts) → length xs ≡ number_at facts 1 0 0 → ((k : ℕ) → k < number_at facts 1 0 0 → get_or xs k 0 ≡ min 255 (number_at (drop 0 facts) 3 k 0)) → xs ≡ pipes_of facts
pipes-all facts xs fits count each =
    fill_by_all (λ pipe. number_at facts 3 pipe 0) xs (number_at facts 1 0 0) 0 count (λ k below. each k below ∙ (let small = (fits-pipes facts fits).1 k below in omega arith))
