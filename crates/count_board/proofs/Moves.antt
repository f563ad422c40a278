-- Each step of a seat keeps the board's rule.
use Rattle.std.proofs.Common.{◌≡◌, ℕ, zero, suc, ◌+◌, ◌*◌, ◌%◌, ◌^◌, ◌<◌, ◌≤◌, List, [], ◌∷◌, ◌++◌, length, get_or, set, cond, eqb, replicate, refl, ap, sym, ◌∙◌, subst, ⊎_elim, arith}
use Rattle.std.specs.List.{sum_by, fold}
use Rattle.std.proofs.lemmas.List.{get_or-set_same, get_or-set_other, length-set, set-get_or, length-replicate}
use Rattle.std.proofs.lemmas.List.Sums.{sum_by-append, sum_by_push, sum_by-le-sum_by}
use Rattle.std.proofs.lemmas.List.Elements.{All-append, All-push}
use Rattle.std.proofs.lemmas.Bool.Decides.{nat_tests}
use Rattle.std.proofs.Math.Nat.{mod-eq_of_lt}
use native.Mathlib.Decide.{ℕ_discrete}
use mathlib.Core.Logic.{dite}
use mathlib.Core.Option.{some, none, some-injective, some-ne-none}
use lib.ListN.{get_elem?}
use Rattle.atomic_table.specs.Table.{State, Me, step, keeps, Allows, Splits, Joins, opening}
use Rattle.atomic_table.proofs.Lists.{at_set, at_snoc}
use Rattle.count_board.specs.declared.seat.Tally.{Tally}
use Rattle.count_board.specs.Tally.{tally, new_tally, sum_in, sum_of, last_in, IsSeen, IsKept, Adds, Looks, one_part_less, both_tallies}
use Rattle.count_board.proofs.Sums.{sum_at, sum_least, sum_within, sum_alone, all_left, all_right}

-- what a list has for one word is at most what it has in all
sum_in-le-sum_of : (word : ℕ) (xs : List (ℕ × ℕ)) → sum_in word xs ≤ sum_of xs
sum_in-le-sum_of word xs = sum_by-le-sum_by (λ (x : ℕ × ℕ). cond (eqb x.0 word) x.1 0) (λ (x : ℕ × ℕ). x.1) xs (λ x. grind (arith, nat_tests))

-- what a list has for a word, with one more number
pub sum_in_push : (word k n : ℕ) (xs : List (ℕ × ℕ)) → sum_in word (xs ++ (k, n) ∷ []) ≡ sum_in word xs + cond (eqb k word) n 0
sum_in_push word k n xs = sum_by_push (λ (x : ℕ × ℕ). cond (eqb x.0 word) x.1 0) xs (k, n)

pub sum_in-append : (word : ℕ) (xs ys : List (ℕ × ℕ)) → sum_in word (xs ++ ys) ≡ sum_in word xs + sum_in word ys
sum_in-append word xs ys = sum_by-append (λ (x : ℕ × ℕ). cond (eqb x.0 word) x.1 0) xs ys

-- where no word is lower, what was seen is still seen
seen_later : (words later : List ℕ) (xs : List (ℕ × ℕ)) → ((j : ℕ) → get_or words j 0 ≤ get_or later j 0) → IsSeen words xs → IsSeen later xs
seen_later words later xs risen seen k d lt = let was = seen k d lt in let higher = risen (get_or xs k d).0 in omega arith

last_from : (words : List ℕ) (word a : ℕ) (xs : List (ℕ × ℕ)) → a ≤ get_or words word 0 → IsSeen words xs → fold (λ last (x : ℕ × ℕ). cond (eqb x.0 word) x.1 last) a xs ≤ get_or words word 0
last_from words word a [] start seen = start
last_from words word a (x ∷ xs) start seen =
    last_from words word (cond (eqb x.0 word) x.1 a) xs
    (dite (ℕ_discrete x.0 word)
    (λ is. let here : x.1 ≤ get_or words x.0 0 = seen 0 x (omega arith) in let same : get_or words x.0 0 ≡ get_or words word 0 = ap (λ k. get_or words k 0) is in grind (arith, nat_tests))
    (λ not. grind (arith, nat_tests)))
    (λ k d lt. seen (suc k) d (omega arith))

-- the last number that was seen of a word is not above it
pub last_in-le : (words : List ℕ) (word : ℕ) (xs : List (ℕ × ℕ)) → IsSeen words xs → last_in word xs ≤ get_or words word 0
last_in-le words word xs seen = last_from words word 0 xs (omega arith) seen

module _ {V : Type 0} (F : V → Type 0) where
  -- what holds of each view holds of each after one of them has changed
  each_set : (views : List V) (id : ℕ) (w : V) → F w → ((j : ℕ) (u : V) → get_elem? views j ≡ some u → F u) → (j : ℕ) (u : V) → get_elem? (set views id w) j ≡ some u → F u
  each_set views id w mine others j u e = ⊎_elim (λ x. subst F x.1 mine) (λ x. others j u x.1) (at_set views id j w u e)

  each_snoc : (views : List V) (w : V) → F w → ((j : ℕ) (u : V) → get_elem? views j ≡ some u → F u) → (j : ℕ) (u : V) → get_elem? (views ++ w ∷ []) j ≡ some u → F u
  each_snoc views w mine others j u e = ⊎_elim (λ x. others j u x) (λ x. subst F x mine) (at_snoc views w u j e)

limit_of : (parts n : ℕ) → 0 < parts → n ≤ 2 ^ 56 → n ≤ 2 ^ 56 * parts
limit_of parts n any small = omega arith

abbrev InLimit : Tally → Type 0
InLimit v = sum_of v.added ≤ 2 ^ 56 * v.parts

-- no word is so high that an addition wraps
no_wrap : (word : ℕ) (views : List Tally) → sum_by (λ (v : Tally). v.parts) views ≡ 48 → ((j : ℕ) (u : Tally) → get_elem? views j ≡ some u → InLimit u) → sum_by (λ (v : Tally). sum_in word v.added) views < 2 ^ 64
no_wrap word views parts limit =
    let within = sum_within (λ (v : Tally). sum_in word v.added) (λ (v : Tally). v.parts) (2 ^ 56) views (λ j u e. let all = limit j u e in let one = sum_in-le-sum_of word u.added in omega arith) in
    let product = ap (λ n. 2 ^ 56 * n) parts in
    omega arith

abbrev total : ℕ → List Tally → ℕ
total word views = sum_by (λ (v : Tally). sum_in word v.added) views

abbrev all_parts : List Tally → ℕ
all_parts views = sum_by (λ (v : Tally). v.parts) views

-- a seat's addition, in every word
sums_after : (ws : List ℕ) (views : List Tally) (id : ℕ) (v : Tally) (word n : ℕ) → word < length ws → get_elem? views id ≡ some v
    → ((j : ℕ) → get_or ws j 0 ≡ total j views) → total word (set views id (tally v.parts (v.added ++ (word, n) ∷ []) v.seen)) < 2 ^ 64
    → (j : ℕ) → get_or (set ws word ((get_or ws word 0 + n) % 2 ^ 64)) j 0 ≡ total j (set views id (tally v.parts (v.added ++ (word, n) ∷ []) v.seen))
sums_after ws views id v word n lt at sums small j =
    let w = tally v.parts (v.added ++ (word, n) ∷ []) v.seen in
    let t = sum_at (λ (u : Tally). sum_in j u.added) views id v w at in
    let more = sum_in_push j word n v.added in
    let was = sums j in
    dite (ℕ_discrete j word)
    (λ is.
    let one : cond (eqb word j) n 0 ≡ n = grind (arith, nat_tests) in
    let low : total j (set views id w) < 2 ^ 64 = rw is small in
    let here : get_or ws word 0 ≡ get_or ws j 0 = ap (λ k. get_or ws k 0) (sym is) in
    let full : get_or ws word 0 + n ≡ total j (set views id w) = omega arith in
    let fits : get_or ws word 0 + n < 2 ^ 64 = omega arith in
    let put : get_or (set ws word ((get_or ws word 0 + n) % 2 ^ 64)) j 0 ≡ (get_or ws word 0 + n) % 2 ^ 64 = rw is (get_or-set_same ws word _ 0 lt) in
    put ∙ mod-eq_of_lt fits ∙ full)
    (λ not.
    let none : cond (eqb word j) n 0 ≡ 0 = grind (arith, nat_tests) in
    let same : total j (set views id w) ≡ total j views = omega arith in
    get_or-set_other ws word j _ 0 not ∙ was ∙ sym same)

pub adds : (count slots id : ℕ) (me : Me ℕ Tally) (word n : ℕ) → word < count → 0 < me.0.parts → sum_of me.0.added + n ≤ 2 ^ 56
    → Allows (IsKept count) slots id me word (λ m. (m + n) % 2 ^ 64) (Adds (step slots word n 0 none) me)
adds count slots id me word n lt part room s kept homes at small =
    let v : Tally = me.0 in
    let w : Tally = tally v.parts (v.added ++ (word, n) ∷ []) v.seen in
    let views : List Tally = set s.views id w in
    let more : sum_of w.added ≡ sum_of v.added + n = sum_by_push (λ (x : ℕ × ℕ). x.1) v.added (word, n) in
    let mine : InLimit w = limit_of v.parts (sum_of w.added) part (omega arith) in
    let limit = each_set InLimit s.views id w mine kept.limit in
    let parts : all_parts views ≡ 48 = omega (arith, kept.parts, sum_at (λ (u : Tally). u.parts) s.views id v w at) in
    let within : word < length s.words = omega (arith, kept.words) in
    let ws : List ℕ = set s.words word ((get_or s.words word 0 + n) % 2 ^ 64) in
    let sums = sums_after s.words s.views id v word n within at kept.sums (no_wrap word views parts limit) in
    let risen : (j : ℕ) → get_or s.words j 0 ≤ get_or ws j 0 = λ j. omega (arith, kept.sums j, sums j, sum_at (λ (u : Tally). sum_in j u.added) s.views id v w at, sum_in_push j word n v.added) in
    let later : (u : Tally) → IsSeen s.words u.seen → IsSeen ws u.seen = λ u. seen_later s.words ws u.seen risen in (
      w,
      keeps,
      tt,
      record {
        words = length-set s.words word _ ∙ kept.words;
        sums = sums;
        seen = each_set (λ u. IsSeen ws u.seen) s.views id w (later v (kept.seen id v at)) (λ j u e. later u (kept.seen j u e));
        limit = limit;
        parts = parts;
      },
      refl,
    )

pub looks : (count slots id : ℕ) (me : Me ℕ Tally) (word : ℕ)
    → Allows (IsKept count) slots id me word (λ m. m) (Looks (step slots word 0 0 none) me)
looks count slots id me word s kept homes at small =
    let v : Tally = me.0 in
    let found : ℕ = get_or s.words word 0 in
    let w : Tally = tally v.parts v.added (v.seen ++ (word, found) ∷ []) in
    let views : List Tally = set s.views id w in
    let same : set s.words word found ≡ s.words = set-get_or s.words word 0 in
    let seen = kept.seen id v at in
    let own : sum_in word v.added ≤ found = omega (arith, kept.sums word, sum_least (λ (u : Tally). sum_in word u.added) s.views id v at) in (
      w,
      keeps,
      tt,
      subst (λ ws. IsKept count (record { words = ws; homes = s.homes; views = views })) (sym same) (record {
        words = kept.words;
        sums = λ j. omega (arith, kept.sums j, sum_at (λ (u : Tally). sum_in j u.added) s.views id v w at);
        seen = each_set (λ u. IsSeen s.words u.seen) s.views id w (All-push (λ (x : ℕ × ℕ). x.1 ≤ get_or s.words x.0 0) v.seen (word, found) seen (omega arith)) kept.seen;
        limit = each_set InLimit s.views id w (kept.limit id v at) kept.limit;
        parts = omega (arith, kept.parts, sum_at (λ (u : Tally). u.parts) s.views id v w at);
      }),
      record { view = refl; added = own; last = last_in-le s.words word v.seen seen },
    )

pub splits : (count id : ℕ) (v : Tally) → 1 < v.parts → v.added ≡ [] → v.seen ≡ [] → Splits {S = ℕ} (IsKept count) id v (one_part_less v) (new_tally 1)
splits count id v parts added seen s kept at =
    let w : Tally = one_part_less v in
    let mine : InLimit w = let none : sum_of v.added ≡ 0 = ap sum_of added in omega arith in
    let views : List Tally = set s.views id w in
    record {
      words = kept.words;
      sums = λ j. omega (arith, kept.sums j, sum_at (λ (u : Tally). sum_in j u.added) s.views id v w at, sum_by_push (λ (u : Tally). sum_in j u.added) views (new_tally 1));
      seen = each_snoc (λ u. IsSeen s.words u.seen) views (new_tally 1) (λ k d lt. absurd (omega arith)) (each_set (λ u. IsSeen s.words u.seen) s.views id w (kept.seen id v at) kept.seen);
      limit = each_snoc InLimit views (new_tally 1) (omega arith) (each_set InLimit s.views id w mine kept.limit);
      parts = omega (arith, kept.parts, sum_at (λ (u : Tally). u.parts) s.views id v w at, sum_by_push (λ (u : Tally). u.parts) views (new_tally 1));
    }

pub joins : (count id : ℕ) (v : Tally) (other : ℕ) (u : Tally) → Joins {S = ℕ} (IsKept count) id v other u (both_tallies v u) (new_tally 0)
joins count id v other u s kept at two at' =
    let w : Tally = both_tallies v u in
    let views : List Tally = set s.views id w in
    let was : get_elem? s.views other ≡ some u = ⊎_elim (λ x. absurd (two x.0)) (λ x. x.1) (at_set s.views id other w u at') in
    let mine : InLimit w = omega (arith, sum_by-append (λ (x : ℕ × ℕ). x.1) v.added u.added, kept.limit id v at, kept.limit other u was) in
    record {
      words = kept.words;
      sums = λ j. omega (arith, kept.sums j, sum_at (λ (y : Tally). sum_in j y.added) s.views id v w at, sum_at (λ (y : Tally). sum_in j y.added) views other u (new_tally 0) at', sum_in-append j v.added u.added);
      seen = each_set (λ y. IsSeen s.words y.seen) views other (new_tally 0) (λ k d lt. absurd (omega arith))
          (each_set (λ y. IsSeen s.words y.seen) s.views id w (All-append (λ (x : ℕ × ℕ). x.1 ≤ get_or s.words x.0 0) v.seen u.seen (kept.seen id v at) (kept.seen other u was)) kept.seen);
      limit = each_set InLimit views other (new_tally 0) (omega arith) (each_set InLimit s.views id w mine kept.limit);
      parts = omega (arith, kept.parts, sum_at (λ (y : Tally). y.parts) s.views id v w at, sum_at (λ (y : Tally). y.parts) views other u (new_tally 0) at');
    }

only : (F : Tally → Type 0) (v : Tally) → F v → (j : ℕ) (u : Tally) → get_elem? (v ∷ []) j ≡ some u → F u
only F v h zero u e = subst F (some-injective v u e) h
only F v h (suc j) u e = absurd (some-ne-none u (sym e))

none_yet : (n j : ℕ) → get_or {A = ℕ} (replicate n 0) j 0 ≡ 0
none_yet zero j = refl
none_yet (suc n) zero = refl
none_yet (suc n) (suc j) = none_yet n j

pub begins : (count : ℕ) → IsKept count (opening {S = ℕ} (replicate count 0) [] (new_tally 48))
begins count = record {
  words = length-replicate count 0;
  sums = none_yet count;
  seen = only (λ u. IsSeen (replicate count 0) u.seen) (new_tally 48) (λ k d lt. absurd (omega arith));
  limit = only InLimit (new_tally 48) (omega arith);
  parts = refl;
}

-- who has every part knows every sum
pub ends : (count : ℕ) (s : State ℕ Tally) (id : ℕ) (v : Tally) → IsKept count s → get_elem? s.views id ≡ some v → v.parts ≡ 48 → (j : ℕ) → get_or s.words j 0 ≡ sum_in j v.added
ends count s id v kept at all j =
    kept.sums j ∙ sum_alone (λ (u : Tally). sum_in j u.added) (λ (u : Tally). u.parts) (2 ^ 56) s.views id v at
    (λ i u e. let whole = kept.limit i u e in let one = sum_in-le-sum_of j u.added in omega arith) (kept.parts ∙ sym all)

-- what bounds two lists together bounds each
pub seen_parts : (words : List ℕ) (xs ys : List (ℕ × ℕ)) → IsSeen words (xs ++ ys) → IsSeen words xs × IsSeen words ys
seen_parts words xs ys seen =
    let P : ℕ × ℕ → Type 0 = λ x. x.1 ≤ get_or words x.0 0 in
    (all_left P xs ys seen, all_right P xs ys seen)
