-- What several reads of a source have taken of it together.
use Rattle.std.proofs.Common.{◌≡◌, ◌≤◌, ℕ, ◌+◌, ◌-◌, List, [], ◌++◌, length, take, drop, Option, Some, None, IfSome, refl, sym, ap, ◌∙◌, arith}
use Rattle.std.proofs.lemmas.Option.{MatchOption-at_some}
use Rattle.std.proofs.lemmas.List.{append-nil, append_assoc, drop-drop, drop-take, drop_all, drop_at, length-drop, length-take-le, take-append-drop, take-take, take_all, take_at}
use borrow.Rule.Slice.PartMut.{put_mid}
use Rattle.qos_io.specs.Bytes.{Moves, left_after}
use Rattle.qos_io.specs.Fault.{Counts, Counts-none, Counts-then, Counts-weaker}

-- n bytes were taken between these two states of a source, and no call failed
pub record Took {S : Type 0} (remaining : S → Option (List ℕ)) (faults : S → ℕ) (IsSure : S → Type 0) (before now : S) (n : ℕ) : Type 0 where
  pub within : (left : List ℕ) → remaining before ≡ Some left → n ≤ length left
  pub left : remaining now ≡ left_after n (remaining before)
  pub counts : Counts faults IsSure before now ⊥

left_after-zero : (o : Option (List ℕ)) → o ≡ left_after 0 o
left_after-zero None = refl
left_after-zero (Some left) = refl

left_after-left_after : (n k : ℕ) (o : Option (List ℕ)) → left_after k (left_after n o) ≡ left_after (n + k) o
left_after-left_after n k None = refl
left_after-left_after n k (Some left) = ap Some (drop-drop k n left)

-- what was left where the bytes are told
pub left_at : (n : ℕ) {o p : Option (List ℕ)} (left : List ℕ) → p ≡ left_after n o → o ≡ Some left → p ≡ Some (drop n left)
left_at n left e h = e ∙ ap (left_after n) h

-- the first n + k of a list
take-add : (n k : ℕ) (xs : List ℕ) → take (n + k) xs ≡ take n xs ++ take k (drop n xs)
take-add n k xs =
    sym (take-append-drop n (take (n + k) xs)) ∙ rw (take-take n (n + k) xs (omega arith), drop-take n k xs) refl

-- a buffer whose first n bytes were read, after a read of k more into its rest
pub filled_more : (n k : ℕ) (left start buf part : List ℕ) → n ≤ length left → length start ≡ length buf → n ≤ length buf → buf ≡ take n left ++ drop n start
    → Moves k (take (length buf - n) (drop n buf)) part (drop n left) → put_mid n (length buf - n) buf part ≡ take (n + k) left ++ drop (n + k) start
filled_more n k left start buf part there same within e moves =
    let len : length (take n left) ≡ n = length-take-le n left there in
    let front : take n buf ≡ take n left = ap (take n) e ∙ take_at (take n left) (drop n start) n len in
    let back : drop n buf ≡ drop n start = ap (drop n) e ∙ drop_at (take n left) (drop n start) n len in
    let rest : length (drop n buf) ≤ length buf - n = omega (arith, length-drop n buf) in
    let whole : take (length buf - n) (drop n buf) ≡ drop n start = take_all (length buf - n) (drop n buf) rest ∙ back in
    let none : drop (length buf - n) (drop n buf) ≡ [] = drop_all (length buf - n) (drop n buf) rest in
    let read : part ≡ take k (drop n left) ++ drop (n + k) start = moves.front ∙ rw (whole, drop-drop k n start) refl in
    rw (front, none, read, append-nil, take-add n k left) (sym (append_assoc (take n left) (take k (drop n left)) (drop (n + k) start)))

module _ {S : Type 0} (remaining : S → Option (List ℕ)) (faults : S → ℕ) (IsSure : S → Type 0) where
  pub Took-start : (s : S) → Took remaining faults IsSure s s 0
  Took-start s = record {
    within = λ left e. omega arith;
    left = left_after-zero (remaining s);
    counts = Counts-none s (λ e. e);
  }

  -- one read more
  pub Took-more : {P : Type 0} (s m t : S) (n k : ℕ) (b d : List ℕ) → Took remaining faults IsSure s m n → IfSome (remaining m) (λ left. Moves k b d left)
      → remaining t ≡ left_after k (remaining m) → Counts faults IsSure m t P → Took remaining faults IsSure s t (n + k)
  Took-more s m t n k b d took moves left counts = record {
    within = λ text e.
        let there = MatchOption-at_some _ _ (drop n text) (left_at n text took.left e) moves in
        let fits = took.within text e in
        omega (arith, there.there, length-drop n text);
    left = left ∙ ap (left_after k) took.left ∙ left_after-left_after n k (remaining s);
    counts = Counts-then (λ e. absurd e) took.counts (Counts-weaker (λ e. absurd e) counts);
  }
