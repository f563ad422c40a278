-- A fold over a range, a number at a time.
use Rattle.std.proofs.Common.{◌≡◌, ℕ, zero, suc, ◌+◌, ap, ◌∙◌, arith}
use Rattle.std.specs.List.{fold, range_with_len}

module _ {X : Type 0} (f : X → ℕ → X) where
  fold-range-from : (x : X) (a n : ℕ) → fold f x (range_with_len a (suc n)) ≡ f (fold f x (range_with_len a n)) (a + n)
  fold-range-from x a zero = ap (f x) (omega arith)
  fold-range-from x a (suc n) = let next : a + 1 + n ≡ a + suc n = omega arith in fold-range-from (f x a) (a + 1) n ∙ ap (f (fold f (f x a) (range_with_len (a + 1) n))) next

  pub fold-range_more : (x : X) (n : ℕ) → fold f x (range_with_len 0 (n + 1)) ≡ f (fold f x (range_with_len 0 n)) n
  fold-range_more x n =
      let one : n + 1 ≡ suc n = omega arith in
      let same : 0 + n ≡ n = omega arith in
      ap (λ m. fold f x (range_with_len 0 m)) one ∙ fold-range-from x 0 n ∙ ap (f (fold f x (range_with_len 0 n))) same
