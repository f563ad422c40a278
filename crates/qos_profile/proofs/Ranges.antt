-- Tests of all numbers of a range.
use Rattle.std.proofs.Common.{◌≡◌, ℕ, ◌+◌, ◌<◌, Bool, true, false, ap, ◌∙◌, arith}
use Rattle.std.specs.List.{list_all, range_with_len}
use Rattle.std.proofs.lemmas.List.FromFn.{get_or-range_with_len, length-range_with_len}
use Rattle.std.proofs.lemmas.List.Sums.{list_all-from_AllPass}
use Rattle.std.proofs.lemmas.List.Folds.{list_all_at}

pub all-below : (p : ℕ → Bool) (n : ℕ) → ((k : ℕ) → k < n → p k ≡ true) → list_all p (range_with_len 0 n) ≡ true
all-below p n each =
    list_all-from_AllPass p (range_with_len 0 n) (λ k d below. let within : k < n = omega (arith, length-range_with_len 0 n) in ap p (get_or-range_with_len 0 n k d within) ∙ ap p (let e : 0 + k ≡ k = omega arith in e) ∙ each k within)

pub one-fails : (p : ℕ → Bool) (n k : ℕ) → k < n → p k ≡ false → list_all p (range_with_len 0 n) ≡ false
one-fails p n k below fails =
    list_all_at p (range_with_len 0 n) k 0 (omega (arith, length-range_with_len 0 n)) (ap p (get_or-range_with_len 0 n k 0 below) ∙ ap p (let e : 0 + k ≡ k = omega arith in e) ∙ fails)
