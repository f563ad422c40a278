-- Multiples of a period since its last one.
use Rattle.std.proofs.Common.{◌≡◌, ◌≤◌, ℕ, ◌-◌, ◌*◌, ◌/◌, ap, arith}
use Rattle.std.proofs.Math.Nat.{mul-div_cancel_left}
use Rattle.credit_book.specs.Bucket.{multiples}

-- since the last multiple up to a moment there are as many multiples as since that moment
pub multiples-from_whole : (period ticked t : ℕ) → 1 ≤ period → multiples period (period * (ticked / period)) t ≡ multiples period ticked t
multiples-from_whole period ticked t some =
    ap (λ n. t / period - n) (mul-div_cancel_left (ticked / period) (omega arith))
