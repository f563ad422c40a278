-- A product divided, in two parts that are each small.
use Rattle.std.proofs.Common.{◌≡◌, ◌<◌, ℕ, ◌+◌, ◌*◌, ◌/◌, ◌%◌, sym, ap, ◌∙◌, arith}
use Rattle.std.proofs.Math.Nat.{mul-add-div_right}
use Rattle.std.proofs.lemmas.Nat.{div-add-mod'}

-- n times a over b is the whole part of n over b, times a, and the rest times a over b
pub mul-div : (n a b : ℕ) → 0 < b → n * a / b ≡ n / b * a + n % b * a / b
mul-div n a b positive =
    let parts : (n / b * b + n % b) * a ≡ n / b * a * b + n % b * a = omega arith in
    ap (λ x. x * a / b) (sym (div-add-mod' n b)) ∙ ap (λ x. x / b) parts ∙ mul-add-div_right positive (n / b * a) (n % b * a)
