-- The whole nanoseconds of a time in byte times of a line, by a product that is close to them.
use Rattle.port_egress.proofs.Words.{◌≡◌, ◌<◌, ◌≤◌, ℕ, ◌+◌, ◌-◌, ◌*◌, ◌/◌, ◌%◌, ◌^◌, sym, ap, ◌∙◌, arith}
use Rattle.std.proofs.Math.Nat.{le_refl, mul-add-div_right}
use Rattle.std.proofs.lemmas.Nat.{div-add-mod', div-mul-add, mod_below, mul-le}

-- n times a over b is the whole part of n over b, times a, and the rest times a over b
pub mul-div : (n a b : ℕ) → 0 < b → n * a / b ≡ n / b * a + n % b * a / b
mul-div n a b positive =
    let parts : (n / b * b + n % b) * a ≡ n / b * a * b + n % b * a = omega arith in
    ap (λ x. x * a / b) (sym (div-add-mod' n b)) ∙ ap (λ x. x / b) parts ∙ mul-add-div_right positive (n / b * a) (n % b * a)

-- a number between two multiples of another
pub quotient : (x q b : ℕ) → q * b ≤ x → x < q * b + b → q ≡ x / b
quotient x q b least most =
    let parts : q * b + (x - q * b) ≡ x = omega arith in
    sym (div-mul-add q b (x - q * b) (omega arith)) ∙ ap (λ n. n / b) parts

-- with so many nanoseconds for 2^34 bytes, rounded down, the product is the quotient or one less
module _ (line scale bytes : ℕ) (some : 0 < line) (few : line ≤ 2 ^ 34) (scaled : scale ≡ 1000000000 * 2 ^ 34 / line)
    (below : bytes < line) where
  abbrev guess : ℕ
  guess = bytes * scale / 2 ^ 34

  pub guess-least : guess * line ≤ bytes * 1000000000
  guess-least =
      let made : guess * 2 ^ 34 ≤ bytes * scale = omega arith in
      let whole : scale * line ≤ 1000000000 * 2 ^ 34 = omega (arith, ap (λ n. n * line) scaled, div-add-mod' (1000000000 * 2 ^ 34) line) in
      omega (
        arith,
        mul-le (guess * 2 ^ 34) line (bytes * scale) line made (le_refl line),
        mul-le bytes (scale * line) bytes
            (1000000000 * 2 ^ 34) (le_refl bytes) whole,
      )

  pub guess-most : bytes * 1000000000 < guess * line + line + line
  guess-most =
      let made : bytes * scale + 1 ≤ (guess + 1) * 2 ^ 34 = omega arith in
      let whole : 1000000000 * 2 ^ 34 ≤ (scale + 1) * line =
      omega (
        arith,
        ap (λ n. (n + 1) * line) scaled,
        div-add-mod' (1000000000 * 2 ^ 34) line,
        mod_below (1000000000 * 2 ^ 34) line some,
      ) in
      omega (
        arith,
        mul-le (bytes * scale + 1) line ((guess + 1) * 2 ^ 34) line made (le_refl line),
        mul-le bytes (1000000000 * 2 ^ 34) bytes ((scale + 1) * line) (le_refl bytes) whole,
        mul-le bytes line (2 ^ 34) line (omega arith) (le_refl line),
      )
