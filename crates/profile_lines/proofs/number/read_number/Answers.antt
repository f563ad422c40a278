use Rattle.std.proofs.Common.{◌≡◌, ◌∙◌, ◌+◌, ◌-◌, ◌*◌, ◌^◌, ◌<◌, ◌≤◌, sym, ap, arith, length, get_or, drop, subst, true, SomeIff, ℕ}
use Rattle.std.specs.List.{list_all}
use Rattle.std.specs.Char.{is_ascii_digit}
use Rattle.std.proofs.lemmas.List.{drop_more, take_all, drop_all}
use Rattle.std.proofs.lemmas.Bool.{eqb-true, eqb-false}
use Rattle.profile_lines.specs.Numbers.{value_after}
use Rattle.profile_lines.proofs.Digits.{value_after-le, number-empty, number-long, number-not, number-high, number-is}
use Rattle.profile_lines.proofs.number.read_number.Goals.{then-is_empty-via-then-is_empty, then-is_empty-via-else-is_empty+then-word-gt20}
use Rattle.profile_lines.proofs.number.read_number.Goals as goal

pub returns-then-is_empty : goal.returns-then-is_empty
returns-then-is_empty c =
    elim c.then-is_empty.branch [
      | then-is_empty-via-then-is_empty w ↦
          sym (number-empty c.args.word.now (eqb-true (length c.args.word.now) 0 (sym c.is_empty.ensures ∙ w.if-is_empty.true)))
      | then-is_empty-via-else-is_empty+then-word-gt20 w ↦ sym (number-long c.args.word.now w.if-word-gt20.true)
    ]

pub returns-then-not-is_ascii_digit : goal.returns-then-not-is_ascii_digit
returns-then-not-is_ascii_digit c =
    sym (number-not c.args.word.now c.loop-byte.byte-index (omega arith) (sym c.is_ascii_digit.ensures.value ∙ c.if-not-is_ascii_digit.true))

pub returns-in_default : goal.returns-in_default
returns-in_default c =
    let word = c.args.word.now in
    let place = c.loop-byte.byte-index in
    let next : ℕ = 10 * c.loop-byte.value + (get_or word place 0 - 48) in
    let high : 2 ^ 64 ≤ next = omega (arith, subst (λ o. SomeIff o (next < 2 ^ 64) next) c.in_default.is c.with_digit.ensures) in
    let rest = value_after-le next (drop (place + 1) word) in
    let step : value_after c.loop-byte.value (drop place word) ≡ value_after next (drop (place + 1) word) = ap (value_after c.loop-byte.value) (drop_more word place 0 c.loop-byte-test.true) in
    sym (number-high word (omega (arith, high, rest, step, c.loop-byte.invariant.value)))

pub returns : goal.returns
returns c =
    let word = c.args.word.now in
    let whole = c.loop-byte.invariant.digits in
    let value = c.loop-byte.invariant.value in
    let some : 1 ≤ length word = let h = eqb-false (length word) 0 (sym c.is_empty.ensures ∙ c.if-is_empty.false) in omega (arith, h) in
    sym (number-is word _ some c.if-word-gt20.false (subst (λ ds. list_all is_ascii_digit ds ≡ true) (take_all _ word (omega arith)) whole) (sym (ap (value_after c.loop-byte.value) (drop_all _ word (omega arith))) ∙ value) c.loop-byte.invariant.fits)
