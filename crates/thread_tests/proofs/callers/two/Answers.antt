use Rattle.std.proofs.Common.{◌≡◌, ℕ, ◌++◌, ◌∷◌, [], List, length, ap, ◌∙◌, refl, arith}
use Rattle.std.specs.List.{sum_by}
use Rattle.std.specs.Option.{option_to_list}
use Rattle.std.proofs.lemmas.List.{length_push}
use Rattle.std.proofs.lemmas.List.Sums.{sum_by_push}
use Rattle.meter_table.specs.declared.seat.MeterSeat.{MeterSeat}
use Rattle.meter_table.specs.Seats.{parts_at}
use Rattle.thread_tests.proofs.callers.two.Goals as goal

nothing : (f : MeterSeat → ℕ) (xs : List MeterSeat) → length xs ≡ 0 → sum_by f xs ≡ 0
nothing f [] e = refl
nothing f (x ∷ xs) e = absurd (omega arith)

pub returns-clause-parts : goal.returns-clause-parts
returns-clause-parts g c n lt =
    let of = parts_at n in
    let second : MeterSeat = c.unwrap-second.result in
    let first : MeterSeat = c.unwrap-first.result in
    let some : List MeterSeat = c.pop.new.self.items in
    let none : List MeterSeat = c.pop-2.new.self.items in
    let last = c.pop.ensures.items ∙ ap (λ o. some ++ option_to_list o) c.unwrap-second.ensures in
    let before = c.pop-2.ensures.items ∙ ap (λ o. none ++ option_to_list o) c.unwrap-first.ensures in
    let empty = nothing of none (omega (arith, c.requires.count, ap length last, ap length before, length_push some second, length_push none first)) in
    omega (arith, c.requires.all.parts n lt, ap (sum_by of) last, ap (sum_by of) before, sum_by_push of some second, sum_by_push of none first, ap of c.begin.ensures.seat.1, ap of c.begin-2.ensures.seat.1)
