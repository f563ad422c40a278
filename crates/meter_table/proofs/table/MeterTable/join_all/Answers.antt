use Rattle.std.proofs.Common.{ℕ, arith, ap, subst}
use Rattle.std.specs.List.{sum_by, All}
use Rattle.std.proofs.lemmas.List.Sums.{sum_by_push}
use Rattle.std.proofs.lemmas.List.Elements.{All-pop, All-push, All-same}
use Rattle.meter_table.specs.declared.seat.MeterSeat.{MeterSeat}
use Rattle.meter_table.specs.Kept.{StandsIn}
use Rattle.meter_table.specs.Log.{made_at}
use Rattle.meter_table.specs.Seats.{HasPasses, marks_by, parts_at}
use Rattle.meter_table.proofs.Logs.{made_at-append, all_left, all_right}
use Rattle.meter_table.proofs.table.MeterTable.join_all.Goals as goal

pub loop-seat-preserved : goal.loop-seat-preserved
loop-seat-preserved c =
    let rest = c.pop.new.self.items in
    let seat : MeterSeat = c.in-Some.seat in
    let was = c.in-Some.ensures.items in
    let before = c.loop-seat.invariant in
    let all = c.loop-seat.all in
    let now = c.join.new.seat in
    let both = c.join.ensures in
    record {
      rest = λ k d lt. (All-pop (HasPasses c.args.self.now) _ _ _ c.pop.ensures.items before.rest).0 k d lt;
      all = both.seat;
      parts = λ n. omega (arith, before.parts n, both.parts n, ap (sum_by (parts_at n)) was, sum_by_push (parts_at n) rest seat);
      made = λ n turn.
          let of : MeterSeat → ℕ = λ s. made_at turn (marks_by n s) in
          omega (arith, before.made n turn, ap (made_at turn) (both.made n), made_at-append turn (marks_by n all) (marks_by n seat), ap (sum_by of) was, sum_by_push of rest seat);
      stand = λ n log stood others.
          let Stand : MeterSeat → Type 0 = λ s. All (StandsIn log) (marks_by n s) in
          let joined = subst (λ l. All (StandsIn log) l) (both.made n) stood in
          before.stand n log (all_left (StandsIn log) (marks_by n all) (marks_by n seat) joined)
          (All-same Stand _ _ was (All-push Stand rest seat others (all_right (StandsIn log) (marks_by n all) (marks_by n seat) joined)));
    }
