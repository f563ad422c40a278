use Rattle.std.proofs.Common.{ℕ, List, rules, arith, ap, subst}
use Rattle.std.specs.List.{sum_by}
use Rattle.std.proofs.lemmas.List.Sums.{sum_by_push}
use Rattle.std.proofs.lemmas.List.Elements.{All-pop, All-push, All-same}
use Rattle.count_board.specs.declared.seat.BoardSeat.{BoardSeat}
use Rattle.count_board.specs.Tally.{sum_in, IsSeen}
use Rattle.count_board.specs.Seats.{IsSeatOf, parts_of, added_by, seen_by}
use Rattle.count_board.proofs.Moves.{sum_in-append, seen_parts}
use Rattle.count_board.proofs.board.CountBoard.join_all.Goals as goal

pub loop-seat-preserved : goal.loop-seat-preserved
loop-seat-preserved c =
    let rest = c.pop-in-loop-seat.new.self.items in
    let seat = c.in-Some-pop.seat in
    let was = c.in-Some-pop.ensures.items in
    let before = c.loop-seat.invariant in
    let both : (words : List ℕ) → IsSeen words (seen_by c.join.new.seat) → IsSeen words (seen_by c.loop-seat.all) × IsSeen words (seen_by seat) =
    λ words all. seen_parts words (seen_by c.loop-seat.all) (seen_by seat) (subst (IsSeen words) c.join.ensures.seen all) in
    record {
      mine = λ k d lt. (All-pop (IsSeatOf c.args.self.now) _ _ _ c.pop-in-loop-seat.ensures.items before.mine).0 k d lt;
      seat = search rules;
      parts = omega (arith, before.parts, c.join.ensures.parts, ap (sum_by parts_of) was, sum_by_push parts_of rest seat);
      added = λ word.
          let of : BoardSeat → ℕ = λ s. sum_in word (added_by s) in
          omega (arith, before.added word, ap (sum_in word) c.join.ensures.added, sum_in-append word (added_by c.loop-seat.all) (added_by seat), ap (sum_by of) was, sum_by_push of rest seat);
      seen = λ words all others.
          before.seen words (both words all).0
          (All-same (λ s. IsSeen words (seen_by s)) _ _ was (All-push (λ s. IsSeen words (seen_by s)) rest seat others (both words all).1));
    }
