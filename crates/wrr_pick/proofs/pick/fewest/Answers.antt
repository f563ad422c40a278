use Rattle.std.proofs.Common.{◌≡◌, ◌∙◌, Some, true, false, slice_get, sym, ap, arith}
use Rattle.std.proofs.lemmas.Bool.{OnTrue_at, OnFalse_at, both_ways}
use Rattle.std.proofs.lemmas.Option.{slice_get-get_or, get_or_from_slice_get}
use Rattle.wrr_pick.proofs.Picks.{best-done, best-keep, best-take, picked_queue-is}
use Rattle.wrr_pick.proofs.pick.fewest.Goals.{then-filled-queue+then-is_fewer, else-filled-queue, else-filled-queue-via-then-filled-queue+else-is_fewer, else-filled-queue-via-else-filled-queue}
use Rattle.wrr_pick.proofs.pick.fewest.Goals as goal

pub loop-queue-preserved : goal.loop-queue-preserved
loop-queue-preserved c =
    let tokens = c.args.tokens.now in
    let filled = c.args.filled.now in
    let queue = c.loop-queue.queue in
    elim c.if-filled-queue.branch [
      | then-filled-queue+then-is_fewer w ↦
          let is_filled : slice_get filled queue ≡ Some true = slice_get-get_or filled queue false (omega arith) ∙ ap Some w.if-filled-queue.true in
          rw w.best-is (best-take tokens filled queue _ c.loop-queue.invariant c.loop-queue-test.true is_filled (OnTrue_at w.if-is_fewer.true w.is_fewer.ensures.fewer))
      | else-filled-queue w ↦ elim w.else-filled-queue.branch [
        | else-filled-queue-via-then-filled-queue+else-is_fewer w' ↦
            rw w.best-is (best-keep tokens filled queue _ c.loop-queue.invariant (λ _. OnFalse_at w'.if-is_fewer.false w'.is_fewer.ensures.others))
        | else-filled-queue-via-else-filled-queue w' ↦
            rw w.best-is (best-keep tokens filled queue _ c.loop-queue.invariant (λ is_filled. absurd (both_ways _ w'.if-filled-queue.false (get_or_from_slice_get filled queue true false is_filled))))
      ]
    ]

pub returns-clause-value : goal.returns-clause-value
returns-clause-value c =
    sym (picked_queue-is _ _ _ (omega arith) (best-done _ _ _ _ (omega arith) c.requires c.loop-queue.invariant).1)

pub returns-clause-in_range : goal.returns-clause-in_range
returns-clause-in_range c = (best-done _ _ _ _ (omega arith) c.requires c.loop-queue.invariant).0

pub returns-clause-filled : goal.returns-clause-filled
returns-clause-filled c = (best-done _ _ _ _ (omega arith) c.requires c.loop-queue.invariant).1.filled_itself

pub returns-clause-least : goal.returns-clause-least
returns-clause-least c = (best-done _ _ _ _ (omega arith) c.requires c.loop-queue.invariant).1.least
