use Rattle.std.proofs.Common.{◌<◌, ◌≤◌, ℕ, ◌+◌, refl, sym, ◌∙◌, subst, inl, inr, arith}
use Rattle.std.specs.Prelude.{slice_get}
use Rattle.port_sched.specs.PortDequeue.{active_count, pipe_count}
use Rattle.port_sched.specs.Stage.{stage, course_of}
use Rattle.port_sched.proofs.PortTurns.{GoesTo-itself, GoesTo-then, left_over, left_over-falls, counts_miss, counts_send, active-within, HaveVisited-start, HaveVisited-more, HaveVisited-over, HaveVisited-steps}
use Rattle.port_sched.proofs.port.PortSched.visits.Goals as goal

pub loop-left-init : goal.loop-left-init
loop-left-init g c = record {
  so_far = HaveVisited-start g.T.Parcel.packet c.args.subport (pipe_count g.T.Parcel.packet
      (slice_get c.args.self.now.subports c.args.subport)) (course_of c.args.first (stage c.args.self.now c.args.room c.args.out.now)) c.args.steps.now;
  goes = GoesTo-itself c.args.first (stage c.args.self.now c.args.room c.args.out.now);
  pipes = refl;
}

pub loop-left-preserved-then-after-left : goal.loop-left-preserved-then-after-left
loop-left-preserved-then-after-left g c =
    let packet = g.T.Parcel.packet in
    let so_far = c.loop-left.invariant in
    let done = c.visit-after.ensures in
    let few = subst (λ n. c.loop-left.misses < n) c.active.ensures c.if-misses-active.true in
    let most =
    subst (λ n. active_count packet (slice_get c.loop-left.self.subports c.args.subport) ≤ n) so_far.pipes
    (active-within packet (slice_get c.loop-left.self.subports c.args.subport)) in
    let counts = counts_miss c.visit-after.result c.loop-left.left c.loop-left.misses c.if-after-left.true in
    record {
      so_far = HaveVisited-more packet c.args.subport _ _ _ c.loop-left.misses (c.loop-left.misses + 1) _ _ _
          (course_of c.args.first (stage c.visit-after.new.self c.visit-after.result c.visit-after.new.out)) so_far.so_far
          done.steps c.loop-left-test.true few most done.goes.room done.exact counts;
      goes = GoesTo-then c.args.first _ _ _ so_far.goes done.goes;
      pipes = done.pipes ∙ so_far.pipes;
    }

pub loop-left-preserved : goal.loop-left-preserved
loop-left-preserved g c =
    let packet = g.T.Parcel.packet in
    let so_far = c.loop-left.invariant in
    let done = c.visit-after.ensures in
    let few = subst (λ n. c.loop-left.misses < n) c.active.ensures c.if-misses-active.true in
    let most =
    subst (λ n. active_count packet (slice_get c.loop-left.self.subports c.args.subport) ≤ n) so_far.pipes
    (active-within packet (slice_get c.loop-left.self.subports c.args.subport)) in
    let counts = counts_send c.visit-after.result c.loop-left.left c.loop-left.misses c.if-after-left.false in
    record {
      so_far = HaveVisited-more packet c.args.subport _ _ _ c.loop-left.misses 0 _ _ _
          (course_of c.args.first (stage c.visit-after.new.self c.visit-after.result c.visit-after.new.out)) so_far.so_far
          done.steps c.loop-left-test.true few most done.goes.room done.exact counts;
      goes = GoesTo-then c.args.first _ _ _ so_far.goes done.goes;
      pipes = done.pipes ∙ so_far.pipes;
    }

pub loop-left-smaller-then-after-left : goal.loop-left-smaller-then-after-left
loop-left-smaller-then-after-left g c =
    let packet = g.T.Parcel.packet in
    let pipes : ℕ = pipe_count packet (slice_get c.loop-left.self.subports c.args.subport) in
    let few = subst (λ n. c.loop-left.misses < n) c.active.ensures c.if-misses-active.true in
    let counts = counts_miss c.visit-after.result c.loop-left.left c.loop-left.misses c.if-after-left.true in
    let falls =
    left_over-falls pipes (active_count packet (slice_get c.loop-left.self.subports c.args.subport)) c.loop-left.left
    c.visit-after.result c.loop-left.misses (c.loop-left.misses + 1) c.loop-left-test.true few
    (active-within packet (slice_get c.loop-left.self.subports c.args.subport)) c.visit-after.ensures.goes.room counts in
    subst (λ p. left_over p c.visit-after.result (c.loop-left.misses + 1) < left_over pipes c.loop-left.left c.loop-left.misses)
    (sym c.visit-after.ensures.pipes) falls

pub loop-left-smaller : goal.loop-left-smaller
loop-left-smaller g c =
    let packet = g.T.Parcel.packet in
    let pipes : ℕ = pipe_count packet (slice_get c.loop-left.self.subports c.args.subport) in
    let few = subst (λ n. c.loop-left.misses < n) c.active.ensures c.if-misses-active.true in
    let counts = counts_send c.visit-after.result c.loop-left.left c.loop-left.misses c.if-after-left.false in
    let falls =
    left_over-falls pipes (active_count packet (slice_get c.loop-left.self.subports c.args.subport)) c.loop-left.left
    c.visit-after.result c.loop-left.misses 0 c.loop-left-test.true few
    (active-within packet (slice_get c.loop-left.self.subports c.args.subport)) c.visit-after.ensures.goes.room counts in
    subst (λ p. left_over p c.visit-after.result 0 < left_over pipes c.loop-left.left c.loop-left.misses)
    (sym c.visit-after.ensures.pipes) falls

pub returns-else-misses-active-clause-exact : goal.returns-else-misses-active-clause-exact
returns-else-misses-active-clause-exact g c =
    HaveVisited-over g.T.Parcel.packet c.args.subport _ _ _ _ _ _ c.loop-left.invariant.so_far
    (inr (subst (λ n. n ≤ c.loop-left.misses) c.active.ensures c.if-misses-active.false))

pub returns-after-loop-left-clause-exact : goal.returns-after-loop-left-clause-exact
returns-after-loop-left-clause-exact g c =
    HaveVisited-over g.T.Parcel.packet c.args.subport _ _ _ _ _ _ c.loop-left.invariant.so_far (inl (omega arith))

pub returns-else-misses-active-clause-steps : goal.returns-else-misses-active-clause-steps
returns-else-misses-active-clause-steps g c =
    HaveVisited-steps g.T.Parcel.packet c.args.subport _ _ _ _ _ _ c.loop-left.invariant.so_far

pub returns-after-loop-left-clause-steps : goal.returns-after-loop-left-clause-steps
returns-after-loop-left-clause-steps g c =
    HaveVisited-steps g.T.Parcel.packet c.args.subport _ _ _ _ _ _ c.loop-left.invariant.so_far
