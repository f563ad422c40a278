use Rattle.std.proofs.Common.{◌≡◌, ◌≤◌, ◌+◌, ◌*◌, ◌%◌, length, drop, sym, ap, ◌∙◌, subst, arith}
use Rattle.std.proofs.lemmas.List.{length-map, drop_all}
use Rattle.port_sched.specs.PortDequeue.{Course, dequeue_port}
use Rattle.port_sched.specs.Visits.{visit_steps}
use Rattle.port_sched.specs.Books.{subport_up_to}
use Rattle.port_sched.specs.Stage.{stage, course_of}
use Rattle.port_sched.proofs.PortTurns.{GoesTo-then, HaveTurned-more, HaveTurned-all, HaveTurned-steps, dequeue_port-is, dequeue_visits-is, sends-after, count-after}
use Rattle.port_sched.proofs.port.PortSched.dequeue.Goals as goal

pub loop-ahead-preserved : goal.loop-ahead-preserved
loop-ahead-preserved g c =
    let port = c.move_to.new.self in
    let inside = c.self.inside in
    let so_far = c.loop-ahead.invariant in
    let done = c.turn-left.ensures in
    let cursor : inside.cursor ≡ port.cursor = ap (λ p. p.cursor) c.self.view_is in
    let count : c.len-subports.result ≡ length port.subports =
    omega (
      arith,
      c.len-subports.ensures,
      inside.subports.ok.0,
      length-map inside.subports.items (subport_up_to inside.ticked),
      ap
          (λ p. length p.subports) c.self.view_is,
    ) in
    let place =
    c.around.ensures ∙ ap (λ n. (n + c.loop-ahead.ahead) % c.len-subports.result) cursor ∙ ap (λ n. (port.cursor + c.loop-ahead.ahead) % n) count in
    record {
      so_far = HaveTurned-more g.T.Parcel.packet _ _ c.loop-ahead.ahead _ _ _ _
          (course_of c.len-first.result (stage c.turn-left.new.self c.turn-left.result c.turn-left.new.out)) so_far.so_far
          done.steps (omega (arith, count)) place done.exact;
      goes = GoesTo-then c.len-first.result _ _ _ so_far.goes done.goes;
    }

pub returns : goal.returns
returns g c =
    let packet = g.T.Parcel.packet in
    let port = c.move_to.new.self in
    let held = c.args.out.now.items in
    let goes = c.loop-ahead.invariant.goes in
    let first : c.len-first.result ≡ length held = omega (arith, c.len-first.ensures, c.args.out.now.ok.0) in
    let count : c.len-subports.result ≡ length port.subports =
    omega (
      arith,
      c.len-subports.ensures,
      c.self.inside.subports.ok.0,
      length-map c.self.inside.subports.items (subport_up_to c.self.inside.ticked),
      ap
          (λ p. length p.subports) c.self.view_is,
    ) in
    let over : length port.subports ≤ c.loop-ahead.ahead = omega (arith, count) in
    let none = drop_all c.len-first.result held (omega arith) in
    let course : Course g.row.T.Denot = course_of c.len-first.result (stage c.loop-ahead.self c.loop-ahead.left c.loop-ahead.out) in
    let whole : course ≡ dequeue_port packet c.args.now c.args.room c.args.self.now =
    HaveTurned-all packet _ _ c.loop-ahead.ahead course _ c.loop-ahead.invariant.so_far over
    ∙ sym (dequeue_port-is packet c.args.now c.args.room c.args.self.now port (drop c.len-first.result held) c.move_to.ensures none) in
    let sent : length c.loop-ahead.out.items + c.loop-ahead.left ≡ length held + c.args.room =
    omega (arith, goes.sent, c.loop-ahead.out.ok.0, c.args.out.now.ok.0) in
    record {
      state = ap (λ d. d.port) whole;
      sends = sends-after held c.loop-ahead.out.items _ c.len-first.result first goes.held (ap (λ d. d.sends) whole);
      count = count-after held c.loop-ahead.out.items _ c.len-first.result c.args.room c.loop-ahead.left first sent goes.room
          (ap (λ d. d.sends) whole);
      capacity = goes.capacity;
      steps = subst (λ n. c.loop-ahead.steps ≤ c.args.steps.now + visit_steps * n)
          (sym (dequeue_visits-is packet c.args.now c.args.room c.args.self.now port (drop c.len-first.result held) c.move_to.ensures none))
          (HaveTurned-steps packet _ _ c.loop-ahead.ahead course _ c.loop-ahead.invariant.so_far);
    }
