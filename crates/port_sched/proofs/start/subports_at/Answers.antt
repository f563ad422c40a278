use Rattle.std.proofs.Common.{arith, sym, ap, ◌∙◌}
use Rattle.port_sched.specs.Start.{subport_start}
use Rattle.port_sched.specs.Books.{subport_up_to, IsSubportBooks}
use Rattle.port_sched.proofs.Starts.{filter_map-more, map-pushed, All-pushed}
use Rattle.port_sched.proofs.start.subports_at.Goals as goal

pub loop-plan-preserved : goal.loop-plan-preserved
loop-plan-preserved g c =
    let plans = c.as_slice-plans.result.now in
    let i = c.loop-plan.plan-index in
    let start = subport_start {T = g.row.T.Denot} c.args.p.now c.args.port.now in
    let made = c.in_ok-subport_at.field-0 in
    let more = filter_map-more start plans i c.plan-item.result (subport_up_to 0 made) (omega arith) (ap start (sym c.plan-item.is) ∙ c.in_ok-subport_at.ensures.start) in
    record {
      start = map-pushed (subport_up_to 0) c.loop-plan.subports.items c.push.new.self.items made _ _ (subport_up_to 0 made) c.in_ok-push.ensures.items c.loop-plan.invariant.start (λ _. subport_up_to 0 made) more;
      sound = All-pushed (IsSubportBooks g.T.Parcel.packet 0) c.loop-plan.subports.items c.push.new.self.items made c.in_ok-push.ensures.items c.loop-plan.invariant.sound c.in_ok-subport_at.ensures.sound;
      count = omega (arith, c.in_ok-push.ensures.len, c.loop-plan.invariant.count);
    }
