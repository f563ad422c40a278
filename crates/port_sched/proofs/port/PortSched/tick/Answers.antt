use Rattle.std.proofs.Common.{List, sym, ap, ◌∙◌}
use Rattle.port_sched.specs.Subport.{Subport}
use Rattle.port_sched.specs.Port.{Port, tick}
use Rattle.port_sched.proofs.Buckets.{subports-later}
use Rattle.port_sched.proofs.port.PortSched.tick.Goals as goal

pub returns : goal.returns
returns g c =
    let s = c.self.inside in
    let with_subports = λ (subports : List (Subport g.row.T.Denot)). let port : Port g.row.T.Denot = record { overhead = s.overhead; mtu = s.mtu; time = s.time; ticked = s.time; cursor = s.cursor; subports = subports } in port in
    ap with_subports (sym (subports-later g.T.Parcel.packet s.ticked s.time c.self.invariant.not_ahead c.periods_add_up.ensures c.multiples_add_up.ensures s.subports.items c.self.invariant.each))
    ∙ ap (λ (p : Port g.row.T.Denot). tick p.time p) c.self.view_is
