use Rattle.std.proofs.Common.{length, sym, ap, ◌∙◌}
use Rattle.std.specs.List.{flat_map}
use Rattle.std.proofs.lemmas.List.{take_all}
use Rattle.std.proofs.lemmas.List.Folds.{flat_map-map}
use Rattle.port_sched.specs.declared.subport.SubportBooks.{SubportBooks}
use Rattle.port_sched.specs.Port.{left_in_subport, queued}
use Rattle.port_sched.specs.Books.{subport_up_to}
use Rattle.port_sched.proofs.port.PortSched.queued.Goals as goal

pub returns : goal.returns
returns g c =
    let items = c.deref-subport-items.result.now in
    let subports = c.self.inside.subports.items in
    let waiting = λ (s : SubportBooks g.row.T.Denot). left_in_subport (subport_up_to c.self.inside.ticked s) in
    c.loop-subport.invariant.counted c.self.inside.ticked
    ∙ ap length (
    ap (flat_map waiting) (take_all c.loop-subport.subport-index items c.loop-subport-test.false ∙ c.deref-subport-items.ensures.value)
    ∙ sym (flat_map-map left_in_subport (subport_up_to c.self.inside.ticked) subports))
    ∙ ap queued c.self.view_is
