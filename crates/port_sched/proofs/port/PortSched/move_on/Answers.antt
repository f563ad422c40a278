use Rattle.std.proofs.Common.{◌≡◌, length, ap, ◌∙◌, sym, arith}
use Rattle.std.proofs.lemmas.List.{length-map}
use Rattle.port_sched.specs.Books.{subport_up_to}
use Rattle.port_sched.proofs.port.PortSched.move_on.Goals as goal

pub overflow_add-subport : goal.overflow_add-subport
overflow_add-subport g c =
    let count : length c.args.self.now.subports ≡ length c.self.inside.subports.items =
    sym (ap (λ p. length p.subports) c.self.view_is) ∙ length-map c.self.inside.subports.items (subport_up_to c.self.inside.ticked) in
    omega (arith, c.len-subports.ensures, c.self.inside.subports.ok.0)
