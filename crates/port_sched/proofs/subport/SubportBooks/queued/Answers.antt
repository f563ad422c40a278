use Rattle.std.proofs.Common.{length, sym, ap, ◌∙◌, arith}
use Rattle.std.specs.List.{flat_map}
use Rattle.std.proofs.lemmas.List.{take_all}
use Rattle.std.proofs.lemmas.List.Folds.{flat_map-map}
use Rattle.port_sched.specs.Port.{left_in}
use Rattle.port_sched.specs.Books.{pipe_up_to}
use Rattle.port_sched.proofs.subport.SubportBooks.queued.Goals as goal

pub returns-clause-exact : goal.returns-clause-exact
returns-clause-exact g c = λ moment.
    let pipes = c.args.self.now.pipes.items in
    c.loop-pipe.invariant.counted
    ∙ ap length (
    ap (flat_map (λ p. left_in (pipe_up_to moment p))) (take_all c.loop-pipe.pipe-index pipes (omega (arith, c.loop-pipe-test.false, ap length c.deref-pipe-items.ensures.value)))
    ∙ sym (flat_map-map left_in (pipe_up_to moment) pipes))
