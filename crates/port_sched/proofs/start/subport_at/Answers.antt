use Rattle.std.proofs.Common.{false, ap, ◌∙◌, arith}
use Rattle.std.specs.Prelude.{replicate}
use Rattle.port_sched.specs.Level.{Level}
use Rattle.port_sched.specs.Start.{kinds_of}
use Rattle.port_sched.proofs.Starts.{knows-start}
use Rattle.port_sched.proofs.start.subport_at.Goals as goal

pub returns-clause-sound : goal.returns-clause-sound
returns-clause-sound g c =
    let pipes = c.in_ok-pipes.pipes in
    record {
      level = c.new.ensures.sound;
      cursor = omega (arith, pipes.ok.0, c.in_ok-pipes.ensures.count, c.requires.subport.pipes.0);
      few = omega (arith, pipes.ok.0, c.in_ok-pipes.ensures.count, c.requires.subport.pipes.1);
      periods = omega (arith, ap (λ (l : Level). l.due) c.new.ensures.start, c.whole-plan.ensures.limits.tc_period.0);
      pipes = c.in_ok-pipes.ensures.sound;
      active = c.in_ok-none.ensures ∙ ap (λ n. replicate n false) (c.len.ensures ∙ pipes.ok.0)
          ∙ knows-start c.args.port.now.line c.args.s.now.sizes (kinds_of c.args.p.now c.args.s.now) pipes.items c.in_ok-pipes.ensures.start;
    }
