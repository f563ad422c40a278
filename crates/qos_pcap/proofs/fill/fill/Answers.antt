use Rattle.std.proofs.Common.{arith, sym, length-append, length-drop, length-take}
use Rattle.std.proofs.lemmas.Option.{MatchOption-at_some}
use Rattle.qos_pcap.proofs.Filling.{Took-more, filled_more, left_at}
use Rattle.qos_pcap.proofs.fill.fill.Goals as goal

pub loop-filled-preserved : goal.loop-filled-preserved
loop-filled-preserved g c =
    let i = c.loop-filled.invariant in
    record {
      within = simp (length-append, length-take, length-drop) (omega (arith, simp (length-take, length-drop) at c.in_ok-n.ensures.within, simp (length-take, length-drop) at c.read.auto.buf));
      took = Took-more _ _ _ _ _ _ _ _ _ _ i.took c.in_ok-n.ensures.bytes c.in_ok-n.ensures.left c.in_ok-n.ensures.faults;
      front = λ left e. filled_more _ _ left _ _ _ (i.took.within left e) (sym c.loop-filled.auto.buf) i.within (i.front left e) (MatchOption-at_some _ _ _ (left_at _ left i.took.left e) c.in_ok-n.ensures.bytes);
    }
