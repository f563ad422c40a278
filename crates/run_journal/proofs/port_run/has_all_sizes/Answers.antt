use Rattle.std.proofs.Common.{◌≡◌, length, subst, sym, ◌∙◌, arith}
use Rattle.std.proofs.lemmas.List.{take_all}
use Rattle.std.proofs.lemmas.List.Elements.{All-more, All-same}
use Rattle.profile_plan.specs.declared.port.SubportPlan.{SubportPlan}
use Rattle.run_journal.proofs.port_run.has_all_sizes.Goals as goal

abbrev HasSizes : SubportPlan → Type 0
HasSizes s = length s.sizes ≡ 13

pub loop-subport-preserved : goal.loop-subport-preserved
loop-subport-preserved c =
    All-more HasSizes c.as_slice-subport-items.result.now c.loop-subport.subport-index c.subport-item.result (omega arith) c.loop-subport.invariant
    (subst HasSizes c.subport-item.is c.is_all_sizes.ensures)

pub returns : goal.returns
returns c =
    All-same HasSizes _ _ (sym (c.as_slice-subport-items.ensures) ∙ sym (take_all c.loop-subport.subport-index c.as_slice-subport-items.result.now (omega arith))) c.loop-subport.invariant
