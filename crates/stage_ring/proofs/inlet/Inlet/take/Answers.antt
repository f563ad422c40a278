use Rattle.std.proofs.Common.{◌∙◌, ap, sym, subst, inr, rules}
use Rattle.std.proofs.lemmas.List.{length-set}
use Rattle.crossbeam_queue.specs.Passes.{view}
use Rattle.stage_ring.specs.declared.line.Known.{Known}
use Rattle.stage_ring.specs.History.{is_fin}
use Rattle.stage_ring.proofs.Histories.{Marks, marks_fin, marks_parcel}
use Rattle.stage_ring.proofs.Rings.{receives, learns}
use Rattle.stage_ring.proofs.inlet.Inlet.take.Goals as goal

pub pop_as-requires-clause-rule : goal.pop_as-requires-clause-rule
pop_as-requires-clause-rule g c = (receives _ _ c.args.self.now.takes, learns _ _ (inr c.args.self.now.takes))

pub invariant_of-self-in-Fin : goal.invariant_of-self-in-Fin
invariant_of-self-in-Fin g c =
    let was = c.args.self.now in
    let x = c.in-Some.field-0 in
    let got = c.in-Some.ensures.rule.view in
    record {
      own = search rules;
      takes = ap (λ (v : Known). v.takes) got ∙ was.takes;
      one_mark_each = length-set was.ended.items x.from _ ∙ was.one_mark_each ∙ sym (ap (λ (v : Known). v.senders) got);
      marked = subst (Marks _) (sym (ap (λ (v : Known). v.taken) got)) (marks_fin was.ended.items (view was.pass).taken x was.marked (ap is_fin c.in-Fin.is));
    }

pub invariant_of-self-in_default : goal.invariant_of-self-in_default
invariant_of-self-in_default g c =
    let was = c.args.self.now in
    let x = c.in-Some.field-0 in
    let got = c.in-Some.ensures.rule.view in
    record {
      own = search rules;
      takes = ap (λ (v : Known). v.takes) got ∙ was.takes;
      one_mark_each = was.one_mark_each ∙ sym (ap (λ (v : Known). v.senders) got);
      marked = subst (Marks was.ended.items) (sym (ap (λ (v : Known). v.taken) got)) (marks_parcel was.ended.items (view was.pass).taken x was.marked (ap is_fin c.in_default.is));
    }
