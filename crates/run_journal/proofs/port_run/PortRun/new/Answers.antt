use Rattle.std.proofs.Common.{◌≡◌, refl, sym, ap, ◌∙◌}
use Rattle.std.specs.Option.{option_map}
use Rattle.std.proofs.lemmas.Option.{same_Some}
use Rattle.port_sched.specs.Start.{start_at}
use Rattle.run_journal.proofs.Runs.{Run, same_run, Sound-new}
use Rattle.run_journal.proofs.port_run.PortRun.new.Goals as goal

pub invariant_of-result : goal.invariant_of-result
invariant_of-result g c =
    let profile = c.args.p.now in
    let plan = c.port-plan.result.now in
    let is : start_at {T = g.row.T.Denot} profile plan ≡ c.in_ok-new.field-0 = same_Some _ _ (sym (ap (option_map (start_at profile)) c.port-plan.ensures.value) ∙ c.in_ok-new.ensures) in
    let run : Run g.row.T.Denot = record { pace = c.of.result; port = c.in_ok-new.field-0; pacer = c.new-2.result; journal = c.new-3.result.items; tally = record { arrived = 0; dropped = 0; sent = 0; dequeues = 0 } } in
    Sound-new g.T.Parcel.packet profile plan run c.port-plan.ensures.limits c.has_all_sizes.ensures (c.starts_within.ensures profile plan) (c.starts_within-2.ensures profile plan)
    (same_run run _ c.of.ensures.exact (sym is) c.new-2.ensures c.new-3.ensures.items refl)
