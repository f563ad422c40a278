use Rattle.std.proofs.Common.{◌≡◌, Ok, Err, length, set, sym, subst, length-set, arith}
use Rattle.std.proofs.lemmas.List.{with_items_is}
use Rattle.std.proofs.lemmas.Option.{slice_get-get_or}
use Rattle.qos_pipeline.specs.Turns.{HasDrained, HaveDrained}
use Rattle.qos_pipeline.proofs.Changed.{set-changes}
use Rattle.qos_pipeline.proofs.Drained.{drained-none, drained-more, drained-halted, drained-all, ready-next, refused-any}
use Rattle.qos_pipeline.proofs.ports.drain_all.Goals as goal

pub loop-egress-init : goal.loop-egress-init
loop-egress-init g c = rw c.deref_mut-egress-items.ensures.value (drained-none c.args.egresses.now.items)

pub drain-requires : goal.drain-requires
drain-requires g c =
    let items = c.loop-egress.egress-items in
    let i = c.loop-egress.egress-index in
    let there = slice_get-get_or items i c.egress-item.result
    (omega (arith, c.loop-egress-test.true, c.loop-egress.auto.egress-items)) in
    record { ready = ready-next i c.args.egresses.now.items items _ c.loop-egress.invariant c.requires.ready there }

pub returns-in_err-drain : goal.returns-in_err-drain
returns-in_err-drain g c =
    let old = c.args.egresses.now in
    let items = c.loop-egress.egress-items in
    let i = c.loop-egress.egress-index in
    let d = c.in_err-drain.ensures in
    let x = c.in_err-drain.field-0.0 in
    let there = slice_get-get_or items i c.egress-item.result
    (omega (arith, c.loop-egress-test.true, c.loop-egress.auto.egress-items)) in
    let changes = set-changes (HasDrained (Err x)) items i _ c.drain.new.self there
    (record { drained = tt; halted = d.halted; arrivals = d.arrivals; carries = d.carries; stays = d.stays }) in
    let last = set items i c.drain.new.self in
    let all = drained-halted i old.items items last c.loop-egress.invariant c.advances_go_by_steps.ensures x changes in
    let size : length last ≡ old.len = omega (arith, length-set items i c.drain.new.self, c.loop-egress.invariant.count, old.ok.0) in
    subst (HaveDrained c.from_residual.result old.items) (sym (with_items_is old last size))
    (refused-any c.from_residual.result x old.items last c.from_residual.ensures.0 all)

pub loop-egress-preserved : goal.loop-egress-preserved
loop-egress-preserved g c =
    let items = c.loop-egress.egress-items in
    let i = c.loop-egress.egress-index in
    let d = c.in_ok-drain.ensures in
    let there = slice_get-get_or items i c.egress-item.result
    (omega (arith, c.loop-egress-test.true, c.loop-egress.auto.egress-items)) in
    let changes = set-changes (HasDrained (Ok tt)) items i _ c.drain.new.self there
    (record { drained = d.drained; halted = tt; arrivals = d.arrivals; carries = d.carries; stays = d.stays }) in
    drained-more i c.args.egresses.now.items items _ c.loop-egress.invariant changes

pub returns : goal.returns
returns g c =
    let old = c.args.egresses.now in
    let items = c.loop-egress.egress-items in
    let all = drained-all c.loop-egress.egress-index old.items items c.loop-egress.invariant
    (omega (arith, c.loop-egress-test.false, c.loop-egress.auto.egress-items)) in
    let size : length items ≡ old.len = omega (arith, c.loop-egress.invariant.count, old.ok.0) in
    subst (HaveDrained (Ok tt) old.items) (sym (with_items_is old items size)) all
