use Rattle.std.proofs.Common.{refl}
use Rattle.std.proofs.lemmas.Option.{slice_get_read}
use Rattle.qos_pipeline.specs.Turns.{HasTaken}
use Rattle.qos_pipeline.proofs.Changed.{set-changes}
use Rattle.qos_pipeline.proofs.ports.arrive_at.Goals as goal

pub arrive-requires-clause-ready : goal.arrive-requires-clause-ready
arrive-requires-clause-ready g c =
    let items = c.args.egresses.now.items in
    let there = slice_get_read items _ c.args.mbuf.pkt.port c.index_mut.result.now refl c.requires.port c.index_mut.ensures.value in
    (c.requires.may c.index_mut.result.now there).ready

pub arrive-requires-clause-place : goal.arrive-requires-clause-place
arrive-requires-clause-place g c =
    let items = c.args.egresses.now.items in
    let there = slice_get_read items _ c.args.mbuf.pkt.port c.index_mut.result.now refl c.requires.port c.index_mut.ensures.value in
    (c.requires.may c.index_mut.result.now there).place

pub arrive-requires-clause-few : goal.arrive-requires-clause-few
arrive-requires-clause-few g c =
    let items = c.args.egresses.now.items in
    let there = slice_get_read items _ c.args.mbuf.pkt.port c.index_mut.result.now refl c.requires.port c.index_mut.ensures.value in
    (c.requires.may c.index_mut.result.now there).few

pub returns-clause-taken : goal.returns-clause-taken
returns-clause-taken g c =
    let items = c.args.egresses.now.items in
    let there = slice_get_read items _ c.args.mbuf.pkt.port c.index_mut.result.now refl c.requires.port c.index_mut.ensures.value in
    let a = c.arrive.ensures in
    set-changes (HasTaken c.arrive.result c.args.mbuf) items c.args.mbuf.pkt.port c.index_mut.result.now c.arrive.new.self there
    (record { ready = a.ready; opened = a.opened; arrivals = a.arrivals; halted = a.halted; carries = a.carries; stays = a.stays })
