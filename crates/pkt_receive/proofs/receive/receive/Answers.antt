use Rattle.std.proofs.Common.{◌<◌, List, ℕ, take, subst, ◌∙◌}
use Rattle.std.specs.Result.{IfOk}
use Rattle.std.proofs.lemmas.List.{with_items_is}
use Rattle.qos_pcap.specs.Heads.{recorded}
use Rattle.pkt_receive.proofs.Sorted.{IsMade, if-ok, made-few, sorted, sorted-long}
use Rattle.pkt_receive.proofs.receive.receive.Goals as goal

pub returns-in-Ok-clause-received : goal.returns-in-Ok-clause-received
returns-in-Ok-clause-received g c = λ records stop gives.
    let head = c.args.head.now in
    let given = c.in-Ok.ensures.body head records stop c.requires.next gives in
    let long : c.args.p.now.pool.slot_bytes < head.cap = rw (← c.p.view_is) c.if-head-p.true in
    let r = recorded head given.0 in
    (r, given.1, given.2, sorted-long c.args.p.now c.args.marker.now c.args.input head.index r long, given.3)

pub returns-in-Ok-body_into_front-clause-received :
    goal.returns-in-Ok-body_into_front-clause-received
returns-in-Ok-body_into_front-clause-received g c =
    let p = c.args.p.now in
    let input = c.args.input in
    let head = c.args.head.now in
    let old = c.args.marker.now in
    let new = c.sort.new.marker in
    let slot : List ℕ = c.body_into_front.new.slot in
    let r = recorded head (take head.cap slot) in
    let items = with_items_is c.in-Ok-take.bytes slot (c.body_into_front.auto.slot ∙ c.deref_mut.ensures.len) in
    let Sorted : List ℕ → Type 0 = λ held.
    IfOk c.sort.result (IsMade p old new input head.index (recorded head (take head.cap held))) in
    if-ok _ c.sort.result c.map_err.result c.map_err.ensures.cases (subst Sorted items c.sort.ensures.received)
    (λ received is. λ records stop gives.
    let given = c.in-Ok-body_into_front.ensures.body head records stop c.requires.next gives in
    (r, given.0, given.1, sorted p old new input head.index r received is, given.2))

pub returns-in-Ok-body_into_front-clause-marks :
    goal.returns-in-Ok-body_into_front-clause-marks
returns-in-Ok-body_into_front-clause-marks g c =
    let old = c.args.marker.now in
    let new = c.sort.new.marker in
    if-ok _ c.sort.result c.map_err.result c.map_err.ensures.cases c.sort.ensures.received
    (λ received is. made-few c.args.p.now old new c.args.input c.args.head.now.index _ received is)
