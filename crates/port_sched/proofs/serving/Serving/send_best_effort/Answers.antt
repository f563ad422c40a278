use Rattle.std.proofs.Common.{◌≡◌, ◌<◌, ◌≤◌, ◌+◌, List, true, length, take, drop, subst, refl, sym, ap, ◌∙◌, inr, arith, ⊎_elim}
use Rattle.std.proofs.lemmas.Bool.{cases_lt}
use Rattle.std.specs.Prelude.{slice_get, Contains}
use Rattle.wrr_pick.specs.RoundRobin.{picked_queue}
use Rattle.queue_store.specs.Queues.{list_of}
use Rattle.port_sched.specs.Sends.{total_cost}
use Rattle.port_sched.specs.Pipe.{Pipe}
use Rattle.port_sched.specs.Classes.{picked, best_effort_allows, best_effort_turn}
use Rattle.port_sched.specs.PortDequeue.{cost_with}
use Rattle.port_sched.specs.Books.{visit_of, pipe_of}
use Rattle.port_sched.proofs.Filled.{any-none, filled-waits, some-filled}
use Rattle.port_sched.proofs.Longest.{front_cost-some, front_cost-none}
use Rattle.port_sched.proofs.Draws.{after_pick-is, drawn-is, best_effort-over, best_effort-dear, best_effort-goes_on}
use Rattle.port_sched.proofs.serving.Serving.send_best_effort.Goals as goal

pub returns-then-not-best_effort_waits-clause-over : goal.returns-then-not-best_effort_waits-clause-over
returns-then-not-best_effort_waits-clause-over g c =
    let cost = cost_with g.T.Parcel.packet c.args.self.now.overhead in
    let v = visit_of c.args.self.now c.args.level.now c.args.pipe.now c.args.out.now.items in
    let idle = sym c.best_effort_waits.ensures ∙ c.if-not-best_effort_waits.true in
    best_effort-over cost v (inr (any-none c.args.pipe.now.queues.lists 12 _ idle)) (inr idle)

pub pick-queue-requires : goal.pick-queue-requires
pick-queue-requires g c =
    let some = sym c.best_effort_waits.ensures ∙ c.if-not-best_effort_waits.false in
    subst (λ f. Contains f true) (sym c.filled-filled.ensures) (some-filled (drop 12 c.args.pipe.now.queues.lists) some)

pub returns-in_default-clause-over : goal.returns-in_default-clause-over
returns-in_default-clause-over g c =
    let cost = cost_with g.T.Parcel.packet c.args.self.now.overhead in
    let filled_is = ap (λ f. slice_get f c.pick-queue.result) (sym c.filled-filled.ensures) ∙ c.pick-queue.ensures.filled in
    let waits = filled-waits c.args.pipe.now.queues.lists c.pick-queue.result filled_is in
    let none = front_cost-none cost (list_of (12 + c.pick-queue.result) c.args.pipe.now.queues) c.in_default.ensures.exact in
    absurd (omega (arith, waits, none))

pub returns-then-not-best_effort_fits-clause-over : goal.returns-then-not-best_effort_fits-clause-over
returns-then-not-best_effort_fits-clause-over g c =
    let cost = cost_with g.T.Parcel.packet c.args.self.now.overhead in
    let v = visit_of c.args.self.now c.args.level.now c.args.pipe.now c.args.out.now.items in
    let some = front_cost-some cost (list_of (12 + c.pick-queue.result) c.args.pipe.now.queues) c.in-Some.cost c.in-Some.ensures.exact in
    let queue : c.pick-queue.result ≡ picked v.pipe = c.pick-queue.ensures.queue ∙ ap (picked_queue v.pipe.round.tokens) c.filled-filled.ensures in
    let same = ap (λ q. list_of (12 + q) v.pipe.queues) queue in
    let after = after_pick-is v.pipe c.pick-queue.new.self c.filled-filled.result c.filled-filled.ensures c.pick-queue.ensures.tokens c.pick-queue.ensures.factors in
    let dear : best_effort_allows v < c.in-Some.cost =
    ⊎_elim
    (λ (over : best_effort_allows v < c.in-Some.cost). over)
    (λ (fits : c.in-Some.cost ≤ best_effort_allows v). let wrong = c.if-not-best_effort_fits.ensures.1 fits in absurd (cc))
    (cases_lt (best_effort_allows v) c.in-Some.cost) in
    ap (λ (p : Pipe g.row.T.Denot). record v { pipe = p }) after
    ∙ best_effort-dear cost v c.requires.room (sym c.best_effort_waits.ensures ∙ c.if-not-best_effort_waits.false)
    (subst (λ (ts : List g.row.T.Denot). 0 < length ts) same some.0)
    (omega (arith, dear, some.1, ap (λ (ts : List g.row.T.Denot). total_cost cost (take 1 ts)) same))

pub returns-clause-goes_on : goal.returns-clause-goes_on
returns-clause-goes_on g c =
    let cost = cost_with g.T.Parcel.packet c.args.self.now.overhead in
    let v = visit_of c.args.self.now c.args.level.now c.args.pipe.now c.args.out.now.items in
    let some = front_cost-some cost (list_of (12 + c.pick-queue.result) c.args.pipe.now.queues) c.in-Some.cost c.in-Some.ensures.exact in
    let queue : c.pick-queue.result ≡ picked v.pipe = c.pick-queue.ensures.queue ∙ ap (picked_queue v.pipe.round.tokens) c.filled-filled.ensures in
    let same = ap (λ q. list_of (12 + q) v.pipe.queues) queue in
    let after = after_pick-is v.pipe c.pick-queue.new.self c.filled-filled.result c.filled-filled.ensures c.pick-queue.ensures.tokens c.pick-queue.ensures.factors in
    let fits : c.in-Some.cost ≤ best_effort_allows v = c.if-not-best_effort_fits.ensures.0 refl in
    let drawn = drawn-is cost v c.pick-queue.result c.in-Some.cost (record v.pipe { round = c.pick-queue.new.self }) (pipe_of c.charge.new.self) queue some.1 after c.charge.ensures.exact in
    ap (best_effort_turn cost) (c.send.ensures.exact ∙ drawn)
    ∙ best_effort-goes_on cost v c.requires.room
    (subst (λ (ts : List g.row.T.Denot). 0 < length ts) same some.0)
    (omega (arith, fits, some.1, ap (λ (ts : List g.row.T.Denot). total_cost cost (take 1 ts)) same))
