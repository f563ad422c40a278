use Rattle.std.proofs.Common.{◌<◌, ◌≤◌, ap, ◌∙◌, refl, inr, arith, ⊎_elim}
use Rattle.std.proofs.lemmas.Bool.{cases_lt}
use Rattle.queue_store.specs.Queues.{list_of}
use Rattle.port_sched.specs.Classes.{Visit, four_allow, strict_turn}
use Rattle.port_sched.specs.PortDequeue.{cost_with}
use Rattle.port_sched.specs.Books.{visit_of}
use Rattle.port_sched.proofs.Longest.{front_cost-some, front_cost-none}
use Rattle.port_sched.proofs.Strict.{strict-over, strict-goes_on}
use Rattle.port_sched.proofs.serving.Serving.send_strict.Goals as goal

pub returns-in_default-clause-over : goal.returns-in_default-clause-over
returns-in_default-clause-over g c =
    let cost = cost_with g.T.Parcel.packet c.args.self.now.overhead in
    let none = front_cost-none cost (list_of c.args.class c.args.pipe.now.queues) c.in_default.ensures.exact in
    strict-over cost c.args.class (visit_of c.args.self.now c.args.level.now c.args.pipe.now c.args.out.now.items) (inr (λ waits. absurd (omega (arith, none, waits))))

pub returns-then-not-fits-clause-over : goal.returns-then-not-fits-clause-over
returns-then-not-fits-clause-over g c =
    let cost = cost_with g.T.Parcel.packet c.args.self.now.overhead in
    let v = visit_of c.args.self.now c.args.level.now c.args.pipe.now c.args.out.now.items in
    let some = front_cost-some cost (list_of c.args.class c.args.pipe.now.queues) c.in-Some.cost c.in-Some.ensures.exact in
    strict-over cost c.args.class v (inr (λ waits.
    ⊎_elim
    (λ (dear : four_allow c.args.class v < c.in-Some.cost). omega (arith, dear, some.1))
    (λ (fits : c.in-Some.cost ≤ four_allow c.args.class v). let wrong = c.if-not-fits.ensures.1 fits in absurd (cc))
    (cases_lt (four_allow c.args.class v) c.in-Some.cost)))

pub returns-clause-goes_on : goal.returns-clause-goes_on
returns-clause-goes_on g c =
    let cost = cost_with g.T.Parcel.packet c.args.self.now.overhead in
    let v = visit_of c.args.self.now c.args.level.now c.args.pipe.now c.args.out.now.items in
    let some = front_cost-some cost (list_of c.args.class c.args.pipe.now.queues) c.in-Some.cost c.in-Some.ensures.exact in
    let fits : c.in-Some.cost ≤ four_allow c.args.class v = c.if-not-fits.ensures.0 refl in
    ap (λ (u : Visit g.row.T.Denot). strict_turn cost u c.args.class) c.send.ensures.exact
    ∙ strict-goes_on cost c.args.class v (omega (arith, c.requires.ready.queues.lists, c.requires.class)) c.requires.room some.0 (omega (arith, fits, some.1))
