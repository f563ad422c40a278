use Rattle.std.proofs.Common.{◌<◌, ◌+◌, [], List, Some, length, take, drop, refl, sym, ap, subst, ◌∙◌, arith}
use Rattle.std.specs.List.{flat_map, slice_get}
use Rattle.std.proofs.lemmas.List.{get_or_default, length-set}
use Rattle.queue_store.specs.Queues.{Queues, list_of}
use Rattle.port_sched.specs.Books.{pipe_of, IsPipeBooks}
use Rattle.port_sched.specs.Port.{pipe_emptied}
use Rattle.port_sched.proofs.Pieces.{Drains, first-drained, rest-drained, same-drained, empty-drained}
use Rattle.port_sched.proofs.Places.{pipe-drained, pipe-same}
use Rattle.port_sched.proofs.Filled.{none-left}
use Rattle.port_sched.proofs.pipe.PipeBooks.drain_out.Goals as goal
use Rattle.port_sched.proofs.pipe.PipeBooks.drain_out.Goals.{In-Some, In_default}
use Rattle.port_sched.proofs.pipe.PipeBooks.drain_out.Given.{Over}

abbrev lists-at : (g : Over) (c : In-Some g) → List (List g.row.T.Denot)
lists-at g c = c.loop-queue.self.queues.lists

drains :
    (g : Over) (c : In-Some g) →
    Drains (λ ts. ts) (lists-at g c) c.loop-queue.queue (list_of c.loop-queue.queue c.loop-queue.self.queues) (drop 1 (list_of c.loop-queue.queue c.loop-queue.self.queues)) (Some c.in-Some.t)
drains g c =
    let inside : c.loop-queue.queue < length (lists-at g c) = omega arith in
    record {
      inside = inside;
      here = get_or_default (lists-at g c) c.loop-queue.queue [] _ inside;
      before = c.loop-queue.invariant.before;
      first = c.in-Some.ensures.first;
      rest = refl;
    }

pub returns-then-not-has_packet-clause-first : goal.returns-then-not-has_packet-clause-first
returns-then-not-has_packet-clause-first g c =
    sym (ap (λ ts. slice_get ts 0) (none-left c.args.self.now.queues.lists (sym c.has_packet.ensures ∙ c.if-not-has_packet.true)))

pub returns-then-not-has_packet-clause-rest : goal.returns-then-not-has_packet-clause-rest
returns-then-not-has_packet-clause-rest g c =
    let none = none-left c.args.self.now.queues.lists (sym c.has_packet.ensures ∙ c.if-not-has_packet.true) in
    none ∙ sym (ap (drop 1) none)

pub returns-in-Some-clause-first : goal.returns-in-Some-clause-first
returns-in-Some-clause-first g c =
    first-drained (λ ts. ts) (lists-at g c) c.loop-queue.queue _ _ _ (drains g c) c.in-Some.t refl ∙ ap (λ ts. slice_get ts 0) c.loop-queue.invariant.left

pub returns-in-Some-clause-rest : goal.returns-in-Some-clause-rest
returns-in-Some-clause-rest g c =
    ap (λ (q : Queues g.row.T.Denot). flat_map (λ ts. ts) q.lists) c.in-Some.ensures.rest
    ∙ rest-drained (λ ts. ts) (lists-at g c) c.loop-queue.queue _ _ _ (drains g c) c.in-Some.t refl ∙ ap (drop 1) c.loop-queue.invariant.left

pub returns-in-Some-clause-same : goal.returns-in-Some-clause-same
returns-in-Some-clause-same g c =
    ap (λ (q : Queues g.row.T.Denot). pipe_emptied (pipe_of (record c.loop-queue.self { queues = q }))) c.in-Some.ensures.rest
    ∙ pipe-same c.loop-queue.self c.loop-queue.queue ∙ c.loop-queue.invariant.same

pub returns-in-Some-clause-sound : goal.returns-in-Some-clause-sound
returns-in-Some-clause-sound g c = λ ticked was.
    subst (λ q. IsPipeBooks g.T.Parcel.packet ticked (record c.loop-queue.self { queues = q })) (sym c.in-Some.ensures.rest)
    (pipe-drained g.T.Parcel.packet ticked c.loop-queue.self c.loop-queue.queue (omega arith) (c.loop-queue.invariant.sound ticked was))

-- the queue is empty, and all is as it was
none-there :
    (g : Over) (c : In_default g) →
    Drains (λ ts. ts) c.loop-queue.self.queues.lists c.loop-queue.queue (list_of c.loop-queue.queue c.loop-queue.self.queues) (drop 1 (list_of c.loop-queue.queue c.loop-queue.self.queues)) c.pop.result
none-there g c =
    let inside : c.loop-queue.queue < length c.loop-queue.self.queues.lists = omega arith in
    record {
      inside = inside;
      here = get_or_default c.loop-queue.self.queues.lists c.loop-queue.queue [] _ inside;
      before = c.loop-queue.invariant.before;
      first = c.pop.ensures.first;
      rest = refl;
    }

pub loop-queue-preserved : goal.loop-queue-preserved
loop-queue-preserved g c =
    let self = c.loop-queue.self in
    let lists = self.queues.lists in
    let k = c.loop-queue.queue in
    let rest = c.pop.ensures.rest in
    let d = none-there g c in
    let so_far = c.loop-queue.invariant in
    record {
      before = ap (λ (q : Queues g.row.T.Denot). flat_map (λ ts. ts) (take (k + 1) q.lists)) rest ∙ empty-drained (λ ts. ts) lists k _ _ _ d c.in_default.is;
      same = ap (λ (q : Queues g.row.T.Denot). pipe_emptied (pipe_of (record self { queues = q }))) rest ∙ pipe-same self k ∙ so_far.same;
      left = ap (λ (q : Queues g.row.T.Denot). flat_map (λ ts. ts) q.lists) rest ∙ same-drained (λ ts. ts) lists k _ _ _ d c.in_default.is ∙ so_far.left;
      level = so_far.level;
      queues = ap (λ (q : Queues g.row.T.Denot). length q.lists) rest ∙ length-set lists k (drop 1 (list_of k self.queues)) ∙ so_far.queues;
      sound = λ ticked was.
          subst (λ q. IsPipeBooks g.T.Parcel.packet ticked (record self { queues = q })) (sym rest)
          (pipe-drained g.T.Parcel.packet ticked self k d.inside (so_far.sound ticked was));
    }
