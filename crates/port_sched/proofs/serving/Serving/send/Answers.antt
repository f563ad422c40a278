use Rattle.std.proofs.Common.{refl, sym, ap, ◌∙◌, subst, take, rules}
use Rattle.std.proofs.lemmas.List.{take-append-le}
use Rattle.port_sched.specs.Standing.{AreQueues}
use Rattle.port_sched.proofs.Visited.{AreQueues-without_front}
use Rattle.port_sched.proofs.serving.Serving.send.Goals as goal

pub returns-in-Some-clause-onward : goal.returns-in-Some-clause-onward
returns-in-Some-clause-onward g c = record {
  ready = record {
    overhead = c.requires.ready.overhead;
    time = search rules;
    first = search rules;
    space = search rules;
    queues = subst (AreQueues g.T.Parcel.packet) (sym c.pop.ensures.rest) (AreQueues-without_front g.T.Parcel.packet c.args.queue c.args.pipe.now.queues c.requires.queue c.requires.ready.queues);
  };
  overhead = refl;
  oversub = refl;
  first = refl;
  level = search rules;
  pipe = search rules;
  room = search rules;
  no_sooner = search rules;
  no_later = search rules;
  held = ap (take c.args.self.now.first) c.push_reserved.ensures.items ∙ take-append-le c.args.self.now.first c.args.out.now.items _ c.requires.ready.first;
  sent = search rules;
  capacity = search rules;
}
