use Rattle.std.proofs.Common.{◌≡◌, ℕ, length, set, drop, sym, ap, ◌∙◌, arith}
use Rattle.std.specs.List.{slice_get}
use Rattle.std.proofs.lemmas.List.{length-set}
use Rattle.std.proofs.lemmas.List.Elements.{All-set}
use Rattle.port_sched.specs.Port.{left_in}
use Rattle.port_sched.specs.Books.{pipe_up_to}
use Rattle.port_sched.proofs.Pieces.{DrainsAt, first-at, rest-at, same-at, empty-at}
use Rattle.port_sched.proofs.Places.{subport-keeps, read-keeps, subport-emptied, up_to-emptied, its_bit, knows-set, knows-within, knows-bit}
use Rattle.port_sched.proofs.subport.SubportBooks.drain_out.Goals as goal
use Rattle.port_sched.proofs.subport.SubportBooks.drain_out.Goals.{After-change}
use Rattle.port_sched.proofs.subport.SubportBooks.drain_out.Given.{Over}

drains :
    (g : Over) (c : After-change g) (moment : ℕ) →
    DrainsAt (pipe_up_to moment) left_in c.loop-pipe.self.pipes.items c.loop-pipe.pipe c.index_mut-books.result.now c.drain_out-first.new.self c.drain_out-first.result
drains g c moment = record {
  inside = omega arith;
  here = c.index_mut-books.ensures.value;
  before = c.loop-pipe.invariant.before moment;
  first = c.drain_out-first.ensures.first;
  rest = c.drain_out-first.ensures.rest;
}

-- the pipe's bit follows it
bits : (g : Over) (c : After-change g) → c.change.new.self ≡ set c.loop-pipe.self.active c.loop-pipe.pipe (its_bit c.drain_out-first.new.self)
bits g c = c.change.ensures ∙ ap (set c.loop-pipe.self.active c.loop-pipe.pipe) c.has_packet-has.ensures

pub change-requires-clause-within : goal.change-requires-clause-within
change-requires-clause-within g c =
    knows-within c.loop-pipe.self.pipes.items c.loop-pipe.self.active c.loop-pipe.pipe c.loop-pipe.invariant.active (omega arith)

pub change-requires-clause-had : goal.change-requires-clause-had
change-requires-clause-had g c =
    knows-bit c.loop-pipe.self.pipes.items c.loop-pipe.self.active c.loop-pipe.pipe c.index_mut-books.result.now c.loop-pipe.invariant.active
    c.index_mut-books.ensures.value (omega arith)
    ∙ sym c.has_packet-had.ensures

pub returns-in-Some-clause-first : goal.returns-in-Some-clause-first
returns-in-Some-clause-first g c = λ moment.
    let d = drains g (goal.at.returns-in-Some-clause-first g c).After-change moment in
    sym c.in-Some.is ∙ first-at (pipe_up_to moment) left_in _ _ _ _ _ d c.in-Some.t c.in-Some.is ∙ ap (λ ts. slice_get ts 0) (c.loop-pipe.invariant.left moment)

pub returns-in-Some-clause-rest : goal.returns-in-Some-clause-rest
returns-in-Some-clause-rest g c = λ moment.
    let d = drains g (goal.at.returns-in-Some-clause-rest g c).After-change moment in
    rest-at (pipe_up_to moment) left_in _ _ _ _ _ d c.in-Some.t c.in-Some.is ∙ ap (drop 1) (c.loop-pipe.invariant.left moment)

pub returns-in-Some-clause-same : goal.returns-in-Some-clause-same
returns-in-Some-clause-same g c = λ moment.
    subport-emptied moment c.loop-pipe.self c.loop-pipe.pipe c.index_mut-books.result.now c.drain_out-first.new.self c.index_mut-books.ensures.value (up_to-emptied moment c.index_mut-books.result.now c.drain_out-first.new.self c.drain_out-first.ensures.level c.drain_out-first.ensures.same)
    ∙ c.loop-pipe.invariant.same moment

pub returns-in-Some-clause-sound : goal.returns-in-Some-clause-sound
returns-in-Some-clause-sound g c = λ ticked before.
    let was = c.loop-pipe.invariant.sound ticked before in
    let old = read-keeps g.T.Parcel.packet ticked c.loop-pipe.self c.loop-pipe.pipe c.index_mut-books.result.now was (omega arith) c.index_mut-books.ensures.value in
    subport-keeps g.T.Parcel.packet ticked c.loop-pipe.self c.loop-pipe.pipe c.drain_out-first.new.self c.change.new.self (bits g (goal.at.returns-in-Some-clause-sound g c).After-change) was (c.drain_out-first.ensures.sound ticked old)

pub loop-pipe-preserved : goal.loop-pipe-preserved
loop-pipe-preserved g c =
    let d = drains g (goal.at.loop-pipe-preserved g c).After-change in
    let items = c.loop-pipe.self.pipes.items in
    let k = c.loop-pipe.pipe in
    let new = c.drain_out-first.new.self in
    record {
      before = λ moment. empty-at (pipe_up_to moment) left_in _ _ _ _ _ (d moment) c.in_default.is;
      left = λ moment. same-at (pipe_up_to moment) left_in _ _ _ _ _ (d moment) c.in_default.is ∙ c.loop-pipe.invariant.left moment;
      same = λ moment. subport-emptied moment c.loop-pipe.self k c.index_mut-books.result.now new c.index_mut-books.ensures.value (up_to-emptied moment c.index_mut-books.result.now c.drain_out-first.new.self c.drain_out-first.ensures.level c.drain_out-first.ensures.same)
          ∙ c.loop-pipe.invariant.same moment;
      count = length-set items k new ∙ c.loop-pipe.invariant.count;
      queues = All-set (λ p. length p.queues.lists ≡ 16) items k new c.drain_out-first.ensures.queues c.loop-pipe.invariant.queues;
      active = bits g (goal.at.loop-pipe-preserved g c).After-change ∙ knows-set items c.loop-pipe.self.active k new c.loop-pipe.invariant.active;
      sound = λ ticked before.
          let was = c.loop-pipe.invariant.sound ticked before in
          let old = read-keeps g.T.Parcel.packet ticked c.loop-pipe.self k c.index_mut-books.result.now was (omega arith) c.index_mut-books.ensures.value in
          subport-keeps g.T.Parcel.packet ticked c.loop-pipe.self k new c.change.new.self (bits g (goal.at.loop-pipe-preserved g c).After-change) was (c.drain_out-first.ensures.sound ticked old);
    }
