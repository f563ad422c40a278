use Rattle.std.proofs.Common.{◌≡◌, ◌↔◌, sym, ap, ◌∙◌, subst}
use Rattle.std.specs.Prelude.{IsErr, IsTrue, slice_set}
use Rattle.std.proofs.lemmas.Result.{on_ok_weaker, IfErr-weaker}
use Rattle.port_sched.specs.Port.{with_arrival, is_full_at}
use Rattle.port_sched.specs.Books.{pipe_of}
use Rattle.port_sched.proofs.Places.{subport-set, subport-same, up_to-joined, up_to-same, read-keeps, subport-keeps}
use Rattle.port_sched.proofs.Visited.{pipe-there}
use Rattle.port_sched.proofs.subport.SubportBooks.arrive.Goals as goal

pub returns-clause-joined : goal.returns-clause-joined
returns-clause-joined g c =
    on_ok_weaker c.arrive-arrived.result
    (λ is moment. subport-set moment c.args.self.now c.args.pipe c.index_mut-books.result.now c.arrive-arrived.new.self c.index_mut-books.ensures.value (with_arrival c.args.queue c.args.t)
    (up_to-joined moment c.index_mut-books.result.now c.arrive-arrived.new.self c.arrive-arrived.ensures.level c.args.queue c.args.t is))
    c.arrive-arrived.ensures.joined

pub returns-clause-refused : goal.returns-clause-refused
returns-clause-refused g c =
    IfErr-weaker c.arrive-arrived.result
    (λ e. (e.parcel ≡ c.args.t) × (pipe_of c.arrive-arrived.new.self ≡ pipe_of c.index_mut-books.result.now))
    _
    (λ e told. (
      told.0,
      λ moment. subport-same moment c.args.self.now c.args.pipe c.index_mut-books.result.now c.arrive-arrived.new.self c.index_mut-books.ensures.value
          (up_to-same moment c.index_mut-books.result.now c.arrive-arrived.new.self c.arrive-arrived.ensures.level told.1),
    ))
    c.arrive-arrived.ensures.refused

pub returns-clause-full : goal.returns-clause-full
returns-clause-full g c = λ moment.
    subst (λ o. IsErr c.arrive-arrived.result ↔ IsTrue (is_full_at c.args.queue o))
    (sym (pipe-there c.args.self.now.pipes.items c.args.pipe c.index_mut-books.result.now c.index_mut-books.ensures.value c.requires.pipe moment))
    c.arrive-arrived.ensures.full

pub returns-clause-sound : goal.returns-clause-sound
returns-clause-sound g c = λ ticked was.
    let s = c.args.self.now in
    let old = read-keeps g.T.Parcel.packet ticked s c.args.pipe c.index_mut-books.result.now was c.requires.pipe c.index_mut-books.ensures.value in
    let bits = c.change.ensures ∙ ap (slice_set s.active c.args.pipe) c.has_packet-has.ensures in
    subport-keeps g.T.Parcel.packet ticked s c.args.pipe c.arrive-arrived.new.self c.change.new.self bits was (c.arrive-arrived.ensures.sound ticked old)
