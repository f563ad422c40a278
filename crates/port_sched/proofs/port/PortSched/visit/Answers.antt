use Rattle.std.proofs.Common.{◌≡◌, ℕ, drop, sym, ap, ◌∙◌, subst, refl, arith}
use Rattle.std.proofs.lemmas.List.{length-set}
use Rattle.std.proofs.lemmas.List.Elements.{All-get_or, All-set}
use Rattle.port_sched.specs.Visit.{Service, visit_pipe}
use Rattle.port_sched.specs.PortDequeue.{Course, cost_with}
use Rattle.port_sched.specs.Books.{subport_up_to, service_up_to, IsSubportBooks}
use Rattle.port_sched.specs.Stage.{stage, course_of}
use Rattle.port_sched.proofs.Buckets.{IsPortSched-with}
use Rattle.port_sched.proofs.PortVisits.{visited-none, visited-some, pipe_count-kept, place-within}
use Rattle.port_sched.proofs.port.PortSched.visit.Goals as goal

pub visit-requires-clause-sound : goal.visit-requires-clause-sound
visit-requires-clause-sound g c =
    let packet = g.T.Parcel.packet in
    let is = c.self.view_is ∙ c.tick.ensures in
    let within = place-within c.self.inside.ticked c.self.inside.subports.items c.args.subport c.args.self.now _ is refl c.requires.ready.subport in
    let ticked : c.self.inside.ticked ≡ c.self.inside.time = ap (λ p. p.ticked) is ∙ sym (ap (λ p. p.time) is) in
    let sound =
    All-get_or (IsSubportBooks packet c.self.inside.ticked) c.self.inside.subports.items c.args.subport c.index_mut-visited.result.now
    within c.self.invariant.each in
    subst (λ t. IsSubportBooks packet t c.index_mut-visited.result.now) ticked
    (subst (λ s. IsSubportBooks packet c.self.inside.ticked s) (sym c.index_mut-visited.ensures.value) sound)

pub invariant_of-self-2 : goal.invariant_of-self-2
invariant_of-self-2 g c =
    let packet = g.T.Parcel.packet in
    let items = c.self.inside.subports.items in
    let is = c.self.view_is ∙ c.tick.ensures in
    let ticked : c.self.inside.time ≡ c.self.inside.ticked = ap (λ p. p.time) is ∙ sym (ap (λ p. p.ticked) is) in
    let new : IsSubportBooks packet c.self.inside.ticked c.visit.new.self =
    subst (λ t. IsSubportBooks packet t c.visit.new.self) ticked c.visit.ensures.sound in
    let all = All-set (IsSubportBooks packet c.self.inside.ticked) items c.args.subport c.visit.new.self new c.self.invariant.each in
    let later = c.visit.ensures.no_sooner in
    IsPortSched-with packet c.self.inside.ticked c.self.inside.overhead c.self.inside.mtu c.self.inside.time
    c.self.inside.cursor c.visit.new.serving.time items _ c.self.invariant (length-set items c.args.subport c.visit.new.self)
    (omega arith) all

pub returns-in_default-clause-exact : goal.returns-in_default-clause-exact
returns-in_default-clause-exact g c =
    let items = c.self.inside.subports.items in
    let visited = c.index_mut-visited.result.now in
    let is = c.self.view_is ∙ c.tick.ensures in
    let within = place-within c.self.inside.ticked items c.args.subport c.args.self.now _ is refl c.requires.ready.subport in
    let before : Course g.row.T.Denot = course_of c.args.first (stage c.args.self.now c.args.room c.args.out.now) in
    visited-none c.self.inside.ticked items c.args.subport visited within c.index_mut-visited.ensures.value g.T.Parcel.packet before _ is refl
    (sym (c.next_pipe.ensures.next c.self.inside.ticked) ∙ c.in_default.is)

pub returns-clause-exact : goal.returns-clause-exact
returns-clause-exact g c =
    let items = c.self.inside.subports.items in
    let visited = c.index_mut-visited.result.now in
    let is = c.self.view_is ∙ c.tick.ensures in
    let within = place-within c.self.inside.ticked items c.args.subport c.args.self.now _ is refl c.requires.ready.subport in
    let ticked : c.self.inside.ticked ≡ c.self.inside.time = ap (λ p. p.ticked) is ∙ sym (ap (λ p. p.time) is) in
    let before : Course g.row.T.Denot = course_of c.args.first (stage c.args.self.now c.args.room c.args.out.now) in
    let came : ℕ → Service g.row.T.Denot =
    λ n. record {
      subport = subport_up_to c.self.inside.ticked c.visit.new.self;
      time = c.visit.new.serving.time;
      room = c.visit.new.serving.room;
      sends =
          drop n c.visit.new.out.items;
    } in
    visited-some c.self.inside.ticked items c.args.subport visited within c.index_mut-visited.ensures.value g.T.Parcel.packet before _ is refl c.in-Some.pipe
    (sym (c.next_pipe.ensures.next c.self.inside.ticked) ∙ c.in-Some.is) c.visit.new.self (came c.args.first) refl
    (ap came (sym c.visit.ensures.same.2) ∙ subst (λ t. service_up_to t c.visit.new.serving c.visit.new.self c.visit.new.out.items ≡ visit_pipe (cost_with g.T.Parcel.packet c.self.inside.overhead) c.in-Some.pipe (record { subport = subport_up_to t visited; time = c.self.inside.time; room = c.args.room; sends = drop c.args.first c.args.out.now.items })) (sym ticked) c.visit.ensures.exact)

pub returns-in_default-clause-pipes : goal.returns-in_default-clause-pipes
returns-in_default-clause-pipes g c =
    let items = c.self.inside.subports.items in
    let visited = c.index_mut-visited.result.now in
    let is = c.self.view_is ∙ c.tick.ensures in
    let within = place-within c.self.inside.ticked items c.args.subport c.args.self.now _ is refl c.requires.ready.subport in
    pipe_count-kept c.self.inside.ticked items c.args.subport visited within c.index_mut-visited.ensures.value g.T.Parcel.packet c.args.self.now _ visited is
    refl refl

pub returns-clause-pipes : goal.returns-clause-pipes
returns-clause-pipes g c =
    let items = c.self.inside.subports.items in
    let visited = c.index_mut-visited.result.now in
    let is = c.self.view_is ∙ c.tick.ensures in
    let within = place-within c.self.inside.ticked items c.args.subport c.args.self.now _ is refl c.requires.ready.subport in
    pipe_count-kept c.self.inside.ticked items c.args.subport visited within c.index_mut-visited.ensures.value g.T.Parcel.packet c.args.self.now _
    c.visit.new.self is refl c.visit.ensures.kept
