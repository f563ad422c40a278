use Rattle.std.proofs.Common.{◌≡◌, ◌↔◌, ◌<◌, ℕ, List, Option, length, map, ap, sym, subst, ◌∙◌, arith}
use Rattle.std.specs.Prelude.{IsErr, IsTrue, slice_get, option_and_then}
use Rattle.std.proofs.lemmas.List.{length-map, length-set}
use Rattle.std.proofs.lemmas.List.Elements.{All-get_or, All-set}
use Rattle.port_sched.proofs.Buckets.{IsPortSched-with}
use Rattle.port_sched.proofs.PortVisits.{subport-there}
use Rattle.qos_base.specs.declared.packet.Pkt.{Pkt}
use Rattle.std.proofs.Math.Seq.{map-set_same}
use Rattle.std.proofs.lemmas.Result.{on_ok_weaker, IfErr-weaker}
use Rattle.port_sched.specs.Port.{Port, at_pipe, in_subport, with_arrival, after_arrival, is_full, is_full_at}
use Rattle.port_sched.specs.Subport.{Subport}
use Rattle.port_sched.specs.Books.{subport_up_to, IsSubportBooks}
use Rattle.port_sched.proofs.Places.{at-set}
use Rattle.port_sched.proofs.Arrived.{subport-within}
use Rattle.port_sched.proofs.port.PortSched.arrive.Goals as goal
use Rattle.port_sched.proofs.port.PortSched.arrive.Goals.{After-self-1}
use Rattle.port_sched.proofs.port.PortSched.arrive.Given.{Over}

-- its subport is one of the port's
within : (g : Over) (c : After-self-1 g) → c.pkt-packet.result.subport < length c.self.inside.subports.items
within g c =
    let s = c.self.inside in
    let there = subport-within g.T.Parcel.packet c.args.t c.args.self.now c.requires in
    omega (
      arith,
      there,
      ap (λ (p : Pkt). p.subport) c.pkt-packet.ensures,
      ap (λ (port : Port g.row.T.Denot). length port.subports) c.self.view_is,
      length-map s.subports.items (subport_up_to s.ticked),
    )

pub returns-clause-joined : goal.returns-clause-joined
returns-clause-joined g c =
    let packet = c.pkt-packet.result in
    let s = c.self.inside in
    let step = in_subport packet.pipe (with_arrival packet.queue c.args.t) in
    let with_subports = λ (subports : List (Subport g.row.T.Denot)). let port : Port g.row.T.Denot = record { overhead = s.overhead; mtu = s.mtu; time = s.time; ticked = s.ticked; cursor = s.cursor; subports = subports } in port in
    on_ok_weaker c.arrive.result
    (λ is.
    ap with_subports (at-set (subport_up_to s.ticked) step s.subports.items packet.subport c.index_mut-subport.result.now c.arrive.new.self c.index_mut-subport.ensures.value (is s.ticked))
    ∙ ap (λ (p : Pkt). at_pipe p.subport p.pipe (with_arrival p.queue c.args.t) (with_subports (map (subport_up_to s.ticked) s.subports.items))) c.pkt-packet.ensures
    ∙ ap (after_arrival g.T.Parcel.packet c.args.t) c.self.view_is)
    c.arrive.ensures.joined

pub returns-clause-refused : goal.returns-clause-refused
returns-clause-refused g c =
    let s = c.self.inside in
    let packet = c.pkt-packet.result in
    let old = c.index_mut-subport.result.now in
    let new = c.arrive.new.self in
    IfErr-weaker c.arrive.result
    (λ e. (e.parcel ≡ c.args.t) × ((moment : ℕ) → subport_up_to moment new ≡ subport_up_to moment old))
    _
    (λ e told. (
      told.0,
      ap (λ (subports : List (Subport g.row.T.Denot)). let port : Port g.row.T.Denot = record { overhead = s.overhead; mtu = s.mtu; time = s.time; ticked = s.ticked; cursor = s.cursor; subports = subports } in port)
          (map-set_same (subport_up_to s.ticked) s.subports.items packet.subport new old (told.1 s.ticked ∙ ap (subport_up_to s.ticked) c.index_mut-subport.ensures.value))
          ∙ c.self.view_is,
    ))
    c.arrive.ensures.refused

pub returns-clause-full : goal.returns-clause-full
returns-clause-full g c =
    let s = c.self.inside in
    let packet = c.pkt-packet.result in
    let old = c.index_mut-subport.result.now in
    let there = subport-there s.ticked s.subports.items packet.subport old (within g c) c.index_mut-subport.ensures.value in
    let view : Port g.row.T.Denot = record { overhead = s.overhead; mtu = s.mtu; time = s.time; ticked = s.ticked; cursor = s.cursor; subports = map (subport_up_to s.ticked) s.subports.items } in
    subst (λ (port : Port g.row.T.Denot). IsErr c.arrive.result ↔ IsTrue (is_full (g.T.Parcel.packet c.args.t) port)) c.self.view_is
    (subst (λ (p : Pkt). IsErr c.arrive.result ↔ IsTrue (is_full p view)) c.pkt-packet.ensures
    (subst (λ (o : Option (Subport g.row.T.Denot)). IsErr c.arrive.result ↔ IsTrue (is_full_at packet.queue (option_and_then (λ x. slice_get x.pipes packet.pipe) o))) (sym there)
    (c.arrive.ensures.full s.ticked)))

pub invariant_of-self : goal.invariant_of-self
invariant_of-self g c =
    let s = c.self.inside in
    let sound = IsSubportBooks g.T.Parcel.packet s.ticked in
    let k = c.pkt-packet.result.subport in
    let old : sound c.index_mut-subport.result.now = subst sound (sym c.index_mut-subport.ensures.value)
    (All-get_or sound s.subports.items k c.index_mut-subport.result.now (within g c) c.self.invariant.each) in
    IsPortSched-with g.T.Parcel.packet s.ticked s.overhead s.mtu s.time s.cursor s.time s.subports.items _ c.self.invariant
    (length-set s.subports.items k c.arrive.new.self) c.self.invariant.not_ahead
    (All-set sound s.subports.items k c.arrive.new.self (c.arrive.ensures.sound s.ticked old) c.self.invariant.each)
