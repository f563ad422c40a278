use Rattle.std.proofs.Common.{◌≡◌, [], take, refl, sym, ap, subst, arith}
use Rattle.qos_base.specs.declared.packet.Pkt.{Pkt}
use Rattle.pkt_slots.specs.Placed.{IsPlaced}
use Rattle.pkt_receive.proofs.Sorted.{fate-of-bytes, received-lost, received-packet}
use Rattle.pkt_receive.proofs.receive.sort.Goals as goal

pub invariant_of-result : goal.invariant_of-result
invariant_of-result g c =
    let is = c.packet.ensures [] in
    let cap : c.packet.result.cap ≡ c.args.head.now.cap = ap (λ (p : Pkt). p.cap) is in
    let wire : c.packet.result.wire ≡ c.args.head.now.wire = ap (λ (p : Pkt). p.wire) is in
    record {
      fits = omega (arith, cap, c.requires.fits);
      captured = omega (arith, cap, wire, c.requires.captured);
      limit = omega (arith, cap, c.requires.slot, c.limits.ensures.pool.slot_bytes.1);
    }

pub returns-in-Lost-clause-received : goal.returns-in-Lost-clause-received
returns-in-Lost-clause-received g c =
    let fate = c.in_ok-reason.field-0 in
    let of = c.in_ok-reason.ensures.value in
    let is = fate-of-bytes _ _ _ c.args.head.now _ _ of.0 fate c.deref.ensures.value of.2 in
    (of.0, of.1, received-lost _ _ _ _ _ of.0 fate c.in-Lost.reason c.in-Lost.is is)

pub returns-in-Admitted-clause-received : goal.returns-in-Admitted-clause-received
returns-in-Admitted-clause-received g c =
    let head = c.args.head.now in
    let fate = c.in_ok-reason.field-0 in
    let of = c.in_ok-reason.ensures.value in
    let is = fate-of-bytes _ _ _ head _ _ of.0 fate c.deref.ensures.value of.2 in
    let packet = c.packet.ensures (take head.cap c.args.bytes.items) in
    let to = c.in-Admitted in
    (of.0, of.1, received-packet _ _ _ _ _ of.0 fate to.place to.colour _ to.is packet refl is)

pub returns-in-Admitted-clause-place : goal.returns-in-Admitted-clause-place
returns-in-Admitted-clause-place g c =
    subst (λ (packet : Pkt). IsPlaced c.args.p.now packet) (sym (c.packet.ensures c.deref.result.now))
    (c.in_ok-reason.ensures.place c.in-Admitted.place c.in-Admitted.colour c.in-Admitted.is c.args.head.now.index)
