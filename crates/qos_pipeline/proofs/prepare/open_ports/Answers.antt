use Rattle.std.proofs.Common.{◌≡◌, ◌≤◌, ◌∙◌, ◌∷◌, [], ℕ, Some, length, length-append, slice_get, sym, ap, subst, arith}
use Rattle.profile_plan.specs.Profile.{Plan}
use Rattle.qos_pipeline.proofs.Begun.{unbegun-more}
use Rattle.qos_pipeline.proofs.prepare.open_ports.Goals as goal

pub loop-port-preserved : goal.loop-port-preserved
loop-port-preserved g c =
    let was = c.loop-port.invariant in
    let es = c.loop-port.egresses.items in
    let f = c.in_ok-new.field-0 in
    let items = c.push_reserved.ensures.items in
    record {
      count = omega (arith, was.count, ap length items, length-append es (f ∷ []));
      room = subst (λ (room : ℕ). length c.as_slice-count.result.now ≤ room) (sym c.push_reserved.ensures.capacity) was.room;
      each = rw items (unbegun-more c.args.p.now c.args.origin es f was.each
          (λ plan at. c.in_ok-new.ensures plan (subst (λ (i : ℕ). slice_get c.args.p.now.ports i ≡ Some plan) was.count at)));
    }

pub returns : goal.returns
returns g c =
    let was = c.loop-port.invariant in
    let same : c.as_slice-count.result.now ≡ c.args.p.now.ports = c.as_slice-count.ensures ∙ ap (λ (p : Plan). p.ports) c.p.view_is in
    record {
      count = omega (arith, was.count, ap length same, c.loop-port-test.false, c.loop-port.auto.port-end);
      each = was.each;
    }
