use Rattle.std.proofs.Common.{◌≡◌, ◌<◌, ◌∙◌, Option, IsSome, Some, length, get_or, sym, ap, arith, length-append, length-drop}
use Rattle.std.specs.Option.{option_flatten, option_to_list}
use Rattle.std.specs.Vec.Iter.{into_iter_items}
use Rattle.std.proofs.lemmas.Option.{slice_get-get_or}
use Rattle.qos_pipeline.proofs.Begun.{begun-all, begun-more}
use Rattle.qos_pipeline.proofs.Places.{next-of, written-back}
use Rattle.qos_pipeline.proofs.outputs.begin_all.Goals as goal

flatten-is : {X : Type 0} (r : Option (Option X)) (out x : Option X) → out ≡ option_flatten r → r ≡ Some x → out ≡ x
flatten-is r out x is so = is ∙ ap option_flatten so

one-of : {X : Type 0} (r : Option X) (x : X) → r ≡ Some x → length (option_to_list r) ≡ 1
one-of r x so = ap (λ r. length (option_to_list r)) so

pub begin-requires : goal.begin-requires
begin-requires g c =
    let i = c.loop-egress.egress-index in
    let es = c.loop-egress.egress-items in
    let e = get_or es i c.egress-item.result in
    let within : i < length es = omega (arith, c.loop-egress-test.true, c.loop-egress.auto.egress-items) in
    record {
      unbegun =
          c.requires.unbegun i e
          (sym (c.loop-egress.invariant.begun.same i (omega arith)) ∙ slice_get-get_or es i c.egress-item.result within);
    }

pub loop-egress-preserved : goal.loop-egress-preserved
loop-egress-preserved g c =
    let i = c.loop-egress.egress-index in
    let es = c.loop-egress.egress-items in
    let outs = c.args.outs.items in
    let was = c.loop-egress.invariant in
    let within : i < length es = omega (arith, c.loop-egress-test.true, c.loop-egress.auto.egress-items) in
    let here : i < length outs = omega (arith, within, was.begun.count, c.requires.count) in
    let there : IsSome c.next.result = c.next.ensures.variant.1
    (omega (arith, was.left, ap length was.rest, length-drop i outs, here)) in
    let next = next-of outs i c.next.result (into_iter_items c.next.new.self) here there (sym was.rest ∙ c.next.ensures.items) in
    let out : c.flatten.result ≡ next.0 = flatten-is c.next.result c.flatten.result next.0 c.flatten.ensures next.1 in
    let one : length (option_to_list c.next.result) ≡ 1 = one-of c.next.result next.0 next.1 in
    record {
      begun = begun-more outs c.args.egresses.now.items i es c.flatten.result (get_or es i c.egress-item.result) c.begin.new.self was.begun
          (next.2 ∙ ap Some (sym out)) (slice_get-get_or es i c.egress-item.result within) (record {
            port = c.begin.ensures.port;
            ready = c.begin.ensures.ready;
            opened = c.begin.ensures.opened;
            carries = c.begin.ensures.carries;
            stays = c.begin.ensures.stays;
          });
      rest = next.3;
      left = omega (
        arith,
        one,
        c.next.ensures.len,
        was.left,
        ap length c.next.ensures.items,
        length-append (option_to_list c.next.result) (into_iter_items c.next.new.self),
      );
    }

pub returns : goal.returns
returns g c =
    let es = c.loop-egress.egress-items in
    let was = c.loop-egress.invariant in
    let old = c.args.egresses.now in
    rw (written-back es old.items old.len was.begun.count (omega (arith, was.begun.count, old.ok.0)))
    (begun-all c.args.outs.items old.items c.loop-egress.egress-index es was.begun (omega (arith, c.loop-egress-test.false, c.loop-egress.auto.egress-items)))
