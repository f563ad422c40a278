use Rattle.std.proofs.Common.{◌≡◌, ◌∙◌, ◌∷◌, [], ℕ, List, Option, Some, length, map, slice_get}
use Rattle.std.proofs.Common.{string_bytes, length-append, sym, ap, subst, arith}
use Rattle.port_files.proofs.Places.{text-at}
use Rattle.port_files.proofs.Creations.{IsTry, named-more, others-more, sure-more, tried-more, tried-refused}
use Rattle.port_files.proofs.create.create_all.Goals as goal

pub returns-in_err-create_one-clause-created : goal.returns-in_err-create_one-clause-created
returns-in_err-create_one-clause-created g c = λ tells.
    let names : List (List ℕ) = map string_bytes c.args.names.now in
    let was = c.loop-name.invariant in
    let here : slice_get names c.loop-name.name-index ≡ Some c.as_str.result.now =
    text-at c.args.names.now c.loop-name.name-index c.name-item.result c.loop-name-test.true c.name-item.is
    ∙ ap Some (sym c.as_str.ensures.value) in
    let try : IsTry g.H.Shelf names (length c.loop-name.outs.items) c.as_str.result.now c.loop-name.shelf c.create_one.new.shelf = record {
      differ = c.requires.apart;
      here = subst (λ (i : ℕ). slice_get names i ≡ Some c.as_str.result.now) (sym was.count) here;
      changes = c.create_one.ensures.others;
      tells = was.others.tells.1 tells;
    } in
    tried-refused g.H.Shelf names g.H.Out.Sink c.args.shelf.now c.loop-name.shelf c.create_one.new.shelf c.loop-name.outs.items
    c.as_str.result.now try (was.created tells) (c.in_err-create_one.ensures.memory (was.others.tells.1 tells))

pub returns-in_err-create_one-clause-others : goal.returns-in_err-create_one-clause-others
returns-in_err-create_one-clause-others g c =
    let names : List (List ℕ) = map string_bytes c.args.names.now in
    let here : slice_get names c.loop-name.name-index ≡ Some c.as_str.result.now =
    text-at c.args.names.now c.loop-name.name-index c.name-item.result c.loop-name-test.true c.name-item.is
    ∙ ap Some (sym c.as_str.ensures.value) in
    others-more g.H.Shelf names c.loop-name.name-index c.as_str.result.now here c.loop-name.invariant.others c.create_one.ensures.others

pub loop-name-preserved : goal.loop-name-preserved
loop-name-preserved g c =
    let names : List (List ℕ) = map string_bytes c.args.names.now in
    let outs : List (Option g.row.H-Out.Denot) = c.loop-name.outs.items in
    let was = c.loop-name.invariant in
    let one = c.in_ok-create_one.ensures in
    let at : slice_get names c.loop-name.name-index ≡ Some c.as_str.result.now =
    text-at c.args.names.now c.loop-name.name-index c.name-item.result c.loop-name-test.true c.name-item.is
    ∙ ap Some (sym c.as_str.ensures.value) in
    let here : slice_get names (length outs) ≡ Some c.as_str.result.now =
    subst (λ (i : ℕ). slice_get names i ≡ Some c.as_str.result.now) (sym was.count) at in
    record {
      count = omega (arith, ap length c.push_reserved.ensures.items, length-append outs (c.in_ok-create_one.field-0 ∷ []));
      room = c.push_reserved.ensures.capacity ∙ was.room;
      named = rw c.push_reserved.ensures.items
          (named-more g.H.Shelf names g.H.Out.Sink outs c.as_str.result.now here c.in_ok-create_one.field-0 was.named one.named);
      created = λ tells.
          let try : IsTry g.H.Shelf names (length outs) c.as_str.result.now c.loop-name.shelf c.create_one.new.shelf = record {
            differ = c.requires.apart;
            here = here;
            changes = c.create_one.ensures.others;
            tells = was.others.tells.1 tells;
          } in
          rw c.push_reserved.ensures.items
          (tried-more g.H.Shelf names g.H.Out.Sink c.args.shelf.now c.loop-name.shelf c.create_one.new.shelf outs c.as_str.result.now try
          (was.created tells) c.in_ok-create_one.field-0 was.others.never_falls (one.created (was.others.tells.1 tells)));
      sure = rw c.push_reserved.ensures.items
          (sure-more g.H.Shelf names g.H.Out.Sink outs c.as_str.result.now here c.in_ok-create_one.field-0 c.args.shelf.now was.sure
          (λ sure. one.sure ((was.others.same_to_write c.as_str.result.now).1 sure)));
      others = others-more g.H.Shelf names c.loop-name.name-index c.as_str.result.now at was.others c.create_one.ensures.others;
    }
