use Rattle.std.proofs.Common.{◌+◌, get_or, vec_len, arith, ap, sym, ◌∙◌, subst}
use Rattle.std.proofs.lemmas.Option.{slice_get-get_or, slice_get_within}
use Rattle.qos_base.specs.declared.packet.Colour.TheVariants.{Green}
use Rattle.meter_table.specs.declared.mark.Mark.{Mark}
use Rattle.meter_table.proofs.Filled.{Placed, place_mine, place_other, all_placed}
use Rattle.meter_table.proofs.gather.place.Goals as goal
use Rattle.meter_table.proofs.gather.place.Goals.{then-mark-meter, else-mark-meter}

abbrev no_mark : Mark
no_mark = record { meter = 0; turn = 0; input = 0; index = 0; at = 0; len = 0; pre = Green; colour = Green }

pub index_mut-requires : goal.index_mut-requires
index_mut-requires c =
    let i = c.loop-mark.mark-index in
    let marks = c.args.marks.now in
    let at = slice_get-get_or marks i no_mark (omega arith) in
    let need = c.requires in
    let turn = slice_get_within need.0 _ _ (need.1.stand i _ at c.if-mark-meter.true) in
    omega (arith, need.2, c.loop-mark.invariant.count)

pub loop-mark-preserved : goal.loop-mark-preserved
loop-mark-preserved c =
    let i = c.loop-mark.mark-index in
    let marks = c.args.marks.now in
    let at = slice_get-get_or marks i no_mark (omega arith) in
    let need = c.requires in
    let was = c.loop-mark.invariant in
    let meter = c.args.meter in
    let log = c.loop-mark.log.items in
    let mark : Mark = get_or marks i no_mark in
    elim c.if-mark-meter.branch [
      | then-mark-meter w ↦ record {
        stand = subst (Placed meter marks (i + 1)) (sym (ap (λ v. v.items) w.log-is)) (place_mine meter marks need.0 log i mark need.1 (omega (arith, need.2, was.count)) was.stand at w.if-mark-meter.true);
        count = ap vec_len w.log-is ∙ was.count;
      }
      | else-mark-meter w ↦ record {
        stand = subst (Placed meter marks (i + 1)) (sym (ap (λ v. v.items) w.log-is)) (place_other meter marks log i mark was.stand at w.if-mark-meter.false);
        count = ap vec_len w.log-is ∙ was.count;
      }
    ]

pub returns : goal.returns
returns c full fills lengths =
    let was = c.loop-mark.invariant in
    all_placed c.args.meter c.args.marks.now full c.loop-mark.log.items c.loop-mark.mark-index (omega arith) fills (omega (arith, lengths, was.count)) was.stand
