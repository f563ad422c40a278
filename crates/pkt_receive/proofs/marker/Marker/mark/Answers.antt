use Rattle.std.proofs.Common.{◌==◌, arith}
use Rattle.std.proofs.lemmas.List.Sums.{count_by-le-length, length-filter}
use Rattle.meter_table.specs.declared.mark.Mark.{Mark}
use Rattle.pkt_receive.proofs.marker.Marker.mark.Goals as goal

pub mark-mark-requires-clause-few : goal.mark-mark-requires-clause-few
mark-mark-requires-clause-few g c =
    let m = c.args.self.now in
    let test = λ (mark : Mark). mark.meter == c.args.meter in
    rw (m.kept c.args.meter, length-filter) (omega (arith, count_by-le-length test m.marks.items, c.requires.few))
