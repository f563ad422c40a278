use Rattle.std.proofs.lemmas.List.{append-nil, append_assoc}
use Rattle.std.proofs.lemmas.List.Concat.{flat_map-append}
use Rattle.profile_print.specs.Text.{meter_block}
use Rattle.profile_print.proofs.meter.write_meter.Goals as goal

pub returns : goal.returns
unfolding meter_block
returns c =
    rw (c.in_ok-write_actions.ensures, c.in_ok-number-2.ensures, c.in_ok-number.ensures, c.in_ok-write_front.ensures, c.in_ok-head.ensures, c.size_word.ensures, c.as_slice.ensures)
    (simp (append_assoc, append-nil, flat_map-append))
