use Rattle.std.proofs.lemmas.List.{append-nil, append_assoc}
use Rattle.std.proofs.lemmas.List.Concat.{flat_map-append}
use Rattle.profile_print.specs.Text.{pipe_kind_block}
use Rattle.profile_print.proofs.shaping.write_pipe_kind.Goals as goal

pub returns : goal.returns
unfolding pipe_kind_block
returns c =
    rw (c.in_ok-number.ensures, c.in_ok-write_weights.ensures, c.in_ok-write_shaping.ensures, c.in_ok-head.ensures, c.from.ensures, c.from-2.ensures)
    (simp (append_assoc, append-nil, flat_map-append))
