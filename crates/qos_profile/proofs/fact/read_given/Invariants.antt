use Rattle.std.proofs.Common.{◌≡◌, drop, map, find}
use Rattle.qos_profile.specs.Table.{row_view}
use Rattle.qos_profile.specs.Heads.{fits}
use Rattle.qos_profile.proofs.fact.read_given.Given as goal

abbrev pub invariant-loop-row : goal.invariant-loop-row
invariant-loop-row l =
    find (λ key. fits key.words (map (λ w. w.now) l.words)) (map row_view (drop l.row-index l.rows)) ≡ find (λ key. fits key.words (map (λ w. w.now) l.words)) (map row_view l.rows)
