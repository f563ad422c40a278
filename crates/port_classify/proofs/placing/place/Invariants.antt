use Rattle.std.proofs.Common.{◌≡◌, drop, find}
use Rattle.port_classify.specs.Place.{matches}
use Rattle.port_classify.proofs.placing.place.Given as goal

abbrev pub invariant-loop-rule : goal.invariant-loop-rule
invariant-loop-rule l = find (matches l.p l.input l.f) (drop l.rule-index l.rule-items) ≡ find (matches l.p l.input l.f) l.p.rules
