use Rattle.std.proofs.Common.{◌≡◌, drop, find, not}
use Rattle.std.specs.Option.{option_map}
use Rattle.qos_profile.specs.Naming.{names_of_fact}
use Rattle.qos_profile.proofs.naming.unnamed_fact.Given as goal

abbrev pub invariant-loop-fact : goal.invariant-loop-fact
invariant-loop-fact l =
    option_map (λ fact. fact.line) (find (λ fact. not (names_of_fact l.sections l.head l.facts fact)) (drop l.fact-index l.facts)) ≡ option_map (λ fact. fact.line) (find (λ fact. not (names_of_fact l.sections l.head l.facts fact)) l.facts)
