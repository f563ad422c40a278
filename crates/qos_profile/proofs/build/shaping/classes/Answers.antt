-- qos_profile/proofs/build/shaping/classes/Answers.antt
use Rattle.std.proofs.Common.{arith}
use Rattle.std.proofs.lemmas.List.FromFn.{fill_by_all}
use Rattle.qos_profile.specs.Lookups.{number_at}
use Rattle.qos_profile.proofs.build.shaping.classes.Goals as goal

pub returns : goal.returns
returns c =
    fill_by_all (λ class. number_at c.args.facts.now 3 class 0) c.loop-class.classes 13 0 c.loop-class.invariant.count (λ k below. c.loop-class.invariant.written k (omega arith))
