-- qos_profile/proofs/build/subport/pipes/Answers.antt
use Rattle.std.proofs.Common.{◌≡◌, ◌∙◌, ap, subst, arith, min, drop, get_or, length}
use Rattle.qos_profile.specs.Lookups.{number_at}
use Rattle.qos_profile.proofs.Building.{fits-pipes, pipes-all}
use Rattle.qos_profile.proofs.build.subport.pipes.Goals as goal

pub give-requires : goal.give-requires
give-requires c =
    omega (arith, (fits-pipes c.args.facts.now c.requires).0, ap length c.deref_mut.ensures.value, c.loop-place.invariant.count)

pub returns : goal.returns
returns c =
    let facts = c.args.facts.now in
    let first : c.loop-place.place ≡ 0 = omega arith in
    c.of.ensures ∙ pipes-all facts c.loop-place.pipes.items c.requires c.loop-place.invariant.count (λ k below. subst (λ p. get_or c.loop-place.pipes.items k 0 ≡ min 255 (number_at (drop p facts) 3 k 0)) first (c.loop-place.invariant.written k below))
