-- qos_profile/proofs/build/shaping/classes/Invariants.antt
use Rattle.std.proofs.Common.{◌≡◌, ℕ, ◌<◌, get_or, length}
use Rattle.qos_profile.specs.Lookups.{number_at}
use Rattle.qos_profile.proofs.build.shaping.classes.Given as goal

abbrev pub invariant-loop-class : goal.invariant-loop-class
invariant-loop-class l = record {
  count : length l.classes ≡ 13;
  written : (k : ℕ) → k < l.class → get_or l.classes k 0 ≡ number_at l.facts 3 k 0;
}
