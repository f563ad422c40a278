-- qos_profile/proofs/build/subport/pipes/Invariants.antt
use Rattle.std.proofs.Common.{◌≡◌, ℕ, ◌<◌, min, length, get_or, drop}
use Rattle.qos_profile.specs.Lookups.{number_at}
use Rattle.qos_profile.proofs.build.subport.pipes.Given as goal

abbrev pub invariant-loop-place : goal.invariant-loop-place
invariant-loop-place l = record {
  count : length l.pipes.items ≡ number_at l.facts 1 0 0;
  written : (k : ℕ) → k < number_at l.facts 1 0 0 → get_or l.pipes.items k 0 ≡ min 255 (number_at (drop l.place l.facts) 3 k 0);
}
