-- The numbers of an input, of which some are sums over the ports.
use Rattle.std.specs.Prelude.{◌≡◌, ℕ, ◌+◌, List, [], ◌∷◌}
use Rattle.std.specs.List.{sum_by}
use Rattle.qos_io.specs.declared.source.Source.{Ghosts}
use Rattle.pkt_receive.specs.declared.receive.Receiver.{Receiver}
use Rattle.run_journal.specs.declared.ended.PortEnd.{PortEnd}
use Rattle.run_report.specs.declared.ended.InputEnd.{InputEnd}
use Rattle.qos_main.specs.declared.run.Sums.{Sums}

-- how many packets of a port were sent, wait or were turned away
abbrev pub ended_at : PortEnd → ℕ
ended_at end = end.counts.sent + end.counts.left + end.counts.tailfull + end.counts.unwritten

-- the sums of the numbers of these ports
abbrev pub sums_over : List PortEnd → Sums
sums_over ends = record {
  sent = sum_by (λ end. end.counts.sent) ends;
  left = sum_by (λ end. end.counts.left) ends;
  tailfull = sum_by (λ end. end.counts.tailfull) ends;
  unwritten = sum_by (λ end. end.counts.unwritten) ends;
}

-- the reasons' numbers, in their order: no slot is wanted, and the tails of queues are the ports'
abbrev pub reasons_of : {S : Type 0} {F : Ghosts S} → Receiver S F → Sums → List ℕ
reasons_of rx sums =
    rx.losses.unparsed ∷ rx.losses.unmatched ∷ rx.losses.oversize ∷ rx.losses.too_long ∷ 0 ∷ rx.losses.policed
    ∷ sums.tailfull ∷ []

-- the numbers of an input whose packets came to these sums
pub record IsEndOf {S : Type 0} {F : Ghosts S} (rx : Receiver S F) (sums : Sums) (end : InputEnd) : Type 0 where
  pub read : end.read ≡ rx.read
  pub sent : end.sent ≡ sums.sent
  pub left : end.left ≡ sums.left
  pub reasons : end.reasons ≡ reasons_of rx sums
  pub unwritten : end.unwritten ≡ sums.unwritten
  pub unslotted : end.unslotted ≡ []
  pub stopped : end.stopped ≡ rx.stopped
