-- The account of an input: where each of its records went.
use Rattle.std.specs.Prelude.{◌≡◌, ℕ, ◌+◌, ◌-◌, List, [], length, sum, slice_index_or}
use Rattle.std.specs.List.{sum_by}
use Rattle.qos_base.specs.declared.reason.Reason.{Reason}
use Rattle.qos_base.specs.declared.reason.Reason.TheVariants.{TailFull}
use Rattle.qos_base.specs.Reason.{reason_number}
use Rattle.qos_pcap.specs.Format.{Record}
use Rattle.profile_plan.specs.Profile.{Plan}
use Rattle.pkt_receive.specs.Colours.{Colours}
use Rattle.pkt_receive.specs.Fate.{lost_for}
use Rattle.run_journal.specs.declared.ended.PortEnd.{PortEnd}
use Rattle.run_report.specs.declared.ended.InputEnd.{InputEnd}

-- how many of these records of an input are lost for a reason: at the tail of a queue by the numbers of the ports, else by their
-- fates, where the meters' marks have these colours
abbrev pub lost_to : Plan → Colours → ℕ → List Record → List PortEnd → Reason → ℕ
lost_to p colours input records ends TailFull = sum_by (λ end. end.counts.tailfull) ends
lost_to p colours input records ends reason = lost_for p colours input (reason_number reason) records

-- Each record that was read is sent, left, lost for one reason or unwritten, and `read` is the sum; what became of the admitted
-- ones is summed over the ports.
pub record IsAccount (p : Plan) (colours : Colours) (number : ℕ) (records : List Record) (ends : List PortEnd) (input : InputEnd) : Type 0 where
  pub read : input.read ≡ length records
  pub sent : input.sent ≡ sum_by (λ end. end.counts.sent) ends
  pub left : input.left ≡ sum_by (λ end. end.counts.left) ends
  pub unwritten : input.unwritten ≡ sum_by (λ end. end.counts.unwritten) ends
  pub reasons : (reason : Reason) → slice_index_or input.reasons (reason_number reason - 1) 0 ≡ lost_to p colours number records ends reason
  pub sum : input.read ≡ input.sent + input.left + sum input.reasons + input.unwritten
  pub unslotted : input.unslotted ≡ []
