use Rattle.std.proofs.Common.{◌≡◌, None}
use Rattle.qos_pcap.specs.Given.{untaken}
use Rattle.io_tests.proofs.capture_seen.read_records.Given as goal

abbrev pub invariant-loop : goal.invariant-loop
invariant-loop g l = untaken l.capture ≡ None
