use Rattle.std.proofs.Common.{◌≡◌, ℕ, Bool, Option, Some, length, slice_get, vec_capacity}
use Rattle.qos_io.specs.declared.sink.PutFault.{PutFault}
use Rattle.qos_pipeline.specs.Outputs.{IsSettled}
use Rattle.qos_pipeline.proofs.outputs.settle_all.Given as goal

-- the outputs so far are settled
abbrev pub invariant-loop-fault : goal.invariant-loop-fault
invariant-loop-fault l = record {
  count : length l.write_fault.items ≡ length l.yielded;
  room : vec_capacity l.write_fault ≡ vec_capacity l.fn.write_fault;
  settled : (n : ℕ) (fault : Option PutFault) (fails wrong : Bool) → slice_get l.faults n ≡ Some fault → slice_get l.failed n ≡ Some fails
      → slice_get l.write_fault.items n ≡ Some wrong → IsSettled fault fails wrong;
}
