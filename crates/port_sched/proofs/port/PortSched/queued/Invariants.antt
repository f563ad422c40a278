use Rattle.std.proofs.Common.{◌≡◌, ℕ, ◌*◌, ◌^◌, ◌≤◌, length, take}
use Rattle.std.specs.List.{flat_map}
use Rattle.port_sched.specs.Port.{left_in_subport}
use Rattle.port_sched.specs.Books.{subport_up_to}
use Rattle.port_sched.proofs.port.PortSched.queued.Given as goal

abbrev pub invariant-loop-subport : goal.invariant-loop-subport
invariant-loop-subport g l = record {
  counted : (moment : ℕ) → l.total ≡ length (flat_map (λ s. left_in_subport (subport_up_to moment s)) (take l.subport-index l.subport-items));
  limit : l.total ≤ 2 ^ 48 * l.subport-index;
}
