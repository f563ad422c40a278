use Rattle.std.proofs.Common.{◌≡◌, ℕ, Some, length, slice_get, vec_capacity, ◌≤◌}
use Rattle.profile_plan.specs.declared.port.PortPlan.{PortPlan}
use Rattle.port_egress.specs.declared.egress.Egress.{Egress}
use Rattle.port_egress.specs.Egress.{IsUnbegun}
use Rattle.qos_pipeline.specs.Ports.{setup_of}
use Rattle.qos_pipeline.proofs.prepare.open_ports.Given as goal

-- the egresses of the ports so far
abbrev pub invariant-loop-port : goal.invariant-loop-port
invariant-loop-port g l = record {
  count : length l.egresses.items ≡ l.port;
  room : l.count ≤ vec_capacity l.egresses;
  each : (n : ℕ) (plan : PortPlan) (e : Egress g.row.K.Denot g.K.Sink) → slice_get l.p.ports n ≡ Some plan → slice_get l.egresses.items n ≡ Some e
      → IsUnbegun (setup_of l.p l.origin plan) e;
}
