-- What a run needs of memory before an output is created.
use Rattle.std.specs.Prelude.{◌≡◌, ◌≤◌, ℕ, List, [], length, map, string_bytes, vec_capacity}
use Rattle.qos_io.specs.declared.sink.Sink.{Ghosts}
use Rattle.profile_plan.specs.Profile.{Plan}
use Rattle.port_egress.specs.Egress.{IsUnbegun}
use Rattle.qos_words.specs.Names.{output_names}
use Rattle.qos_pipeline.specs.declared.prepare.Prepared.{Prepared}
use Rattle.qos_pipeline.specs.declared.prepare.Rooms.{Rooms}
use Rattle.qos_pipeline.specs.Ports.{AtPorts}

-- empty lists with room for so many places
pub record HasRoom {K : Type 0} (count : ℕ) (rooms : Rooms K) : Type 0 where
  pub sinks : (rooms.sinks.items ≡ []) × (count ≤ vec_capacity rooms.sinks)
  pub ends : (rooms.ends.items ≡ []) × (count ≤ vec_capacity rooms.ends)
  pub faults : (rooms.faults.items ≡ []) × (count ≤ vec_capacity rooms.faults)
  pub failed : (rooms.failed.items ≡ []) × (count ≤ vec_capacity rooms.failed)
  pub write_fault : (rooms.write_fault.items ≡ []) × (count ≤ vec_capacity rooms.write_fault)

-- the egresses of all ports of a profile, with the names of their outputs
pub record IsPrepared {K : Type 0} {G : Ghosts K} (p : Plan) (prefix : List ℕ) (origin : ℕ) (prepared : Prepared K G) : Type 0 where
  pub egresses : AtPorts p origin (λ n s e. IsUnbegun s e) prepared.egresses.items
  pub names : map string_bytes prepared.names.items ≡ output_names prefix (length p.ports)
  pub outs : (prepared.outs.items ≡ []) × (length p.ports ≤ vec_capacity prepared.outs)
  pub rooms : HasRoom (length p.ports) prepared.rooms
