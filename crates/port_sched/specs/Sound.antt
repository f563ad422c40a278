-- What a port's scheduler keeps true of its parts.
use Rattle.std.specs.Prelude.{ℕ, ◌≤◌, ◌<◌, List, length, All}
use Rattle.qos_base.specs.declared.packet.Pkt.{Pkt}
use Rattle.port_sched.specs.declared.subport.SubportBooks.{SubportBooks}
use Rattle.profile_plan.specs.declared.limits.TheConstants.{MAX_MTU}
use Rattle.port_sched.specs.Books.{IsSubportBooks}

pub record IsPortSched {T : Type 0} (packet : T → Pkt) (bytes longest time ticked place : ℕ) (subports : List (SubportBooks T)) : Type 0 where
  pub overhead : bytes ≤ 255
  pub mtu : longest ≤ MAX_MTU
  pub not_ahead : ticked ≤ time
  pub cursor : place < length subports
  pub few : length subports ≤ 8
  pub each : All (IsSubportBooks packet ticked) subports
