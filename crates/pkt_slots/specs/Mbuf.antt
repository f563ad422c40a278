-- A packet in its slot.
use Rattle.std.specs.Prelude.{◌≡◌, ℕ, List, take}
use Rattle.qos_base.specs.declared.packet.Pkt.{Pkt}
use Rattle.pkt_slots.specs.declared.mbuf.Mbuf.{Mbuf}

abbrev pub packet_in : Mbuf → Pkt
packet_in m = m.pkt

-- what was captured of the packet: the first bytes of the slot
abbrev pub captured_in : Mbuf → List ℕ
captured_in m = take m.pkt.cap m.bytes.items

-- the slot holds the body of the packet's record, where these are the bodies of packets
abbrev pub IsBodyIn : (Pkt → List ℕ) → Mbuf → Type 0
IsBodyIn body m = captured_in m ≡ body m.pkt
