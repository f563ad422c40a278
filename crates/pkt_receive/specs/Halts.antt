-- Why a record was not received.
use Rattle.qos_pcap.specs.declared.fault.PcapFault.{PcapFault}
use Rattle.pkt_receive.specs.declared.receive.Halt.{Halt}
use Rattle.pkt_receive.specs.declared.receive.Halt.TheVariants.{Memory, Fault}

-- this is so of a fault of the capture
abbrev pub IfFault : (PcapFault → Type 0) → Halt → Type 0
IfFault P Memory = Unit {0}
IfFault P (Fault fault) = P fault
