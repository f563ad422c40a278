-- The numbers of the faults, and the byte that a report gives beside them.
use Rattle.std.specs.Prelude.{◌≡◌, ℕ}
use Rattle.qos_pcap.specs.declared.fault.PcapFault.{PcapFault}
use Rattle.qos_pcap.specs.declared.fault.PcapFault.TheVariants.{CutHeader, BadMagic, BadVersion, BadLink, TooMany, CutRecord, HugeRecord, Read}

abbrev pub number_of : PcapFault → ℕ
number_of BadMagic = 1
number_of BadVersion = 2
number_of BadLink = 3
number_of (CutHeader length) = 4
number_of (CutRecord offset) = 5
number_of (HugeRecord offset cap) = 6
number_of Read = 7
number_of (TooMany offset) = 8

-- the byte at which the fault is: where the record begins, or the length of a header that is cut; 0 of the others
abbrev pub offset_of : PcapFault → ℕ
offset_of BadMagic = 0
offset_of BadVersion = 0
offset_of BadLink = 0
offset_of (CutHeader length) = length
offset_of (CutRecord offset) = offset
offset_of (HugeRecord offset cap) = offset
offset_of Read = 0
offset_of (TooMany offset) = offset

-- a fault of the header, or of the reading
abbrev pub IsHeaderFault : PcapFault → Type 0
IsHeaderFault BadMagic = Unit {0}
IsHeaderFault BadVersion = Unit {0}
IsHeaderFault BadLink = Unit {0}
IsHeaderFault (CutHeader length) = Unit {0}
IsHeaderFault (CutRecord offset) = ⊥
IsHeaderFault (HugeRecord offset cap) = ⊥
IsHeaderFault Read = Unit {0}
IsHeaderFault (TooMany offset) = ⊥

-- a fault of the record that begins at this offset, or of the reading
abbrev pub IsRecordFault : ℕ → PcapFault → Type 0
IsRecordFault at BadMagic = ⊥
IsRecordFault at BadVersion = ⊥
IsRecordFault at BadLink = ⊥
IsRecordFault at (CutHeader length) = ⊥
IsRecordFault at (CutRecord offset) = offset ≡ at
IsRecordFault at (HugeRecord offset cap) = offset ≡ at
IsRecordFault at Read = Unit {0}
IsRecordFault at (TooMany offset) = offset ≡ at
