-- The classic capture format of libpcap (pcap-savefile): what the header and a record say, by the places of their fields.
use Rattle.std.specs.Prelude.{ℕ, ◌+◌, ◌*◌, ◌%◌, max, nat_lt, ◌==◌, if◌then◌else◌, List, length, take, drop, Option, None, Some, Result, Ok, Err}
use Rattle.byteorder.specs.Endian.{little_number, big_number}
use Rattle.qos_pcap.specs.declared.fault.PcapFault.{PcapFault}
use Rattle.qos_pcap.specs.declared.fault.PcapFault.TheVariants.{CutHeader, BadMagic, BadVersion, BadLink}
use Rattle.qos_pcap.specs.declared.form.Form.{Form}
use Rattle.qos_pcap.specs.declared.form.Order.{Order}
use Rattle.qos_pcap.specs.declared.form.Order.TheVariants.{Little, Big}

-- the number in the first n bytes
abbrev pub number_in : Order → ℕ → List ℕ → ℕ
number_in Little n bytes = little_number n bytes
number_in Big n bytes = big_number n bytes

-- what the magic number in the first four bytes tells, in whose own order it stands: microseconds or nanoseconds, or no capture
abbrev pub magic_form : List ℕ → Option Form
magic_form bytes =
    if little_number 4 bytes == 0xa1b2c3d4 then Some (record { order = Little; unit = 1000 })
    else if little_number 4 bytes == 0xa1b23c4d then Some (record { order = Little; unit = 1 })
    else if big_number 4 bytes == 0xa1b2c3d4 then Some (record { order = Big; unit = 1000 })
    else if big_number 4 bytes == 0xa1b23c4d then Some (record { order = Big; unit = 1 })
    else None

-- the form of a header that begins with a magic number of this form, or the first fault of what follows it: the major version is 2, and the low 16 bits of the link type are 1
abbrev pub header_after : List ℕ → Option Form → Result Form PcapFault
header_after bytes None = Err BadMagic
header_after bytes (Some form) =
    if number_in form.order 2 (drop 4 bytes) == 2 then
    if number_in form.order 4 (drop 20 bytes) % 65536 == 1 then Ok form
    else Err BadLink
    else Err BadVersion

-- the form that the first 24 bytes tell, or the first fault of them that applies
abbrev pub header_of : List ℕ → Result Form PcapFault
header_of bytes =
    if nat_lt (length bytes) 24 then Err (CutHeader (length bytes)) else header_after bytes (magic_form bytes)

-- A record is 16 bytes of head (seconds, fraction, captured length and original length) and as many bytes as the captured length says.
pub record Record : Type 0 where
  -- when it was captured, in nanoseconds
  pub stamp : ℕ
  -- how many of its bytes were captured
  pub cap : ℕ
  -- its length on the line: the greater of its two lengths
  pub wire : ℕ
  -- the captured bytes
  pub body : List ℕ

-- what the head in these bytes says
abbrev pub stamp_in : Form → List ℕ → ℕ
stamp_in form bytes = number_in form.order 4 bytes * 1000000000 + number_in form.order 4 (drop 4 bytes) * form.unit

abbrev pub cap_in : Form → List ℕ → ℕ
cap_in form bytes = number_in form.order 4 (drop 8 bytes)

abbrev pub wire_in : Form → List ℕ → ℕ
wire_in form bytes = max (cap_in form bytes) (number_in form.order 4 (drop 12 bytes))

-- the record that these bytes begin
abbrev pub record_in : Form → List ℕ → Record
record_in form bytes = record {
  stamp = stamp_in form bytes;
  cap = cap_in form bytes;
  wire = wire_in form bytes;
  body = take (cap_in form bytes) (drop 16 bytes);
}
