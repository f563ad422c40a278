-- What an Ethernet frame says, by the places of its fields: IEEE 802.3 section 3.2, IEEE 802.1Q section 9, RFC 791
-- section 3.1, RFC 8200 section 3, RFC 3032 section 2.1. A number has its highest byte first.
use Rattle.std.specs.Prelude.{◌==◌, ℕ, ◌+◌, ◌-◌, ◌*◌, ◌/◌, ◌%◌, ◌^◌, ◌<◌, Bool, true, ◌&&◌, ◌||◌, nat_le, nat_lt, if◌then◌else◌, List, length, drop, Option, None, Some}
use Rattle.std.specs.Option.{option_map, option_map_or}
use Rattle.byteorder.specs.Endian.{big_from}
use Rattle.profile_plan.specs.declared.rule.Proto.{Proto}
use Rattle.profile_plan.specs.declared.rule.Proto.TheVariants.{Ipv4, Ipv6, Mpls, Other}
use Rattle.port_classify.specs.declared.frame.Frame.{Frame}

-- the number in n bytes from a place on
abbrev pub number_at : ℕ → ℕ → List ℕ → ℕ
number_at n place bytes = big_from place n bytes

-- the number in `count` bits from bit `first` on, of a number of `size` bits; bit 0 is the highest, as the standards
-- draw it
abbrev pub bits_of : ℕ → ℕ → ℕ → ℕ → ℕ
bits_of size first count number = number / 2 ^ (size - (first + count)) % 2 ^ count

-- the types of a customer's tag and of a provider's (IEEE 802.1Q, section 9.5)
abbrev pub is_tag : ℕ → Bool
is_tag ethertype = (ethertype == 0x8100) || (ethertype == 0x88a8)

-- Behind two addresses of six bytes each stand the tags, each a type and its control information of two bytes each, and
-- then the type of what the frame carries. This is the type behind so many tags.
abbrev pub type_behind : ℕ → List ℕ → ℕ
type_behind tags bytes = number_at 2 (12 + 4 * tags) bytes

-- how many tags are read: two at most, so a third is what the frame carries
abbrev pub tags_of : List ℕ → ℕ
tags_of bytes =
    if is_tag (type_behind 0 bytes) then (if is_tag (type_behind 1 bytes) then 2 else 1) else 0

-- the control information of the tag behind so many others, if it is there
abbrev pub control_of : ℕ → List ℕ → Option ℕ
control_of tags bytes =
    if nat_lt tags (tags_of bytes) then Some (number_at 2 (14 + 4 * tags) bytes) else None

-- the fields of a tag's control information: three bits of priority, one bit, twelve bits of VLAN id (IEEE 802.1Q,
-- section 9.6)
abbrev pub priority : ℕ → ℕ
priority control = bits_of 16 0 3 control

abbrev pub vlan_id : ℕ → ℕ
vlan_id control = bits_of 16 4 12 control

-- the bytes of addresses, tags and types
abbrev pub header_of : List ℕ → ℕ
header_of bytes = 14 + 4 * tags_of bytes

-- what the type behind all tags says that the frame carries (RFC 894, RFC 2464 section 3, RFC 3032 section 5)
abbrev pub proto_of : ℕ → Proto
proto_of ethertype =
    if ethertype == 0x0800 then Ipv4
    else if ethertype == 0x86dd then Ipv6
    else if ethertype == 0x8847 then Mpls
    else Other

-- the version of an IP header, its first four bits (RFC 791 section 3.1, RFC 8200 section 3)
abbrev pub version : List ℕ → ℕ
version packet = bits_of 16 0 4 (number_at 2 0 packet)

-- the length of an IPv4 header in words of four bytes, the four bits behind the version
abbrev pub header_words : List ℕ → ℕ
header_words packet = bits_of 16 4 4 (number_at 2 0 packet)

-- What a frame carries begins with a header of its protocol: all bytes that every such header has are there, the version
-- is the protocol's, and an IPv4 header has at least five words.
abbrev pub has_header : Proto → List ℕ → Bool
has_header Ipv4 packet = nat_le 20 (length packet) && (version packet == 4) && nat_le 5 (header_words packet)
has_header Ipv6 packet = nat_le 40 (length packet) && (version packet == 6)
has_header Mpls packet = nat_le 4 (length packet)
has_header Other packet = true

-- the code point: the first six bits of IPv4's type of service, the second byte, and of IPv6's traffic class, the eight
-- bits behind the version (RFC 2474 section 3)
abbrev pub code_point : Proto → List ℕ → ℕ
code_point Ipv4 packet = bits_of 16 8 6 (number_at 2 0 packet)
code_point Ipv6 packet = bits_of 16 4 6 (number_at 2 0 packet)
code_point Mpls packet = 0
code_point Other packet = 0

-- the IPv4 addresses
abbrev pub source : Proto → List ℕ → ℕ
source Ipv4 packet = number_at 4 12 packet
source Ipv6 packet = 0
source Mpls packet = 0
source Other packet = 0

abbrev pub destination : Proto → List ℕ → ℕ
destination Ipv4 packet = number_at 4 16 packet
destination Ipv6 packet = 0
destination Mpls packet = 0
destination Other packet = 0

-- the traffic class of the first label: twenty bits of label, three of traffic class, one bit, eight of time to live
-- (RFC 3032 section 2.1, RFC 5462 section 2)
abbrev pub label_class : Proto → List ℕ → ℕ
label_class Ipv4 packet = 0
label_class Ipv6 packet = 0
label_class Mpls packet = bits_of 32 20 3 (number_at 4 0 packet)
label_class Other packet = 0

-- the frame of some bytes that begin with addresses, tags and types, where this is what it carries
abbrev pub frame_with : List ℕ → Proto → List ℕ → Frame
frame_with bytes proto packet = record {
  tags = tags_of bytes;
  vlan = option_map vlan_id (control_of 0 bytes);
  inner = option_map vlan_id (control_of 1 bytes);
  prio = option_map_or priority (control_of 0 bytes) 0;
  proto = proto;
  dscp = code_point proto packet;
  src = source proto packet;
  dst = destination proto packet;
  mpls_tc = label_class proto packet;
  header = header_of bytes;
}

-- The frame of some bytes. They have none where they end before the type behind the tags does, or where what follows it has
-- no header of its protocol.
abbrev pub frame_of : List ℕ → Option Frame
frame_of bytes =
    let proto = proto_of (type_behind (tags_of bytes) bytes) in
    let packet = drop (header_of bytes) bytes in
    if nat_le (header_of bytes) (length bytes) && has_header proto packet then Some (frame_with bytes proto packet)
    else None

-- the codes of a frame fit their bits: six of a code point, three of a priority and of a traffic class
pub record HasCodes (f : Frame) : Type 0 where
  pub dscp : f.dscp < 64
  pub prio : f.prio < 8
  pub mpls_tc : f.mpls_tc < 8
