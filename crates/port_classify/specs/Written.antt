-- A frame as it is written, field by field, and that it is read as these fields.
use Rattle.std.specs.Prelude.{◌≡◌, ℕ, ◌+◌, ◌*◌, ◌^◌, ◌<◌, ◌≤◌, true, false, if◌then◌else◌, List, ◌∷◌, ◌++◌, length, slice_get, All, Option, None, Some}
use Rattle.std.specs.List.{flat_map}
use Rattle.std.specs.Option.{option_map, option_map_or}
use Rattle.byteorder.specs.Endian.{big_bytes}
use Rattle.profile_plan.specs.declared.rule.Proto.{Proto}
use Rattle.profile_plan.specs.declared.rule.Proto.TheVariants.{Ipv4, Ipv6, Mpls}
use Rattle.port_classify.specs.declared.frame.Frame.{Frame}
use Rattle.port_classify.specs.Frame.{is_tag, proto_of, has_header, code_point, source, destination, label_class, frame_of}

-- a tag: its type, three bits of priority, one bit, and twelve bits of VLAN id (IEEE 802.1Q, section 9)
pub record Tag : Type 0 where
  pub ethertype : ℕ
  pub priority : ℕ
  pub eligible : ℕ
  pub id : ℕ

pub record IsTag (t : Tag) : Type 0 where
  pub ethertype : is_tag t.ethertype ≡ true
  pub priority : t.priority < 8
  pub eligible : t.eligible < 2
  pub id : t.id < 4096

abbrev pub tag_text : Tag → List ℕ
tag_text t = big_bytes 2 t.ethertype ++ big_bytes 2 (8192 * t.priority + 4096 * t.eligible + t.id)

-- a frame: two addresses, tags, a type, and what it carries
abbrev pub frame_text : List ℕ → List Tag → ℕ → List ℕ → List ℕ
frame_text addresses tags ethertype packet =
    addresses ++ (flat_map tag_text tags ++ (big_bytes 2 ethertype ++ packet))

-- two addresses of twelve bytes together, two tags at most, and behind fewer than two a type that is no tag's
pub record IsEnvelope (addresses : List ℕ) (tags : List Tag) (ethertype : ℕ) : Type 0 where
  pub twelve : length addresses ≡ 12
  pub each : All IsTag tags
  pub few : length tags ≤ 2
  pub fits : ethertype < 65536
  pub last : length tags < 2 → is_tag ethertype ≡ false

-- the frame with these tags, if what it carries has a header of its protocol
abbrev pub framed : List Tag → Proto → List ℕ → Option Frame
framed tags proto packet =
    if has_header proto packet then
    Some (record {
      tags = length tags;
      vlan = option_map (λ t. t.id) (slice_get tags 0);
      inner = option_map (λ t. t.id) (slice_get tags 1);
      prio = option_map_or (λ t. t.priority) (slice_get tags 0) 0;
      proto = proto;
      dscp = code_point proto packet;
      src = source proto packet;
      dst = destination proto packet;
      mpls_tc = label_class proto packet;
      header = 14 + 4 * length tags;
    })
    else None

-- an IPv4 packet: version 4, the words of its header, code point and two bits more, ten bytes, the addresses, and what
-- follows (RFC 791 section 3.1, RFC 2474 section 3)
pub record Ipv4Packet : Type 0 where
  pub words : ℕ
  pub code_point : ℕ
  pub congestion : ℕ
  pub between : List ℕ
  pub source : ℕ
  pub destination : ℕ
  pub behind : List ℕ

pub record IsIpv4Packet (p : Ipv4Packet) : Type 0 where
  pub words : (5 ≤ p.words) × (p.words < 16)
  pub code_point : p.code_point < 64
  pub congestion : p.congestion < 4
  pub between : length p.between ≡ 10
  pub source : p.source < 2 ^ 32
  pub destination : p.destination < 2 ^ 32

abbrev pub ipv4_text : Ipv4Packet → List ℕ
ipv4_text p =
    (16 * 4 + p.words) ∷ (4 * p.code_point + p.congestion)
    ∷ (p.between ++ (big_bytes 4 p.source ++ (big_bytes 4 p.destination ++ p.behind)))

-- an IPv6 packet: version 6, code point and two bits more, twenty bits of flow label, and what follows (RFC 8200 section 3)
abbrev pub ipv6_text : ℕ → ℕ → ℕ → List ℕ → List ℕ
ipv6_text code_point congestion flow behind =
    big_bytes 4 (2 ^ 28 * 6 + 2 ^ 22 * code_point + 2 ^ 20 * congestion + flow) ++ behind

-- a labelled packet: twenty bits of label, three of traffic class, one that says whether it is the last, eight of time
-- to live (RFC 3032 section 2.1)
abbrev pub mpls_text : ℕ → ℕ → ℕ → ℕ → List ℕ → List ℕ
mpls_text label class last ttl behind = big_bytes 4 (2 ^ 12 * label + 2 ^ 9 * class + 2 ^ 8 * last + ttl) ++ behind

-- a frame is read as the tags and the type that were written, and what it carries is what follows
abbrev pub FramesReadBack : Type 0
FramesReadBack =
    (addresses : List ℕ) (tags : List Tag) (ethertype : ℕ) (packet : List ℕ) → IsEnvelope addresses tags ethertype →
    frame_of (frame_text addresses tags ethertype packet) ≡ framed tags (proto_of ethertype) packet

-- a packet of each protocol is read as its fields
abbrev pub Ipv4ReadsBack : Type 0
Ipv4ReadsBack =
    (p : Ipv4Packet) → IsIpv4Packet p →
    (has_header Ipv4 (ipv4_text p) ≡ true) × (code_point Ipv4 (ipv4_text p) ≡ p.code_point)
    × (source Ipv4 (ipv4_text p) ≡ p.source) × (destination Ipv4 (ipv4_text p) ≡ p.destination)

abbrev pub Ipv6ReadsBack : Type 0
Ipv6ReadsBack =
    (code congestion flow : ℕ) (behind : List ℕ) → code < 64 → congestion < 4 → flow < 2 ^ 20 → 36 ≤ length behind →
    let text = ipv6_text code congestion flow behind in
    (has_header Ipv6 text ≡ true) × (code_point Ipv6 text ≡ code)

abbrev pub MplsReadsBack : Type 0
MplsReadsBack =
    (label class last ttl : ℕ) (behind : List ℕ) → label < 2 ^ 20 → class < 8 → last < 2 → ttl < 256 →
    let text = mpls_text label class last ttl behind in
    (has_header Mpls text ≡ true) × (label_class Mpls text ≡ class)

pub record ReadsBack : Type 0 where
  pub frames : FramesReadBack
  pub ipv4 : Ipv4ReadsBack
  pub ipv6 : Ipv6ReadsBack
  pub mpls : MplsReadsBack
