-- A frame that is written field by field is read as these fields.
use Rattle.std.proofs.Common.{◌≡◌, ℕ, suc, ◌+◌, ◌*◌, ◌<◌, ◌≤◌, true, false, List, [], ◌∷◌, ◌++◌, length, drop, Option, None, Some, refl, ap, ◌∙◌, eq-eqb, arith}
use Rattle.std.specs.Prelude.{nat_lt, if◌then◌else◌}
use Rattle.std.specs.Option.{option_map, option_map_or}
use Rattle.std.proofs.Math.Nat.{zero-add}
use Rattle.std.proofs.lemmas.Bool.{and_from, le-leb}
use Rattle.std.proofs.lemmas.List.{length-append}
use Rattle.std.proofs.lemmas.List.Elements.{All-head, All-tail}
use Rattle.byteorder.specs.Endian.{big_from, big_bytes}
use Rattle.byteorder.specs.Numbers.{big_from-cons, big_number-reads_back}
use Rattle.port_classify.specs.declared.frame.Frame.{Frame}
use Rattle.port_classify.specs.Frame.{number_at, version, header_words, is_tag, tags_of, type_behind, header_of, priority, vlan_id, proto_of, has_header, code_point, source, destination, label_class, frame_of}
use Rattle.port_classify.specs.Written.{Tag, IsTag, frame_text, framed, ipv4_text, ipv6_text, mpls_text, FramesReadBack, Ipv4ReadsBack, Ipv6ReadsBack, MplsReadsBack, ReadsBack}

-- behind some bytes, places are counted from their end on
number-past : (xs ys : List ℕ) (n i j : ℕ) → j ≡ length xs + i → number_at n j (xs ++ ys) ≡ number_at n i ys
number-past [] ys n i j e = ap (λ k. big_from k n ys) (e ∙ zero-add i)
number-past (x ∷ xs) ys n i j e =
    let next : j ≡ suc (length xs + i) = omega arith in
    ap (λ k. big_from k n (x ∷ (xs ++ ys))) next
    ∙ (big_from-cons (length xs + i) n x (xs ++ ys) ∙ number-past xs ys n i (length xs + i) refl)

drop-past : (xs ys : List ℕ) (i j : ℕ) → j ≡ length xs + i → drop j (xs ++ ys) ≡ drop i ys
drop-past [] ys i j e = ap (λ k. drop k ys) (e ∙ zero-add i)
drop-past (x ∷ xs) ys i j e =
    let next : j ≡ suc (length xs + i) = omega arith in
    ap (λ k. drop k (x ∷ (xs ++ ys))) next ∙ drop-past xs ys i (length xs + i) refl

-- what a frame is made of: how many tags, the control information of two, the type behind the tags, and what follows
record Parts : Type 0 where
  tags : ℕ
  first : ℕ
  second : ℕ
  ethertype : ℕ
  packet : List ℕ

record HasParts (bytes : List ℕ) (p : Parts) : Type 0 where
  has_tags : tags_of bytes ≡ p.tags
  has_first : number_at 2 14 bytes ≡ p.first
  has_second : number_at 2 18 bytes ≡ p.second
  has_type : type_behind p.tags bytes ≡ p.ethertype
  has_packet : drop (14 + 4 * p.tags) bytes ≡ p.packet
  within : 14 + 4 * p.tags ≤ length bytes

frame_by : Parts → Option Frame
frame_by p =
    if has_header (proto_of p.ethertype) p.packet then
    Some (record {
      tags = p.tags;
      vlan = option_map vlan_id (if nat_lt 0 p.tags then Some p.first else None);
      inner = option_map vlan_id (if nat_lt 1 p.tags then Some p.second else None);
      prio = option_map_or priority (if nat_lt 0 p.tags then Some p.first else None) 0;
      proto = proto_of p.ethertype;
      dscp = code_point (proto_of p.ethertype) p.packet;
      src = source (proto_of p.ethertype) p.packet;
      dst = destination (proto_of p.ethertype) p.packet;
      mpls_tc = label_class (proto_of p.ethertype) p.packet;
      header = 14 + 4 * p.tags;
    })
    else None

parts_at : ℕ → List ℕ → Parts
parts_at tags bytes = record {
  tags = tags;
  first = number_at 2 14 bytes;
  second = number_at 2 18 bytes;
  ethertype = type_behind tags bytes;
  packet = drop (14 + 4 * tags) bytes;
}

parts-are : (bytes : List ℕ) (p : Parts) → HasParts bytes p → parts_at (tags_of bytes) bytes ≡ p
unfolding parts_at
parts-are bytes p h =
    ap (λ n. parts_at n bytes) h.has_tags
    ∙ (λ i. record { tags = p.tags; first = h.has_first i; second = h.has_second i; ethertype = h.has_type i; packet = h.has_packet i })

frame-at : (bytes : List ℕ) (p : Parts) → HasParts bytes p → frame_of bytes ≡ frame_by p
unfolding frame_by parts_at
frame-at bytes p h =
    let within : header_of bytes ≤ length bytes = omega (arith, h.has_tags, h.within) in
    rw (le-leb (header_of bytes) (length bytes) within) (ap frame_by (parts-are bytes p h))

-- the control information of a tag fits its two bytes, and has its fields
control : Tag → ℕ
control t = 8192 * t.priority + 4096 * t.eligible + t.id

control-fits : (t : Tag) → IsTag t → control t < 65536
unfolding control
control-fits t is = omega arith

vlan_id-control : (t : Tag) → IsTag t → vlan_id (control t) ≡ t.id
unfolding control
vlan_id-control t is = omega arith

priority-control : (t : Tag) → IsTag t → priority (control t) ≡ t.priority
unfolding control
priority-control t is = omega arith

is_tag-fits : (x : ℕ) → is_tag x ≡ true → x < 65536
is_tag-fits x h = grind arith

-- how many tags there are, by the first two types
count_by : ℕ → ℕ → ℕ
count_by x y = if is_tag x then (if is_tag y then 2 else 1) else 0

tags-by : (bytes : List ℕ) (x y : ℕ) → type_behind 0 bytes ≡ x → type_behind 1 bytes ≡ y → tags_of bytes ≡ count_by x y
unfolding count_by
tags-by bytes x y p q = ap (λ k. count_by k (type_behind 1 bytes)) p ∙ ap (λ k. count_by x k) q

no-tags : (x y : ℕ) → is_tag x ≡ false → count_by x y ≡ 0
unfolding count_by
no-tags x y p = ap (λ t. if t then (if is_tag y then 2 else 1) else 0) p

one-of : (x y : ℕ) → is_tag x ≡ true → is_tag y ≡ false → count_by x y ≡ 1
unfolding count_by
one-of x y p q = ap (λ t. if t then (if is_tag y then 2 else 1) else 0) p ∙ ap (λ t. if t then 2 else 1) q

two-of : (x y : ℕ) → is_tag x ≡ true → is_tag y ≡ true → count_by x y ≡ 2
unfolding count_by
two-of x y p q = ap (λ t. if t then (if is_tag y then 2 else 1) else 0) p ∙ ap (λ t. if t then 2 else 1) q

-- a number of two bytes in front of some others
reads : (x : ℕ) (behind : List ℕ) → x < 65536 → number_at 2 0 (big_bytes 2 x ++ behind) ≡ x
reads x behind fits = big_number-reads_back 2 x behind fits

abbrev IsReadBack : List ℕ → List Tag → ℕ → List ℕ → Type 0
IsReadBack addresses tags ethertype packet =
    frame_of (frame_text addresses tags ethertype packet) ≡ framed tags (proto_of ethertype) packet

module _ (addresses : List ℕ) (twelve : length addresses ≡ 12) where
  -- two bytes of what stands behind the addresses
  word : (behind : List ℕ) (place : ℕ) → number_at 2 (12 + place) (addresses ++ behind) ≡ number_at 2 place behind
  word behind place = number-past addresses behind 2 place (12 + place) (omega arith)

  rest : (behind : List ℕ) (place : ℕ) → drop (12 + place) (addresses ++ behind) ≡ drop place behind
  rest behind place = drop-past addresses behind place (12 + place) (omega arith)

  no-tag : (ethertype : ℕ) (packet : List ℕ) → ethertype < 65536 → is_tag ethertype ≡ false → IsReadBack addresses [] ethertype packet
  unfolding frame_by
  no-tag ethertype packet fits last =
      let behind : List ℕ = big_bytes 2 ethertype ++ packet in
      let kind : type_behind 0 (addresses ++ behind) ≡ ethertype = word behind 0 ∙ reads ethertype packet fits in
      frame-at (addresses ++ behind) (record { tags = 0; first = _; second = _; ethertype = ethertype; packet = packet }) (record {
        has_tags = tags-by (addresses ++ behind) ethertype _ kind refl ∙ no-tags ethertype _ last;
        has_first = refl;
        has_second = refl;
        has_type = kind;
        has_packet = rest behind 2;
        within = omega (arith, length-append addresses behind);
      })

  one-tag : (t : Tag) (ethertype : ℕ) (packet : List ℕ) → IsTag t → ethertype < 65536 → is_tag ethertype ≡ false → IsReadBack addresses (t ∷ []) ethertype packet
  unfolding frame_by control
  one-tag t ethertype packet is fits last =
      let after : List ℕ = big_bytes 2 ethertype ++ packet in
      let inside : List ℕ = big_bytes 2 (control t) ++ after in
      let behind : List ℕ = big_bytes 2 t.ethertype ++ inside in
      let outer : type_behind 0 (addresses ++ behind) ≡ t.ethertype =
      word behind 0 ∙ reads t.ethertype inside (is_tag-fits t.ethertype is.ethertype) in
      let kind : type_behind 1 (addresses ++ behind) ≡ ethertype = word behind 4 ∙ reads ethertype packet fits in
      frame-at (addresses ++ behind) (record { tags = 1; first = control t; second = _; ethertype = ethertype; packet = packet }) (record {
        has_tags = tags-by (addresses ++ behind) t.ethertype ethertype outer kind ∙ one-of t.ethertype ethertype is.ethertype last;
        has_first = word behind 2 ∙ reads (control t) after (control-fits t is);
        has_second = refl;
        has_type = kind;
        has_packet = rest behind 6;
        within = omega (arith, length-append addresses behind);
      })
      ∙ rw (vlan_id-control t is, priority-control t is) refl

  two-tags : (t u : Tag) (ethertype : ℕ) (packet : List ℕ) → IsTag t → IsTag u → ethertype < 65536 → IsReadBack addresses (t ∷ u ∷ []) ethertype packet
  unfolding frame_by control
  two-tags t u ethertype packet is is_too fits =
      let after : List ℕ = big_bytes 2 ethertype ++ packet in
      let second : List ℕ = big_bytes 2 u.ethertype ++ (big_bytes 2 (control u) ++ after) in
      let inside : List ℕ = big_bytes 2 (control t) ++ second in
      let behind : List ℕ = big_bytes 2 t.ethertype ++ inside in
      let outer : type_behind 0 (addresses ++ behind) ≡ t.ethertype =
      word behind 0 ∙ reads t.ethertype inside (is_tag-fits t.ethertype is.ethertype) in
      let inner : type_behind 1 (addresses ++ behind) ≡ u.ethertype =
      word behind 4 ∙ reads u.ethertype (big_bytes 2 (control u) ++ after) (is_tag-fits u.ethertype is_too.ethertype) in
      let parts : Parts = record { tags = 2; first = control t; second = control u; ethertype = ethertype; packet = packet } in
      frame-at (addresses ++ behind) parts (record {
        has_tags =
            tags-by (addresses ++ behind) t.ethertype u.ethertype outer inner
            ∙ two-of t.ethertype u.ethertype is.ethertype is_too.ethertype;
        has_first = word behind 2 ∙ reads (control t) second (control-fits t is);
        has_second = word behind 6 ∙ reads (control u) after (control-fits u is_too);
        has_type = word behind 8 ∙ reads ethertype packet fits;
        has_packet = rest behind 10;
        within = omega (arith, length-append addresses behind);
      })
      ∙ rw (vlan_id-control t is, priority-control t is, vlan_id-control u is_too) refl

frames : FramesReadBack
frames addresses [] ethertype packet e = no-tag addresses e.twelve ethertype packet e.fits (e.last (omega arith))
frames addresses (t ∷ []) ethertype packet e =
    one-tag addresses e.twelve t ethertype packet (All-head IsTag t [] e.each) e.fits (e.last (omega arith))
frames addresses (t ∷ u ∷ []) ethertype packet e =
    let others = All-tail IsTag t (u ∷ []) e.each in
    two-tags addresses e.twelve t u ethertype packet (All-head IsTag t (u ∷ []) e.each) (All-head IsTag u [] others) e.fits
frames addresses (t ∷ u ∷ v ∷ more) ethertype packet e = absurd (omega (arith, e.few))

ipv4 : Ipv4ReadsBack
ipv4 p is =
    let behind : List ℕ = big_bytes 4 p.destination ++ p.behind in
    let addresses : List ℕ = big_bytes 4 p.source ++ behind in
    let len : 20 ≤ length (ipv4_text p) = omega (arith, length-append p.between addresses) in
    let four : version (ipv4_text p) ≡ 4 = omega arith in
    let five : 5 ≤ header_words (ipv4_text p) = omega arith in
    let front = and_from _ _ (le-leb 20 (length (ipv4_text p)) len) (eq-eqb (version (ipv4_text p)) 4 four) in (
      and_from _ _ front (le-leb 5 (header_words (ipv4_text p)) five),
      omega arith,
      number-past p.between addresses 4 0 10 (omega arith) ∙ big_number-reads_back 4 p.source behind is.source,
      number-past p.between addresses 4 4 14 (omega arith) ∙ big_number-reads_back 4 p.destination p.behind is.destination,
    )

ipv6 : Ipv6ReadsBack
ipv6 code congestion flow behind code_fits congestion_fits flow_fits enough =
    let text : List ℕ = ipv6_text code congestion flow behind in
    let six : version text ≡ 6 = omega arith in
    (and_from _ _ (le-leb 40 (length text) (omega arith)) (eq-eqb (version text) 6 six), omega arith)

mpls : MplsReadsBack
mpls label class last ttl behind label_fits class_fits last_fits ttl_fits =
    (le-leb 4 (length (mpls_text label class last ttl behind)) (omega arith), omega arith)

pub reads-back : ReadsBack
reads-back = record { frames = frames; ipv4 = ipv4; ipv6 = ipv6; mpls = mpls }
