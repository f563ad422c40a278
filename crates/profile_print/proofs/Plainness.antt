-- The sections of a plan have plain words.
use Rattle.std.proofs.Common.{◌≡◌, ◌==◌, ℕ, zero, suc, ◌+◌, ◌/◌, ◌%◌, ◌<◌, ◌≤◌, Bool, true, false, cond, ◌&&◌, nat_le, List, [], ◌∷◌, ◌++◌, codes, length, map, Option, Some, None, refl, ap, ◌∙◌, arith}
use Rattle.std.specs.List.{list_all, All, slice_index_or}
use Rattle.std.specs.Option.{IfSome}
use Rattle.std.specs.Fmt.{decimal, digits, digits_onto, digit_glyph}
use Rattle.std.proofs.lemmas.Bool.{and_parts, and_from, or_left, le-leb, leb-true, lt-ltb}
use Rattle.std.proofs.lemmas.List.{length-append, length-map}
use Rattle.std.proofs.lemmas.List.Folds.{list_all-append}
use Rattle.std.proofs.lemmas.List.Elements.{All-head, All-tail}
use Rattle.qos_base.specs.declared.packet.Colour.{Colour}
use Rattle.qos_base.specs.declared.packet.Colour.TheVariants.{Green, Yellow, Red}
use Rattle.code_table.specs.declared.entry.Entry.{Entry}
use Rattle.profile_plan.specs.declared.port.PoolPlan.{PoolPlan}
use Rattle.profile_plan.specs.declared.port.PortPlan.{PortPlan}
use Rattle.profile_plan.specs.declared.port.SubportPlan.{SubportPlan}
use Rattle.profile_plan.specs.declared.port.Span.{Span}
use Rattle.profile_plan.specs.declared.port.Span.TheVariants.{Bytes, Ms}
use Rattle.profile_plan.specs.declared.shaping.Shaping.{Shaping}
use Rattle.profile_plan.specs.declared.shaping.Shaping.TheVariants as shapings
use Rattle.profile_plan.specs.declared.shaping.Whole.{Whole}
use Rattle.profile_plan.specs.declared.shaping.Rates.{Rates}
use Rattle.profile_plan.specs.declared.shaping.PipeKind.{PipeKind}
use Rattle.profile_plan.specs.declared.meter.MeterKind.{MeterKind}
use Rattle.profile_plan.specs.declared.meter.MeterKind.TheVariants.{SrTcm, TrTcm, Rfc4115}
use Rattle.profile_plan.specs.declared.meter.MeterRate.{MeterRate}
use Rattle.profile_plan.specs.declared.meter.MeterRate.TheVariants.{Periods, PerSecond}
use Rattle.profile_plan.specs.declared.meter.MeterPlan.{MeterPlan}
use Rattle.profile_plan.specs.declared.rule.Proto.{Proto}
use Rattle.profile_plan.specs.declared.rule.Proto.TheVariants.{Ipv4, Ipv6, Mpls, Other}
use Rattle.profile_plan.specs.declared.rule.VlanTest.{VlanTest}
use Rattle.profile_plan.specs.declared.rule.VlanTest.TheVariants.{Any, Untagged, Id}
use Rattle.profile_plan.specs.declared.rule.Prefix.{Prefix}
use Rattle.profile_plan.specs.declared.rule.PipeChoice.{PipeChoice}
use Rattle.profile_plan.specs.declared.rule.PipeChoice.TheVariants as pipes
use Rattle.profile_plan.specs.declared.rule.CodeChoice.{CodeChoice}
use Rattle.profile_plan.specs.declared.rule.CodeChoice.TheVariants as choices
use Rattle.profile_plan.specs.declared.rule.RulePlan.{RulePlan}
use Rattle.profile_plan.specs.Profile.{Plan}
use Rattle.profile_print.specs.Written.{Words, Key, Block, each, each_from}
use Rattle.profile_print.specs.Text.{number, word, pool_block, drain_key, port_block, class_key, whole_keys, rate_keys, shaping_keys, subport_kind_block, pipe_kind_block, pipe_key, subport_block, subport_blocks, yes_word, colour_word, code_key, codes_block, kind_word, mode_word, meter_rate_keys, other_rate_keys, size_word, action_word, action_keys, front_keys, meter_block, input_word, vlan_word, proto_word, prefix_word, prefix_or_any_word, pipe_word, code_words, name_of_meter, meter_keys, rule_block, blocks_of}
use Rattle.profile_print.specs.Plain.{is_plain, is_word, are_words, is_plain_key, is_plain_block, HasWords}

-- decimal digits are plain
glyph-plain : (n : ℕ) → is_plain (digit_glyph false (n % 10)) ≡ true
glyph-plain n =
    let small : n % 10 < 10 = omega arith in
    let glyph : digit_glyph false (n % 10) ≡ 48 + n % 10 = ap (λ t. cond t (48 + n % 10) (87 + n % 10)) (lt-ltb (n % 10) 10 small) in
    ap is_plain glyph
    ∙ or_left (nat_le 46 (48 + n % 10) && nat_le (48 + n % 10) 57) (nat_le 95 (48 + n % 10) && nat_le (48 + n % 10) 122) (and_from (nat_le 46 (48 + n % 10)) (nat_le (48 + n % 10) 57) (le-leb 46 (48 + n % 10) (omega arith)) (le-leb (48 + n % 10) 57 (omega arith)))

onto-plain : (k n : ℕ) (acc : List ℕ) → list_all is_plain acc ≡ true → list_all is_plain (digits_onto k 10 false n acc) ≡ true
onto-plain zero n acc h = h
onto-plain (suc k) n acc h =
    let more : list_all is_plain (digit_glyph false (n % 10) ∷ acc) ≡ true = and_from (is_plain (digit_glyph false (n % 10))) (list_all is_plain acc) (glyph-plain n) h in
    elim (n / 10 == 0) as (λ t. list_all is_plain (cond t (digit_glyph false (n % 10) ∷ acc) (digits_onto k 10 false (n / 10) (digit_glyph false (n % 10) ∷ acc))) ≡ true) [
      | true ↦ more
      | false ↦ onto-plain k (n / 10) (digit_glyph false (n % 10) ∷ acc) more
    ]

onto-long : (k n : ℕ) (acc : List ℕ) → length acc ≤ length (digits_onto k 10 false n acc)
onto-long zero n acc = omega arith
onto-long (suc k) n acc =
    elim (n / 10 == 0) as (λ t. length acc ≤ length (cond t (digit_glyph false (n % 10) ∷ acc) (digits_onto k 10 false (n / 10) (digit_glyph false (n % 10) ∷ acc)))) [
      | true ↦ omega arith
      | false ↦ (let rest = onto-long k (n / 10) (digit_glyph false (n % 10) ∷ acc) in omega arith)
    ]

some-onto : (k n : ℕ) (acc : List ℕ) → 1 ≤ length (digits_onto (suc k) 10 false n acc)
some-onto k n acc =
    elim (n / 10 == 0) as (λ t. 1 ≤ length (cond t (digit_glyph false (n % 10) ∷ acc) (digits_onto k 10 false (n / 10) (digit_glyph false (n % 10) ∷ acc)))) [
      | true ↦ omega arith
      | false ↦ (let rest = onto-long k (n / 10) (digit_glyph false (n % 10) ∷ acc) in omega arith)
    ]

pub word-decimal : (n : ℕ) → is_word (decimal n) ≡ true
unfolding is_word digits
word-decimal n =
    and_from (nat_le 1 (length (digits_onto 64 10 false n []))) (list_all is_plain (digits_onto 64 10 false n [])) (le-leb 1 (length (digits_onto 64 10 false n [])) (some-onto 63 n [])) (onto-plain 64 n [] refl)

-- a word is one
one-word : (w : List ℕ) → is_word w ≡ true → are_words (w ∷ []) ≡ true
one-word w h = and_from (is_word w) true h refl

number-plain : (words : Words) (n : ℕ) → are_words words ≡ true → is_plain_key (number words n) ≡ true
number-plain words n h = and_from (are_words words) (are_words (decimal n ∷ [])) h (one-word (decimal n) (word-decimal n))

word-plain : (words : Words) (w : List ℕ) → are_words words ≡ true → is_word w ≡ true → is_plain_key (word words w) ≡ true
word-plain words w h g = and_from (are_words words) (are_words (w ∷ [])) h (one-word w g)

pool-plain : (p : PoolPlan) → is_plain_block (pool_block p) ≡ true
unfolding pool_block is_word
pool-plain p = simp word-decimal

drain-plain : (s : Span) → is_plain_key (drain_key s) ≡ true
unfolding is_word
drain-plain (Bytes n) = number-plain (codes "drain" ∷ []) n refl
drain-plain (Ms n) = number-plain (codes "drain" ∷ codes "ms" ∷ []) n refl

port-plain : (n : ℕ) (p : PortPlan) → is_plain_block (port_block n p) ≡ true
unfolding port_block is_word
port-plain n p = simp (word-decimal, drain-plain p.drain)

classes-plain : (what : List ℕ) (n : ℕ) (xs : List ℕ) → is_word what ≡ true → list_all is_plain_key (each_from (class_key what) n xs) ≡ true
unfolding is_word
classes-plain what n [] h = refl
classes-plain what n (x ∷ xs) h = simp (word-decimal, h, classes-plain what (n + 1) xs h)

-- keys and more keys
joined-plain : (xs ys : List Key) → list_all is_plain_key xs ≡ true → list_all is_plain_key ys ≡ true → list_all is_plain_key (xs ++ ys) ≡ true
joined-plain xs ys h g =
    list_all-append is_plain_key xs ys ∙ and_from (list_all is_plain_key xs) (list_all is_plain_key ys) h g

whole-plain : (w : Whole) → list_all is_plain_key (whole_keys w) ≡ true
unfolding whole_keys is_word
whole-plain w =
    let rest = joined-plain (each (class_key (codes "credits")) w.tc_credits) (number (codes "tc" ∷ codes "period" ∷ []) w.tc_period ∷ []) (classes-plain (codes "credits") 0 w.tc_credits refl) (simp word-decimal) in
    simp (word-decimal, rest)

rates-plain : (r : Rates) → list_all is_plain_key (rate_keys r) ≡ true
unfolding rate_keys is_word
rates-plain r =
    let rest = joined-plain (each (class_key (codes "rate")) r.tc_rates) (number (codes "tc" ∷ codes "period" ∷ []) r.tc_period_ms ∷ []) (classes-plain (codes "rate") 0 r.tc_rates refl) (simp word-decimal) in
    simp (word-decimal, rest)

shaping-plain : (s : Shaping) → list_all is_plain_key (shaping_keys s) ≡ true
shaping-plain (shapings.Whole w) = whole-plain w
shaping-plain (shapings.Rate r) = rates-plain r

subport-kind-plain : (k : ℕ × Shaping) → is_plain_block (subport_kind_block k) ≡ true
unfolding subport_kind_block is_word
subport-kind-plain k = simp (word-decimal, shaping-plain k.1)

numbers-plain : (ns : List ℕ) → list_all is_word (map decimal ns) ≡ true
numbers-plain [] = refl
numbers-plain (n ∷ ns) = and_from (is_word (decimal n)) (list_all is_word (map decimal ns)) (word-decimal n) (numbers-plain ns)

numbers-words : (ns : List ℕ) → 1 ≤ length ns → are_words (map decimal ns) ≡ true
numbers-words ns h =
    and_from (nat_le 1 (length (map decimal ns))) (list_all is_word (map decimal ns)) (le-leb 1 (length (map decimal ns)) (omega (arith, length-map ns decimal))) (numbers-plain ns)

pipe-kind-plain : (k : PipeKind) → 1 ≤ length k.weights → is_plain_block (pipe_kind_block k) ≡ true
unfolding pipe_kind_block is_word
pipe-kind-plain k h =
    let weights : Key = record { words = codes "tc" ∷ codes "12" ∷ codes "wrr" ∷ codes "weights" ∷ []; value = map decimal k.weights } in
    let more : List Key = weights ∷ number (codes "tc" ∷ codes "12" ∷ codes "oversubscription" ∷ codes "weight" ∷ []) k.ov_weight ∷ [] in
    let rest = joined-plain (shaping_keys k.shaping) more (shaping-plain k.shaping) (simp (word-decimal, numbers-words k.weights h)) in
    simp (word-decimal, rest)

pipes-plain : (n : ℕ) (xs : List ℕ) → list_all is_plain_key (each_from pipe_key n xs) ≡ true
unfolding is_word
pipes-plain n [] = refl
pipes-plain n (x ∷ xs) = simp (word-decimal, pipes-plain (n + 1) xs)

yes-plain : (on : Bool) → is_word (yes_word on) ≡ true
unfolding is_word
yes-plain on = elim on as (λ t. is_word (yes_word t) ≡ true) [ true ↦ refl | false ↦ refl ]

subport-plain : (port n : ℕ) (s : SubportPlan) → 1 ≤ length s.sizes → is_plain_block (subport_block port n s) ≡ true
unfolding subport_block is_word
subport-plain port n s h =
    let more : List Key = word (codes "oversubscription" ∷ []) (yes_word s.oversub) ∷ [] in
    let rest = joined-plain (each pipe_key s.pipes) more (pipes-plain 0 s.pipes) (simp (yes-plain s.oversub)) in
    simp (word-decimal, numbers-words s.sizes h, rest)

colour-plain : (c : Colour) → is_word (colour_word c) ≡ true
unfolding is_word
colour-plain Green = refl
colour-plain Yellow = refl
colour-plain Red = refl

codes-plain : (n : ℕ) (es : List Entry) → list_all is_plain_key (each_from code_key n es) ≡ true
unfolding is_word
codes-plain n [] = refl
codes-plain n (e ∷ es) = simp (word-decimal, colour-plain e.colour, codes-plain (n + 1) es)

table-plain : (es : List Entry) → is_plain_block (codes_block es) ≡ true
unfolding codes_block is_word
table-plain es = simp (codes-plain 0 es)

kind-plain : (k : MeterKind) → is_word (kind_word k) ≡ true
unfolding is_word
kind-plain SrTcm = refl
kind-plain TrTcm = refl
kind-plain Rfc4115 = refl

mode-plain : (aware : Bool) → is_word (mode_word aware) ≡ true
unfolding is_word
mode-plain aware = elim aware as (λ t. is_word (mode_word t) ≡ true) [ true ↦ refl | false ↦ refl ]

size-plain : (k : MeterKind) → is_word (size_word k) ≡ true
unfolding is_word
size-plain SrTcm = refl
size-plain TrTcm = refl
size-plain Rfc4115 = refl

action-plain : (drops : List Bool) (colour : ℕ) → is_word (action_word drops colour) ≡ true
unfolding is_word
action-plain drops colour =
    elim (slice_index_or drops colour false) as (λ t. is_word (cond t (codes "drop") (codes "pass")) ≡ true) [ true ↦ refl | false ↦ refl ]

rate-plain : (name : List ℕ) (r : MeterRate) → is_word name ≡ true → list_all is_plain_key (meter_rate_keys name r) ≡ true
unfolding is_word
rate-plain name (Periods bytes period) h = simp (word-decimal, h)
rate-plain name (PerSecond rate) h = simp (word-decimal, h)

other-plain : (k : MeterKind) (r : MeterRate) → list_all is_plain_key (other_rate_keys k r) ≡ true
unfolding is_word
other-plain SrTcm r = refl
other-plain TrTcm r = rate-plain (codes "pir") r refl
other-plain Rfc4115 r = rate-plain (codes "eir") r refl

meter-plain : (m : MeterPlan) → is_word m.name ≡ true → is_plain_block (meter_block m) ≡ true
unfolding meter_block front_keys is_word
meter-plain m h =
    let rates = joined-plain (meter_rate_keys (codes "cir") m.cir) (other_rate_keys m.kind m.other) (rate-plain (codes "cir") m.cir refl) (other-plain m.kind m.other) in
    let front : list_all is_plain_key (front_keys m) ≡ true = simp (kind-plain m.kind, mode-plain m.aware, rates) in
    let more : List Key = number (codes "cbs" ∷ []) m.cbs ∷ number (size_word m.kind ∷ []) m.other_size ∷ action_keys m.drops in
    let rest = joined-plain (front_keys m) more front (simp (word-decimal, size-plain m.kind, action-plain m.drops)) in
    simp (h, rest)

input-plain : (o : Option ℕ) → is_word (input_word o) ≡ true
unfolding is_word
input-plain None = refl
input-plain (Some n) = word-decimal n

vlan-plain : (v : VlanTest) → is_word (vlan_word v) ≡ true
unfolding is_word
vlan-plain Any = refl
vlan-plain Untagged = refl
vlan-plain (Id n) = word-decimal n

proto-plain : (o : Option Proto) → is_word (proto_word o) ≡ true
unfolding is_word
proto-plain None = refl
proto-plain (Some Ipv4) = refl
proto-plain (Some Ipv6) = refl
proto-plain (Some Mpls) = refl
proto-plain (Some Other) = refl

-- a word and more plain bytes
longer : (w bs : List ℕ) → is_word w ≡ true → list_all is_plain bs ≡ true → is_word (w ++ bs) ≡ true
unfolding is_word
longer w bs h g =
    let parts = and_parts (nat_le 1 (length w)) (list_all is_plain w) h in
    and_from (nat_le 1 (length (w ++ bs))) (list_all is_plain (w ++ bs)) (le-leb 1 (length (w ++ bs)) (omega (arith, length-append w bs, leb-true 1 (length w) parts.0))) (list_all-append is_plain w bs ∙ and_from (list_all is_plain w) (list_all is_plain bs) parts.1 g)

decimal-plain : (n : ℕ) → list_all is_plain (decimal n) ≡ true
unfolding is_word
decimal-plain n = (and_parts (nat_le 1 (length (decimal n))) (list_all is_plain (decimal n)) (word-decimal n)).1

pub prefix-plain : (p : Prefix) → is_word (prefix_word p) ≡ true
unfolding prefix_word
prefix-plain p =
    let a = decimal (p.addr / 16777216) in
    let b = decimal (p.addr / 65536 % 256) in
    let c = decimal (p.addr / 256 % 256) in
    let d = decimal (p.addr % 256) in
    let dot = codes "." in
    let slash = codes "/" in
    let one = longer (a ++ dot) b (longer a dot (word-decimal (p.addr / 16777216)) refl) (decimal-plain (p.addr / 65536 % 256)) in
    let two = longer (a ++ dot ++ b ++ dot) c (longer (a ++ dot ++ b) dot one refl) (decimal-plain (p.addr / 256 % 256)) in
    let three = longer (a ++ dot ++ b ++ dot ++ c ++ dot) d (longer (a ++ dot ++ b ++ dot ++ c) dot two refl) (decimal-plain (p.addr % 256)) in
    longer (a ++ dot ++ b ++ dot ++ c ++ dot ++ d ++ slash) (decimal p.bits) (longer (a ++ dot ++ b ++ dot ++ c ++ dot ++ d) slash three refl) (decimal-plain p.bits)

prefix-or-any-plain : (o : Option Prefix) → is_word (prefix_or_any_word o) ≡ true
unfolding is_word
prefix-or-any-plain None = refl
prefix-or-any-plain (Some p) = prefix-plain p

choice-plain : (c : PipeChoice) → is_word (pipe_word c) ≡ true
unfolding is_word
choice-plain (pipes.Fixed n) = word-decimal n
choice-plain pipes.Vlan = refl
choice-plain pipes.Host = refl

code-plain : (c : CodeChoice) → are_words (code_words c) ≡ true
unfolding is_word
code-plain choices.Dscp = refl
code-plain (choices.Fixed e) = simp (word-decimal, colour-plain e.colour)

named-plain : (meters : List MeterPlan) (o : Option ℕ) → All (λ m. is_word m.name ≡ true) meters → IfSome o (λ n. n < length meters) → list_all is_plain_key (meter_keys meters o) ≡ true
unfolding is_word
named-plain meters None all h = refl
named-plain meters (Some n) all h = simp (name-there meters n all h)
  where
    name-there : (ms : List MeterPlan) (i : ℕ) → All (λ m. is_word m.name ≡ true) ms → i < length ms → is_word (name_of_meter ms i) ≡ true
    name-there [] i a below = absurd (omega arith)
    name-there (m ∷ ms) zero a below = All-head (λ x. is_word x.name ≡ true) m ms a
    name-there (m ∷ ms) (suc i) a below = name-there ms i (All-tail (λ x. is_word x.name ≡ true) m ms a) (omega arith)

rule-plain : (meters : List MeterPlan) (r : RulePlan) → All (λ m. is_word m.name ≡ true) meters → IfSome r.meter (λ n. n < length meters) → is_plain_block (rule_block meters r) ≡ true
unfolding rule_block is_word
rule-plain meters r all h =
    simp (word-decimal, input-plain r.input, vlan-plain r.vlan, proto-plain r.proto, prefix-or-any-plain r.src, prefix-or-any-plain r.dst, choice-plain r.pipe, code-plain r.code, named-plain meters r.meter all h)

-- blocks and more blocks
blocks-joined : (xs ys : List Block) → list_all is_plain_block xs ≡ true → list_all is_plain_block ys ≡ true → list_all is_plain_block (xs ++ ys) ≡ true
blocks-joined xs ys h g =
    list_all-append is_plain_block xs ys ∙ and_from (list_all is_plain_block xs) (list_all is_plain_block ys) h g

one-more : (x : Block) (xs : List Block) → is_plain_block x ≡ true → list_all is_plain_block xs ≡ true → list_all is_plain_block (x ∷ xs) ≡ true
one-more x xs h g = and_from (is_plain_block x) (list_all is_plain_block xs) h g

ports-plain : (n : ℕ) (ports : List PortPlan) → list_all is_plain_block (each_from port_block n ports) ≡ true
ports-plain n [] = refl
ports-plain n (p ∷ ps) = one-more (port_block n p) (each_from port_block (n + 1) ps) (port-plain n p) (ports-plain (n + 1) ps)

subport-kinds-plain : (ks : List (ℕ × Shaping)) → list_all is_plain_block (map subport_kind_block ks) ≡ true
subport-kinds-plain [] = refl
subport-kinds-plain (k ∷ ks) = one-more (subport_kind_block k) (map subport_kind_block ks) (subport-kind-plain k) (subport-kinds-plain ks)

pipe-kinds-plain : (ks : List PipeKind) → All (λ k. 1 ≤ length k.weights) ks → list_all is_plain_block (map pipe_kind_block ks) ≡ true
pipe-kinds-plain [] h = refl
pipe-kinds-plain (k ∷ ks) h =
    let here = All-head (λ x. 1 ≤ length x.weights) k ks h in
    one-more (pipe_kind_block k) (map pipe_kind_block ks) (pipe-kind-plain k here) (pipe-kinds-plain ks (All-tail (λ x. 1 ≤ length x.weights) k ks h))

subports-plain : (port n : ℕ) (ss : List SubportPlan) → All (λ s. 1 ≤ length s.sizes) ss → list_all is_plain_block (each_from (subport_block port) n ss) ≡ true
subports-plain port n [] h = refl
subports-plain port n (s ∷ ss) h =
    let here = All-head (λ x. 1 ≤ length x.sizes) s ss h in
    one-more (subport_block port n s) (each_from (subport_block port) (n + 1) ss) (subport-plain port n s here) (subports-plain port (n + 1) ss (All-tail (λ x. 1 ≤ length x.sizes) s ss h))

all-subports-plain : (n : ℕ) (ports : List PortPlan) → All (λ port. All (λ s. 1 ≤ length s.sizes) port.subports) ports → list_all is_plain_block (subport_blocks n ports) ≡ true
all-subports-plain n [] h = refl
all-subports-plain n (p ∷ ps) h =
    let here = All-head (λ port. All (λ s. 1 ≤ length s.sizes) port.subports) p ps h in
    blocks-joined (each (subport_block n) p.subports) (subport_blocks (n + 1) ps) (subports-plain n 0 p.subports here) (all-subports-plain (n + 1) ps (All-tail (λ port. All (λ s. 1 ≤ length s.sizes) port.subports) p ps h))

meters-plain : (ms : List MeterPlan) → All (λ m. is_word m.name ≡ true) ms → list_all is_plain_block (map meter_block ms) ≡ true
meters-plain [] h = refl
meters-plain (m ∷ ms) h =
    let here = All-head (λ x. is_word x.name ≡ true) m ms h in
    one-more (meter_block m) (map meter_block ms) (meter-plain m here) (meters-plain ms (All-tail (λ x. is_word x.name ≡ true) m ms h))

rules-plain : (ms : List MeterPlan) (rs : List RulePlan) → All (λ m. is_word m.name ≡ true) ms → All (λ r. IfSome r.meter (λ n. n < length ms)) rs → list_all is_plain_block (map (rule_block ms) rs) ≡ true
rules-plain ms [] all h = refl
rules-plain ms (r ∷ rs) all h =
    let here = All-head (λ x. IfSome x.meter (λ n. n < length ms)) r rs h in
    one-more (rule_block ms r) (map (rule_block ms) rs) (rule-plain ms r all here) (rules-plain ms rs all (All-tail (λ x. IfSome x.meter (λ n. n < length ms)) r rs h))

pub plan-plain : (p : Plan) → HasWords p → list_all is_plain_block (blocks_of p) ≡ true
plan-plain p h =
    let a = one-more (pool_block p.pool) (each port_block p.ports) (pool-plain p.pool) (ports-plain 0 p.ports) in
    let b = blocks-joined (pool_block p.pool ∷ each port_block p.ports) (map subport_kind_block p.subport_kinds) a (subport-kinds-plain p.subport_kinds) in
    let c = blocks-joined (pool_block p.pool ∷ each port_block p.ports ++ map subport_kind_block p.subport_kinds) (map pipe_kind_block p.pipe_kinds) b (pipe-kinds-plain p.pipe_kinds h.weights) in
    let d = blocks-joined (pool_block p.pool ∷ each port_block p.ports ++ map subport_kind_block p.subport_kinds ++ map pipe_kind_block p.pipe_kinds) (subport_blocks 0 p.ports) c (all-subports-plain 0 p.ports h.sizes) in
    let e = one-more (codes_block p.codes) (map meter_block p.meters) (table-plain p.codes) (meters-plain p.meters h.names) in
    let f = blocks-joined (pool_block p.pool ∷ each port_block p.ports ++ map subport_kind_block p.subport_kinds ++ map pipe_kind_block p.pipe_kinds ++ subport_blocks 0 p.ports) (codes_block p.codes ∷ map meter_block p.meters) d e in
    blocks-joined (pool_block p.pool ∷ each port_block p.ports ++ map subport_kind_block p.subport_kinds ++ map pipe_kind_block p.pipe_kinds ++ subport_blocks 0 p.ports ++ codes_block p.codes ∷ map meter_block p.meters) (map (rule_block p.meters) p.rules) f (rules-plain p.meters p.rules h.names h.named)
