-- Each meter and each rule that is written is read as its part.
use Rattle.std.proofs.Common.{◌≡◌, ℕ, ◌-◌, ◌^◌, ◌≤◌, Bool, true, false, cond, if◌then◌else◌, List, [], ◌∷◌, ◌++◌, codes, length, Option, Some, None, Ok, refl, ap, arith}
use Rattle.std.specs.List.{list_all, slice_index_or}
use Rattle.std.specs.Option.{IfSome}
use Rattle.profile_plan.specs.declared.meter.MeterKind.{MeterKind}
use Rattle.profile_plan.specs.declared.meter.MeterKind.TheVariants.{SrTcm, TrTcm, Rfc4115}
use Rattle.profile_plan.specs.declared.meter.MeterRate.{MeterRate}
use Rattle.profile_plan.specs.declared.meter.MeterRate.TheVariants.{Periods, PerSecond}
use Rattle.profile_plan.specs.declared.meter.MeterPlan.{MeterPlan}
use Rattle.profile_plan.specs.declared.rule.Proto.{Proto}
use Rattle.profile_plan.specs.declared.rule.Proto.TheVariants.{Ipv4, Ipv6, Mpls, Other}
use Rattle.profile_plan.specs.declared.rule.VlanTest.{VlanTest}
use Rattle.profile_plan.specs.declared.rule.VlanTest.TheVariants.{Any, Untagged, Id}
use Rattle.profile_plan.specs.declared.rule.Prefix.{Prefix}
use Rattle.profile_plan.specs.declared.rule.PipeChoice.{PipeChoice}
use Rattle.profile_plan.specs.declared.rule.PipeChoice.TheVariants as pipes
use Rattle.profile_plan.specs.declared.rule.CodeChoice.{CodeChoice}
use Rattle.profile_plan.specs.declared.rule.CodeChoice.TheVariants as choices
use Rattle.profile_plan.specs.declared.rule.RulePlan.{RulePlan}
use Rattle.profile_plan.specs.Limits.{IsMeterRate, is_name_byte, IsMeter, IsVlan, IsPrefix, IsCode}
use Rattle.profile_print.specs.Text.{number, word, kind_word, mode_word, meter_rate_keys, other_rate_keys, size_word, action_word, action_keys, front_keys, meter_block, input_word, vlan_word, proto_word, prefix_or_any_word, pipe_word, code_words, name_of_meter, rule_block}
use Rattle.profile_print.specs.Text as text
use Rattle.qos_profile.specs.declared.value.Value.{Value}
use Rattle.qos_profile.specs.declared.value.Value.TheVariants as values
use Rattle.qos_profile.specs.declared.head.Head.{Head}
use Rattle.qos_profile.specs.declared.head.Head.TheVariants as heads
use Rattle.qos_profile.specs.Table as table
use Rattle.qos_profile.specs.Table.{meter_keys, rule_keys}
use Rattle.qos_profile.specs.Values.{value_of, prefix_or_any, code_of, padded}
use Rattle.qos_profile.specs.Heads.{head_of, numbered, meter_head}
use Rattle.qos_profile.specs.Facts.{keys_of}
use Rattle.qos_profile.specs.Printed.{gives, number_fact, value_fact, word_fact, kind_number, meter_rate_facts, other_rate_facts, size_told, action_fact, meter_part, input_value, vlan_value, proto_value, prefix_value, pipe_value, code_value, meter_facts, rule_part}
use Rattle.qos_profile.specs.Forms.{HasAddresses, IsAddress}
use Rattle.qos_profile.proofs.Written.{range-is, value-number-or}
use Rattle.qos_profile.proofs.Words.{value-prefix, value-fixed, name-read, value-named}
use Rattle.qos_profile.proofs.Blocks.{each_pair, precedes, Says, SaysAll, IsRead}
use Rattle.qos_profile.proofs.Parts.{says-value, says-number, says-append}

value-aware : (on : Bool) → value_of (table.Word (codes "blind" ∷ codes "aware" ∷ [])) (mode_word on ∷ []) ≡ Ok (values.Word (if on then 1 else 0))
unfolding value_of
value-aware on =
    elim on as (λ t. value_of (table.Word (codes "blind" ∷ codes "aware" ∷ [])) (mode_word t ∷ []) ≡ Ok (values.Word (if t then 1 else 0))) [ true ↦ refl | false ↦ refl ]

value-action : (drops : List Bool) (colour : ℕ) → value_of (table.Word (codes "pass" ∷ codes "drop" ∷ [])) (action_word drops colour ∷ []) ≡ Ok (values.Word (if slice_index_or drops colour false then 1 else 0))
unfolding value_of
value-action drops colour =
    elim (slice_index_or drops colour false) as (λ t. value_of (table.Word (codes "pass" ∷ codes "drop" ∷ [])) (cond t (codes "drop") (codes "pass") ∷ []) ≡ Ok (values.Word (if t then 1 else 0))) [ true ↦ refl | false ↦ refl ]

module _ (head : Head) (same : keys_of head ≡ meter_keys) where
  kind-says : (k : MeterKind) → Says head (Some (kind_number k)) (word (codes "kind" ∷ []) (kind_word k)) (gives 0 0 0 (Some (kind_number k)) (values.Word (kind_number k)))
  unfolding meter_keys value_of
  kind-says SrTcm =
      says-value head meter_keys same (Some 0) _ (word (codes "kind" ∷ []) (codes "srtcm")) (values.Word 0) refl refl refl refl (λ e. absurd (cc))
  kind-says TrTcm =
      says-value head meter_keys same (Some 1) _ (word (codes "kind" ∷ []) (codes "trtcm")) (values.Word 1) refl refl refl refl (λ e. absurd (cc))
  kind-says Rfc4115 =
      says-value head meter_keys same (Some 2) _ (word (codes "kind" ∷ []) (codes "rfc4115")) (values.Word 2) refl refl refl refl (λ e. absurd (cc))

  mode-says : (mode : ℕ) (on : Bool) → Says head (Some mode) (word (codes "mode" ∷ []) (mode_word on)) (word_fact 1 (if on then 1 else 0))
  unfolding meter_keys
  mode-says mode on =
      says-value head meter_keys same (Some mode) _ (word (codes "mode" ∷ []) (mode_word on)) (values.Word (if on then 1 else 0)) refl refl refl (value-aware on) (λ e. refl)

  cir-says : (mode : ℕ) (r : MeterRate) → IsMeterRate r → SaysAll head (Some mode) (meter_rate_keys (codes "cir") r) (meter_rate_facts 2 None r)
  unfolding meter_keys
  cir-says mode (Periods bytes period) h = (
    says-number head meter_keys same (Some mode) _ (codes "cir" ∷ codes "bytes" ∷ []) 0 (2 ^ 40) bytes refl refl refl refl refl (omega arith, h.0) (λ e. refl),
    (says-number head meter_keys same (Some mode) _ (codes "cir" ∷ codes "period" ∷ []) 1 (2 ^ 40) period refl refl refl refl refl h.1 (λ e. refl), tt),
  )
  cir-says mode (PerSecond rate) h =
      (says-number head meter_keys same (Some mode) _ (codes "cir" ∷ codes "rate" ∷ []) 0 12500000000 rate refl refl refl refl refl (omega arith, h) (λ e. refl), tt)

  other-says : (k : MeterKind) (r : MeterRate) → IsMeterRate r → SaysAll head (Some (kind_number k)) (other_rate_keys k r) (other_rate_facts k r)
  unfolding meter_keys
  other-says SrTcm r h = tt
  other-says TrTcm (Periods bytes period) h = (
    says-number head meter_keys same (Some 1) _ (codes "pir" ∷ codes "bytes" ∷ []) 0 (2 ^ 40) bytes refl refl refl refl refl (omega arith, h.0) (λ e. absurd (cc)),
    (says-number head meter_keys same (Some 1) _ (codes "pir" ∷ codes "period" ∷ []) 1 (2 ^ 40) period refl refl refl refl refl h.1 (λ e. absurd (cc)), tt),
  )
  other-says TrTcm (PerSecond rate) h =
      (says-number head meter_keys same (Some 1) _ (codes "pir" ∷ codes "rate" ∷ []) 0 12500000000 rate refl refl refl refl refl (omega arith, h) (λ e. absurd (cc)), tt)
  other-says Rfc4115 (Periods bytes period) h = (
    says-number head meter_keys same (Some 2) _ (codes "eir" ∷ codes "bytes" ∷ []) 0 (2 ^ 40) bytes refl refl refl refl refl (omega arith, h.0) (λ e. absurd (cc)),
    (says-number head meter_keys same (Some 2) _ (codes "eir" ∷ codes "period" ∷ []) 1 (2 ^ 40) period refl refl refl refl refl h.1 (λ e. absurd (cc)), tt),
  )
  other-says Rfc4115 (PerSecond rate) h =
      (says-number head meter_keys same (Some 2) _ (codes "eir" ∷ codes "rate" ∷ []) 0 12500000000 rate refl refl refl refl refl (omega arith, h) (λ e. absurd (cc)), tt)

  size-says : (k : MeterKind) (v : ℕ) → v ≤ 2 ^ 40 → Says head (Some (kind_number k)) (number (size_word k ∷ []) v) (gives 5 0 0 (size_told k) (values.Number v))
  unfolding meter_keys
  size-says SrTcm v h =
      says-number head meter_keys same (Some 0) _ (codes "ebs" ∷ []) 0 (2 ^ 40) v refl refl refl refl refl (omega arith, h) (λ e. refl)
  size-says TrTcm v h =
      says-number head meter_keys same (Some 1) _ (codes "pbs" ∷ []) 0 (2 ^ 40) v refl refl refl refl refl (omega arith, h) (λ e. absurd (cc))
  size-says Rfc4115 v h =
      says-number head meter_keys same (Some 2) _ (codes "ebs" ∷ []) 0 (2 ^ 40) v refl refl refl refl refl (omega arith, h) (λ e. refl)

  actions-say : (mode : ℕ) (drops : List Bool) → SaysAll head (Some mode) (action_keys drops) (action_fact drops 6 0 ∷ action_fact drops 7 1 ∷ action_fact drops 8 2 ∷ [])
  unfolding meter_keys
  actions-say mode drops = (
    says-value head meter_keys same (Some mode) _ (word (codes "green" ∷ []) (action_word drops 0)) (values.Word (if slice_index_or drops 0 false then 1 else 0)) refl refl refl (value-action drops 0) (λ e. refl),
    (
      says-value head meter_keys same (Some mode) _ (word (codes "yellow" ∷ []) (action_word drops 1)) (values.Word (if slice_index_or drops 1 false then 1 else 0)) refl refl refl (value-action drops 1) (λ e. refl),
      (says-value head meter_keys same (Some mode) _ (word (codes "red" ∷ []) (action_word drops 2)) (values.Word (if slice_index_or drops 2 false then 1 else 0)) refl refl refl (value-action drops 2) (λ e. refl), tt),
    ),
  )

  meter-says : (m : MeterPlan) → IsMeter m → SaysAll head (Some (kind_number m.kind)) (meter_block m).keys (meter_part m).facts
  unfolding meter_block front_keys meter_keys
  meter-says m lim =
      let mode = kind_number m.kind in
      let cir = meter_rate_keys (codes "cir") m.cir in
      let other = other_rate_keys m.kind m.other in
      let rates = says-append head (Some mode) cir other (meter_rate_facts 2 None m.cir) (other_rate_facts m.kind m.other) (cir-says mode m.cir lim.cir) (other-says m.kind m.other lim.other) in
      says-append head (Some mode) (front_keys m) (number (codes "cbs" ∷ []) m.cbs ∷ number (size_word m.kind ∷ []) m.other_size ∷ action_keys m.drops) (gives 0 0 0 (Some mode) (values.Word mode) ∷ word_fact 1 (if m.aware then 1 else 0) ∷ meter_rate_facts 2 None m.cir ++ other_rate_facts m.kind m.other) (number_fact 4 m.cbs ∷ gives 5 0 0 (size_told m.kind) (values.Number m.other_size) ∷ action_fact m.drops 6 0 ∷ action_fact m.drops 7 1 ∷ action_fact m.drops 8 2 ∷ []) (kind-says m.kind, (mode-says mode m.aware, rates)) (says-number head meter_keys same (Some mode) _ (codes "cbs" ∷ []) 0 (2 ^ 40) m.cbs refl refl refl refl refl (omega arith, lim.cbs) (λ e. refl), (size-says m.kind m.other_size lim.other_size, actions-say mode m.drops))

meter-apart : (k : MeterKind) (cir other : MeterRate) (a b c d e f g : Value) (t u : Option ℕ) → each_pair precedes (gives 0 0 0 t a ∷ gives 1 0 0 None b ∷ meter_rate_facts 2 None cir ++ other_rate_facts k other ++ gives 4 0 0 None c ∷ gives 5 0 0 u d ∷ gives 6 0 0 None e ∷ gives 7 0 0 None f ∷ gives 8 0 0 None g ∷ []) ≡ true
meter-apart SrTcm (Periods x y) r a b c d e f g t u = refl
meter-apart SrTcm (PerSecond x) r a b c d e f g t u = refl
meter-apart TrTcm (Periods x y) (Periods z w) a b c d e f g t u = refl
meter-apart TrTcm (Periods x y) (PerSecond z) a b c d e f g t u = refl
meter-apart TrTcm (PerSecond x) (Periods z w) a b c d e f g t u = refl
meter-apart TrTcm (PerSecond x) (PerSecond z) a b c d e f g t u = refl
meter-apart Rfc4115 (Periods x y) (Periods z w) a b c d e f g t u = refl
meter-apart Rfc4115 (Periods x y) (PerSecond z) a b c d e f g t u = refl
meter-apart Rfc4115 (PerSecond x) (Periods z w) a b c d e f g t u = refl
meter-apart Rfc4115 (PerSecond x) (PerSecond z) a b c d e f g t u = refl

pub meter-read : (m : MeterPlan) → IsMeter m → IsRead (meter_block m) (meter_part m)
unfolding meter_block front_keys head_of
meter-read m lim = record {
  mode = Some (kind_number m.kind);
  head = ap meter_head (name-read m.name lim.name.0 lim.name.1 lim.letters);
  listed = refl;
  keys = meter-says (heads.Meter (padded m.name)) refl m lim;
  first = refl;
  begins = refl;
  apart = meter-apart m.kind m.cir m.other (values.Word (kind_number m.kind)) (values.Word (if m.aware then 1 else 0)) (values.Number m.cbs) (values.Number m.other_size) (values.Word (if slice_index_or m.drops 0 false then 1 else 0)) (values.Word (if slice_index_or m.drops 1 false then 1 else 0)) (values.Word (if slice_index_or m.drops 2 false then 1 else 0)) (Some (kind_number m.kind)) (size_told m.kind);
}

-- the values of a rule
value-input : (o : Option ℕ) → IfSome o (λ n. n ≤ 15) → value_of (table.NumberOr 0 15 table.any) (input_word o ∷ []) ≡ Ok (input_value o)
unfolding value_of
value-input None h = refl
value-input (Some n) h = value-number-or 0 15 n table.any refl (omega arith) h (omega arith)

value-vlan : (v : VlanTest) → IsVlan v → value_of (table.NumberOr 0 4095 (codes "any" ∷ codes "none" ∷ [])) (vlan_word v ∷ []) ≡ Ok (vlan_value v)
unfolding value_of
value-vlan Any h = refl
value-vlan Untagged h = refl
value-vlan (Id n) h = value-number-or 0 4095 n (codes "any" ∷ codes "none" ∷ []) refl (omega arith) h (omega arith)

value-proto : (o : Option Proto) → value_of (table.Word (codes "ipv4" ∷ codes "ipv6" ∷ codes "mpls" ∷ codes "other" ∷ codes "any" ∷ [])) (proto_word o ∷ []) ≡ Ok (proto_value o)
unfolding value_of
value-proto None = refl
value-proto (Some Ipv4) = refl
value-proto (Some Ipv6) = refl
value-proto (Some Mpls) = refl
value-proto (Some Other) = refl

value-address : (o : Option Prefix) → IfSome o IsPrefix → IfSome o IsAddress → value_of table.Address (prefix_or_any_word o ∷ []) ≡ Ok (prefix_value o)
unfolding value_of prefix_or_any
value-address None h g = refl
value-address (Some p) h g = value-prefix p h g

-- a pipe that a rule may name
abbrev pub IsPipe : PipeChoice → Type 0
IsPipe (pipes.Fixed n) = n ≤ 4095
IsPipe pipes.Vlan = Unit {0}
IsPipe pipes.Host = Unit {0}

value-pipe : (c : PipeChoice) → IsPipe c → value_of (table.NumberOr 0 (2 ^ 64 - 1) (codes "vlan" ∷ codes "host" ∷ [])) (pipe_word c ∷ []) ≡ Ok (pipe_value c)
unfolding value_of
value-pipe (pipes.Fixed n) h =
    value-number-or 0 (2 ^ 64 - 1) n (codes "vlan" ∷ codes "host" ∷ []) refl (omega arith) (omega arith) (omega arith)
value-pipe pipes.Vlan h = refl
value-pipe pipes.Host h = refl

value-code : (c : CodeChoice) → IsCode c → value_of table.Code (code_words c) ≡ Ok (code_value c)
unfolding value_of code_of
value-code choices.Dscp h = refl
value-code (choices.Fixed e) h = value-fixed e h

-- a name that can be read
pub record IsName (w : List ℕ) : Type 0 where
  pub low : 1 ≤ length w
  pub high : length w ≤ 32
  pub bytes : list_all is_name_byte w ≡ true

named-says : (n : ℕ) (meters : List MeterPlan) (o : Option ℕ) → IfSome o (λ k. IsName (name_of_meter meters k)) → SaysAll (heads.Rule n) None (text.meter_keys meters o) (meter_facts meters o)
unfolding rule_keys
named-says n meters None h = tt
named-says n meters (Some k) h =
    (says-value (heads.Rule n) rule_keys refl None _ (word (codes "meter" ∷ []) (name_of_meter meters k)) (values.Name (padded (name_of_meter meters k))) refl refl refl (value-named (name_of_meter meters k) h.low h.high h.bytes) (λ e. refl), tt)

rule-apart : (meters : List MeterPlan) (o : Option ℕ) (a b c d e f g h i : Value) → each_pair precedes (value_fact 0 a ∷ value_fact 1 b ∷ value_fact 2 c ∷ value_fact 3 d ∷ value_fact 4 e ∷ value_fact 5 f ∷ value_fact 6 g ∷ value_fact 7 h ∷ value_fact 8 i ∷ meter_facts meters o) ≡ true
rule-apart meters None a b c d e f g h i = refl
rule-apart meters (Some n) a b c d e f g h i = refl

-- what a rule keeps by itself
pub record CanBeRule (meters : List MeterPlan) (r : RulePlan) : Type 0 where
  pub number : r.number ≤ 255
  pub input : IfSome r.input (λ n. n ≤ 15)
  pub vlan : IsVlan r.vlan
  pub src : IfSome r.src IsPrefix
  pub dst : IfSome r.dst IsPrefix
  pub addresses : HasAddresses r
  pub port : r.port ≤ 15
  pub subport : r.subport ≤ 7
  pub pipe : IsPipe r.pipe
  pub code : IsCode r.code
  pub meter : IfSome r.meter (λ n. IsName (name_of_meter meters n))

pub rule-read : (meters : List MeterPlan) (r : RulePlan) → CanBeRule meters r → IsRead (rule_block meters r) (rule_part meters r)
unfolding rule_block rule_keys head_of
rule-read meters r lim =
    let head : Head = heads.Rule r.number in
    record {
      mode = None;
      head = ap (numbered heads.Rule) (range-is 0 255 r.number (omega arith) lim.number (omega (arith, lim.number)));
      listed = refl;
      keys = (
        says-value head rule_keys refl None _ (word (codes "input" ∷ []) (input_word r.input)) (input_value r.input) refl refl refl (value-input r.input lim.input) (λ e. refl),
        (
          says-value head rule_keys refl None _ (word (codes "vlan" ∷ []) (vlan_word r.vlan)) (vlan_value r.vlan) refl refl refl (value-vlan r.vlan lim.vlan) (λ e. refl),
          (
            says-value head rule_keys refl None _ (word (codes "proto" ∷ []) (proto_word r.proto)) (proto_value r.proto) refl refl refl (value-proto r.proto) (λ e. refl),
            (
              says-value head rule_keys refl None _ (word (codes "src" ∷ []) (prefix_or_any_word r.src)) (prefix_value r.src) refl refl refl (value-address r.src lim.src lim.addresses.src) (λ e. refl),
              (
                says-value head rule_keys refl None _ (word (codes "dst" ∷ []) (prefix_or_any_word r.dst)) (prefix_value r.dst) refl refl refl (value-address r.dst lim.dst lim.addresses.dst) (λ e. refl),
                (
                  says-number head rule_keys refl None _ (codes "port" ∷ []) 0 (2 ^ 64 - 1) r.port refl refl refl refl refl (omega arith, omega (arith, lim.port)) (λ e. refl),
                  (
                    says-number head rule_keys refl None _ (codes "subport" ∷ []) 0 (2 ^ 64 - 1) r.subport refl refl refl refl refl (omega arith, omega (arith, lim.subport)) (λ e. refl),
                    (
                      says-value head rule_keys refl None _ (word (codes "pipe" ∷ []) (pipe_word r.pipe)) (pipe_value r.pipe) refl refl refl (value-pipe r.pipe lim.pipe) (λ e. refl),
                      (says-value head rule_keys refl None _ (record { words = codes "code" ∷ []; value = code_words r.code }) (code_value r.code) refl refl refl (value-code r.code lim.code) (λ e. refl), named-says r.number meters r.meter lim.meter),
                    ),
                  ),
                ),
              ),
            ),
          ),
        ),
      );
      first = refl;
      begins = refl;
      apart = rule-apart meters r.meter (input_value r.input) (vlan_value r.vlan) (proto_value r.proto) (prefix_value r.src) (prefix_value r.dst) (values.Number r.port) (values.Number r.subport) (pipe_value r.pipe) (code_value r.code);
    }
