-- The limits of the parts that name no other part: the pool, a port's own numbers, a shaping.
use Rattle.std.proofs.Common.{◌≡◌, ◌==◌, ℕ, ◌*◌, ◌^◌, ◌≤◌, Bool, true, false, cond, not, ◌&&◌, ◌||◌, nat_le, nat_lt, min, List, [], ◌∷◌, Option, None, Some, refl, sym, ap, subst, ◌∙◌, arith}
use Rattle.std.specs.Prelude.{All}
use Rattle.std.specs.List.{list_all, range_with_len}
use Rattle.std.proofs.lemmas.Bool.{and_parts, eqb-true, leb-true, ltb-false}
use Rattle.std.proofs.lemmas.List.Elements.{All-map}
use Rattle.profile_plan.specs.declared.port.Span.TheVariants as spans
use Rattle.profile_plan.specs.declared.shaping.Shaping.TheVariants as shapings
use Rattle.profile_plan.specs.Limits.{Within, IsPool, IsSpan, IsShaping}
use Rattle.qos_profile.specs.declared.fact.Fact.{Fact}
use Rattle.qos_profile.specs.declared.head.Head.{Head}
use Rattle.qos_profile.specs.declared.head.Head.TheVariants as heads
use Rattle.qos_profile.specs.declared.section.Section.{Section}
use Rattle.qos_profile.specs.Table.{pool_keys, port_keys, subport_kind_keys, pipe_kind_keys}
use Rattle.qos_profile.specs.Values.{is_within}
use Rattle.qos_profile.specs.Facts.{keys_of, mode_of}
use Rattle.qos_profile.specs.Lookups.{has, has_all, number_at, facts_at}
use Rattle.qos_profile.specs.Missing.{is_rate, has_shaping, is_complete}
use Rattle.qos_profile.specs.Across.{keeps_period}
use Rattle.qos_profile.specs.Large.{queue_total, pipe_total, slot_total, meter_total, first_above, too_large}
use Rattle.qos_profile.specs.Kept.{IsGiven, EachFact, is_number_form}
use Rattle.qos_profile.specs.Planned.{pool_of, drain_of, classes_of, whole_form_of, rate_form_of, shaping_of}
use Rattle.qos_profile.proofs.Slots.{tells, any_mode, each_key, IsFactOf, facts-any, number-default, number-there}
use Rattle.qos_profile.proofs.Agreeing.{agrees, agree, is_shaping}
use Rattle.qos_profile.proofs.Sound.{IsSound, given-at}

-- the totals that are not too large
pub record AreSmall (q p s m : ℕ) : Type 0 where
  pub queues : q ≤ 4194304
  pub pipes : p ≤ 65536
  pub slots : s ≤ 2 ^ 31
  pub meters : m ≤ 64

first-small : (q p s m : ℕ) → first_above q p s m ≡ None → AreSmall q p s m
first-small q p s m h = by (nat_lt 4194304 q) (nat_lt 65536 p) (nat_lt (2 ^ 31) s) (nat_lt 64 m) refl refl refl refl h
  where
    by : (a b c d : Bool) → nat_lt 4194304 q ≡ a → nat_lt 65536 p ≡ b → nat_lt (2 ^ 31) s ≡ c → nat_lt 64 m ≡ d → cond a (Some q) (cond b (Some p) (cond c (Some s) (cond d (Some m) None))) ≡ None → AreSmall q p s m
    by false false false false a b c d h =
        record { queues = ltb-false 4194304 q a; pipes = ltb-false 65536 p b; slots = ltb-false (2 ^ 31) s c; meters = ltb-false 64 m d }
    by true b c d e f g h i = absurd (cc)
    by false true c d e f g h i = absurd (cc)
    by false false true d e f g h i = absurd (cc)
    by false false false true e f g h i = absurd (cc)

pub totals-small : (ss : List Section) → IsSound ss → AreSmall (queue_total ss) (pipe_total ss) (slot_total (facts_at ss heads.Pool)) (meter_total ss)
unfolding too_large
totals-small ss sound =
    first-small (queue_total ss) (pipe_total ss) (slot_total (facts_at ss heads.Pool)) (meter_total ss) sound.small

product-small : (a b : ℕ) → a ≤ 1048576 → b ≤ 262144 → min 1048576 a * min 262144 b ≤ 2 ^ 31 → a * b ≤ 2 ^ 31
product-small a b x y h =
    let s : min 1048576 a ≡ a = omega arith in
    let t : min 262144 b ≡ b = omega arith in
    subst (λ c. c ≤ 2 ^ 31) (ap (λ c. c * min 262144 b) s ∙ ap (λ c. a * c) t) h

-- the pool, there or not
pub pool-limits : (ss : List Section) → IsSound ss → IsPool (pool_of (facts_at ss heads.Pool))
unfolding pool_of pool_keys
pool-limits ss sound =
    let facts = facts_at ss heads.Pool in
    let each = facts-any heads.Pool facts (given-at ss heads.Pool sound refl) in
    let slots = number-default heads.Pool any_mode 0 0 1 1048576 65536 facts refl each (omega arith, omega arith) in
    let bytes = number-default heads.Pool any_mode 1 0 64 262144 2048 facts refl each (omega arith, omega arith) in
    record {
      slots = slots;
      slot_bytes = bytes;
      ring = number-default heads.Pool any_mode 2 0 1 65536 8192 facts refl each (omega arith, omega arith);
      product = product-small (number_at facts 0 0 65536) (number_at facts 1 0 2048) slots.1 bytes.1 (totals-small ss sound).slots;
    }

-- the numbers of a port
pub record ArePortNumbers (facts : List Fact) : Type 0 where
  pub line : Within 1000000 12500000000 (number_at facts 0 0 0)
  pub subports : Within 1 8 (number_at facts 1 0 0)
  pub overhead : Within 0 255 (number_at facts 2 0 24)
  pub mtu : Within 60 262144 (number_at facts 3 0 1522)
  pub burst : Within 1 256 (number_at facts 4 0 32)
  pub quantum : Within 1 1000000000 (number_at facts 5 0 65536)
  pub drain : IsSpan (drain_of facts)

pub port-numbers : (n : ℕ) (facts : List Fact) → EachFact (IsGiven (heads.Port n)) facts → is_complete (heads.Port n) facts ≡ true → ArePortNumbers facts
unfolding port_keys drain_of
port-numbers n facts given complete =
    let each = facts-any (heads.Port n) facts given in
    let owed = and_parts (has facts 0 0) (has facts 1 0) complete in
    record {
      line = number-there (heads.Port n) any_mode 0 0 1000000 12500000000 0 facts refl each owed.0;
      subports = number-there (heads.Port n) any_mode 1 0 1 8 0 facts refl each owed.1;
      overhead = number-default (heads.Port n) any_mode 2 0 0 255 24 facts refl each (omega arith, omega arith);
      mtu = number-default (heads.Port n) any_mode 3 0 60 262144 1522 facts refl each (omega arith, omega arith);
      burst = number-default (heads.Port n) any_mode 4 0 1 256 32 facts refl each (omega arith, omega arith);
      quantum = number-default (heads.Port n) any_mode 5 0 1 1000000000 65536 facts refl each (omega arith, omega arith);
      drain = elim (has facts 6 0) as (λ t. IsSpan (cond t (spans.Bytes (number_at facts 6 0 0)) (spans.Ms (number_at facts 6 2 1000)))) [
        | true ↦ (number-default (heads.Port n) any_mode 6 0 0 (2 ^ 40) 0 facts refl each (omega arith, omega arith)).1
        | false ↦ (number-default (heads.Port n) any_mode 6 2 0 100000 1000 facts refl each (omega arith, omega arith)).1
      ];
    }

-- what a section of a shaping owes
pub record OwesShaping (facts : List Fact) : Type 0 where
  pub bucket : has facts 0 0 ≡ true
  pub period : (is_rate (mode_of facts) || has facts 1 0) ≡ true
  pub size : has facts 2 0 ≡ true
  pub classes : has_all facts 3 0 13 ≡ true
  pub renewal : has facts 4 0 ≡ true

owes-shaping : (facts : List Fact) → has_shaping facts ≡ true → OwesShaping facts
owes-shaping facts h =
    let a = and_parts (has facts 0 0 && (is_rate (mode_of facts) || has facts 1 0) && has facts 2 0 && has_all facts 3 0 13) (has facts 4 0) h in
    let b = and_parts (has facts 0 0 && (is_rate (mode_of facts) || has facts 1 0) && has facts 2 0) (has_all facts 3 0 13) a.0 in
    let c = and_parts (has facts 0 0 && (is_rate (mode_of facts) || has facts 1 0)) (has facts 2 0) b.0 in
    let d = and_parts (has facts 0 0) (is_rate (mode_of facts) || has facts 1 0) c.0 in
    record { bucket = d.0; period = d.1; size = c.1; classes = b.1; renewal = a.1 }

-- the facts of a shaping tell its form
abbrev pub in_form : Bool → ℕ → Bool
in_form true mode = mode == 1
in_form false mode = not (mode == 1)

form-told : (told mode : Option ℕ) → agrees told mode ≡ true → tells (in_form (is_rate mode)) told ≡ true
form-told None mode h = refl
form-told (Some a) None h = absurd (cc)
form-told (Some a) (Some b) h =
    let same : a ≡ b = eqb-true a b h in by (b == 1) refl
  where
    by : (t : Bool) → (b == 1) ≡ t → in_form t a ≡ true
    by true e = ap (λ x. x == 1) (eqb-true a b h) ∙ e
    by false e = ap (λ x. not (x == 1)) (eqb-true a b h) ∙ ap not e

facts-told : (head : Head) (mode : Option ℕ) (facts : List Fact) → EachFact (IsGiven head) facts → list_all (λ fact. agrees fact.told mode) facts ≡ true → EachFact (IsFactOf head (in_form (is_rate mode))) facts
facts-told head mode [] given all = tt
facts-told head mode (f ∷ fs) given all =
    let parts = and_parts (agrees f.told mode) (list_all (λ fact. agrees fact.told mode) fs) all in
    ((given.0, form-told f.told mode parts.0), facts-told head mode fs given.1 parts.1)

-- the keys of a shaping are the same for subports and pipes
abbrev pub ShapingKeys : Head → Type 0
ShapingKeys head =
    (each_key 0 0 (in_form false) (λ key. is_number_form 1 (2 ^ 40) key.form) (keys_of head) ≡ true)
    × (each_key 1 0 (in_form false) (λ key. is_number_form 1 (2 ^ 40) key.form) (keys_of head) ≡ true)
    × (each_key 2 0 (in_form false) (λ key. is_number_form 1 (2 ^ 40) key.form) (keys_of head) ≡ true)
    × (each_key 0 0 (in_form true) (λ key. is_number_form 1 12500000000 key.form) (keys_of head) ≡ true)
    × (each_key 2 0 (in_form true) (λ key. is_number_form 1 (2 ^ 40) key.form) (keys_of head) ≡ true)
    × ((class : ℕ) → each_key 3 class (in_form false) (λ key. is_number_form 0 (2 ^ 40) key.form) (keys_of head) ≡ true)
    × ((class : ℕ) → each_key 3 class (in_form true) (λ key. is_number_form 0 12500000000 key.form) (keys_of head) ≡ true)

pub shaping-keys : (head : Head) → is_shaping head ≡ true → ShapingKeys head
unfolding subport_kind_keys pipe_kind_keys
shaping-keys (heads.SubportKind n) h = (refl, refl, refl, refl, refl, λ class. refl, λ class. refl)
shaping-keys (heads.PipeKind n) h = (refl, refl, refl, refl, refl, λ class. refl, λ class. refl)
shaping-keys heads.Pool h = absurd (cc)
shaping-keys (heads.Port n) h = absurd (cc)
shaping-keys (heads.Subport p k) h = absurd (cc)
shaping-keys heads.Codes h = absurd (cc)
shaping-keys (heads.Meter name) h = absurd (cc)
shaping-keys (heads.Rule n) h = absurd (cc)
shaping-keys heads.Red h = absurd (cc)

-- each class has its limit
class-limits : (head : Head) (p : ℕ → Bool) (most : ℕ) (facts : List Fact) → ((class : ℕ) → each_key 3 class p (λ key. is_number_form 0 most key.form) (keys_of head) ≡ true) → EachFact (IsFactOf head p) facts → All (λ n. n ≤ most) (classes_of facts)
class-limits head p most facts keys each =
    All-map (λ n. n ≤ most) (λ class. number_at facts 3 class 0) (range_with_len 0 13) (λ k d below. (number-default head p 3 _ 0 most 0 facts (keys _) each (omega arith, omega arith)).1)

pub within-from : (least most n : ℕ) → is_within least most n ≡ true → Within least most n
within-from least most n h =
    let parts = and_parts (nat_le least n) (nat_le n most) h in (leb-true least n parts.0, leb-true n most parts.1)

pub shaping-limits : (head : Head) (facts : List Fact) → is_shaping head ≡ true → EachFact (IsGiven head) facts → agree facts ≡ true → has_shaping facts ≡ true → keeps_period facts ≡ true → IsShaping (shaping_of facts)
unfolding shaping_of whole_form_of rate_form_of
shaping-limits head facts is given all has_it period = by (is_rate (mode_of facts)) refl (facts-told head (mode_of facts) facts given all) (owes-shaping facts has_it) period
  where
    keys : ShapingKeys head
    keys = shaping-keys head is

    by : (t : Bool) → is_rate (mode_of facts) ≡ t → EachFact (IsFactOf head (in_form (is_rate (mode_of facts)))) facts → OwesShaping facts → cond t (is_within 1 10000 (number_at facts 4 0 0)) (is_within 1 (2 ^ 40) (number_at facts 4 0 0)) ≡ true → IsShaping (cond t (shapings.Rate (rate_form_of facts)) (shapings.Whole (whole_form_of facts)))
    by true e told owes within =
        let each = subst (λ t. EachFact (IsFactOf head (in_form t)) facts) e told in
        record {
          tb_rate = number-there head (in_form true) 0 0 1 12500000000 0 facts keys.3 each owes.bucket;
          tb_size = number-there head (in_form true) 2 0 1 (2 ^ 40) 0 facts keys.4 each owes.size;
          tc_rates = class-limits head (in_form true) 12500000000 facts keys.6 each;
          tc_period_ms = within-from 1 10000 (number_at facts 4 0 0) within;
        }
    by false e told owes within =
        let each = subst (λ t. EachFact (IsFactOf head (in_form t)) facts) e told in
        record {
          tb_credits = number-there head (in_form false) 0 0 1 (2 ^ 40) 0 facts keys.0 each owes.bucket;
          tb_period = number-there head (in_form false) 1 0 1 (2 ^ 40) 0 facts keys.1 each (ap (λ t. t || has facts 1 0) (sym e) ∙ owes.period);
          tb_size = number-there head (in_form false) 2 0 1 (2 ^ 40) 0 facts keys.2 each owes.size;
          tc_credits = class-limits head (in_form false) (2 ^ 40) facts keys.5 each;
          tc_period = within-from 1 (2 ^ 40) (number_at facts 4 0 0) within;
        }
