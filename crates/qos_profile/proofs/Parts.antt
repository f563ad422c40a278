-- Each section that is written is read as its part.
use Rattle.std.proofs.Common.{◌≡◌, ◌==◌, ℕ, ◌+◌, ◌-◌, ◌^◌, ◌<◌, ◌≤◌, Bool, true, false, cond, ◌&&◌, nat_lt, nat_le, if◌then◌else◌, List, [], ◌∷◌, ◌++◌, codes, length, map, find, Option, Some, None, Result, Ok, Err, refl, sym, ap, ◌∙◌, subst, arith}
use Rattle.std.specs.List.{list_all, All}
use Rattle.std.specs.Fmt.{decimal}
use Rattle.std.proofs.lemmas.Bool.{and_parts, and_from, or_left, or_right, le-leb, lt-ltb, ltb-true, eq-eqb}
use Rattle.std.proofs.lemmas.List.{append-nil, append_assoc}
use Rattle.std.proofs.lemmas.List.Folds.{list_all-append}
use Rattle.std.proofs.lemmas.List.Elements.{All-head, All-tail}
use Rattle.code_table.specs.declared.entry.Entry.{Entry}
use Rattle.code_table.specs.Entry.{IsValid}
use Rattle.profile_plan.specs.declared.port.PoolPlan.{PoolPlan}
use Rattle.profile_plan.specs.declared.port.PortPlan.{PortPlan}
use Rattle.profile_plan.specs.declared.port.SubportPlan.{SubportPlan}
use Rattle.profile_plan.specs.declared.port.Span.{Span}
use Rattle.profile_plan.specs.declared.port.Span.TheVariants.{Bytes, Ms}
use Rattle.profile_plan.specs.declared.shaping.Shaping.{Shaping}
use Rattle.profile_plan.specs.declared.shaping.Shaping.TheVariants as shapings
use Rattle.profile_plan.specs.declared.shaping.Whole.{Whole}
use Rattle.profile_plan.specs.declared.shaping.Rates.{Rates}
use Rattle.profile_plan.specs.declared.shaping.PipeKind.{PipeKind}
use Rattle.profile_plan.specs.Limits.{Within, IsPool, IsSpan, IsWhole, IsRates, IsShaping, IsPipeKind}
use Rattle.profile_plan.specs.Profile.{IsPort, IsSubport}
use Rattle.profile_print.specs.Written.{Words, Key, each, each_from}
use Rattle.profile_print.specs.Text.{number, word, pool_block, drain_key, port_block, class_key, whole_keys, rate_keys, shaping_keys, subport_kind_block, pipe_kind_block, pipe_key, yes_word, subport_block, code_key, codes_block}
use Rattle.qos_profile.specs.declared.fault.FaultKind.{FaultKind}
use Rattle.qos_profile.specs.declared.fault.FaultKind.TheVariants as faults
use Rattle.qos_profile.specs.declared.value.Value.{Value}
use Rattle.qos_profile.specs.declared.value.Value.TheVariants as values
use Rattle.qos_profile.specs.declared.fact.Fact.{Fact}
use Rattle.qos_profile.specs.declared.head.Head.{Head}
use Rattle.qos_profile.specs.declared.head.Head.TheVariants as heads
use Rattle.qos_profile.specs.declared.table.Place.TheVariants.{Nothing}
use Rattle.qos_profile.specs.Table as table
use Rattle.qos_profile.specs.Table.{pool_keys, port_keys, subport_kind_keys, pipe_kind_keys, subport_keys, code_keys}
use Rattle.qos_profile.specs.Values.{value_of}
use Rattle.qos_profile.specs.Heads.{fits, head_of, numbered, number_at_most, subport_head}
use Rattle.qos_profile.specs.Facts.{keys_of, word_in_place, range_in, slots_of, told_by, is_listed, fact_with, given_by, given_in, given, twice_that, begins_well}
use Rattle.profile_lines.specs.Numbers.{number_of, range_of}
use Rattle.qos_profile.specs.Printed.{gives, number_fact, value_fact, word_fact, pool_part, drain_fact, port_part, class_fact, whole_facts, rate_facts, shaping_facts, subport_kind_part, pipe_kind_part, pipe_fact, subport_part, code_fact, codes_part}
use Rattle.qos_profile.specs.Forms.{HasClasses, HasWeights}
use Rattle.qos_profile.proofs.Written.{number-is, lettered-ne, range-is, value-number, value-sizes, value-weights, range-one}
use Rattle.qos_profile.proofs.Words.{value-mark}
use Rattle.qos_profile.proofs.Blocks.{all-weaker, each_pair, precedes, Says, SaysAll, FirstTells, BeginsWell, IsRead}

module _ (head : Head) (keys : List table.Key) (same : keys_of head ≡ keys) (mode : Option ℕ) where
  -- what a key line gives
  pub says : (key : table.Key) (k : Key) (a b : ℕ) (v : Value) → find (λ x. fits x.words k.words) keys ≡ Some key → is_listed key.only mode ≡ true → slots_of key.place (key.first, key.last) (word_in_place key.words k.words) ≡ Ok (a, b) → value_of key.form k.value ≡ Ok v → (mode ≡ None → told_by key.only v ≡ None) → Says head mode k (gives key.group a b (told_by key.only v) v)
  unfolding given
  says key k a b v found listed slots value told = record {
    is = λ n.
        ap (λ ks. given ks mode n k.words k.value) same
        ∙ ap (given_in mode n k.words k.value) found
        ∙ ap (λ t. cond t (given_by n k.words k.value key) (Err faults.UnknownKey)) listed
        ∙ ap (λ s. fact_with n key s (value_of key.form k.value)) slots
        ∙ ap (λ r. fact_with n key (Ok (a, b)) r) value;
    told = told;
  }

  -- a key of fixed words
  pub says-value : (key : table.Key) (k : Key) (v : Value) → find (λ x. fits x.words k.words) keys ≡ Some key → is_listed key.only mode ≡ true → key.place ≡ Nothing → value_of key.form k.value ≡ Ok v → (mode ≡ None → told_by key.only v ≡ None) → Says head mode k (gives key.group key.first key.last (told_by key.only v) v)
  says-value key k v found listed place value told =
      says key k key.first key.last v found listed (ap (λ p. slots_of p (key.first, key.last) (word_in_place key.words k.words)) place) value told

  -- its value is a number
  pub says-number : (key : table.Key) (words : Words) (least most v : ℕ) → find (λ x. fits x.words words) keys ≡ Some key → is_listed key.only mode ≡ true → key.place ≡ Nothing → key.form ≡ table.Number least most → nat_lt most (2 ^ 64) ≡ true → Within least most v → (mode ≡ None → told_by key.only (values.Number v) ≡ None) → Says head mode (number words v) (gives key.group key.first key.last (told_by key.only (values.Number v)) (values.Number v))
  says-number key words least most v found listed place form small within told =
      says-value key (number words v) (values.Number v) found listed place (ap (λ f. value_of f (decimal v ∷ [])) form ∙ value-number least most v within.0 within.1 (omega (arith, ltb-true most (2 ^ 64) small, within.1))) told

-- one range of one number
slots-one : (most n : ℕ) → n ≤ most → n < 2 ^ 64 → range_in most (range_of (decimal n)) ≡ Ok (n, n)
slots-one most n h below =
    ap (range_in most) (range-one n below)
    ∙ ap (λ t. cond {A = Result (ℕ × ℕ) FaultKind} t (Ok (n, n)) (Err faults.OutOfRange)) (and_from (nat_le n n) (nat_le n most) (le-leb n n (omega arith)) (le-leb n most h))

pub says-append : (head : Head) (mode : Option ℕ) (ks ls : List Key) (fs gs : List Fact) → SaysAll head mode ks fs → SaysAll head mode ls gs → SaysAll head mode (ks ++ ls) (fs ++ gs)
says-append head mode [] ls [] gs h g = g
says-append head mode [] ls (f ∷ fs) gs h g = absurd h
says-append head mode (k ∷ ks) ls [] gs h g = absurd h
says-append head mode (k ∷ ks) ls (f ∷ fs) gs h g = (h.0, says-append head mode ks ls fs gs h.1 g)

-- facts of slots that follow one another stand apart from those before and behind them
pub pair-append : (xs ys : List Fact) → each_pair precedes xs ≡ true → each_pair precedes ys ≡ true → list_all (λ x. list_all (precedes x) ys) xs ≡ true → each_pair precedes (xs ++ ys) ≡ true
pair-append [] ys h g c = g
pair-append (x ∷ xs) ys h g c =
    let hs = and_parts (list_all (precedes x) xs) (each_pair precedes xs) h in
    let cs = and_parts (list_all (precedes x) ys) (list_all (λ z. list_all (precedes z) ys) xs) c in
    and_from (list_all (precedes x) (xs ++ ys)) (each_pair precedes (xs ++ ys)) (list_all-append (precedes x) xs ys ∙ and_from (list_all (precedes x) xs) (list_all (precedes x) ys) hs.0 cs.0) (pair-append xs ys hs.1 g cs.1)

module _ {X : Type 0} (g : ℕ) (t : Option ℕ) (val : X → Value) where
  slots-later : (a : Fact) (n : ℕ) (xs : List X) → ((m : ℕ) (v : Value) → n ≤ m → precedes a (gives g m m t v) ≡ true) → list_all (precedes a) (each_from (λ k x. gives g k k t (val x)) n xs) ≡ true
  slots-later a n [] h = refl
  slots-later a n (x ∷ xs) h =
      and_from (precedes a (gives g n n t (val x))) (list_all (precedes a) (each_from (λ k y. gives g k k t (val y)) (n + 1) xs)) (h n (val x) (omega arith)) (slots-later a (n + 1) xs (λ m v e. h m v (omega arith)))

  pub slots-apart : (n : ℕ) (xs : List X) → each_pair precedes (each_from (λ k x. gives g k k t (val x)) n xs) ≡ true
  slots-apart n [] = refl
  slots-apart n (x ∷ xs) =
      and_from (list_all (precedes (gives g n n t (val x))) (each_from (λ k y. gives g k k t (val y)) (n + 1) xs)) (each_pair precedes (each_from (λ k y. gives g k k t (val y)) (n + 1) xs)) (slots-later (gives g n n t (val x)) (n + 1) xs (λ m v e. or_right (nat_lt g g) (g == g && nat_lt n m) (and_from (g == g) (nat_lt n m) (eq-eqb g g refl) (lt-ltb n m (omega arith))))) (slots-apart (n + 1) xs)

  front-slots : (front : List Fact) (n : ℕ) (xs : List X) → list_all (λ a. nat_lt a.group g) front ≡ true → list_all (λ a. list_all (precedes a) (each_from (λ k x. gives g k k t (val x)) n xs)) front ≡ true
  front-slots [] n xs h = refl
  front-slots (a ∷ as') n xs h =
      let parts = and_parts (nat_lt a.group g) (list_all (λ b. nat_lt b.group g) as') h in
      and_from (list_all (precedes a) (each_from (λ k x. gives g k k t (val x)) n xs)) (list_all (λ b. list_all (precedes b) (each_from (λ k x. gives g k k t (val x)) n xs)) as') (slots-later a n xs (λ m v e. or_left (nat_lt a.group g) (a.group == g && nat_lt a.last m) parts.0)) (front-slots as' n xs parts.1)

  back-all : (m : ℕ) (v : Value) (back : List Fact) → list_all (λ d. nat_lt g d.group) back ≡ true → list_all (precedes (gives g m m t v)) back ≡ true
  back-all m v [] h = refl
  back-all m v (d ∷ ds) h =
      let parts = and_parts (nat_lt g d.group) (list_all (λ e. nat_lt g e.group) ds) h in
      and_from (precedes (gives g m m t v) d) (list_all (precedes (gives g m m t v)) ds) (or_left (nat_lt g d.group) (g == d.group && nat_lt m d.first) parts.0) (back-all m v ds parts.1)

  slots-back : (back : List Fact) (n : ℕ) (xs : List X) → list_all (λ d. nat_lt g d.group) back ≡ true → list_all (λ x. list_all (precedes x) back) (each_from (λ k x. gives g k k t (val x)) n xs) ≡ true
  slots-back back n [] h = refl
  slots-back back n (x ∷ xs) h =
      and_from (list_all (precedes (gives g n n t (val x))) back) (list_all (λ y. list_all (precedes y) back) (each_from (λ k y. gives g k k t (val y)) (n + 1) xs)) (back-all n (val x) back h) (slots-back back (n + 1) xs h)

  both-ways : (front back : List Fact) (mid : List Fact) → list_all (λ a. list_all (precedes a) mid) front ≡ true → list_all (λ a. list_all (precedes a) back) front ≡ true → list_all (λ a. list_all (precedes a) (mid ++ back)) front ≡ true
  both-ways [] back mid h k = refl
  both-ways (a ∷ as') back mid h k =
      let hs = and_parts (list_all (precedes a) mid) (list_all (λ b. list_all (precedes b) mid) as') h in
      let ks = and_parts (list_all (precedes a) back) (list_all (λ b. list_all (precedes b) back) as') k in
      and_from (list_all (precedes a) (mid ++ back)) (list_all (λ b. list_all (precedes b) (mid ++ back)) as') (list_all-append (precedes a) mid back ∙ and_from (list_all (precedes a) mid) (list_all (precedes a) back) hs.0 ks.0) (both-ways as' back mid hs.1 ks.1)

  -- facts before the slots, and facts behind them
  pub slots-between : (front back : List Fact) (n : ℕ) (xs : List X) → each_pair precedes front ≡ true → each_pair precedes back ≡ true → list_all (λ a. list_all (precedes a) back) front ≡ true → list_all (λ a. nat_lt a.group g) front ≡ true → list_all (λ d. nat_lt g d.group) back ≡ true → each_pair precedes (front ++ (each_from (λ k x. gives g k k t (val x)) n xs ++ back)) ≡ true
  slots-between front back n xs f b across low high =
      let mid = each_from (λ k x. gives g k k t (val x)) n xs in
      pair-append front (mid ++ back) f (pair-append mid back (slots-apart n xs) b (slots-back back n xs high)) (both-ways front back mid (front-slots front n xs low) across)

-- the pool
pub pool-read : (p : PoolPlan) → IsPool p → IsRead (pool_block p) (pool_part p)
unfolding pool_block pool_keys head_of
pool-read p lim = record {
  mode = None;
  head = refl;
  listed = refl;
  keys = (
    says-number heads.Pool pool_keys refl None _ (codes "slots" ∷ []) 1 1048576 p.slots refl refl refl refl refl lim.slots (λ e. refl),
    (
      says-number heads.Pool pool_keys refl None _ (codes "slot" ∷ codes "bytes" ∷ []) 64 262144 p.slot_bytes refl refl refl refl refl lim.slot_bytes (λ e. refl),
      (says-number heads.Pool pool_keys refl None _ (codes "ring" ∷ codes "size" ∷ []) 1 65536 p.ring refl refl refl refl refl lim.ring (λ e. refl), tt),
    ),
  );
  first = refl;
  begins = refl;
  apart = refl;
}

-- ports
drain-says : (n : ℕ) (s : Span) → IsSpan s → Says (heads.Port n) None (drain_key s) (drain_fact s)
unfolding port_keys
drain-says n (Bytes v) h =
    says-number (heads.Port n) port_keys refl None _ (codes "drain" ∷ []) 0 (2 ^ 40) v refl refl refl refl refl (omega arith, h) (λ e. refl)
drain-says n (Ms v) h =
    says-number (heads.Port n) port_keys refl None _ (codes "drain" ∷ codes "ms" ∷ []) 0 100000 v refl refl refl refl refl (omega arith, h) (λ e. refl)

drain-apart : (a b c d e f : Value) (s : Span) → each_pair precedes (value_fact 0 a ∷ value_fact 1 b ∷ value_fact 2 c ∷ value_fact 3 d ∷ value_fact 4 e ∷ value_fact 5 f ∷ drain_fact s ∷ []) ≡ true
drain-apart a b c d e f (Bytes n) = refl
drain-apart a b c d e f (Ms n) = refl

pub port-read : (n : ℕ) (p : PortPlan) (ks : List (ℕ × Shaping)) (ps : List PipeKind) → n ≤ 15 → IsPort ks ps p → IsRead (port_block n p) (port_part n p)
unfolding port_block port_keys head_of
port-read n p ks ps small lim = record {
  mode = None;
  head = ap (numbered heads.Port) (range-is 0 15 n (omega arith) small (omega arith));
  listed = refl;
  keys = (
    says-number (heads.Port n) port_keys refl None _ (codes "line" ∷ codes "rate" ∷ []) 1000000 12500000000 p.line refl refl refl refl refl lim.line (λ e. refl),
    (
      says-number (heads.Port n) port_keys refl None _ (codes "subports" ∷ []) 1 8 (length p.subports) refl refl refl refl refl lim.subports (λ e. refl),
      (
        says-number (heads.Port n) port_keys refl None _ (codes "frame" ∷ codes "overhead" ∷ []) 0 255 p.overhead refl refl refl refl refl (omega arith, lim.overhead) (λ e. refl),
        (
          says-number (heads.Port n) port_keys refl None _ (codes "mtu" ∷ []) 60 262144 p.mtu refl refl refl refl refl lim.mtu (λ e. refl),
          (
            says-number (heads.Port n) port_keys refl None _ (codes "burst" ∷ []) 1 256 p.burst refl refl refl refl refl lim.burst (λ e. refl),
            (
              says-number (heads.Port n) port_keys refl None _ (codes "quantum" ∷ []) 1 1000000000 p.quantum refl refl refl refl refl lim.quantum (λ e. refl),
              (drain-says n p.drain lim.drain, tt),
            ),
          ),
        ),
      ),
    ),
  );
  first = refl;
  begins = refl;
  apart = drain-apart (values.Number p.line) (values.Number (length p.subports)) (values.Number p.overhead) (values.Number p.mtu) (values.Number p.burst) (values.Number p.quantum) p.drain;
}

-- shapings, in a section whose first keys are those of a subport profile
module _ (head : Head) (more : List table.Key) (same : keys_of head ≡ subport_kind_keys ++ more) where
  whole-says-classes : (n : ℕ) (xs : List ℕ) → n + length xs ≤ 13 → All (λ v. v ≤ 2 ^ 40) xs → SaysAll head (Some 0) (each_from (class_key (codes "credits")) n xs) (each_from (class_fact 0) n xs)
  unfolding subport_kind_keys
  whole-says-classes n [] small h = tt
  whole-says-classes n (x ∷ xs) small h =
      let here = All-head (λ v. v ≤ 2 ^ 40) x xs h in (
        says head (subport_kind_keys ++ more) same (Some 0) _ (class_key (codes "credits") n x) n n (values.Number x) refl refl (slots-one 12 n (omega arith) (omega arith)) (value-number 0 (2 ^ 40) x (omega arith) here (omega arith)) (λ e. absurd (cc)),
        whole-says-classes (n + 1) xs (omega arith) (All-tail (λ v. v ≤ 2 ^ 40) x xs h),
      )

  rate-says-classes : (n : ℕ) (xs : List ℕ) → n + length xs ≤ 13 → All (λ v. v ≤ 12500000000) xs → SaysAll head (Some 1) (each_from (class_key (codes "rate")) n xs) (each_from (class_fact 1) n xs)
  unfolding subport_kind_keys
  rate-says-classes n [] small h = tt
  rate-says-classes n (x ∷ xs) small h =
      let here = All-head (λ v. v ≤ 12500000000) x xs h in (
        says head (subport_kind_keys ++ more) same (Some 1) _ (class_key (codes "rate") n x) n n (values.Number x) refl refl (slots-one 12 n (omega arith) (omega arith)) (value-number 0 12500000000 x (omega arith) here (omega arith)) (λ e. absurd (cc)),
        rate-says-classes (n + 1) xs (omega arith) (All-tail (λ v. v ≤ 12500000000) x xs h),
      )

  whole-says : (w : Whole) → IsWhole w → length w.tc_credits ≡ 13 → SaysAll head (Some 0) (whole_keys w) (whole_facts w)
  unfolding whole_keys subport_kind_keys
  whole-says w lim size = (
    says-number head (subport_kind_keys ++ more) same (Some 0) _ (codes "tb" ∷ codes "credits" ∷ []) 1 (2 ^ 40) w.tb_credits refl refl refl refl refl lim.tb_credits (λ e. absurd (cc)),
    (
      says-number head (subport_kind_keys ++ more) same (Some 0) _ (codes "tb" ∷ codes "period" ∷ []) 1 (2 ^ 40) w.tb_period refl refl refl refl refl lim.tb_period (λ e. absurd (cc)),
      (
        says-number head (subport_kind_keys ++ more) same (Some 0) _ (codes "tb" ∷ codes "size" ∷ []) 1 (2 ^ 40) w.tb_size refl refl refl refl refl lim.tb_size (λ e. refl),
        says-append head (Some 0) (each (class_key (codes "credits")) w.tc_credits) (number (codes "tc" ∷ codes "period" ∷ []) w.tc_period ∷ []) (each (class_fact 0) w.tc_credits) (number_fact 4 w.tc_period ∷ []) (whole-says-classes 0 w.tc_credits (omega (arith, size)) lim.tc_credits) (says-number head (subport_kind_keys ++ more) same (Some 0) _ (codes "tc" ∷ codes "period" ∷ []) 0 (2 ^ 64 - 1) w.tc_period refl refl refl refl refl (omega arith, omega (arith, lim.tc_period.1)) (λ e. refl), tt),
      ),
    ),
  )

  rates-say : (r : Rates) → IsRates r → length r.tc_rates ≡ 13 → SaysAll head (Some 1) (rate_keys r) (rate_facts r)
  unfolding rate_keys subport_kind_keys
  rates-say r lim size = (
    says-number head (subport_kind_keys ++ more) same (Some 1) _ (codes "tb" ∷ codes "rate" ∷ []) 1 12500000000 r.tb_rate refl refl refl refl refl lim.tb_rate (λ e. absurd (cc)),
    (
      says-number head (subport_kind_keys ++ more) same (Some 1) _ (codes "tb" ∷ codes "size" ∷ []) 1 (2 ^ 40) r.tb_size refl refl refl refl refl lim.tb_size (λ e. refl),
      says-append head (Some 1) (each (class_key (codes "rate")) r.tc_rates) (number (codes "tc" ∷ codes "period" ∷ []) r.tc_period_ms ∷ []) (each (class_fact 1) r.tc_rates) (number_fact 4 r.tc_period_ms ∷ []) (rate-says-classes 0 r.tc_rates (omega (arith, size)) lim.tc_rates) (says-number head (subport_kind_keys ++ more) same (Some 1) _ (codes "tc" ∷ codes "period" ∷ []) 0 (2 ^ 64 - 1) r.tc_period_ms refl refl refl refl refl (omega arith, omega (arith, lim.tc_period_ms.1)) (λ e. refl), tt),
    ),
  )

-- the form of a shaping
abbrev pub form_of : Shaping → ℕ
form_of (shapings.Whole w) = 0
form_of (shapings.Rate r) = 1

shaping-says : (head : Head) (more : List table.Key) → keys_of head ≡ subport_kind_keys ++ more → (s : Shaping) → IsShaping s → HasClasses s → SaysAll head (Some (form_of s)) (shaping_keys s) (shaping_facts s)
shaping-says head more same (shapings.Whole w) lim size = whole-says head more same w lim size
shaping-says head more same (shapings.Rate r) lim size = rates-say head more same r lim size

shaping-first : (s : Shaping) (more : List Fact) → FirstTells (Some (form_of s)) (shaping_facts s ++ more)
shaping-first (shapings.Whole w) more = refl
shaping-first (shapings.Rate r) more = refl

-- a fact of a low group stands before those of high groups
low-precedes : (a : Fact) (more : List Fact) → a.group ≤ 4 → list_all (λ d. nat_lt 4 d.group) more ≡ true → list_all (precedes a) more ≡ true
low-precedes a [] low h = refl
low-precedes a (d ∷ ds) low h =
    let parts = and_parts (nat_lt 4 d.group) (list_all (λ e. nat_lt 4 e.group) ds) h in
    let high = ltb-true 4 d.group parts.0 in
    and_from (precedes a d) (list_all (precedes a) ds) (or_left (nat_lt a.group d.group) (a.group == d.group && nat_lt a.last d.first) (lt-ltb a.group d.group (omega arith))) (low-precedes a ds low parts.1)

higher : (more : List Fact) → list_all (λ d. nat_lt 4 d.group) more ≡ true → list_all (λ d. nat_lt 3 d.group) more ≡ true
higher more h =
    all-weaker (λ d. nat_lt 4 d.group) (λ d. nat_lt 3 d.group) (λ d e. let high = ltb-true 4 d.group e in lt-ltb 3 d.group (omega arith)) more h

shaping-apart : (s : Shaping) (more : List Fact) → each_pair precedes more ≡ true → list_all (λ d. nat_lt 4 d.group) more ≡ true → each_pair precedes (shaping_facts s ++ more) ≡ true
shaping-apart (shapings.Whole w) more h g =
    let a = gives 0 0 0 (Some 0) (values.Number w.tb_credits) in
    let b = gives 1 0 0 (Some 0) (values.Number w.tb_period) in
    let c = number_fact 2 w.tb_size in
    let p = number_fact 4 w.tc_period in
    let slots = each (class_fact 0) w.tc_credits in
    ap (λ fs. each_pair precedes (a ∷ b ∷ c ∷ fs)) (append_assoc slots (p ∷ []) more)
    ∙ slots-between 3 (Some 0) values.Number (a ∷ b ∷ c ∷ []) (p ∷ more) 0 w.tc_credits refl (and_from (list_all (precedes p) more) (each_pair precedes more) (low-precedes p more (omega arith) g) h) (and_from (list_all (precedes a) more) (list_all (precedes b) more && (list_all (precedes c) more && true)) (low-precedes a more (omega arith) g) (and_from (list_all (precedes b) more) (list_all (precedes c) more && true) (low-precedes b more (omega arith) g) (and_from (list_all (precedes c) more) true (low-precedes c more (omega arith) g) refl))) refl (higher more g)
shaping-apart (shapings.Rate r) more h g =
    let a = gives 0 0 0 (Some 1) (values.Number r.tb_rate) in
    let c = number_fact 2 r.tb_size in
    let p = number_fact 4 r.tc_period_ms in
    let slots = each (class_fact 1) r.tc_rates in
    ap (λ fs. each_pair precedes (a ∷ c ∷ fs)) (append_assoc slots (p ∷ []) more)
    ∙ slots-between 3 (Some 1) values.Number (a ∷ c ∷ []) (p ∷ more) 0 r.tc_rates refl (and_from (list_all (precedes p) more) (each_pair precedes more) (low-precedes p more (omega arith) g) h) (and_from (list_all (precedes a) more) (list_all (precedes c) more && true) (low-precedes a more (omega arith) g) (and_from (list_all (precedes c) more) true (low-precedes c more (omega arith) g) refl)) refl (higher more g)

shaping-begins : (head : Head) (s : Shaping) (more : List Key) → ((words : Words) → begins_well head [] words ≡ true) → BeginsWell head (shaping_keys s ++ more)
unfolding whole_keys rate_keys
shaping-begins head (shapings.Whole w) more h = h (codes "tb" ∷ codes "credits" ∷ [])
shaping-begins head (shapings.Rate r) more h = h (codes "tb" ∷ codes "rate" ∷ [])

pub subport-kind-read : (k : ℕ × Shaping) → k.0 ≤ 63 → IsShaping k.1 → HasClasses k.1 → IsRead (subport_kind_block k) (subport_kind_part k)
unfolding subport_kind_block subport_kind_keys head_of
subport-kind-read k small lim size = record {
  mode = Some (form_of k.1);
  head = ap (numbered heads.SubportKind) (range-is 0 63 k.0 (omega arith) small (omega arith));
  listed = refl;
  keys = shaping-says (heads.SubportKind k.0) [] refl k.1 lim size;
  first = subst (FirstTells (Some (form_of k.1))) (append-nil (shaping_facts k.1)) (shaping-first k.1 []);
  begins = subst (BeginsWell (heads.SubportKind k.0)) (append-nil (shaping_keys k.1)) (shaping-begins (heads.SubportKind k.0) k.1 [] (λ words. refl));
  apart = ap (each_pair precedes) (sym (append-nil (shaping_facts k.1))) ∙ shaping-apart k.1 [] refl refl;
}

-- pipe profiles
pub pipe-kind-read : (k : PipeKind) → IsPipeKind k → HasWeights k → IsRead (pipe_kind_block k) (pipe_kind_part k)
unfolding pipe_kind_block subport_kind_keys pipe_kind_keys head_of value_of
pipe-kind-read k lim form =
    let head : Head = heads.PipeKind k.number in
    let more : List table.Key = table.key 5 (codes "tc" ∷ codes "12" ∷ codes "wrr" ∷ codes "weights" ∷ []) table.Weights ∷ table.key 6 (codes "tc" ∷ codes "12" ∷ codes "oversubscription" ∷ codes "weight" ∷ []) (table.Number 1 255) ∷ [] in
    let weights : Key = record { words = codes "tc" ∷ codes "12" ∷ codes "wrr" ∷ codes "weights" ∷ []; value = map decimal k.weights } in
    let share : Key = number (codes "tc" ∷ codes "12" ∷ codes "oversubscription" ∷ codes "weight" ∷ []) k.ov_weight in
    let facts : List Fact = value_fact 5 (values.Weights k.weights) ∷ number_fact 6 k.ov_weight ∷ [] in
    record {
      mode = Some (form_of k.shaping);
      head = ap (numbered heads.PipeKind) (range-is 0 255 k.number (omega arith) lim.number (omega (arith, lim.number)));
      listed = refl;
      keys =
          says-append head (Some (form_of k.shaping)) (shaping_keys k.shaping) (weights ∷ share ∷ []) (shaping_facts k.shaping) facts (shaping-says head more refl k.shaping lim.shaping form.classes) (
            says-value head pipe_kind_keys refl (Some (form_of k.shaping)) _ weights (values.Weights k.weights) refl refl refl (value-weights k.weights form.count lim.weights form.weights) (λ e. refl),
            (says-number head pipe_kind_keys refl (Some (form_of k.shaping)) _ (codes "tc" ∷ codes "12" ∷ codes "oversubscription" ∷ codes "weight" ∷ []) 1 255 k.ov_weight refl refl refl refl refl (lim.ov_weight, form.ov_weight) (λ e. refl), tt),
          );
      first = shaping-first k.shaping facts;
      begins = shaping-begins head k.shaping (weights ∷ share ∷ []) (λ words. refl);
      apart = shaping-apart k.shaping facts refl refl;
    }

-- subports
pipes-say : (head : Head) → keys_of head ≡ subport_keys → (n : ℕ) (xs : List ℕ) → n + length xs ≤ 4096 → All (λ v. v ≤ 255) xs → SaysAll head None (each_from pipe_key n xs) (each_from pipe_fact n xs)
unfolding subport_keys
pipes-say head same n [] small h = tt
pipes-say head same n (x ∷ xs) small h =
    let here = All-head (λ v. v ≤ 255) x xs h in (
      says head subport_keys same None _ (pipe_key n x) n n (values.Number x) refl refl (slots-one (2 ^ 64 - 1) n (omega arith) (omega arith)) (value-number 0 (2 ^ 64 - 1) x (omega arith) (omega arith) (omega arith)) (λ e. refl),
      pipes-say head same (n + 1) xs (omega arith) (All-tail (λ v. v ≤ 255) x xs h),
    )

value-yes : (on : Bool) → value_of (table.Word (codes "no" ∷ codes "yes" ∷ [])) (yes_word on ∷ []) ≡ Ok (values.Word (if on then 1 else 0))
unfolding value_of
value-yes on =
    elim on as (λ t. value_of (table.Word (codes "no" ∷ codes "yes" ∷ [])) (yes_word t ∷ []) ≡ Ok (values.Word (if t then 1 else 0))) [ true ↦ refl | false ↦ refl ]

subport-head-is : (port n : ℕ) → port ≤ 15 → n ≤ 7 → head_of (codes "subport" ∷ decimal port ∷ decimal n ∷ []) ≡ Ok (heads.Subport port n)
unfolding head_of
subport-head-is port n p s =
    ap (λ t. if t && true then numbered heads.SubportKind (number_at_most 63 (decimal n)) else subport_head (number_of (decimal port)) (number_of (decimal n))) (lettered-ne (codes "profile") port refl (omega arith))
    ∙ ap (λ o. subport_head o (number_of (decimal n))) (number-is port (omega arith))
    ∙ ap (subport_head (Some port)) (number-is n (omega arith))

pub subport-read : (port n : ℕ) (s : SubportPlan) (ks : List (ℕ × Shaping)) (ps : List PipeKind) → port ≤ 15 → n ≤ 7 → IsSubport ks ps s → length s.sizes ≡ 13 → s.kind ≤ 63 → All (λ v. v ≤ 255) s.pipes → IsRead (subport_block port n s) (subport_part port n s)
unfolding subport_block subport_keys
subport-read port n s ks ps p small lim size kind pipes =
    let head : Head = heads.Subport port n in
    let sizes : Key = record { words = codes "queue" ∷ codes "sizes" ∷ []; value = map decimal s.sizes } in
    let last : Key = word (codes "oversubscription" ∷ []) (yes_word s.oversub) in
    let yes : Fact = word_fact 4 (if s.oversub then 1 else 0) in
    record {
      mode = None;
      head = subport-head-is port n p small;
      listed = refl;
      keys = (
        says-number head subport_keys refl None _ (codes "profile" ∷ []) 0 (2 ^ 64 - 1) s.kind refl refl refl refl refl (omega arith, omega arith) (λ e. refl),
        (
          says-number head subport_keys refl None _ (codes "pipes" ∷ []) 1 4096 (length s.pipes) refl refl refl refl refl lim.pipes (λ e. refl),
          (
            says-value head subport_keys refl None _ sizes (values.Sizes s.sizes) refl refl refl (value-sizes s.sizes size lim.sizes) (λ e. refl),
            says-append head None (each pipe_key s.pipes) (last ∷ []) (each pipe_fact s.pipes) (yes ∷ []) (pipes-say head refl 0 s.pipes (omega (arith, lim.pipes.1)) pipes) (says-value head subport_keys refl None _ last (values.Word (if s.oversub then 1 else 0)) refl refl refl (value-yes s.oversub) (λ e. refl), tt),
          ),
        ),
      );
      first = refl;
      begins = refl;
      apart = slots-between 3 None values.Number (number_fact 0 s.kind ∷ number_fact 1 (length s.pipes) ∷ value_fact 2 (values.Sizes s.sizes) ∷ []) (yes ∷ []) 0 s.pipes refl refl refl refl refl;
    }

-- the code points
codes-say : (n : ℕ) (es : List Entry) → n + length es ≤ 64 → All IsValid es → SaysAll heads.Codes None (each_from code_key n es) (each_from code_fact n es)
unfolding code_keys
codes-say n [] small h = tt
codes-say n (e ∷ es) small h = (
  says heads.Codes code_keys refl None _ (code_key n e) n n (values.Entry e) refl refl (ap twice_that (range-is 0 63 n (omega arith) (omega arith) (omega arith))) (value-mark e (All-head IsValid e es h)) (λ i. refl),
  codes-say (n + 1) es (omega arith) (All-tail IsValid e es h),
)

pub codes-read : (es : List Entry) → length es ≡ 64 → All IsValid es → IsRead (codes_block es) (codes_part es)
unfolding codes_block head_of
codes-read es size h = record {
  mode = None;
  head = refl;
  listed = refl;
  keys = codes-say 0 es (omega (arith, size)) h;
  first = first-code es;
  begins = first-begins es;
  apart = slots-apart 0 None values.Entry 0 es;
}
  where
    first-code : (xs : List Entry) → FirstTells None (each code_fact xs)
    first-code [] = tt
    first-code (x ∷ xs) = refl

    first-begins : (xs : List Entry) → BeginsWell heads.Codes (each code_key xs)
    first-begins [] = tt
    first-begins (x ∷ xs) = refl
