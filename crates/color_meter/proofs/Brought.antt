-- What counting whole periods does to what a meter keeps.
use Rattle.std.proofs.Common.{◌≡◌, ◌==◌, ◌≤◌, ◌<◌, ℕ, zero, suc, ◌+◌, ◌-◌, ◌*◌, ◌/◌, ◌^◌, min, Bool, true, false, if◌then◌else◌}
use Rattle.std.proofs.Common.{sym, ap, ◌∙◌, arith}
use Rattle.std.proofs.Math.Nat.{mul-add-div, mul-div-le}
use Rattle.std.proofs.lemmas.Grind.{common_steps}
use Rattle.color_meter.specs.declared.clock.Clock.{Clock}
use Rattle.color_meter.specs.declared.meter.Meter.TheInside.{Inside}
use Rattle.color_meter.specs.Clock.{rate_in, whole_time, ticked}
use Rattle.color_meter.specs.Closed.{tokens_between, filled_by, counts_by}
use Rattle.color_meter.specs.Meter.{MeterState, drip}
use Rattle.color_meter.specs.Kept.{state_of, IsKept}
use Rattle.color_meter.proofs.Limits.{filled_by-within}
use Rattle.color_meter.proofs.Sums.{dripped_by-sum, filled_by-enough, drip-later}

-- the periods up to a moment are those up to an earlier one and those since the end of its last
periods-parts : (p a b : ℕ) → 1 ≤ p → a ≤ b → b / p ≡ a / p + (b - p * (a / p)) / p
periods-parts p a b some ordered =
    let below = mul-div-le a p in
    let parts : b ≡ p * (a / p) + (b - p * (a / p)) = omega arith in
    let positive : 0 < p = omega arith in
    ap (λ x. x / p) parts ∙ mul-add-div positive (a / p) (b - p * (a / p))

-- the time after them
time-parts : (p a b : ℕ) → 1 ≤ p → a ≤ b → p * (a / p) + (b - p * (a / p)) / p * p ≡ p * (b / p)
time-parts p a b some ordered = let parts = periods-parts p a b some ordered in rw parts (grind arith)

-- a clock that stood at a moment's last whole period stands at that of a later one
clock-time : (none : Bool) (t p a b : ℕ) → 1 ≤ p → a ≤ b → t ≡ (if none then 0 else p * (a / p)) →
    (if none then t else t + (b - t) / p * p) ≡ (if none then 0 else p * (b / p))
clock-time true t p a b some ordered stands = stands
clock-time false t p a b some ordered stands = rw stands (time-parts p a b some ordered)

pub ticked-time : (c : Clock) (a b : ℕ) → 1 ≤ c.period → a ≤ b → c.time ≡ whole_time (rate_in c) a →
    (ticked b c).time ≡ whole_time (rate_in c) b
ticked-time c a b some ordered stands = clock-time (c.bytes == 0) c.time c.period a b some ordered stands

-- the bytes since then are the rate's tokens
clock-tokens : (bytes t p a b : ℕ) → 1 ≤ p → a ≤ b → t ≡ (if bytes == 0 then 0 else p * (a / p)) →
    (b - t) / p * bytes ≡ (b / p - a / p) * bytes
clock-tokens zero t p a b some ordered stands = grind arith
clock-tokens (suc n) t p a b some ordered stands =
    let parts = periods-parts p a b some ordered in
    let time : t ≡ p * (a / p) = grind (arith, common_steps) in
    let quotient : (b - t) / p ≡ b / p - a / p = rw time (omega arith) in
    ap (λ q. q * suc n) quotient

pub ticked-tokens : (c : Clock) (a b : ℕ) → 1 ≤ c.period → a ≤ b → c.time ≡ whole_time (rate_in c) a →
    (b - c.time) / c.period * c.bytes ≡ tokens_between (rate_in c) a b
ticked-tokens c a b some ordered stands = clock-tokens c.bytes c.time c.period a b some ordered stands

-- the bytes that the tick of a clock answers
abbrev pub brings : ℕ → Clock → ℕ
brings at c = min (2 ^ 64 - 1) ((at - c.time) / c.period * c.bytes)

-- what a meter keeps once both clocks have ticked
abbrev pub brought : ℕ → Inside → Inside
brought at m =
    record m {
      cir = ticked at m.cir;
      other = ticked at m.other;
      counts = filled_by m.kind (m.cbs, m.other_size) (brings at m.cir, brings at m.other) m.counts;
      high = at;
    }

brought-counts : (m : Inside) (at : ℕ) → IsKept m → m.high ≤ at →
    (brought at m).counts ≡ counts_by m.kind (state_of m).setting m.high at m.counts
brought-counts m at kept ordered =
    let ok = kept.sound in
    let sizes : ℕ × ℕ = (m.cbs, m.other_size) in
    let n = tokens_between (rate_in m.cir) m.high at in
    let k = tokens_between (rate_in m.other) m.high at in
    let most : ℕ = 2 ^ 64 - 1 in
    let cir = ticked-tokens m.cir m.high at ok.cir.some_period ordered kept.cir in
    let other = ticked-tokens m.other m.high at ok.other.some_period ordered kept.other in
    ap (λ (x : ℕ). filled_by m.kind sizes (min most x, brings at m.other) m.counts) cir
    ∙ ap (λ (x : ℕ). filled_by m.kind sizes (min most n, min most x) m.counts) other
    ∙ filled_by-enough m.kind sizes (n, k) m.counts most (omega arith) ok.committed

-- that is what drips
pub brought-state : (m : Inside) (at : ℕ) → IsKept m → m.high < at → state_of (brought at m) ≡ drip at (state_of m)
brought-state m at kept above =
    let s = state_of m in
    let counts = brought-counts m at kept (omega arith) ∙ sym (dripped_by-sum m.kind s at kept.sound (omega arith)) in
    ap (λ x. let y : MeterState = record s { counts = x; high = at } in y) counts ∙ sym (drip-later s at above)

-- and it is kept
pub brought-kept : (m : Inside) (at : ℕ) → IsKept m → m.high < at → at ≤ 2 ^ 50 → IsKept (brought at m)
brought-kept m at kept above limit =
    let ok = kept.sound in
    let within = filled_by-within m.kind (m.cbs, m.other_size) (brings at m.cir, brings at m.other) m.counts in
    record {
      sound = record {
        cir = ok.cir;
        other = ok.other;
        cbs = ok.cbs;
        other_size = ok.other_size;
        committed = within.0;
        rest = within.1;
        high = limit;
      };
      cir = ticked-time m.cir m.high at ok.cir.some_period (omega arith) kept.cir;
      other = ticked-time m.other m.high at ok.other.some_period (omega arith) kept.other;
    }

-- the parts of it, from what each call leaves
pub brought-parts : (m : Inside) (at n k : ℕ) (cir other : Clock) (counts : ℕ × ℕ) →
    cir ≡ ticked at m.cir → other ≡ ticked at m.other → n ≡ brings at m.cir → k ≡ brings at m.other →
    counts ≡ filled_by m.kind (m.cbs, m.other_size) (n, k) m.counts →
    let new : Inside = record m { cir = cir; other = other; counts = counts; high = at } in new ≡ brought at m
brought-parts m at n k cir other counts first second bytes others sum i =
    let sizes : ℕ × ℕ = (m.cbs, m.other_size) in
    let filled =
    sum
    ∙ ap (λ (x : ℕ). filled_by m.kind sizes (x, k) m.counts) bytes
    ∙ ap (λ (x : ℕ). filled_by m.kind sizes (brings at m.cir, x) m.counts) others in
    record m { cir = first i; other = second i; counts = filled i; high = at }
