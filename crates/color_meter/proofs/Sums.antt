-- The counts of a meter in one sum for each bucket are those that drip.
use Rattle.std.proofs.Common.{◌≡◌, ◌≤◌, ◌<◌, ℕ, ◌+◌, ◌-◌, min, inl, inr, refl, ap, ◌∙◌, arith}
use Rattle.std.proofs.lemmas.Bool.{cases_lt, le-leb, lt-leb}
use Rattle.std.proofs.lemmas.Grind.{common_steps}
use Rattle.profile_plan.specs.declared.meter.MeterKind.{MeterKind}
use Rattle.profile_plan.specs.declared.meter.MeterKind.TheVariants.{SrTcm, TrTcm, Rfc4115}
use Rattle.color_meter.specs.Drip.{Rate, one_by_one, dripped}
use Rattle.color_meter.specs.Closed.{tokens_between, filled_by, counts_by}
use Rattle.color_meter.specs.Meter.{MeterState, IsMeterState, dripped_by, later, drip}
use Rattle.color_meter.specs.SrTcm as sr
use Rattle.color_meter.specs.TrTcm as tr
use Rattle.color_meter.proofs.Dripping.{dripped-sum, one_by_one-overflow, one_by_one-committed, one_by_one-peak}

-- a rate's nanoseconds from one moment to a later one
dripped-between : (f : ℕ × ℕ → ℕ × ℕ) (r : Rate) (a b : ℕ) (x : ℕ × ℕ) → 1 ≤ r.period → a ≤ b →
    dripped f r a (b - a) x ≡ one_by_one f (tokens_between r a b) x
dripped-between f r a b x some ordered =
    dripped-sum f r a (b - a) x some ∙ ap (λ t. one_by_one f (tokens_between r a t) x) (omega arith)

-- two rates, each with a bucket of its own
dripped-apart : (m : MeterState) (at : ℕ) → IsMeterState m → m.high ≤ at →
    dripped_by TrTcm m.setting m.high (at - m.high) m.counts ≡ counts_by TrTcm m.setting m.high at m.counts
dripped-apart m at ok ordered =
    let s = m.setting in
    let n = tokens_between s.cir m.high at in
    let k = tokens_between s.other m.high at in
    let filled = min s.other_size (m.counts.1 + k) in
    let first =
    dripped-between (tr.peak_token s.other_size) s.other m.high at m.counts ok.other.some_period ordered
    ∙ one_by_one-peak s.other_size k m.counts.0 m.counts.1 ok.rest in
    ap (λ x. dripped (tr.committed_token s.cbs) s.cir m.high (at - m.high) x) first
    ∙ dripped-between (tr.committed_token s.cbs) s.cir m.high at (m.counts.0, filled) ok.cir.some_period ordered
    ∙ one_by_one-committed s.cbs n m.counts.0 filled ok.committed

pub dripped_by-sum : (kind : MeterKind) (m : MeterState) (at : ℕ) → IsMeterState m → m.high ≤ at →
    dripped_by kind m.setting m.high (at - m.high) m.counts ≡ counts_by kind m.setting m.high at m.counts
dripped_by-sum SrTcm m at ok ordered =
    let s = m.setting in
    dripped-between (sr.token s.cbs s.other_size) s.cir m.high at m.counts ok.cir.some_period ordered
    ∙ one_by_one-overflow s.cbs s.other_size (tokens_between s.cir m.high at) m.counts.0 m.counts.1 ok.committed ok.rest
dripped_by-sum TrTcm m at ok ordered = dripped-apart m at ok ordered
dripped_by-sum Rfc4115 m at ok ordered = dripped-apart m at ok ordered

-- as many tokens as fill both buckets do what any more do
pub filled_by-enough : (kind : MeterKind) (sizes tokens counts : ℕ × ℕ) (most : ℕ) →
    sizes.0 + sizes.1 ≤ most → counts.0 ≤ sizes.0 →
    filled_by kind sizes (min most tokens.0, min most tokens.1) counts ≡ filled_by kind sizes tokens counts
filled_by-enough SrTcm sizes tokens counts most enough c = grind (arith, common_steps)
filled_by-enough TrTcm sizes tokens counts most enough c = grind (arith, common_steps)
filled_by-enough Rfc4115 sizes tokens counts most enough c = grind (arith, common_steps)

-- no time, no tokens
counts_by-none : (kind : MeterKind) (m : MeterState) (at : ℕ) → IsMeterState m → m.high ≡ at →
    m.counts ≡ counts_by kind m.setting m.high at m.counts
counts_by-none SrTcm m at ok same = grind (arith, common_steps)
counts_by-none TrTcm m at ok same = grind (arith, common_steps)
counts_by-none Rfc4115 m at ok same = grind (arith, common_steps)

pub drip-earlier : (m : MeterState) (at : ℕ) → at ≤ m.high → drip at m ≡ m
drip-earlier m at early = rw (le-leb at m.high early) refl

pub drip-later : (m : MeterState) (at : ℕ) → m.high < at → drip at m ≡ later at m
drip-later m at above = rw (lt-leb at m.high above) refl

-- a moment brings what drips up to it
pub drip-sum : (m : MeterState) (at : ℕ) → IsMeterState m → m.high ≤ at →
    (drip at m).counts ≡ counts_by m.setting.kind m.setting m.high at m.counts
drip-sum m at ok ordered =
    elim (cases_lt m.high at) [
      | inl above ↦ ap (λ x. x.counts) (drip-later m at above) ∙ dripped_by-sum m.setting.kind m at ok ordered
      | inr early ↦ ap (λ x. x.counts) (drip-earlier m at early) ∙ counts_by-none m.setting.kind m at ok (omega arith)
    ]
