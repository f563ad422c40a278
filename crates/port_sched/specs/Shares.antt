-- When the best effort credits of a subport are too few for its pipes, and the bounds of its watermark then (DPDK Programmer's
-- Guide, Quality of Service Framework: subport traffic class oversubscription).
use Rattle.std.specs.Prelude.{ℕ, ◌*◌, ◌/◌, ◌^◌, min, max, Bool, nat_lt, List, fold, sum, map, slice_index}
use Rattle.credit_book.specs.Watermark.{OversubscriptionWatermark, new_watermark}
use Rattle.profile_plan.specs.declared.shaping.Whole.{Whole}

-- the best effort bytes that a pipe may send in one period of its subport
abbrev pub share_of : Whole → Whole → ℕ
share_of subport pipe = slice_index pipe.tc_credits 12 * subport.tc_period / pipe.tc_period

abbrev pub shares_of : Whole → List Whole → List ℕ
shares_of subport pipes = map (share_of subport) pipes

-- the pipes together may send more than the subport has
abbrev pub is_oversubscribed : Whole → List Whole → Bool
is_oversubscribed subport pipes = nat_lt (slice_index subport.tc_credits 12) (sum (shares_of subport pipes))

-- the watermark starts at its greatest: the greatest share, but at least the cost of the greatest packet, and at most 2^48
abbrev pub watermark_start : ℕ → Whole → List Whole → OversubscriptionWatermark
watermark_start mtu_cost subport pipes =
    new_watermark mtu_cost (min (2 ^ 48) (max mtu_cost (fold max 0 (shares_of subport pipes)))) (slice_index subport.tc_credits 12)
