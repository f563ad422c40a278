-- The tokens of the queues of a round robin, and what a pick, a send and an empty queue make of them. The idea is
-- that of the weighted round robin in the DPDK Programmer's Guide, chapter Quality of Service.
use Rattle.std.specs.Prelude.{◌≡◌, ℕ, ◌+◌, ◌-◌, ◌*◌, ◌^◌, ◌<◌, ◌≤◌, Bool, ◌&&◌, ◌||◌, not, nat_le, if◌then◌else◌, List, length, map, slice_get, slice_index, slice_set, Some, true}
use Rattle.std.specs.List.{list_all, zip, position_or_len}
use Rattle.wrr_pick.specs.declared.wrr.TheConstants.{MAX_COST, QUEUES}

-- what each queue pays for a byte time, and the tokens that it has
pub record RoundRobin : Type 0 where
  pub factors : List ℕ
  pub tokens : List ℕ

-- a queue, seen as its tokens and whether it is filled, is filled, and no filled queue has fewer tokens
abbrev pub has_fewest : List (ℕ × Bool) → ℕ × Bool → Bool
has_fewest queues q = q.1 && list_all (λ other. not other.1 || nat_le q.0 other.0) queues

-- the queue that a pick takes: the first that is filled and has the fewest tokens
abbrev pub picked_queue : List ℕ → List Bool → ℕ
picked_queue tokens filled = position_or_len (has_fewest (zip tokens filled)) (zip tokens filled)

-- the queue is filled, no filled queue has fewer tokens, and each filled queue of a lower number has more
pub record IsPicked (tokens : List ℕ) (filled : List Bool) (queue : ℕ) : Type 0 where
  pub filled_itself : slice_get filled queue ≡ Some true
  pub least : (k : ℕ) → slice_get filled k ≡ Some true → slice_index tokens queue ≤ slice_index tokens k
  pub first : (k : ℕ) → k < queue → slice_get filled k ≡ Some true → slice_index tokens queue < slice_index tokens k

-- the tokens, so many fewer at each filled queue
abbrev pub lowered : List ℕ → List Bool → ℕ → List ℕ
lowered tokens filled by = map (λ q. if q.1 then q.0 - by else q.0) (zip tokens filled)

-- the tokens after a pick: those of the picked queue are subtracted from each filled one
abbrev pub tokens_after_pick : List ℕ → List Bool → List ℕ
tokens_after_pick tokens filled = lowered tokens filled (slice_index tokens (picked_queue tokens filled))

-- the tokens after a send: cost times factor is added to those of its queue
abbrev pub tokens_after_send : List ℕ → List ℕ → ℕ → ℕ → List ℕ
tokens_after_send factors tokens queue cost =
    slice_set tokens queue (slice_index tokens queue + cost * slice_index factors queue)

-- a queue that is empty has no tokens
abbrev pub tokens_once_empty : List ℕ → ℕ → List ℕ
tokens_once_empty tokens queue = slice_set tokens queue 0

-- there are four queues, each factor fits 32 bits, and no queue has more tokens than the dearest packet costs it
pub record IsWithin (w : RoundRobin) : Type 0 where
  pub factors_len : length w.factors ≡ QUEUES
  pub tokens_len : length w.tokens ≡ QUEUES
  pub factors_fit : (k : ℕ) → k < QUEUES → slice_index w.factors k < 2 ^ 32
  pub tokens_fit : (k : ℕ) → k < QUEUES → slice_index w.tokens k ≤ MAX_COST * slice_index w.factors k
