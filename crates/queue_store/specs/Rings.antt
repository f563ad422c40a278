-- A ring buffer for each queue.
use Rattle.std.specs.Prelude.{◌≡◌, ℕ, ◌^◌, ◌<◌, ◌≤◌, List, length, map, All}
use Rattle.std.specs.List.{count_by}
use Rattle.circular_buffer.specs.Buffer.{Buffer}
use Rattle.queue_store.specs.Queues.{Queues, is_filled}

module _ {T : Type 0} where
  -- a ring's capacity is its queue's size, and its items are its queue's list
  abbrev pub queues_of : List (Buffer T) → Queues T
  queues_of rings = record { sizes = map (λ r. r.capacity) rings; lists = map (λ r. r.items) rings }

  -- no ring holds more than its capacity, which fits 32 bits
  abbrev pub AreWithin : List (Buffer T) → Type 0
  AreWithin rings = All (λ r. (length r.items ≤ r.capacity) × (r.capacity < 2 ^ 32)) rings

  -- how many rings hold a packet
  abbrev pub filled_in : List (Buffer T) → ℕ
  filled_in rings = count_by (λ r. is_filled r.items) rings

  pub record IsStore (rings : List (Buffer T)) (filled : ℕ) : Type 0 where
    pub within : AreWithin rings
    pub counted : filled ≡ filled_in rings
