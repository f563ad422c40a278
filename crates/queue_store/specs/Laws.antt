-- What a change of one queue leaves as it was.
use Rattle.std.specs.Prelude.{◌≡◌, ◌≢◌, ℕ, ◌<◌, List, length}
use Rattle.queue_store.specs.Queues.{Queues, size_of, list_of, with_list}

-- the queue has its new list, every other queue has the list that it had, and all sizes stay
abbrev pub ChangesOneQueue : Type 0 → Type 0
ChangesOneQueue T =
    (s : Queues T) (queue : ℕ) (packets : List T) → queue < length s.lists →
    (list_of queue (with_list queue packets s) ≡ packets)
    × ((other : ℕ) → other ≢ queue → list_of other (with_list queue packets s) ≡ list_of other s)
    × ((any : ℕ) → size_of any (with_list queue packets s) ≡ size_of any s)
