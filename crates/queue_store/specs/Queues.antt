-- Queues of packets by number: how many each may hold, and what waits in it.
use Rattle.std.specs.Prelude.{ℕ, ◌==◌, Bool, not, List, [], ◌∷◌, ◌++◌, length, map, drop, slice_index, slice_index_or, slice_set}
use Rattle.std.specs.List.{list_any}

-- the sizes of the queues in packets, and the list that waits in each, the oldest packet first
pub record Queues (T : Type 0) : Type 0 where
  pub sizes : List ℕ
  pub lists : List (List T)

module _ {T : Type 0} where
  -- queues of these sizes, all of them empty
  abbrev pub empty_queues : List ℕ → Queues T
  empty_queues sizes = record { sizes = sizes; lists = map (λ _. []) sizes }

  -- how many packets a queue may hold
  abbrev pub size_of : ℕ → Queues T → ℕ
  size_of queue s = slice_index s.sizes queue

  -- the list that waits in a queue
  abbrev pub list_of : ℕ → Queues T → List T
  list_of queue s = slice_index_or s.lists queue []

  -- the queues, with this list in one of them
  abbrev pub with_list : ℕ → List T → Queues T → Queues T
  with_list queue packets s = record s { lists = slice_set s.lists queue packets }

  -- a packet has joined the back of a queue
  abbrev pub joined : ℕ → T → Queues T → Queues T
  joined queue packet s = with_list queue (list_of queue s ++ packet ∷ []) s

  -- the packet at the front of a queue, if any, has left it
  abbrev pub without_front : ℕ → Queues T → Queues T
  without_front queue s = with_list queue (drop 1 (list_of queue s)) s

  -- whether a packet waits in a queue that has this list
  abbrev pub is_filled : List T → Bool
  is_filled packets = not (length packets == 0)

  -- whether a packet waits in any queue
  abbrev pub has_packet : Queues T → Bool
  has_packet s = list_any is_filled s.lists
