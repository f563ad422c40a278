-- The queues that rings stand for, and what a change of one ring does to them.
use Rattle.std.proofs.Common.{◌≡◌, ℕ, ◌^◌, ◌<◌, ◌≤◌, ◌+◌, Bool, true, false, cond, not, eqb, ltb, ◌||◌, List, [], ◌∷◌, ◌++◌, length, map, drop, get_or, set, refl, sym, ap, ◌∙◌, arith}
use Rattle.std.specs.Prelude.{◌==◌, All}
use Rattle.std.specs.List.{count_by}
use Rattle.std.proofs.lemmas.List.{map-set, get_or-map, length-append}
use Rattle.std.proofs.lemmas.Bool.Decides.{nat_tests}
use Rattle.std.proofs.lemmas.List.Sums.{sum_by-set, sum_by-cons}
use Rattle.std.proofs.lemmas.List.Elements.{All-map}
use Rattle.std.proofs.Math.Seq.{map-set_same}
use Rattle.circular_buffer.specs.Buffer.{Buffer, buffer}
use Rattle.queue_store.specs.Queues.{empty_queues, size_of, list_of, with_list, joined, without_front, is_filled, has_packet}
use Rattle.queue_store.specs.Rings.{queues_of, AreWithin, filled_in}

module _ {T : Type 0} (rings : List (Buffer T)) (queue : ℕ) (ring : Buffer T) (within : queue < length rings) (here : ring ≡ get_or rings queue ring) where
  pub list-at : list_of queue (queues_of rings) ≡ ring.items
  list-at = get_or-map (λ (r : Buffer T). r.items) rings queue ring [] within ∙ ap (λ r. r.items) (sym here)

  pub size-at : size_of queue (queues_of rings) ≡ ring.capacity
  size-at = get_or-map (λ (r : Buffer T). r.capacity) rings queue ring 0 within ∙ ap (λ r. r.capacity) (sym here)

  -- the ring has other items
  pub queues-set : (items : List T) → queues_of (set rings queue (buffer items ring.capacity)) ≡ with_list queue items (queues_of rings)
  queues-set items =
      let sizes : map (λ r. r.capacity) (set rings queue (buffer items ring.capacity)) ≡ map (λ r. r.capacity) rings =
      map-set_same (λ (r : Buffer T). r.capacity) rings queue (buffer items ring.capacity) ring (ap (λ r. r.capacity) here) in
      let lists : map (λ r. r.items) (set rings queue (buffer items ring.capacity)) ≡ set (map (λ r. r.items) rings) queue items =
      map-set (λ (r : Buffer T). r.items) rings queue (buffer items ring.capacity) in
      λ i. record { sizes = sizes i; lists = lists i }

  -- the ring has a packet more at its back
  pub joined-is : (packet : T) → queues_of (set rings queue (buffer (ring.items ++ packet ∷ []) ring.capacity)) ≡ joined queue packet (queues_of rings)
  joined-is packet =
      queues-set (ring.items ++ packet ∷ []) ∙ ap (λ (xs : List T). with_list queue (xs ++ packet ∷ []) (queues_of rings)) (sym list-at)

  -- the ring has lost its front
  pub without_front-is : queues_of (set rings queue (buffer (drop 1 ring.items) ring.capacity)) ≡ without_front queue (queues_of rings)
  without_front-is =
      queues-set (drop 1 ring.items) ∙ ap (λ (xs : List T). with_list queue (drop 1 xs) (queues_of rings)) (sym list-at)

-- ---- how many rings hold a packet

one-test : (n : ℕ) → 0 < n → cond {A = ℕ} (not (eqb n 0)) 1 0 ≡ 1
one-test n some = ap (λ b. cond {A = ℕ} b 1 0) (filled-test n some)
  where
    filled-test : (k : ℕ) → 0 < k → not (eqb k 0) ≡ true
    filled-test k more = grind (arith, nat_tests)

either-test : (b : Bool) → cond {A = ℕ} (not b) 1 0 + cond b 1 0 ≡ 1
either-test true = refl
either-test false = refl

one-more : (b : Bool) (n : ℕ) (a : Bool) → ltb 0 n ≡ a → ltb 0 (cond b 1 0 + n) ≡ (b || a)
one-more true n a rest = grind (arith, nat_tests)
one-more false n a rest = let none : 0 + n ≡ n = omega arith in ap (ltb 0) none ∙ rest

module _ {T : Type 0} where
  -- a ring counts as one where it holds a packet
  abbrev one_filled : Buffer T → ℕ
  one_filled r = cond (is_filled r.items) 1 0

  pub filled-lists : (rings : List (Buffer T)) → filled_in rings ≡ count_by is_filled (queues_of rings).lists
  filled-lists [] = refl
  filled-lists (r ∷ rings) =
      sum_by-cons one_filled r rings ∙ ap (λ n. one_filled r + n) (filled-lists rings)
      ∙ sym (sum_by-cons (λ (ts : List T). cond {A = ℕ} (is_filled ts) 1 0) r.items (queues_of rings).lists)

  pub any-filled : (rings : List (Buffer T)) → ltb 0 (filled_in rings) ≡ has_packet (queues_of rings)
  any-filled [] = refl
  any-filled (r ∷ rings) = ap (ltb 0) (sum_by-cons one_filled r rings) ∙ one-more (is_filled r.items) (filled_in rings) (has_packet (queues_of rings)) (any-filled rings)

module _ {T : Type 0} (rings : List (Buffer T)) (queue : ℕ) (ring : Buffer T) (within : queue < length rings) (here : ring ≡ get_or rings queue ring) where
  with-items : (items : List T) → filled_in (set rings queue (buffer items ring.capacity)) + cond (is_filled ring.items) 1 0 ≡ filled_in rings + cond (is_filled items) 1 0
  with-items items =
      ap (λ (r : Buffer T). filled_in (set rings queue (buffer items ring.capacity)) + one_filled r) here
      ∙ sum_by-set one_filled rings queue (buffer items ring.capacity) ring within

  pub filled-joined : (packet : T) → filled_in (set rings queue (buffer (ring.items ++ packet ∷ []) ring.capacity)) ≡ filled_in rings + cond (length ring.items == 0) 1 0
  filled-joined packet =
      let more = length-append ring.items (packet ∷ []) in
      omega (arith, with-items (ring.items ++ packet ∷ []), one-test (length (ring.items ++ packet ∷ [])) (omega (arith, more)), either-test (length ring.items == 0))

  pub filled-popped : 0 < length ring.items
      → filled_in (set rings queue (buffer (drop 1 ring.items) ring.capacity)) + cond (length (drop 1 ring.items) == 0) 1 0 ≡ filled_in rings
  filled-popped some =
      omega (arith, with-items (drop 1 ring.items), one-test (length ring.items) some, either-test (length (drop 1 ring.items) == 0))

-- ---- new rings, one for each size

module _ (T : Type 0) where
  abbrev ring_of : ℕ → Buffer T
  ring_of size = buffer [] size

  capacities-new : (sizes : List ℕ) → map (λ r. r.capacity) (map ring_of sizes) ≡ sizes
  capacities-new [] = refl
  capacities-new (n ∷ sizes) = ap (λ xs. n ∷ xs) (capacities-new sizes)

  items-new : (sizes : List ℕ) → map (λ r. r.items) (map ring_of sizes) ≡ map (λ _. []) sizes
  items-new [] = refl
  items-new (n ∷ sizes) = ap (λ xs. [] ∷ xs) (items-new sizes)

  pub queues-new : (sizes : List ℕ) → queues_of (map ring_of sizes) ≡ empty_queues sizes
  queues-new sizes = let capacities = capacities-new sizes in let items = items-new sizes in λ i. record { sizes = capacities i; lists = items i }

  pub within-new : (sizes : List ℕ) → All (λ n. n < 2 ^ 32) sizes → AreWithin (map ring_of sizes)
  within-new sizes short =
      All-map (λ (r : Buffer T). (length r.items ≤ r.capacity) × (r.capacity < 2 ^ 32)) ring_of sizes (λ k d inside. (omega arith, short k d inside))

  pub none-filled : (sizes : List ℕ) → 0 ≡ filled_in (map ring_of sizes)
  none-filled [] = refl
  none-filled (n ∷ sizes) = none-filled sizes
