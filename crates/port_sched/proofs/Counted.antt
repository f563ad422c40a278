-- What a dequeue serves, in the words of its laws, and what is counted by it.
use Rattle.std.proofs.Common.{◌≡◌, ◌⊎◌, inl, inr, ⊎_elim, ◌<◌, ◌≤◌, ℕ, ◌+◌, ◌*◌, max, List, [], ◌∷◌, ◌++◌, length, refl, sym, ap, ◌∙◌, subst, length-append, arith}
use Rattle.std.specs.List.{All, Contains}
use Rattle.std.specs.List.Sorted.{IsPermutation}
use Rattle.std.proofs.lemmas.Bool.{cases_lt}
use Rattle.std.proofs.lemmas.List.{length-map}
use Rattle.std.proofs.lemmas.List.Elements.{All-nil, All-cons, All-head, All-tail, All-contains_itself}
use Rattle.std.proofs.lemmas.List.Sums.{sum_by-cons, sum_by-le}
use Rattle.std.proofs.lemmas.List.Sorted.{IsPermutation-sym, All-permutation, length_permutation}
use Rattle.qos_base.specs.declared.packet.Pkt.{Pkt}
use Rattle.qos_base.specs.declared.packet.Departure.{Departure}
use Rattle.port_sched.specs.Sends.{total_cost, sends_from}
use Rattle.port_sched.specs.Port.{Port, left_of}
use Rattle.port_sched.specs.PortDequeue.{Course, cost_with, dequeue_port}
use Rattle.port_sched.specs.Parcels.{parcels}
use Rattle.port_sched.specs.PortLaws.{AllWaiting, Serves, Counts, DequeueServes}
use Rattle.port_sched.proofs.Served.{IsCourse, served}

module _ {T : Type 0} where
  -- the parcels that are sent
  pub parcels-sends_from : (cost : T → ℕ) (time : ℕ) (ts : List T) → parcels (sends_from cost time ts) ≡ ts
  parcels-sends_from cost time [] = refl
  parcels-sends_from cost time (t ∷ ts) = ap (λ us. t ∷ us) (parcels-sends_from cost (time + cost t) ts)

  pub All-parts : (P : T → Type 0) (xs ys : List T) → All P (xs ++ ys) → All P xs × All P ys
  All-parts P [] ys all = (All-nil P, all)
  All-parts P (x ∷ xs) ys all =
      let rest = All-parts P xs ys (All-tail P x (xs ++ ys) all) in
      (All-cons P x xs (All-head P x (xs ++ ys) all) rest.0, rest.1)

  total-least : (packet : T → Pkt) (overhead : ℕ) (ts : List T) → overhead * length ts ≤ total_cost (cost_with packet overhead) ts
  total-least packet overhead [] = omega arith
  total-least packet overhead (t ∷ ts) =
      let rest = total-least packet overhead ts in
      let head = sum_by-cons (cost_with packet overhead) t ts in
      omega (arith, head, rest)

  -- a sum of costs is positive, or each is nothing
  total-moves : (cost : T → ℕ) (ts : List T) → (0 < total_cost cost ts) ⊎ All (λ t. cost t ≡ 0) ts
  total-moves cost [] = inr (All-nil (λ (t : T). cost t ≡ 0))
  total-moves cost (t ∷ ts) =
      let head = sum_by-cons cost t ts in
      ⊎_elim
      (λ (some : 0 < total_cost cost ts). inl (omega (arith, head, some)))
      (λ (none : All (λ t. cost t ≡ 0) ts). ⊎_elim
      (λ (dear : 0 < cost t). inl (omega (arith, head, dear)))
      (λ (free : cost t ≤ 0). inr (All-cons (λ (x : T). cost x ≡ 0) t ts (omega (arith, free)) none))
      (cases_lt 0 (cost t)))
      (total-moves cost ts)

module _ {T : Type 0} (packet : T → Pkt) (now most : ℕ) (s : Port T) (c : Course T) where
  course-serves : IsCourse packet (record { port = record s { time = max s.time now }; room = most; sends = [] }) c
      → Serves packet now most s c
  course-serves came =
      let cost = cost_with packet s.overhead in
      let start = max s.time now in
      let ts = came.served.more in
      let are = came.served.are in
      let same : parcels c.sends ≡ ts = ap parcels are.sends ∙ parcels-sends_from cost start ts in
      let count : length c.sends ≡ length ts = sym (length-map c.sends (λ (d : Departure T). d.parcel)) ∙ ap length same in
      let room = are.room in
      record {
        each_once = subst (λ us. IsPermutation (us ++ left_of c.port) (left_of s)) (sym same) are.each_once;
        room = omega (arith, count, room);
        sends = are.sends ∙ ap (sends_from cost start) (sym same);
        time = are.time ∙ ap (λ us. start + total_cost cost us) (sym same);
      }

  -- what is true of every parcel that waits stays true of all
  pub waiting-stays : Serves packet now most s c → (P : T → Type 0) → AllWaiting P s → All P (parcels c.sends) × AllWaiting P c.port
  waiting-stays serves P all =
      let after = parcels c.sends ++ left_of c.port in
      All-parts P (parcels c.sends) (left_of c.port) (All-permutation P (left_of s) after (IsPermutation-sym after (left_of s) serves.each_once) all)

  serves-counts : Serves packet now most s c → Counts packet now s c
  serves-counts serves =
      let cost = cost_with packet s.overhead in
      let start = max s.time now in
      let sent = parcels c.sends in
      let count : length sent ≡ length c.sends = length-map c.sends (λ (d : Departure T). d.parcel) in
      let same = length_permutation (sent ++ left_of c.port) (left_of s) serves.each_once in
      let parts = length-append sent (left_of c.port) in
      let stay = waiting-stays serves (Contains (left_of s)) (All-contains_itself (left_of s)) in
      let time = serves.time in
      let least = total-least packet s.overhead sent in
      record {
        counted = omega (arith, count, same, parts);
        sent = stay.0;
        waiting = stay.1;
        no_sooner = subst (λ n. start + s.overhead * n ≤ c.port.time) count (omega (arith, time, least));
        no_later = λ dearest all.
            let each = waiting-stays serves (λ t. cost t ≤ dearest) all in
            let total = sum_by-le cost dearest sent each.0 in
            subst (λ n. c.port.time ≤ start + dearest * n) count (omega (arith, time, total));
        moves = ⊎_elim
            (λ (some : 0 < total_cost cost sent). inl (omega (arith, time, some)))
            (λ (none : All (λ t. cost t ≡ 0) sent). inr none)
            (total-moves cost sent);
      }

module _ {T : Type 0} (packet : T → Pkt) where
  pub dequeue-serves : (now room : ℕ) (s : Port T) → DequeueServes packet now room s
  dequeue-serves now room s =
      let c = dequeue_port packet now room s in
      let serves = course-serves packet now room s c (served packet now room s) in
      record { serves = serves; counts = serves-counts packet now room s c serves }
