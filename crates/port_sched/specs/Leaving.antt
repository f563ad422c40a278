-- What is sent leaves the front of its queue.
use Rattle.std.specs.Prelude.{◌≡◌, ℕ, List, [], ◌∷◌, map, fold, slice_get, Option, Some, option_and_then}
use Rattle.qos_base.specs.declared.packet.Pkt.{Pkt}
use Rattle.queue_store.specs.Queues.{Queues, list_of, without_front}
use Rattle.port_sched.specs.Port.{Port, at}
use Rattle.port_sched.specs.Parcels.{parcels}
use Rattle.port_sched.specs.PortDequeue.{dequeue_port}

-- a queue of a port: the numbers of its subport, of its pipe there, and of the queue
pub record Spot : Type 0 where
  pub subport : ℕ
  pub pipe : ℕ
  pub queue : ℕ

-- Items leave one after another, each from the front of a place.
module _ {S X T : Type 0} (front : S → X → Option T) (without : S → X → X) where
  -- what stands at the front of each place in turn
  abbrev pub fronts_of : List S → X → List (Option T)
  fronts_of [] x = []
  fronts_of (s ∷ places) x = front s x ∷ fronts_of places (without s x)

  -- these leave from the fronts of these places
  pub record Leaves (from : X) (ts : List T) (to : X) : Type 0 where
    pub places : List S
    pub fronts : fronts_of places from ≡ map (λ t. Some t) ts
    pub rest : fold (λ x s. without s x) from places ≡ to

module _ {T : Type 0} where
  -- the queues of a port, pipe by pipe in each subport
  abbrev pub all_queues : Port T → List (List (Queues T))
  all_queues port = map (λ s. map (λ p. p.queues) s.pipes) port.subports

  -- the packet at the front of one of them, if it has one, and the queues once it has left
  abbrev pub front_in : Spot → List (List (Queues T)) → Option T
  front_in spot queues =
      option_and_then (λ pipes. option_and_then (λ q. slice_get (list_of spot.queue q) 0) (slice_get pipes spot.pipe)) (slice_get queues spot.subport)

  abbrev pub front_left : Spot → List (List (Queues T)) → List (List (Queues T))
  front_left spot queues = at spot.subport (at spot.pipe (without_front spot.queue)) queues

  -- The parcels that a dequeue sends leave one after another, each from the front of its queue, and the rest stays.
  abbrev pub FrontsAreSent : (T → Pkt) → ℕ → ℕ → Port T → Type 0
  FrontsAreSent packet now room port =
      let end = dequeue_port packet now room port in
      Leaves front_in front_left (all_queues port) (parcels end.sends) (all_queues end.port)
