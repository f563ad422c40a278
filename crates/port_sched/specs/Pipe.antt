-- A pipe, which is a subscriber: its level, the round robin of its best effort queues, and its sixteen queues. Queues 0 to 11
-- are those of classes 0 to 11, and queues 12 to 15 those of best effort.
use Rattle.std.specs.Prelude.{ℕ, Bool, List, [], ◌∷◌, ◌++◌, drop, map, slice_index, Option, None}
use Rattle.queue_store.specs.Queues.{Queues, empty_queues, is_filled, has_packet as some_filled}
use Rattle.wrr_pick.specs.Multiple.{factors_of}
use Rattle.wrr_pick.specs.RoundRobin.{RoundRobin}
use Rattle.profile_plan.specs.declared.shaping.PipeKind.{PipeKind}
use Rattle.profile_plan.specs.Whole.{whole_of}
use Rattle.port_sched.specs.Level.{Level, level_start}

pub record Pipe (T : Type 0) : Type 0 where
  pub level : Level
  pub round : RoundRobin
  -- its weight where its subport is oversubscribed
  pub weight : ℕ
  -- its oversubscription credits: what its best effort may still send in the subport's period
  pub share : ℕ
  -- the last period of its subport that it has seen
  pub seen : Option ℕ
  pub queues : Queues T

-- the sizes of a pipe's sixteen queues from those of thirteen classes: the last is that of each best effort queue
abbrev pub queue_sizes : List ℕ → List ℕ
queue_sizes sizes = sizes ++ last ∷ last ∷ last ∷ []
  where
    last : ℕ
    last = slice_index sizes 12

-- an empty pipe of a kind on a line of this rate
abbrev pub pipe_start : {T : Type 0} → ℕ → List ℕ → PipeKind → Pipe T
pipe_start line sizes kind = record {
  level = level_start (whole_of kind.shaping line);
  round = record { factors = factors_of kind.weights; tokens = 0 ∷ 0 ∷ 0 ∷ 0 ∷ [] };
  weight = kind.ov_weight;
  share = 0;
  seen = None;
  queues = empty_queues (queue_sizes sizes);
}

module _ {T : Type 0} where
  -- a packet waits in one of the queues
  abbrev pub has_packet : Pipe T → Bool
  has_packet p = some_filled p.queues

  -- which best effort queues have a packet
  abbrev pub filled : Pipe T → List Bool
  filled p = map is_filled (drop 12 p.queues.lists)
