-- What no dequeue and no arrival changes, and the bounds that both keep, by the definitions alone.
use Rattle.std.specs.Prelude.{◌≡◌, ℕ, ◌*◌, ◌<◌, ◌≤◌, Bool, false, List, length, map, slice_index, All}
use Rattle.qos_base.specs.declared.packet.Pkt.{Pkt}
use Rattle.queue_store.specs.Queues.{list_of, size_of}
use Rattle.profile_plan.specs.declared.shaping.Whole.{Whole}
use Rattle.port_sched.specs.Level.{Level}
use Rattle.port_sched.specs.Pipe.{Pipe}
use Rattle.port_sched.specs.Subport.{Subport}
use Rattle.port_sched.specs.Port.{Port, left_of, is_full, after_arrival}
use Rattle.port_sched.specs.PortDequeue.{cost_with, dequeue_port}

-- how a pipe, a subport and a port are set up
pub record PipeSetting : Type 0 where
  pub plan : Whole
  pub factors : List ℕ
  pub weight : ℕ
  pub sizes : List ℕ
  pub queues : ℕ

pub record SubportSetting : Type 0 where
  pub plan : Whole
  pub oversub : Bool
  pub oversubscribed : Bool
  -- what its watermark is moved by, and its bounds
  pub be_credits : ℕ
  pub least : ℕ
  pub most : ℕ
  pub pipes : List PipeSetting

pub record PortSetting : Type 0 where
  pub overhead : ℕ
  pub mtu : ℕ
  pub subports : List SubportSetting

-- credits and class credits are at most the plan's
pub record IsLevelWithin (l : Level) : Type 0 where
  pub credits : l.credits ≤ l.plan.tb_size
  pub classes : (class : ℕ) → slice_index l.classes class ≤ slice_index l.plan.tc_credits class

module _ {T : Type 0} where
  abbrev pub pipe_setting : Pipe T → PipeSetting
  pipe_setting p = record {
    plan = p.level.plan;
    factors = p.round.factors;
    weight = p.weight;
    sizes = p.queues.sizes;
    queues = length p.queues.lists;
  }

  abbrev pub subport_setting : Subport T → SubportSetting
  subport_setting s = record {
    plan = s.level.plan;
    oversub = s.oversub;
    oversubscribed = s.oversubscribed;
    be_credits = s.watermark.be_credits;
    least = s.watermark.mtu_cost;
    most = s.watermark.max;
    pipes = map pipe_setting s.pipes;
  }

  abbrev pub setting_of : Port T → PortSetting
  setting_of port = record { overhead = port.overhead; mtu = port.mtu; subports = map subport_setting port.subports }

  pub record IsPipeWithin (p : Pipe T) : Type 0 where
    pub level : IsLevelWithin p.level
    pub lists : length p.queues.lists ≡ 16
    -- no queue holds more packets than its size
    pub queues : (queue : ℕ) → length (list_of queue p.queues) ≤ size_of queue p.queues

  -- no best effort queue of the pipe has more tokens than the dearest packet costs it
  pub record AreTokensWithin (dearest : ℕ) (p : Pipe T) : Type 0 where
    pub four : length p.round.tokens ≡ 4
    pub each : (queue : ℕ) → slice_index p.round.tokens queue ≤ dearest * slice_index p.round.factors queue

  abbrev pub HasTokensWithin : ℕ → Port T → Type 0
  HasTokensWithin dearest port = All (λ s. All (AreTokensWithin dearest) s.pipes) port.subports

  pub record IsSubportWithin (s : Subport T) : Type 0 where
    pub level : IsLevelWithin s.level
    -- the watermark stands between the cost of the greatest packet and its greatest
    pub at_least : s.watermark.mtu_cost ≤ s.watermark.value
    pub at_most : s.watermark.value ≤ s.watermark.max
    pub cursor : s.cursor < length s.pipes
    pub pipes : All IsPipeWithin s.pipes

  pub record IsPortWithin (port : Port T) : Type 0 where
    pub not_ahead : port.ticked ≤ port.time
    pub cursor : port.cursor < length port.subports
    pub subports : All IsSubportWithin port.subports

  module _ (packet : T → Pkt) where
    pub record DequeueKeeps (now room : ℕ) (s : Port T) : Type 0 where
      pub setting : setting_of (dequeue_port packet now room s).port ≡ setting_of s
      pub within : IsPortWithin s → IsPortWithin (dequeue_port packet now room s).port
      pub tokens : (dearest : ℕ) → All (λ t. cost_with packet s.overhead t ≤ dearest) (left_of s) → IsPortWithin s
          → HasTokensWithin dearest s
          → HasTokensWithin dearest (dequeue_port packet now room s).port

    pub record ArrivalKeeps (t : T) (s : Port T) : Type 0 where
      pub setting : setting_of (after_arrival packet t s) ≡ setting_of s
      pub within : is_full (packet t) s ≡ false → IsPortWithin s → IsPortWithin (after_arrival packet t s)
      pub tokens : (dearest : ℕ) → HasTokensWithin dearest s → HasTokensWithin dearest (after_arrival packet t s)
