-- Where a visit stands, as the code keeps it: what its steps need, and what they keep.
use Rattle.std.specs.Prelude.{◌≡◌, ◌+◌, ◌*◌, ◌^◌, ◌≤◌, length, take, vec_len, vec_capacity, All}
use Rattle.std.specs.Global.{Vec}
use Rattle.qos_base.specs.declared.packet.Pkt.{Pkt}
use Rattle.qos_base.specs.declared.packet.Departure.{Departure}
use Rattle.queue_store.specs.Queues.{Queues}
use Rattle.wrr_pick.specs.declared.wrr.TheConstants.{MAX_COST}
use Rattle.port_sched.specs.declared.level.LevelBooks.{LevelBooks}
use Rattle.port_sched.specs.declared.pipe.PipeBooks.{PipeBooks}
use Rattle.port_sched.specs.declared.serving.Serving.{Serving}
use Rattle.profile_plan.specs.declared.limits.TheConstants.{MAX_MTU}
use Rattle.port_sched.specs.Classes.{Visit}
use Rattle.port_sched.specs.Books.{level_of, visit_of}

-- what is kept where a level pays
pub record IsSameLevel (from to : LevelBooks) : Type 0 where
  pub plan : (level_of to).plan ≡ (level_of from).plan
  pub due : to.classes.due ≡ from.classes.due
  pub time : to.bucket.time ≡ from.bucket.time

-- a pipe's sixteen queues, with no packet that is too long
pub record AreQueues {T : Type 0} (packet : T → Pkt) (queues : Queues T) : Type 0 where
  pub lists : length queues.lists ≡ 16
  pub sizes : length queues.sizes ≡ 16
  pub short : All (λ ts. All (λ t. (packet t).wire ≤ MAX_MTU) ts) queues.lists

-- the subport's level, the pipe, and the sends of the dequeue, which are those of `out` from `serving.first` on
pub record Standing (T : Type 0) : Type 0 where
  pub serving : Serving
  pub level : LevelBooks
  pub pipe : PipeBooks T
  pub out : Vec (Departure T)

module _ {T : Type 0} where
  abbrev pub standing : Serving → LevelBooks → PipeBooks T → Vec (Departure T) → Standing T
  standing serving level pipe out = record { serving = serving; level = level; pipe = pipe; out = out }

  -- the visit that it stands for
  abbrev pub visit_at : Standing T → Visit T
  visit_at s = visit_of s.serving s.level s.pipe s.out.items

-- what a step of a visit needs
pub record IsReady {T : Type 0} (packet : T → Pkt) (s : Standing T) : Type 0 where
  pub overhead : s.serving.overhead ≤ 255
  -- port time is far from its end, whatever is still sent
  pub time : s.serving.time + MAX_COST * s.serving.room ≤ 2 ^ 63
  pub first : s.serving.first ≤ length s.out.items
  pub space : vec_len s.out + s.serving.room ≤ vec_capacity s.out
  pub queues : AreQueues packet s.pipe.queues

-- what a step of a visit keeps, and how far it moves
pub record IsOnward {T : Type 0} (packet : T → Pkt) (from to : Standing T) : Type 0 where
  pub ready : IsReady packet to
  pub overhead : to.serving.overhead ≡ from.serving.overhead
  pub oversub : to.serving.oversub ≡ from.serving.oversub
  pub first : to.serving.first ≡ from.serving.first
  pub level : IsSameLevel from.level to.level
  pub pipe : IsSameLevel from.pipe.level to.pipe.level
  pub room : to.serving.room ≤ from.serving.room
  pub no_sooner : from.serving.time ≤ to.serving.time
  pub no_later : to.serving.time + MAX_COST * to.serving.room ≤ from.serving.time + MAX_COST * from.serving.room
  -- what stood in `out` before this dequeue stays
  pub held : take from.serving.first to.out.items ≡ take from.serving.first from.out.items
  pub sent : vec_len to.out + to.serving.room ≡ vec_len from.out + from.serving.room
  pub capacity : vec_capacity to.out ≡ vec_capacity from.out
