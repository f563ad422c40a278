-- What contracts see of the ends of a ring.
use Rattle.std.specs.Prelude.{◌≡◌, ℕ, ◌<◌, true, List, [], ◌∷◌, ◌++◌, length}
use Rattle.std.specs.Arc.{arc_value}
use Rattle.crossbeam_queue.specs.Passes.{view, ruled_capacity}
use Rattle.atomic_table.specs.Seated.{TableId}
use Rattle.mbuf_pool.specs.declared.mbuf.Mbuf.{Mbuf}
use Rattle.stage_ring.specs.declared.msg.Msg.{Msg}
use Rattle.stage_ring.specs.declared.msg.Posted.{Posted}
use Rattle.stage_ring.specs.declared.line.Known.{Known}
use Rattle.stage_ring.specs.declared.outlet.Outlet.{Outlet}
use Rattle.stage_ring.specs.declared.outlet.Sent.{Sent}
use Rattle.stage_ring.specs.declared.inlet.Inlet.{Inlet}
use Rattle.stage_ring.specs.History.{posted, of, has_fin, history, HasNumber}

-- which ring it is
abbrev pub outlet_ring : Outlet → TableId
outlet_ring o = o.pass.table_id

abbrev pub sent_ring : Sent → TableId
sent_ring s = s.pass.table_id

abbrev pub inlet_ring : Inlet → TableId
inlet_ring i = i.pass.table_id

-- an outlet's number among the senders, and how many messages its ring holds at most
abbrev pub number_of : Outlet → ℕ
number_of o = o.number

abbrev pub capacity_of : Outlet → ℕ
capacity_of o = ruled_capacity (arc_value o.line)

-- the parcels that a sender has put, oldest first
abbrev pub parcels_put : Outlet → List Mbuf
parcels_put o = (view o.pass).parcels

abbrev pub parcels_sent : Sent → List Mbuf
parcels_sent s = (view s.pass).parcels

-- all that a sender put: its parcels, and its Fin last
abbrev pub all_sent : Sent → List Msg
all_sent s = history s.sender (parcels_sent s) true

-- all that an end knows
abbrev pub outlet_knows : Outlet → Known
outlet_knows o = view o.pass

abbrev pub inlet_knows : Inlet → Known
inlet_knows i = view i.pass

-- the same outlet of the same ring
pub record IsSameOutlet (old new : Outlet) : Type 0 where
  pub ring : outlet_ring new ≡ outlet_ring old
  pub number : number_of new ≡ number_of old
  pub capacity : capacity_of new ≡ capacity_of old
  pub senders : (outlet_knows new).senders ≡ (outlet_knows old).senders

-- how many senders the ring has, what was taken with its senders' numbers, and what was taken of one sender
abbrev pub senders_of : Inlet → ℕ
senders_of i = (view i.pass).senders

abbrev pub taken_by : Inlet → List Posted
taken_by i = (view i.pass).taken

abbrev pub taken_of : ℕ → Inlet → List Msg
taken_of sender i = of sender (taken_by i)

-- the senders that the inlet has met after their Fin, each with all that it put
abbrev pub met_by : Inlet → List (ℕ × List Msg)
met_by i = (view i.pass).met

-- the same inlet of the same ring
pub record IsSameInlet (old new : Inlet) : Type 0 where
  pub ring : inlet_ring new ≡ inlet_ring old
  pub senders : senders_of new ≡ senders_of old

-- a message was taken: it is the next, and of one of the senders
pub record IsNext (old new : Inlet) (m : Msg) : Type 0 where
  pub sender : ℕ
  pub within : sender < senders_of old
  pub numbered : HasNumber sender m
  pub taken : taken_by new ≡ taken_by old ++ posted sender m ∷ []

-- the Fin of each sender was taken
abbrev pub IsEnded : Inlet → Type 0
IsEnded i = (sender : ℕ) → sender < senders_of i → has_fin (taken_of sender i) ≡ true

-- an outlet of a ring with this capacity and so many senders, which has this number and has put nothing
pub record IsNew (ring : TableId) (capacity senders number : ℕ) (o : Outlet) : Type 0 where
  pub is_of : outlet_ring o ≡ ring
  pub numbered : number_of o ≡ number
  pub holds : capacity_of o ≡ capacity
  pub knows : (outlet_knows o).senders ≡ senders
  pub parcels : parcels_put o ≡ []

-- what is left of an outlet that has ended
pub record IsSentBy (o : Outlet) (s : Sent) : Type 0 where
  pub ring : sent_ring s ≡ outlet_ring o
  pub number : s.sender ≡ number_of o
  pub count : s.count ≡ length (parcels_put o)
  pub parcels : parcels_sent s ≡ parcels_put o

-- the same, again
pub record IsSameSent (old new : Sent) : Type 0 where
  pub ring : sent_ring new ≡ sent_ring old
  pub number : new.sender ≡ old.sender
  pub count : new.count ≡ old.count
  pub parcels : parcels_sent new ≡ parcels_sent old
