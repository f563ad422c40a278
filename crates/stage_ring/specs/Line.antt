-- A ring: what its ends know, and the rule that every step of every end keeps.
--
-- Why an end may believe it: what lies in the ring and what all ends know are one picture, and the rule is a fact about
-- that picture. An end's own part of it is changed by that end's steps alone. Only the one outlet of a number puts
-- messages of that number, each at the back, and only the one inlet takes, at the front; so what was taken of a sender
-- and then what lies there of it is what it put, after each step, whatever the other threads have done before. Once an
-- outlet has put its Fin there is nobody left who could put anything of that number, so what it has put stays all.
use Rattle.std.specs.Prelude.{◌≡◌, ℕ, ◌+◌, ◌<◌, ◌≤◌, true, false, Option, Some, None, List, [], ◌∷◌, ◌++◌}
use Rattle.std.specs.List.{All}
use mathlib.Core.Option.{some}
use lib.ListN.{get_elem?}
use Rattle.stage_ring.specs.declared.msg.Msg.{Msg}
use Rattle.stage_ring.specs.declared.msg.Msg.TheVariants.{Parcel, Fin}
use Rattle.stage_ring.specs.declared.msg.Posted.{Posted}
use Rattle.stage_ring.specs.declared.line.Known.{Known}
use Rattle.stage_ring.specs.History.{of, history, HasNumber}

-- what a ring has seen so far
pub record RingHistory : Type 0 where
  -- how many senders there are, and how many of them are made
  pub senders : ℕ
  pub made : ℕ
  -- which end is the inlet, and which may send under a number
  pub reader : ℕ
  pub seat : ℕ → Option ℕ
  -- what each sender put, and what was taken
  pub put : ℕ → List Msg
  pub taken : List Posted

-- what an end has put under its number
abbrev pub put_by : Known → List Msg
put_by v = history v.from v.parcels v.done

-- of each sender, what was taken and then what lies in the ring is what it put
pub record IsInOrder (r : RingHistory) (items : List Posted) : Type 0 where
  pub order : (sender : ℕ) → of sender r.taken ++ of sender items ≡ r.put sender
  -- a sender that isn't made yet has put nothing
  pub none_yet : (sender : ℕ) → r.made ≤ sender → (r.put sender ≡ []) × (r.seat sender ≡ None)
  pub within : r.made ≤ r.senders
  pub marked : All (λ x. HasNumber x.from x.msg) items

-- nobody may send under this number any more, and this is all that was put
abbrev pub IsAll : RingHistory → ℕ → List Msg → Type 0
IsAll r sender all = (r.seat sender ≡ None) × (all ≡ r.put sender) × (sender < r.made)

-- what an end knows is so
pub record Fits (r : RingHistory) (end_ : ℕ) (v : Known) : Type 0 where
  pub sending : v.sends ≡ true → (r.seat v.from ≡ Some end_) × (put_by v ≡ r.put v.from) × (v.done ≡ false) × (v.senders ≡ r.senders)
  pub done : v.done ≡ true → IsAll r v.from (put_by v)
  pub taking : v.takes ≡ true → (end_ ≡ r.reader) × (v.taken ≡ r.taken) × (v.senders ≡ r.senders) × (v.made ≡ r.made)
  pub met : v.takes ≡ true → All (λ x. IsAll r x.0 x.1) v.met

-- the rule, over what lies in the ring and what every end knows
pub record IsLine (items : List Posted) (views : List Known) : Type 0 where
  pub ring : RingHistory
  pub in_order : IsInOrder ring items
  pub fits : (end_ : ℕ) (v : Known) → get_elem? views end_ ≡ some v → Fits ring end_ v

-- an end that is neither
abbrev pub idle : Known
idle = record { senders = 0; made = 0; sends = false; done = false; from = 0; parcels = []; takes = false; taken = []; met = [] }

-- the inlet of a ring without senders
abbrev pub first_known : Known
first_known = record idle { takes = true }

-- an end after its push
abbrev pub after_push : Known → Msg → Known
after_push v (Parcel m) = record v { parcels = v.parcels ++ m ∷ [] }
after_push v (Fin n) = record v { sends = false; done = true }

-- the inlet takes a message of one of the senders
pub record Receives (v : Known) (x : Posted) (w : Known) : Type 0 where
  pub view : w ≡ record v { taken = v.taken ++ x ∷ [] }
  pub sender : x.from < v.senders
  pub marked : HasNumber x.from x.msg

-- at this moment the ring may hold these messages, as far as this end knows: they are of the ring's senders; what lies there
-- of an outlet is the last of what it put; and of a sender that the inlet has met, what was taken and what lies there is all
pub record MayHold (v : Known) (items : List Posted) : Type 0 where
  pub senders : All (λ x. x.from < v.senders) items
  pub own : v.sends ≡ true → (before : List Msg) × (before ++ of v.from items ≡ put_by v)
  pub met : v.takes ≡ true → All (λ x. (x.0 < v.senders) × (of x.0 v.taken ++ of x.0 items ≡ x.1)) v.met

-- the inlet counts one more sender, and makes the next
abbrev pub one_more : Known → Known
one_more v = record v { senders = v.senders + 1 }

abbrev pub one_made : Known → Known
one_made v = record v { made = v.made + 1 }

abbrev pub new_sender : Known → Known
new_sender v = record idle { senders = v.senders; sends = true; from = v.made }

-- what a sender that has ended tells, and what the inlet knows when it has heard of it
abbrev pub finished : Known → Known
finished v = record idle { done = v.done; from = v.from; parcels = v.parcels }

abbrev pub with_met : Known → Known → Known
with_met v w = record v { met = v.met ++ (w.from, put_by w) ∷ [] }

-- the inlet of a ring of so many senders, of which so many are made, that has taken nothing
abbrev pub inlet_of : ℕ → ℕ → Known
inlet_of senders made = record idle { senders = senders; made = made; takes = true }
