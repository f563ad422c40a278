-- The messages of a ring, seen sender by sender.
use Rattle.std.specs.Prelude.{◌≡◌, ℕ, ◌==◌, ◌||◌, Bool, true, false, if◌then◌else◌, List, [], ◌∷◌, ◌++◌, map}
use Rattle.mbuf_pool.specs.declared.mbuf.Mbuf.{Mbuf}
use Rattle.stage_ring.specs.declared.msg.Msg.{Msg}
use Rattle.stage_ring.specs.declared.msg.Msg.TheVariants.{Parcel, Fin}
use Rattle.stage_ring.specs.declared.msg.Posted.{Posted}

-- a message of a sender
abbrev pub posted : ℕ → Msg → Posted
posted from msg = record { from = from; msg = msg }

-- the messages of one sender, in their order
abbrev pub of : ℕ → List Posted → List Msg
of sender [] = []
of sender (x ∷ xs) = if x.from == sender then x.msg ∷ of sender xs else of sender xs

abbrev pub is_fin : Msg → Bool
is_fin (Parcel m) = false
is_fin (Fin n) = true

-- a Fin is among the messages
abbrev pub has_fin : List Msg → Bool
has_fin [] = false
has_fin (x ∷ xs) = is_fin x || has_fin xs

-- what a sender has put: its parcels, in their order, and its Fin last where it has ended
abbrev pub history : ℕ → List Mbuf → Bool → List Msg
history sender parcels done = map (λ m. Parcel m) parcels ++ (if done then Fin sender ∷ [] else [])

-- a Fin has its sender's number
abbrev pub HasNumber : ℕ → Msg → Type 0
HasNumber sender (Parcel m) = Unit {0}
HasNumber sender (Fin n) = n ≡ sender
