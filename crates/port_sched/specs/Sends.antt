-- Packets that are sent one after another, and how many of a list some credits pay for.
use Rattle.std.specs.Prelude.{ℕ, zero, suc, ◌+◌, nat_le, if◌then◌else◌, List, [], ◌∷◌, take, sum_by}
use Rattle.qos_base.specs.declared.packet.Departure.{Departure}

-- `cost` is what a packet costs, in byte times of the line
module _ {T : Type 0} (cost : T → ℕ) where
  abbrev pub total_cost : List T → ℕ
  total_cost ts = sum_by cost ts

  -- each is sent once the one before it is out
  abbrev pub sends_from : ℕ → List T → List (Departure T)
  sends_from time [] = []
  sends_from time (t ∷ ts) = record { parcel = t; time = time } ∷ sends_from (time + cost t) ts

  -- the length of the longest front of a list that has at most n packets and costs no more than these credits
  unfoldable pub longest_front : ℕ → ℕ → List T → ℕ
  longest_front credits zero ts = 0
  longest_front credits (suc n) ts =
      if nat_le (total_cost (take (suc n) ts)) credits then suc n else longest_front credits n ts
