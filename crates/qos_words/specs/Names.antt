-- The names of the outputs of a run.
use Rattle.std.specs.Prelude.{◌≡◌, ◌<◌, ℕ, codes, List, ◌++◌, map}
use Rattle.std.specs.Fmt.{decimal}
use Rattle.std.specs.List.{range_with_len}

-- what stands behind the prefix: a dot, the port's number in decimal digits, and `.pcap`
abbrev pub ending_of : ℕ → List ℕ
ending_of port = codes "." ++ decimal port ++ codes ".pcap"

-- the name of a port's output
abbrev pub output_name : List ℕ → ℕ → List ℕ
output_name prefix port = prefix ++ ending_of port

-- the names of the outputs of the ports 0 to count - 1
abbrev pub output_names : List ℕ → ℕ → List (List ℕ)
output_names prefix count = map (output_name prefix) (range_with_len 0 count)

-- no two of so many ports have outputs of one name
pub record NamesApart (prefix : List ℕ) (count : ℕ) : Type 0 where
  pub apart : (i j : ℕ) → i < count → j < count → output_name prefix i ≡ output_name prefix j → i ≡ j
