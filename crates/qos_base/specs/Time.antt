-- Moments of a capture, byte times of a line, and the stamps of what is sent.
use Rattle.std.specs.Prelude.{ℕ, ◌+◌, ◌-◌, ◌*◌, ◌/◌, ◌^◌, ◌≤◌, min, List, Option, None, Some, fold}
use Rattle.std.specs.Option.{unwrap_or}

-- a line's rate in bytes per second, within the limits
abbrev pub IsLineRate : ℕ → Type 0
IsLineRate line = (1000000 ≤ line) × (line ≤ 12500000000)

-- the byte time of a moment in nanoseconds: the whole bytes that the line carries up to it
abbrev pub byte_time_of : ℕ → ℕ → ℕ
byte_time_of ns line = ns * line / 1000000000

-- the stamp of a send, in nanoseconds: the last that 32 bits of seconds can say, or earlier
abbrev pub send_stamp_of : ℕ → ℕ → ℕ → ℕ
send_stamp_of origin time line = min (origin + time * 1000000000 / line) 4294967295999999999

-- the lesser of two stamps, where there are any
abbrev pub earlier : Option ℕ → Option ℕ → Option ℕ
earlier None b = b
earlier (Some a) None = Some a
earlier (Some a) (Some b) = Some (min a b)

-- the origin: the least of the inputs' first stamps, or 0 where no input has one
abbrev pub origin_of : List (Option ℕ) → ℕ
origin_of firsts = unwrap_or (fold earlier None firsts) 0

-- a packet's moment in nanoseconds: its stamp less the origin, at least 0 and at most 2^50
abbrev pub moment_of : ℕ → ℕ → ℕ
moment_of origin stamp = min (stamp - origin) (2 ^ 50)
