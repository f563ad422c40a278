-- What is too large in the whole: the queues, the pipes, the slots or the meters. The numbers of single keys keep their own
-- ranges, which stand here again so that no total can wrap.
use Rattle.std.specs.Prelude.{ℕ, ◌+◌, ◌*◌, ◌^◌, nat_lt, min, if◌then◌else◌, List, slice_index, Option, None, Some}
use Rattle.std.specs.List.{sum_by}
use Rattle.profile_plan.specs.declared.limits.TheConstants.{MAX_SLOTS, MAX_SLOT_BYTES, MAX_QUEUE, MAX_SUBPORT_PIPES}
use Rattle.qos_profile.specs.declared.value.Value.{Value}
use Rattle.qos_profile.specs.declared.value.Value.TheVariants as values
use Rattle.qos_profile.specs.declared.fact.Fact.{Fact}
use Rattle.qos_profile.specs.declared.head.Head.{Head}
use Rattle.qos_profile.specs.declared.head.Head.TheVariants as heads
use Rattle.qos_profile.specs.declared.section.Section.{Section}
use Rattle.qos_profile.specs.Lookups.{value_at, number_at, facts_at}
use Rattle.qos_profile.specs.Planned.{pool_of}

-- the packets that a pipe's sixteen queues hold: the last size is that of four queues
abbrev pub pipe_room : List ℕ → ℕ
pipe_room sizes = sum_by (min MAX_QUEUE) sizes + 3 * min MAX_QUEUE (slice_index sizes 12)

-- the packets of a pipe's queues by their sizes
abbrev pub room_with : Option Value → ℕ
room_with (Some (values.Sizes sizes)) = pipe_room sizes
room_with _ = 0

-- the pipes of a subport section
abbrev pub pipes_in : Head → List Fact → ℕ
pipes_in (heads.Subport p k) facts = min MAX_SUBPORT_PIPES (number_at facts 1 0 0)
pipes_in _ facts = 0

-- the packets that all queues of a subport section hold
abbrev pub room_in : Section → ℕ
room_in s = pipes_in s.head s.facts * room_with (value_at s.facts 2 0)

-- the packets that all queues hold
abbrev pub queue_total : List Section → ℕ
queue_total sections = sum_by room_in sections

-- how many pipes there are
abbrev pub pipe_total : List Section → ℕ
pipe_total sections = sum_by (λ s. pipes_in s.head s.facts) sections

-- the bytes of all slots
abbrev pub slot_total : List Fact → ℕ
slot_total facts = min MAX_SLOTS (pool_of facts).slots * min MAX_SLOT_BYTES (pool_of facts).slot_bytes

-- a section is a meter, or none
abbrev pub meters_in : Head → ℕ
meters_in (heads.Meter name) = 1
meters_in _ = 0

-- how many meters there are
abbrev pub meter_total : List Section → ℕ
meter_total sections = sum_by (λ s. meters_in s.head) sections

-- the first total that is too large
abbrev pub first_above : ℕ → ℕ → ℕ → ℕ → Option ℕ
first_above queues pipes slots meters =
    if nat_lt 4194304 queues then Some queues
    else (if nat_lt 65536 pipes then Some pipes
    else (if nat_lt (2 ^ 31) slots then Some slots
    else (if nat_lt 64 meters then Some meters
    else None)))

-- the first total of the sections that is too large
unfoldable pub too_large : List Section → Option ℕ
too_large sections =
    first_above (queue_total sections) (pipe_total sections) (slot_total (facts_at sections heads.Pool)) (meter_total sections)
