-- The colours that meters gave packets.
use Rattle.std.specs.Prelude.{◌≡◌, ◌==◌, ℕ, ◌&&◌, List, [], All, filter, find, map, slice_index_or}
use Rattle.std.specs.Option.{option_map_or}
use Rattle.qos_base.specs.declared.packet.Colour.{Colour}
use Rattle.qos_base.specs.declared.packet.Colour.TheVariants.{Green}
use Rattle.meter_table.specs.declared.mark.Mark.{Mark}
use Rattle.meter_table.specs.declared.mark.MeterLog.{MeterLog}

-- the colour of a packet's mark, by its meter, its input and its index
abbrev pub Colours : Type 0
Colours = ℕ → ℕ → ℕ → Colour

-- these marks have these colours
abbrev pub Agrees : Colours → List Mark → Type 0
Agrees colours marks = All (λ mark. colours mark.meter mark.input mark.index ≡ mark.colour) marks

-- the marks of one meter
abbrev pub marks_at : ℕ → List Mark → List Mark
marks_at meter marks = filter (λ mark. mark.meter == meter) marks

-- the colour of a packet's mark among the marks of its meter
abbrev pub colour_among : List Mark → ℕ → ℕ → Colour
colour_among marks input index = option_map_or (λ mark. mark.colour) (find (λ mark. mark.input == input && mark.index == index) marks) Green

-- the colours in the logs of all meters
abbrev pub colours_in : List MeterLog → Colours
colours_in logs meter input index = colour_among (slice_index_or (map (λ log. log.marks) logs) meter []) input index

-- the colours of a list of marks
abbrev pub colours_by : List Mark → Colours
colours_by marks meter input index = colour_among (marks_at meter marks) input index
