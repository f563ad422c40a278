-- The Differentiated Services code points, and the default table.
use Rattle.std.specs.Prelude.{◌==◌, ℕ, ◌+◌, ◌-◌, ◌*◌, List, [], ◌∷◌, map, find, if◌then◌else◌}
use Rattle.std.specs.List.{flat_map, range_with_len}
use Rattle.std.specs.Option.{option_map_or}
use Rattle.qos_base.specs.declared.packet.Colour.{Colour}
use Rattle.qos_base.specs.declared.packet.Colour.TheVariants.{Green, Yellow, Red}
use Rattle.code_table.specs.declared.entry.Entry.{Entry}

-- the code point of class selector x: the bits xxx000 (RFC 2474, section 4.2.2)
abbrev pub class_selector : ℕ → ℕ
class_selector x = 8 * x

-- the code point of assured forwarding, class x and drop precedence y: the bits xxxyy0 (RFC 2597, section 6)
abbrev pub assured_forwarding : ℕ → ℕ → ℕ
assured_forwarding x y = 8 * x + 2 * y

-- the code point of expedited forwarding: the bits 101110 (RFC 3246, section 2.7)
abbrev pub expedited_forwarding : ℕ
expedited_forwarding = 46

-- drop precedence 1 is green, 2 is yellow and 3 is red
abbrev pub colour_of_precedence : ℕ → Colour
colour_of_precedence y = if y == 1 then Green else (if y == 2 then Yellow else Red)

-- green in the one queue of a class below best effort
abbrev pub in_class : ℕ → Entry
in_class class = record { class = class; queue = 0; colour = Green }

-- green in a queue of best effort
abbrev pub in_best_effort : ℕ → Entry
in_best_effort queue = record { class = 12; queue = queue; colour = Green }

-- assured forwarding: its class x is traffic class 8 - x, and its drop precedence is the colour
abbrev pub assured_row : ℕ → ℕ → ℕ × Entry
assured_row x y =
    (assured_forwarding x y, record { class = 8 - x; queue = 0; colour = colour_of_precedence y })

-- the code points that have an entry of their own
abbrev pub default_rows : List (ℕ × Entry)
default_rows =
    (expedited_forwarding, in_class 0)
    ∷ (class_selector 7, in_class 1)
    ∷ (class_selector 6, in_class 1)
    ∷ (class_selector 5, in_class 2)
    ∷ (class_selector 4, in_class 3)
    ∷ (class_selector 3, in_class 8)
    ∷ (class_selector 2, in_class 9)
    ∷ (class_selector 1, in_best_effort 3)
    ∷ (class_selector 0, in_best_effort 0)
    ∷ flat_map (λ x. map (assured_row x) (1 ∷ 2 ∷ 3 ∷ [])) (1 ∷ 2 ∷ 3 ∷ 4 ∷ [])

-- the entry of a code point: that of its row, or else queue 1 of best effort
abbrev pub default_entry : ℕ → Entry
default_entry code = option_map_or (λ row. row.1) (find (λ row. row.0 == code) default_rows) (in_best_effort 1)

-- the entries of all 64 code points
abbrev pub default_table : List Entry
default_table = map default_entry (range_with_len 0 64)
