-- What the words of a value mean.
use Rattle.std.specs.Prelude.{◌==◌, ℕ, ◌+◌, ◌-◌, ◌*◌, ◌/◌, ◌^◌, Bool, ◌&&◌, ◌||◌, nat_le, nat_lt, if◌then◌else◌, codes, List, [], ◌∷◌, ◌++◌, length, map, replicate, slice_index_or, is_some, unwrap_or, Option, None, Some, Result, Ok, Err}
use Rattle.std.specs.List.{list_all, position_or_len, before_first, after_first}
use Rattle.std.specs.Str.{bytes_eq}
use Rattle.profile_lines.specs.Numbers.{number_of}
use Rattle.profile_plan.specs.Limits.{is_name_byte}
use Rattle.qos_base.specs.declared.packet.Colour.{Colour}
use Rattle.qos_base.specs.declared.packet.Colour.TheVariants.{Green, Yellow, Red}
use Rattle.qos_profile.specs.declared.fault.FaultKind.{FaultKind}
use Rattle.qos_profile.specs.declared.fault.FaultKind.TheVariants.{BadNumber, OutOfRange}
use Rattle.qos_profile.specs.declared.name.Name.{Name}
use Rattle.qos_profile.specs.declared.value.Value.{Value}
use Rattle.qos_profile.specs.declared.value.Value.TheVariants as values
use Rattle.qos_profile.specs.Table.{Form}
use Rattle.qos_profile.specs.Table as table

-- a number that may be missing, in its range
abbrev pub in_range : ℕ → ℕ → Option ℕ → Result ℕ FaultKind
in_range least most (Some n) = if nat_le least n && nat_le n most then Ok n else Err OutOfRange
in_range least most None = Err BadNumber

-- the word at a place
abbrev pub word_at : List (List ℕ) → ℕ → List ℕ
word_at words n = slice_index_or words n []

-- one word that is a number in a range
abbrev pub number_in : ℕ → ℕ → List (List ℕ) → Result ℕ FaultKind
number_in least most words = if length words == 1 then in_range least most (number_of (word_at words 0)) else Err BadNumber

-- a number as a value
abbrev pub as_number : Result ℕ FaultKind → Result Value FaultKind
as_number (Ok n) = Ok (values.Number n)
as_number (Err fault) = Err fault

-- a place below an end
abbrev pub found_at : ℕ → ℕ → Option ℕ
found_at place end = if nat_lt place end then Some place else None

-- the place of a word among some
abbrev pub place_among : List (List ℕ) → List ℕ → Option ℕ
place_among choices word = found_at (position_or_len (λ w. bytes_eq w word) choices) (length choices)

-- the same for words, of which there is one
abbrev pub choice_of : List (List ℕ) → List (List ℕ) → Option ℕ
choice_of choices words = if length words == 1 then place_among choices (word_at words 0) else None

-- a word that is found, or else another value
abbrev pub as_word : Option ℕ → Result Value FaultKind → Result Value FaultKind
as_word (Some n) other = Ok (values.Word n)
as_word None other = other

-- the number that a word writes, or 0
abbrev pub number_or_zero : List ℕ → ℕ
number_or_zero word = unwrap_or (number_of word) 0

-- a number is within limits
abbrev pub is_within : ℕ → ℕ → ℕ → Bool
is_within least most n = nat_le least n && nat_le n most

-- so many words, each a number
abbrev pub are_numbers : ℕ → List (List ℕ) → Bool
are_numbers count words = length words == count && list_all (λ w. is_some (number_of w)) words

-- each number is within limits
abbrev pub are_within : ℕ → ℕ → List (List ℕ) → Bool
are_within least most words = list_all (λ w. is_within least most (number_or_zero w)) words

-- so many words, each a number, and each in its range
unfoldable pub numbers_in : ℕ → ℕ → ℕ → List (List ℕ) → Result (List ℕ) FaultKind
numbers_in count least most words =
    if are_numbers count words
    then (if are_within least most words then Ok (map number_or_zero words) else Err OutOfRange)
    else Err BadNumber

-- queue sizes as a value
abbrev pub as_sizes : Result (List ℕ) FaultKind → Result Value FaultKind
as_sizes (Ok ns) = Ok (values.Sizes ns)
as_sizes (Err fault) = Err fault

-- weights as a value
abbrev pub as_weights : Result (List ℕ) FaultKind → Result Value FaultKind
as_weights (Ok ns) = Ok (values.Weights ns)
as_weights (Err fault) = Err fault

-- four octets as one number
abbrev pub address_of : ℕ → ℕ → ℕ → ℕ → ℕ
address_of a b c d = ((a * 256 + b) * 256 + c) * 256 + d

-- an address whose bits past n are 0
abbrev pub masked : ℕ → ℕ → ℕ
masked address n = address / 2 ^ (32 - n) * 2 ^ (32 - n)

-- what stands before and after the first of these bytes
abbrev pub front : ℕ → List ℕ → List ℕ
front mark bytes = before_first (λ b. b == mark) bytes

-- what stands after the first of these bytes
abbrev pub rest : ℕ → List ℕ → List ℕ
rest mark bytes = after_first (λ b. b == mark) bytes

-- an address of four octets and its length: each a number, and each at most its limit
abbrev pub prefix_with : Option ℕ → Option ℕ → Option ℕ → Option ℕ → Option ℕ → Result Value FaultKind
prefix_with (Some a) (Some b) (Some c) (Some d) (Some bits) =
    if is_within 0 255 a && is_within 0 255 b && is_within 0 255 c && is_within 0 255 d && is_within 0 32 bits
    then Ok (values.Prefix (record { addr = masked (address_of a b c d) bits; bits = bits }))
    else Err OutOfRange
prefix_with (Some a) (Some b) (Some c) (Some d) None = Err BadNumber
prefix_with (Some a) (Some b) (Some c) None bits = Err BadNumber
prefix_with (Some a) (Some b) None d bits = Err BadNumber
prefix_with (Some a) None c d bits = Err BadNumber
prefix_with None b c d bits = Err BadNumber

-- the words of four octets and a length
abbrev pub prefix_from : List ℕ → List ℕ → List ℕ → List ℕ → List ℕ → Result Value FaultKind
prefix_from a b c d bits = prefix_with (number_of a) (number_of b) (number_of c) (number_of d) (number_of bits)

-- the octets stand before, between and after three dots
abbrev pub prefix_at : List ℕ → List ℕ → Result Value FaultKind
prefix_at address bits =
    prefix_from (front 46 address) (front 46 (rest 46 address)) (front 46 (rest 46 (rest 46 address))) (rest 46 (rest 46 (rest 46 address))) bits

-- `a.b.c.d/n`: an octet is at most 255, n at most 32
abbrev pub prefix_of : List ℕ → Result Value FaultKind
prefix_of word = prefix_at (front 47 word) (rest 47 word)

-- `any`, or a prefix
unfoldable pub prefix_or_any : List (List ℕ) → Result Value FaultKind
prefix_or_any words =
    if length words == 1
    then (if bytes_eq (word_at words 0) (codes "any") then Ok (values.Word 0) else prefix_of (word_at words 0))
    else Err BadNumber

-- the words of the colours
abbrev pub colours : List (List ℕ)
colours = codes "green" ∷ codes "yellow" ∷ codes "red" ∷ []

-- a colour by the place of its word
abbrev pub colour_at : ℕ → Colour
colour_at n = if n == 0 then Green else (if n == 1 then Yellow else Red)

-- the class is at most 12, and the queue 0 below class 12 and at most 3 at class 12
abbrev pub is_place : ℕ → ℕ → Bool
is_place class queue = (nat_lt class 12 && queue == 0) || (class == 12 && nat_le queue 3)

-- a class, a queue and a colour, which there are
abbrev pub entry_with : Option ℕ → Option ℕ → Option ℕ → Result Value FaultKind
entry_with (Some class) (Some queue) (Some colour) =
    if is_place class queue
    then Ok (values.Entry (record { class = class; queue = queue; colour = colour_at colour }))
    else Err OutOfRange
entry_with (Some class) (Some queue) None = Err BadNumber
entry_with (Some class) None colour = Err BadNumber
entry_with None queue colour = Err BadNumber

-- `C Q COLOUR`
abbrev pub entry_at : List ℕ → List ℕ → List ℕ → Result Value FaultKind
entry_at class queue colour = entry_with (number_of class) (number_of queue) (place_among colours colour)

-- `C Q COLOUR` in three words
unfoldable pub entry_of : List (List ℕ) → Result Value FaultKind
entry_of words = if length words == 3 then entry_at (word_at words 0) (word_at words 1) (word_at words 2) else Err BadNumber

-- the word `dscp`
abbrev pub is_dscp : List (List ℕ) → Bool
is_dscp words = length words == 1 && bytes_eq (word_at words 0) (codes "dscp")

-- four words, of which the first is `fixed`
abbrev pub is_fixed : List (List ℕ) → Bool
is_fixed words = length words == 4 && bytes_eq (word_at words 0) (codes "fixed")

-- `dscp`, or `fixed C Q COLOUR`
unfoldable pub code_of : List (List ℕ) → Result Value FaultKind
code_of words =
    if is_dscp words
    then Ok (values.Word 0)
    else (if is_fixed words
    then entry_at (word_at words 1) (word_at words 2) (word_at words 3)
    else Err BadNumber)

-- a name of 1 to 32 characters, as 32 bytes of which the rest are 0
abbrev pub padded : List ℕ → Name
padded word = record { bytes = word ++ replicate (32 - length word) 0; length = length word }

-- a word that is a name
unfoldable pub name_of : List ℕ → Option Name
name_of word =
    if nat_le 1 (length word) && nat_le (length word) 32 && list_all is_name_byte word then Some (padded word) else None

-- a name as a value
abbrev pub as_name : Option Name → Result Value FaultKind
as_name (Some name) = Ok (values.Name name)
as_name None = Err BadNumber

-- one word that is a name
abbrev pub one_name : List (List ℕ) → Result Value FaultKind
one_name words = if length words == 1 then as_name (name_of (word_at words 0)) else Err BadNumber

-- the value that the words write
unfoldable pub value_of : Form → List (List ℕ) → Result Value FaultKind
value_of (table.Number least most) words = as_number (number_in least most words)
value_of (table.Word choices) words = as_word (choice_of choices words) (Err BadNumber)
value_of (table.NumberOr least most choices) words = as_word (choice_of choices words) (as_number (number_in least most words))
value_of table.Sizes words = as_sizes (numbers_in 13 0 65536 words)
value_of table.Weights words = as_weights (numbers_in 4 1 255 words)
value_of table.Address words = prefix_or_any words
value_of table.Mark words = entry_of words
value_of table.Code words = code_of words
value_of table.Named words = one_name words
