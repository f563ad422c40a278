-- The heads of sections, and how keys and heads are matched with words.
use Rattle.std.specs.Prelude.{◌==◌, ℕ, Bool, true, false, ◌&&◌, ◌||◌, if◌then◌else◌, codes, List, [], ◌∷◌, length, Option, None, Some, Result, Ok, Err}
use Rattle.std.specs.Str.{bytes_eq}
use Rattle.profile_lines.specs.Numbers.{number_of}
use Rattle.qos_profile.specs.declared.fault.FaultKind.{FaultKind}
use Rattle.qos_profile.specs.declared.fault.FaultKind.TheVariants.{UnknownKey, BadNumber}
use Rattle.qos_profile.specs.declared.name.Name.{Name}
use Rattle.qos_profile.specs.declared.head.Head.{Head}
use Rattle.qos_profile.specs.declared.head.Head.TheVariants as heads
use Rattle.qos_profile.specs.Values.{in_range, name_of, word_at}

-- the words are those of a pattern, whose empty words stand for any one
abbrev pub fits : List (List ℕ) → List (List ℕ) → Bool
fits [] [] = true
fits (p ∷ ps) (w ∷ ws) = (length p == 0 || bytes_eq p w) && fits ps ws
fits [] (w ∷ ws) = false
fits (p ∷ ps) [] = false

-- a number up to a limit
abbrev pub number_at_most : ℕ → List ℕ → Result ℕ FaultKind
number_at_most most word = in_range 0 most (number_of word)

-- a head by its number
abbrev pub numbered : (ℕ → Head) → Result ℕ FaultKind → Result Head FaultKind
numbered make (Ok n) = Ok (make n)
numbered make (Err fault) = Err fault

-- a subport by two numbers
abbrev pub subport_head : Option ℕ → Option ℕ → Result Head FaultKind
subport_head (Some port) (Some subport) = Ok (heads.Subport port subport)
subport_head (Some port) None = Err BadNumber
subport_head None subport = Err BadNumber

-- a meter by its name
abbrev pub meter_head : Option Name → Result Head FaultKind
meter_head (Some name) = Ok (heads.Meter name)
meter_head None = Err BadNumber

-- the last of them: a meter, a rule or a section that is skipped
abbrev pub last_head_of : List (List ℕ) → Result Head FaultKind
last_head_of words =
    if fits (codes "meter" ∷ [] ∷ []) words then meter_head (name_of (word_at words 1))
    else (if fits (codes "rule" ∷ [] ∷ []) words then numbered heads.Rule (number_at_most 255 (word_at words 1))
    else (if fits (codes "red" ∷ []) words then Ok heads.Red
    else Err UnknownKey))

-- a subport, a pipe profile or the code points, or one of the last
abbrev pub later_head_of : List (List ℕ) → Result Head FaultKind
later_head_of words =
    if fits (codes "subport" ∷ [] ∷ [] ∷ []) words then subport_head (number_of (word_at words 1)) (number_of (word_at words 2))
    else (if fits (codes "pipe" ∷ codes "profile" ∷ [] ∷ []) words then numbered heads.PipeKind (number_at_most 255 (word_at words 2))
    else (if fits (codes "codes" ∷ codes "dscp" ∷ []) words then Ok heads.Codes
    else last_head_of words))

-- the head that the words between brackets write
unfoldable pub head_of : List (List ℕ) → Result Head FaultKind
head_of words =
    if fits (codes "pool" ∷ []) words then Ok heads.Pool
    else (if fits (codes "port" ∷ [] ∷ []) words then numbered heads.Port (number_at_most 15 (word_at words 1))
    else (if fits (codes "subport" ∷ codes "profile" ∷ [] ∷ []) words then numbered heads.SubportKind (number_at_most 63 (word_at words 2))
    else later_head_of words))
