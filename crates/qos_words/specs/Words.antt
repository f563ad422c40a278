-- The command line: what the words after the program's name ask for.
use Rattle.std.specs.Prelude.{ℕ, Bool, false, not, ◌&&◌, ◌==◌, if◌then◌else◌, codes, List, [], ◌∷◌, Option, None, Some}
use Rattle.std.specs.List.{list_any}
use Rattle.std.specs.Str.{bytes_eq}
use Rattle.qos_words.specs.Names.{output_names}

-- a run that is asked for: the name of the profile, the prefix of the outputs' names, and the name of the capture
pub record Asked : Type 0 where
  pub profile : List ℕ
  pub prefix : List ℕ
  pub capture : List ℕ

-- a word may be a name: it is not empty and does not begin with `-`
abbrev pub is_name : List ℕ → Bool
is_name [] = false
is_name (byte ∷ bytes) = not (byte == 45)

-- the name is one that a run may create: that of the output of one of the ports 0 to 15
unfoldable pub is_output : List ℕ → List ℕ → Bool
is_output prefix name = list_any (λ output. bytes_eq name output) (output_names prefix 16)

-- the three words are names, and none that is created is read
abbrev pub keeps_rules : Asked → Bool
keeps_rules a =
    is_name a.profile && is_name a.prefix && is_name a.capture && not (is_output a.prefix a.profile) && not (is_output a.prefix a.capture)

-- a run of these three, if they keep the rules
unfoldable pub asked_with : List ℕ → List ℕ → List ℕ → Option Asked
asked_with profile prefix capture =
    let a : Asked = record { profile = profile; prefix = prefix; capture = capture } in
    if keeps_rules a then Some a else None

-- these are the words `run`, `--profile` and `--out`
abbrev pub are_options : List ℕ → List ℕ → List ℕ → Bool
are_options run profile out = bytes_eq run (codes "run") && bytes_eq profile (codes "--profile") && bytes_eq out (codes "--out")

-- the run that the words ask for, if they are `run --profile FILE --out PREFIX CAPTURE`, or so with the options exchanged
unfoldable pub asked_of : List (List ℕ) → Option Asked
asked_of (run ∷ first ∷ a ∷ second ∷ b ∷ capture ∷ []) =
    if are_options run first second
    then asked_with a b capture
    else if are_options run second first then asked_with b a capture else None
asked_of _ = None
