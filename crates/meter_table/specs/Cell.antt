-- The words of a meter's cell. Word 0 is how many marks the meter has made. Until the first they say what the meter is set to; from then on
-- how it stands, and the last mark.
use Rattle.std.specs.Prelude.{◌≡◌, ℕ, ◌+◌, ◌-◌, ◌<◌, ◌==◌, Bool, if◌then◌else◌, List, [], ◌∷◌, ◌++◌, length, slice_index}
use Rattle.qos_base.specs.declared.packet.Colour.{Colour}
use Rattle.qos_base.specs.declared.packet.Colour.TheVariants.{Green, Yellow, Red}
use Rattle.profile_plan.specs.declared.meter.MeterKind.{MeterKind}
use Rattle.profile_plan.specs.declared.meter.MeterKind.TheVariants.{SrTcm, TrTcm, Rfc4115}
use Rattle.color_meter.specs.Meter.{MeterState, IsMeterState}
use Rattle.color_meter.specs.Setting.{Setting}
use Rattle.color_meter.specs.Words.{words_of}
use Rattle.meter_table.specs.declared.mark.Mark.{Mark}
use Rattle.meter_table.specs.Log.{IsLegal, meter_after}

abbrev pub colour_word : Colour → ℕ
colour_word Green = 0
colour_word Yellow = 1
colour_word Red = 2

abbrev pub colour_of : ℕ → Colour
colour_of word = if word == 0 then Green else if word == 1 then Yellow else Red

abbrev pub kind_word : MeterKind → ℕ
kind_word SrTcm = 0
kind_word TrTcm = 1
kind_word Rfc4115 = 2

abbrev pub kind_of : ℕ → MeterKind
kind_of word = if word == 0 then SrTcm else if word == 1 then TrTcm else Rfc4115

abbrev pub flag_word : Bool → ℕ
flag_word flag = if flag then 1 else 0

-- the words of a meter that has made no mark
abbrev pub settled_words : ℕ → Setting → List ℕ
settled_words meter s =
    0 ∷ meter ∷ kind_word s.kind ∷ flag_word s.aware ∷ s.cir.bytes ∷ s.cir.period ∷ s.other.bytes ∷ s.other.period ∷ s.cbs ∷ s.other_size ∷ 0
    ∷ 0 ∷ []

-- what these words say that a meter is set to
abbrev pub setting_in : List ℕ → Setting
setting_in words = record {
  kind = kind_of (slice_index words 2);
  aware = slice_index words 3 == 1;
  cir = record { bytes = slice_index words 4; period = slice_index words 5 };
  other = record { bytes = slice_index words 6; period = slice_index words 7 };
  cbs = slice_index words 8;
  other_size = slice_index words 9;
}

-- the words of a meter as its last mark left it
abbrev pub running_words : MeterState → Mark → List ℕ
running_words m mark =
    (mark.turn + 1)
    ∷ (words_of m ++ mark.input ∷ mark.index ∷ mark.at ∷ mark.len ∷ colour_word mark.pre ∷ colour_word mark.colour ∷ [])

-- the words from which the meter's state is made again
abbrev pub state_in : List ℕ → List ℕ
state_in words =
    slice_index words 1 ∷ slice_index words 2 ∷ slice_index words 3 ∷ slice_index words 4 ∷ slice_index words 5 ∷ []

-- the last mark that the words tell
abbrev pub mark_in : ℕ → List ℕ → Mark
mark_in meter words = record {
  meter = meter;
  turn = slice_index words 0 - 1;
  input = slice_index words 6;
  index = slice_index words 7;
  at = slice_index words 8;
  len = slice_index words 9;
  pre = colour_of (slice_index words 10);
  colour = colour_of (slice_index words 11);
}

-- the words are those of a meter that has made these marks
pub record IsCell (setting : Setting) (log : List Mark) (words : List ℕ) : Type 0 where
  pub count : slice_index words 0 ≡ length log
  pub sound : IsMeterState (meter_after setting log)
  pub setting_is : (meter_after setting log).setting ≡ setting
  pub state : 0 < length log → state_in words ≡ words_of (meter_after setting log)

-- a mark is the meter's reply to what these words say, and the words after are those that it leaves
pub record IsNext (meter : ℕ) (setting : Setting) (words : List ℕ) (mark : Mark) (after : List ℕ) : Type 0 where
  pub counted : slice_index after 0 ≡ slice_index words 0 + 1
  pub told : mark_in meter after ≡ mark
  pub turn : mark.turn ≡ slice_index words 0
  pub legal : (log : List Mark) → IsCell setting log words → IsLegal meter setting log (length log) mark
  pub cell : (log : List Mark) → IsCell setting log words → IsCell setting (log ++ mark ∷ []) after
