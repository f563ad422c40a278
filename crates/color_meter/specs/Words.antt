-- What of a meter changes, as words: the setting is what gives them a meaning.
use Rattle.std.specs.Prelude.{◌≡◌, ℕ, List, [], ◌∷◌}
use Rattle.color_meter.specs.Clock.{whole_time}
use Rattle.color_meter.specs.Meter.{MeterState, IsMeterState}
use Rattle.color_meter.specs.Setting.{Setting}

-- the counts, the meter's moment, and the last whole period of each rate
abbrev pub words_of : MeterState → List ℕ
words_of m =
    m.counts.0 ∷ m.counts.1 ∷ m.high ∷ whole_time m.setting.cir m.high ∷ whole_time m.setting.other m.high ∷ []

-- a meter of a setting that has these words
pub record HasStateWords (m : MeterState) (s : Setting) (ws : List ℕ) : Type 0 where
  pub sound : IsMeterState m
  pub setting : m.setting ≡ s
  pub words : ws ≡ words_of m
