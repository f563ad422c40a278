-- What the words of a cell tell.
use Rattle.std.proofs.Common.{◌≡◌, ℕ, ◌+◌, ◌-◌, ◌^◌, ◌<◌, ◌≤◌, List, [], ◌∷◌, ◌++◌, length, slice_index, refl, ap, sym, ◌∙◌, subst, arith}
use Rattle.std.proofs.lemmas.List.{length_push}
use Rattle.qos_base.specs.declared.packet.Colour.{Colour}
use Rattle.qos_base.specs.declared.packet.Colour.TheVariants.{Green, Yellow, Red}
use Rattle.color_meter.specs.Laws.{LimitsKept, SettingKept}
use Rattle.color_meter.specs.Meter.{MeterState, IsMeterState, checked, full}
use Rattle.color_meter.specs.Setting.{Setting}
use Rattle.color_meter.specs.Words.{words_of, HasStateWords}
use Rattle.meter_table.specs.declared.mark.Mark.{Mark}
use Rattle.meter_table.specs.Log.{after_mark, meter_after}
use Rattle.meter_table.specs.Cell.{IsCell, IsNext, colour_word, colour_of, running_words, state_in, mark_in}
use Rattle.meter_table.proofs.Logs.{meter_after_push}

colour_told : (colour : Colour) → colour_of (colour_word colour) ≡ colour
colour_told Green = refl
colour_told Yellow = refl
colour_told Red = refl

turn_told : (n : ℕ) → n + 1 - 1 ≡ n
turn_told n = omega arith

-- the words after a mark tell it
mark_told : (m : MeterState) (mark : Mark) → mark_in mark.meter (running_words m mark) ≡ mark
mark_told m mark i = record {
  meter = mark.meter;
  turn = turn_told mark.turn i;
  input = mark.input;
  index = mark.index;
  at = mark.at;
  len = mark.len;
  pre = colour_told mark.pre i;
  colour = colour_told mark.colour i;
}

none_of : (log : List Mark) → length log ≡ 0 → log ≡ []
none_of [] e = refl
none_of (m ∷ ms) e = absurd (omega arith)

-- where the count is 0, the meter is as it began
pub begins_full : (setting : Setting) (words : List ℕ) → slice_index words 0 ≡ 0 → (log : List Mark) → IsCell setting log words → meter_after setting log ≡ full setting
begins_full setting words zero_marks log cell = ap (meter_after setting) (none_of log (sym cell.count ∙ zero_marks))

-- else the words are those of its state
pub has_words : (setting : Setting) (words : List ℕ) → 0 < slice_index words 0 → (log : List Mark) → IsCell setting log words
    → HasStateWords (meter_after setting log) setting (state_in words)
has_words setting words some log cell = record {
  sound = cell.sound;
  setting = cell.setting_is;
  words = cell.state (let count = cell.count in omega arith);
}

-- a reply, as a mark in the words after it
pub next_is : (meter : ℕ) (setting : Setting) (words after : List ℕ) (mark : Mark) (m m' : MeterState) → LimitsKept → SettingKept → mark.meter ≡ meter → mark.turn ≡ slice_index words 0
    → mark.at ≤ 2 ^ 50 → ((log : List Mark) → IsCell setting log words → m ≡ meter_after setting log) → (mark.colour, m') ≡ checked mark.at mark.len mark.pre m → after ≡ running_words m' mark
    → IsNext meter setting words mark after
next_is meter setting words after mark m m' limits keeps number turn early state replied exact =
    let reply : ℕ × ℕ = m.counts in
    let colour_is : mark.colour ≡ (checked mark.at mark.len mark.pre m).0 = ap (λ r. r.0) replied in
    let left : m' ≡ after_mark m mark = ap (λ r. r.1) replied in
    let then : (log : List Mark) → IsCell setting log words → meter_after setting (log ++ mark ∷ []) ≡ m' =
    λ log cell. meter_after_push setting log mark ∙ ap (λ s. after_mark s mark) (sym (state log cell)) ∙ sym left in
    record {
      counted = ap (λ ws. slice_index ws 0) exact ∙ ap (λ n. n + 1) turn;
      told = ap (mark_in meter) exact ∙ ap (λ n. mark_in n (running_words m' mark)) (sym number) ∙ mark_told m' mark;
      turn = turn;
      legal = λ log cell. record {
        meter_is = number;
        turn_is = turn ∙ cell.count;
        colour = colour_is ∙ ap (λ s. (checked mark.at mark.len mark.pre s).0) (state log cell);
      };
      cell = λ log cell.
          let sound : IsMeterState (after_mark m mark) = limits m mark.at mark.len mark.pre (subst IsMeterState (sym (state log cell)) cell.sound) early in
          let same : (after_mark m mark).setting ≡ setting = keeps m mark.at mark.len mark.pre ∙ ap (λ s. s.setting) (state log cell) ∙ cell.setting_is in
          record {
            count = ap (λ ws. slice_index ws 0) exact ∙ ap (λ n. n + 1) (turn ∙ cell.count) ∙ sym (length_push log mark);
            sound = subst IsMeterState (sym (then log cell ∙ left)) sound;
            setting_is = ap (λ s. s.setting) (then log cell ∙ left) ∙ same;
            state = λ some. ap state_in exact ∙ ap words_of (sym (then log cell));
          };
    }
