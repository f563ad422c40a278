-- The bits and their summary: how a change keeps them sound, and what a search of both levels finds.
use Rattle.std.proofs.Common.{◌≡◌, ◌≢◌, ℕ, ◌+◌, ◌*◌, ◌/◌, ◌<◌, ◌≤◌, Bool, true, false, true≢false, List, length, take, drop, replicate, set, refl, sym, ap, ◌∙◌, arith, inl, inr}
use Rattle.std.specs.Prelude.{Some, None}
use Rattle.std.specs.Int.{div_ceil}
use Rattle.std.specs.List.{list_any}
use Rattle.std.proofs.lemmas.Bool.{cases_lt, cases_eq}
use Rattle.std.proofs.Math.Seq.{take-set-lt}
use Rattle.std.proofs.lemmas.List.{get_or_past, get_or-set_same, get_or-set_other, get_or-take, get_or-drop, get_or-replicate, length-set, length-take, length-drop, length-take-le, length-replicate, same_lists}
use Rattle.active_bitmap.specs.NextActive.{is_set, next_active}
use Rattle.active_bitmap.specs.Words.{has_set, AllClear, IsFirstSet, IsNextSet}
use Rattle.active_bitmap.specs.Levels.{IsSound}
use Rattle.active_bitmap.proofs.WordLemmas.{has_set-at, has_set-clear, clear-word}
use Rattle.active_bitmap.proofs.NextLemmas.{next-ahead, next-behind, next-none}

-- a row of clear bits has none set
all_clear : (n k : ℕ) → is_set (replicate n false) k ≡ false
all_clear n k =
    elim (cases_lt k n) [
      | inl inside ↦ get_or-replicate n k false false inside
      | inr past ↦ get_or_past (replicate n false) k false (omega (arith, length-replicate n false))
    ]

pub new-sound : (size : ℕ) → 1 ≤ size → size ≤ 65536
    → IsSound size (replicate (64 * div_ceil size 64) false) (replicate (64 * div_ceil (div_ceil size 64) 64) false)
new-sound size some limit =
    let words : ℕ = div_ceil size 64 in
    let bits = length-replicate (64 * words) false in
    let summary = length-replicate (64 * div_ceil words 64) false in
    record {
      held = omega (arith, bits);
      some = some;
      summarized = omega (arith, bits, summary);
      words_at_most = omega (arith, bits, summary);
      beyond = λ bit _. all_clear (64 * words) bit;
      summary_is = λ word. all_clear (64 * div_ceil words 64) word ∙ sym (has_set-clear (replicate (64 * words) false) word (λ k _ _. all_clear (64 * words) k));
    }

-- a change in another word
has_set-other : (bits : List Bool) (bit word : ℕ) (value : Bool) → word ≢ bit / 64 → has_set (set bits bit value) word ≡ has_set bits word
unfolding has_set
has_set-other bits bit word value other =
    let old = take 64 (drop (64 * word) bits) in
    let new = take 64 (drop (64 * word) (set bits bit value)) in
    let len : length new ≡ length old =
    omega (arith, length-take 64 (drop (64 * word) bits), length-take 64 (drop (64 * word) (set bits bit value)), length-drop (64 * word) bits, length-drop (64 * word) (set bits bit value), length-set bits bit value) in
    let same : new ≡ old = same_lists new old len (λ k d within.
    let small : k < 64 = omega (arith, length-take 64 (drop (64 * word) (set bits bit value))) in
    let apart : 64 * word + k ≢ bit = λ e. other (omega arith) in
    get_or-take 64 (drop (64 * word) (set bits bit value)) k d small ∙ get_or-drop (64 * word) (set bits bit value) k d
    ∙ get_or-set_other bits bit (64 * word + k) value d apart
    ∙ sym (get_or-take 64 (drop (64 * word) bits) k d small ∙ get_or-drop (64 * word) bits k d)) in
    ap (list_any (λ b. b)) same

module _ (size : ℕ) (bits summary : List Bool) (sound : IsSound size bits summary) where
  abbrev shown : List Bool
  shown = take size bits

  pub length-shown : length shown ≡ size
  length-shown = length-take-le size bits sound.held

  -- ---- changes

  pub shown-set : (bit : ℕ) (value : Bool) → bit < length shown → take size (set bits bit value) ≡ set shown bit value
  shown-set bit value within = take-set-lt size bits bit value (omega (arith, length-shown))

  beyond-kept : (bit : ℕ) (value : Bool) → bit < size → (k : ℕ) → size ≤ k → is_set (set bits bit value) k ≡ false
  beyond-kept bit value within k past = get_or-set_other bits bit k value false (λ e. omega arith) ∙ sound.beyond k past

  pub set-sound : (bit : ℕ) → bit < length shown → IsSound size (set bits bit true) (set summary (bit / 64) true)
  set-sound bit within =
      let small : bit < size = omega (arith, length-shown) in
      let held : bit < length bits = omega (arith, sound.held) in
      let there : has_set (set bits bit true) (bit / 64) ≡ true = has_set-at (set bits bit true) bit (get_or-set_same bits bit true false held) in
      record {
        held = omega (arith, sound.held, length-set bits bit true);
        some = sound.some;
        summarized = omega (arith, sound.summarized, length-set bits bit true, length-set summary (bit / 64) true);
        words_at_most = omega (arith, sound.words_at_most, length-set summary (bit / 64) true);
        beyond = beyond-kept bit true small;
        summary_is = λ word. elim (cases_eq word (bit / 64)) [
          | inl same ↦
              ap (is_set (set summary (bit / 64) true)) same ∙ get_or-set_same summary (bit / 64) true false (omega (arith, sound.summarized))
              ∙ sym (ap (has_set (set bits bit true)) same ∙ there)
          | inr other ↦
              get_or-set_other summary (bit / 64) word true false other ∙ sound.summary_is word ∙ sym (has_set-other bits bit word true other)
        ];
      }

  -- a bit cleared, and its word has none left
  pub clear-sound-empty : (bit : ℕ) → bit < length shown → has_set (set bits bit false) (bit / 64) ≡ false → IsSound size (set bits bit false) (set summary (bit / 64) false)
  clear-sound-empty bit within empty =
      let small : bit < size = omega (arith, length-shown) in
      record {
        held = omega (arith, sound.held, length-set bits bit false);
        some = sound.some;
        summarized = omega (arith, sound.summarized, length-set bits bit false, length-set summary (bit / 64) false);
        words_at_most = omega (arith, sound.words_at_most, length-set summary (bit / 64) false);
        beyond = beyond-kept bit false small;
        summary_is = λ word. elim (cases_eq word (bit / 64)) [
          | inl same ↦
              ap (is_set (set summary (bit / 64) false)) same ∙ get_or-set_same summary (bit / 64) false false (omega (arith, sound.held, sound.summarized))
              ∙ sym (ap (has_set (set bits bit false)) same ∙ empty)
          | inr other ↦
              get_or-set_other summary (bit / 64) word false false other ∙ sound.summary_is word ∙ sym (has_set-other bits bit word false other)
        ];
      }

  -- a word that has a set bit after one was cleared had it before
  had_set : (bit : ℕ) (b : Bool) → has_set bits (bit / 64) ≡ b → has_set (set bits bit false) (bit / 64) ≡ true → has_set bits (bit / 64) ≡ true
  had_set bit true was left = was
  had_set bit false was left =
      let clear : AllClear (set bits bit false) (64 * (bit / 64)) (64 * (bit / 64) + 64) = λ k low high.
      elim (cases_eq k bit) [
        | inl same ↦ elim (cases_lt bit (length bits)) [
          | inl held ↦ ap (is_set (set bits bit false)) same ∙ get_or-set_same bits bit false false held
          | inr past ↦ get_or_past (set bits bit false) k false (omega (arith, length-set bits bit false))
        ]
        | inr other ↦ get_or-set_other bits bit k false false other ∙ clear-word bits (bit / 64) was k low high
      ] in
      absurd (true≢false (sym left ∙ has_set-clear (set bits bit false) (bit / 64) clear))

  -- a bit cleared, and its word still has one
  pub clear-sound-left : (bit : ℕ) → bit < length shown → has_set (set bits bit false) (bit / 64) ≡ true → IsSound size (set bits bit false) summary
  clear-sound-left bit within left =
      let small : bit < size = omega (arith, length-shown) in
      record {
        held = omega (arith, sound.held, length-set bits bit false);
        some = sound.some;
        summarized = omega (arith, sound.summarized, length-set bits bit false);
        words_at_most = sound.words_at_most;
        beyond = beyond-kept bit false small;
        summary_is = λ word. elim (cases_eq word (bit / 64)) [
          | inl same ↦ sound.summary_is word ∙ ap (has_set bits) same ∙ had_set bit _ refl left ∙ sym (ap (has_set (set bits bit false)) same ∙ left)
          | inr other ↦ sound.summary_is word ∙ sym (has_set-other bits bit word false other)
        ];
      }

  -- ---- searches

  shown-is : (k : ℕ) → is_set shown k ≡ is_set bits k
  shown-is k =
      elim (cases_lt k size) [
        | inl inside ↦ get_or-take size bits k false inside
        | inr past ↦ get_or_past shown k false (omega (arith, length-shown)) ∙ sym (sound.beyond k past)
      ]

  set_is_within : (k : ℕ) → is_set bits k ≡ true → k < size
  set_is_within k there =
      elim (cases_lt k size) [ inl inside ↦ inside | inr past ↦ absurd (true≢false (sym there ∙ sound.beyond k past)) ]

  shown-clear : (low high : ℕ) → AllClear bits low high → AllClear shown low high
  shown-clear low high clear k from to = shown-is k ∙ clear k from to

  -- the words without a set bit, by the summary
  clear-words : (low high : ℕ) → AllClear summary low high → AllClear bits (64 * low) (64 * high)
  clear-words low high clear k from to =
      clear-word bits (k / 64) (sym (sound.summary_is (k / 64)) ∙ clear (k / 64) (omega arith) (omega arith)) k (omega arith) (omega arith)

  -- the first in the place's own word
  pub found-here : (pos high bit : ℕ) → pos < length shown → IsFirstSet bits pos high (Some bit) → next_active pos shown ≡ Some bit
  found-here pos high bit within first =
      next-ahead shown pos within bit first.0 (omega (arith, length-shown, set_is_within bit first.2)) (shown-is bit ∙ first.2) (shown-clear pos bit first.3)

  -- the first in the next word that has one
  pub found-there : (pos word high bit : ℕ) → pos < length shown → AllClear bits pos (64 * (pos / 64) + 64) → IsNextSet summary (pos / 64) (Some word)
      → IsFirstSet bits (64 * word) high (Some bit) → next_active pos shown ≡ Some bit
  found-there pos word high bit within own next first =
      let there : is_set shown bit ≡ true = shown-is bit ∙ first.2 in
      elim (cases_lt (pos / 64) word) [
        | inl after ↦
            let between = clear-words (pos / 64 + 1) word (next.2 after) in
            let clear : AllClear bits pos bit = λ k low to.
            elim (cases_lt k (64 * (pos / 64) + 64)) [
              | inl near ↦ own k low near
              | inr far ↦ elim (cases_lt k (64 * word)) [
                | inl middle ↦ between k (omega arith) middle
                | inr last ↦ first.3 k last to
              ]
            ] in
            next-ahead shown pos within bit (omega (arith, first.0)) (omega (arith, length-shown, set_is_within bit first.2)) there (shown-clear pos bit clear)
        | inr before ↦
            let rest = next.3 before in
            let after = clear-words (pos / 64 + 1) (length summary) rest.0 in
            let below = clear-words 0 word rest.1 in
            let ahead : AllClear bits pos size = λ k low to.
            elim (cases_lt k (64 * (pos / 64) + 64)) [
              | inl near ↦ own k low near
              | inr far ↦ after k (omega arith) (omega (arith, sound.held, sound.summarized))
            ] in
            let behind : AllClear bits 0 bit = λ k low to.
            elim (cases_lt k (64 * word)) [
              | inl under ↦ below k (omega arith) under
              | inr last ↦ first.3 k last to
            ] in
            let low : bit < pos =
            elim (cases_lt bit pos) [
              | inl under ↦ under
              | inr over ↦ absurd (true≢false (sym first.2 ∙ ahead bit over (set_is_within bit first.2)))
            ] in
            next-behind shown pos within bit low there (λ k from to. shown-is k ∙ ahead k from (omega (arith, length-shown))) (shown-clear 0 bit behind)
      ]

  pub found-none : (pos : ℕ) → pos < length shown → AllClear summary 0 (length summary) → next_active pos shown ≡ None
  found-none pos within clear =
      next-none shown pos within
      (λ k low to. shown-is k ∙ clear-words 0 (length summary) clear k (omega arith) (omega (arith, length-shown, sound.held, sound.summarized)))

  -- a word whose bit of the summary is set has a set bit
  pub not_empty : (word high : ℕ) → is_set summary word ≡ true → 64 * word + 64 ≤ high → IsFirstSet bits (64 * word) high None → ⊥
  not_empty word high there far clear =
      true≢false (sym there ∙ sound.summary_is word ∙ has_set-clear bits word (λ k low to. clear k low (omega arith)))

  -- a word of the summary is one of the words
  pub word_within : (word : ℕ) → is_set summary word ≡ true → 64 * word < length bits
  word_within word there =
      elim (cases_lt (64 * word) (length bits)) [
        | inl inside ↦ inside
        | inr past ↦ absurd (true≢false (sym there ∙ sound.summary_is word ∙ has_set-clear bits word (λ k low _. get_or_past bits k false (omega arith))))
      ]
