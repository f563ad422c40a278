-- Words with one space between them are split into these words.
use Rattle.std.proofs.Common.{◌≡◌, ◌==◌, ℕ, ◌≤◌, Bool, true, false, cond, not, ◌||◌, nat_le, List, [], ◌∷◌, ◌++◌, length, filter, refl, sym, ap, ◌∙◌, arith}
use Rattle.std.specs.List.{list_all, list_any, slice_split, flat_map}
use Rattle.std.proofs.lemmas.Bool.{and_parts, and_from, or_from, or_left, leb-true, ne_eqb}
use Rattle.std.proofs.lemmas.List.Concat.{flat_map-append}
use Rattle.std.proofs.lemmas.List.Elements.{filter-append}
use Rattle.std.proofs.lemmas.List.Folds.{list_all-append}
use Rattle.std.proofs.lemmas.List.{append-nil, append_assoc}
use Rattle.std.proofs.lemmas.List.Splits.{slice_split_none, slice_split_at}
use Rattle.profile_lines.specs.Lines.{is_blank, words_of}
use Rattle.profile_print.specs.Written.{Words, spaced}
use Rattle.profile_print.specs.Plain.{is_plain, is_word, are_words}
use Rattle.profile_print.proofs.Bytes.{all-weaker, none-of, each-fails, test-ne}

-- a word without blanks
abbrev pub is_closed : List ℕ → Bool
is_closed w = not (list_any is_blank w)

closed-any : (w : List ℕ) → is_closed w ≡ true → list_any is_blank w ≡ false
closed-any w h =
    elim (list_any is_blank w) as (λ t. not t ≡ true → t ≡ false) [ true ↦ λ e. absurd (cc) | false ↦ λ e. refl ] h

pub split-spaced : (w : List ℕ) (more : Words) → list_all is_closed (w ∷ more) ≡ true → slice_split is_blank (spaced (w ∷ more)) ≡ w ∷ more
split-spaced w [] h =
    let parts = and_parts (is_closed w) true h in
    ap (slice_split is_blank) (append-nil w) ∙ slice_split_none is_blank w (each-fails is_blank w (closed-any w parts.0))
split-spaced w (v ∷ vs) h =
    let parts = and_parts (is_closed w) (list_all is_closed (v ∷ vs)) h in
    slice_split_at is_blank w 32 (v ++ flat_map (λ x. 32 ∷ x) vs) (each-fails is_blank w (closed-any w parts.0)) refl
    ∙ ap (λ ws. w ∷ ws) (split-spaced v vs parts.1)

-- what a word is made of
pub word-parts : (w : List ℕ) → is_word w ≡ true → (1 ≤ length w) × (list_all is_plain w ≡ true)
unfolding is_word
word-parts w h =
    let parts = and_parts (nat_le 1 (length w)) (list_all is_plain w) h in
    (leb-true 1 (length w) parts.0, parts.1)

plain-blank : (b : ℕ) → is_plain b ≡ true → is_blank b ≡ false
plain-blank b h = or_from (b == 32) (b == 9) (test-ne is_plain b 32 h refl) (test-ne is_plain b 9 h refl)

word-closed : (w : List ℕ) → is_word w ≡ true → is_closed w ≡ true
word-closed w h = ap not (none-of is_plain is_blank plain-blank w (word-parts w h).1)

-- words are kept where empty pieces go
words-kept : (ws : Words) → list_all is_word ws ≡ true → filter (λ piece. not (length piece == 0)) ws ≡ ws
words-kept [] h = refl
words-kept (w ∷ ws) h =
    let parts = and_parts (is_word w) (list_all is_word ws) h in
    let some : (length w == 0) ≡ false = ne_eqb (length w) 0 (λ e. absurd (omega (arith, (word-parts w parts.0).0))) in
    ap (λ t. cond (not t) (w ∷ filter (λ piece. not (length piece == 0)) ws) (filter (λ piece. not (length piece == 0)) ws)) some
    ∙ ap (λ xs. w ∷ xs) (words-kept ws parts.1)

are-words : (ws : Words) → are_words ws ≡ true → (1 ≤ length ws) × (list_all is_word ws ≡ true)
are-words ws h =
    let parts = and_parts (nat_le 1 (length ws)) (list_all is_word ws) h in
    (leb-true 1 (length ws) parts.0, parts.1)

-- words between spaces are read as these words
pub read-words : (ws : Words) → are_words ws ≡ true → words_of (spaced ws) ≡ ws
unfolding words_of
read-words [] h = absurd (omega (arith, (are-words [] h).0))
read-words (w ∷ more) h =
    let each = (are-words (w ∷ more) h).1 in
    ap (filter (λ piece. not (length piece == 0))) (split-spaced w more (all-weaker is_word is_closed word-closed (w ∷ more) each))
    ∙ words-kept (w ∷ more) each

-- so they are with a space behind them
pub read-before : (ws : Words) → are_words ws ≡ true → words_of (spaced ws ++ 32 ∷ []) ≡ ws
unfolding words_of
read-before [] h = absurd (omega (arith, (are-words [] h).0))
read-before (w ∷ more) h =
    let each = (are-words (w ∷ more) h).1 in
    let nonempty : List ℕ → Bool = λ piece. not (length piece == 0) in
    let text : spaced (w ∷ more) ++ 32 ∷ [] ≡ spaced ((w ∷ more) ++ [] ∷ []) =
    append_assoc w (flat_map (λ x. 32 ∷ x) more) (32 ∷ []) ∙ ap (λ xs. w ++ xs) (sym (flat_map-append (λ x. 32 ∷ x) more ([] ∷ []))) in
    let closed : list_all is_closed ((w ∷ more) ++ [] ∷ []) ≡ true =
    list_all-append is_closed (w ∷ more) ([] ∷ []) ∙ and_from (list_all is_closed (w ∷ more)) true (all-weaker is_word is_closed word-closed (w ∷ more) each) refl in
    ap (λ bs. filter nonempty (slice_split is_blank bs)) text
    ∙ ap (filter nonempty) (split-spaced w (more ++ [] ∷ []) closed)
    ∙ filter-append nonempty (w ∷ more) ([] ∷ [])
    ∙ append-nil (filter nonempty (w ∷ more))
    ∙ words-kept (w ∷ more) each

-- and with a space before them
pub read-behind : (ws : Words) → are_words ws ≡ true → words_of (32 ∷ spaced ws) ≡ ws
unfolding words_of
read-behind [] h = absurd (omega (arith, (are-words [] h).0))
read-behind (w ∷ more) h =
    let each = (are-words (w ∷ more) h).1 in
    let nonempty : List ℕ → Bool = λ piece. not (length piece == 0) in
    ap (filter nonempty) (split-spaced [] (w ∷ more) (all-weaker is_word is_closed word-closed (w ∷ more) each))
    ∙ words-kept (w ∷ more) each

-- a byte of words with spaces between them
abbrev pub is_inner : ℕ → Bool
is_inner b = is_plain b || b == 32

inner-plain : (b : ℕ) → is_plain b ≡ true → is_inner b ≡ true
inner-plain b h = or_left (is_plain b) (b == 32) h

inner-more : (ws : Words) → list_all is_word ws ≡ true → list_all is_inner (flat_map (λ x. 32 ∷ x) ws) ≡ true
inner-more [] h = refl
inner-more (w ∷ ws) h =
    let parts = and_parts (is_word w) (list_all is_word ws) h in
    list_all-append is_inner (32 ∷ w) (flat_map (λ x. 32 ∷ x) ws)
    ∙ and_from (list_all is_inner (32 ∷ w)) (list_all is_inner (flat_map (λ x. 32 ∷ x) ws)) (all-weaker is_plain is_inner inner-plain w (word-parts w parts.0).1) (inner-more ws parts.1)

pub inner-spaced : (ws : Words) → are_words ws ≡ true → list_all is_inner (spaced ws) ≡ true
inner-spaced [] h = refl
inner-spaced (w ∷ more) h =
    let parts = and_parts (is_word w) (list_all is_word more) (are-words (w ∷ more) h).1 in
    list_all-append is_inner w (flat_map (λ x. 32 ∷ x) more)
    ∙ and_from (list_all is_inner w) (list_all is_inner (flat_map (λ x. 32 ∷ x) more)) (all-weaker is_plain is_inner inner-plain w (word-parts w parts.0).1) (inner-more more parts.1)

-- words begin with a plain byte
pub first-byte : (ws : Words) → are_words ws ≡ true → (b : ℕ) × (bs : List ℕ) × (spaced ws ≡ b ∷ bs) × (is_plain b ≡ true)
first-byte [] h = absurd (omega (arith, (are-words [] h).0))
first-byte ([] ∷ more) h =
    absurd (omega (arith, (word-parts [] (and_parts (is_word []) (list_all is_word more) (are-words ([] ∷ more) h).1).0).0))
first-byte ((b ∷ bs) ∷ more) h =
    let word = (word-parts (b ∷ bs) (and_parts (is_word (b ∷ bs)) (list_all is_word more) (are-words ((b ∷ bs) ∷ more) h).1).0).1 in
    (b, bs ++ flat_map (λ x. 32 ∷ x) more, refl, (and_parts (is_plain b) (list_all is_plain bs) word).0)
