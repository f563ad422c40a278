-- A line that is written is read as the line that it was.
use Rattle.std.proofs.Common.{◌≡◌, ◌==◌, ℕ, zero, suc, ◌-◌, ◌≤◌, Bool, true, false, cond, not, ◌&&◌, ◌||◌, nat_le, List, [], ◌∷◌, ◌++◌, length, get_or, take, map, Some, refl, sym, ap, ◌∙◌, arith, ⊎_elim}
use Rattle.std.specs.List.{list_all, list_any, flat_map, before_first, after_first, before_last, slice_split, onto_first}
use Rattle.std.specs.Str.Lines.{lines, lines_of_parts}
use Rattle.std.proofs.lemmas.Bool.{and_parts, and_from, or_from, or_left, or_right, or_cases, eqb-true, leb-true, le-leb}
use Rattle.std.proofs.lemmas.List.{append_assoc}
use Rattle.std.proofs.lemmas.List.Folds.{list_all-append, list_any-append}
use Rattle.std.proofs.lemmas.List.Splits.{slice_split_at}
use Rattle.profile_lines.specs.Lines.{Line, Head, Entry, NotText, Neither, is_blank, is_text, words_of, first_mark, last_mark, closes, head_of_code, entry_of_code, form_of, line_of_code, line_of}
use Rattle.profile_print.specs.Written.{Words, Key, Block, spaced, line_text, key_text, block_text}
use Rattle.profile_print.specs.Plain.{is_plain, are_words, is_plain_key, is_plain_block, key_line, block_lines}
use Rattle.profile_print.proofs.Bytes.{all-weaker, none-of, each-fails, test-ne, before-none, before-at, after-at, before-last, find-last}
use Rattle.profile_print.proofs.Splitting.{is_inner, inner-spaced, read-words, read-before, read-behind, first-byte}

-- a byte of a line without a comment
abbrev pub is_body : ℕ → Bool
is_body b = is_inner b || (b == 61 || (b == 91 || b == 93))

inner-body : (b : ℕ) → is_inner b ≡ true → is_body b ≡ true
inner-body b h = or_left (is_inner b) (b == 61 || (b == 91 || b == 93)) h

plain-range : (b : ℕ) → is_plain b ≡ true → (32 ≤ b) × (b ≤ 126)
plain-range b h =
    ⊎_elim
    (λ e. let parts = and_parts (nat_le 46 b) (nat_le b 57) e in let low = leb-true 46 b parts.0 in let high = leb-true b 57 parts.1 in (omega arith, omega arith))
    (λ e. let parts = and_parts (nat_le 95 b) (nat_le b 122) e in let low = leb-true 95 b parts.0 in let high = leb-true b 122 parts.1 in (omega arith, omega arith))
    (or_cases (nat_le 46 b && nat_le b 57) (nat_le 95 b && nat_le b 122) h)

is-range : (b c : ℕ) → (b == c) ≡ true → 32 ≤ c → c ≤ 126 → (32 ≤ b) × (b ≤ 126)
is-range b c e low high = let same = eqb-true b c e in (omega arith, omega arith)

body-range : (b : ℕ) → is_body b ≡ true → (32 ≤ b) × (b ≤ 126)
body-range b h =
    ⊎_elim
    (λ e. ⊎_elim (plain-range b) (λ f. is-range b 32 f (omega arith) (omega arith)) (or_cases (is_plain b) (b == 32) e))
    (λ e. ⊎_elim
    (λ f. is-range b 61 f (omega arith) (omega arith))
    (λ f. ⊎_elim (λ g. is-range b 91 g (omega arith) (omega arith)) (λ g. is-range b 93 g (omega arith) (omega arith)) (or_cases (b == 91) (b == 93) f))
    (or_cases (b == 61) (b == 91 || b == 93) e))
    (or_cases (is_inner b) (b == 61 || (b == 91 || b == 93)) h)

body-text : (b : ℕ) → is_body b ≡ true → is_text b ≡ true
body-text b h =
    let range = body-range b h in
    or_right (b == 9) (nat_le 32 b && nat_le b 126) (and_from (nat_le 32 b) (nat_le b 126) (le-leb 32 b range.0) (le-leb b 126 range.1))

body-comment : (b : ℕ) → is_body b ≡ true → (b == 59) ≡ false
body-comment b h = test-ne is_body b 59 h refl

-- what is read of a line without its comment
code-line : (code : List ℕ) (line : Line) → list_all is_body code ≡ true → form_of code (first_mark code) ≡ line → line_of code ≡ line
unfolding line_of line_of_code
code-line code line body form =
    ap line_of_code (before-none (λ b. b == 59) code (none-of is_body (λ b. b == 59) body-comment code body))
    ∙ ap (λ t. cond t (form_of code (first_mark code)) NotText) (all-weaker is_body is_text body-text code body)
    ∙ form

spaced-body : (ws : Words) → are_words ws ≡ true → list_all is_body (spaced ws) ≡ true
spaced-body ws h = all-weaker is_inner is_body inner-body (spaced ws) (inner-spaced ws h)

-- the code of a head
abbrev pub head_code : Words → List ℕ
head_code ws = 91 ∷ (spaced ws ++ 93 ∷ [])

pub head-body : (ws : Words) → are_words ws ≡ true → list_all is_body (head_code ws) ≡ true
head-body ws h =
    list_all-append is_body (spaced ws) (93 ∷ []) ∙ and_from (list_all is_body (spaced ws)) true (spaced-body ws h) refl

pub head-read : (ws : Words) → are_words ws ≡ true → line_of (head_code ws) ≡ Head ws
unfolding head_of_code
head-read ws h =
    let closing : closes (last_mark (head_code ws)) ≡ true = ap closes (find-last (λ b. not (is_blank b)) (91 ∷ spaced ws) 93 refl) in
    let inside : head_of_code (head_code ws) ≡ ws =
    ap (λ bs. words_of (before_last (λ b. b == 93) bs)) (after-at (λ b. b == 91) [] 91 (spaced ws ++ 93 ∷ []) refl refl)
    ∙ ap words_of (before-last (λ b. b == 93) (spaced ws) 93 refl) ∙ read-words ws h in
    code-line (head_code ws) (Head ws) (head-body ws h)
    (ap (λ t. cond t (Head (head_of_code (head_code ws))) (entry_of_code (head_code ws))) closing ∙ ap Head inside)

-- the code of a key line
abbrev pub key_code : Words → Words → List ℕ
key_code key value = (spaced key ++ 32 ∷ []) ++ 61 ∷ 32 ∷ spaced value

pub key-body : (key value : Words) → are_words key ≡ true → are_words value ≡ true → list_all is_body (key_code key value) ≡ true
key-body key value h g =
    list_all-append is_body (spaced key ++ 32 ∷ []) (61 ∷ 32 ∷ spaced value)
    ∙ and_from (list_all is_body (spaced key ++ 32 ∷ [])) (list_all is_body (61 ∷ 32 ∷ spaced value)) (list_all-append is_body (spaced key) (32 ∷ []) ∙ and_from (list_all is_body (spaced key)) true (spaced-body key h) refl) (spaced-body value g)

-- the words of the key hold no `=`
no-divide : (key : Words) → are_words key ≡ true → list_any (λ b. b == 61) (spaced key ++ 32 ∷ []) ≡ false
no-divide key h =
    none-of is_inner (λ b. b == 61) inner-divide (spaced key ++ 32 ∷ []) (list_all-append is_inner (spaced key) (32 ∷ []) ∙ and_from (list_all is_inner (spaced key)) true (inner-spaced key h) refl)
  where
    inner-divide : (b : ℕ) → is_inner b ≡ true → (b == 61) ≡ false
    inner-divide b e = test-ne is_inner b 61 e refl

key-divides : (key value : Words) → are_words key ≡ true → are_words value ≡ true → entry_of_code (key_code key value) ≡ Entry key value
unfolding entry_of_code
key-divides key value h g =
    let divide : ℕ → Bool = λ b. b == 61 in
    let none = no-divide key h in
    let there : list_any divide (key_code key value) ≡ true = list_any-append divide (spaced key ++ 32 ∷ []) (61 ∷ 32 ∷ spaced value) ∙ or_right (list_any divide (spaced key ++ 32 ∷ [])) true refl in
    ap (λ t. cond t (Entry (words_of (before_first divide (key_code key value))) (words_of (after_first divide (key_code key value)))) Neither) there
    ∙ ap (λ bs. Entry (words_of bs) (words_of (after_first divide (key_code key value)))) (before-at divide (spaced key ++ 32 ∷ []) 61 (32 ∷ spaced value) none refl)
    ∙ ap (λ bs. Entry (words_of (spaced key ++ 32 ∷ [])) (words_of bs)) (after-at divide (spaced key ++ 32 ∷ []) 61 (32 ∷ spaced value) none refl)
    ∙ ap (λ ws. Entry ws (words_of (32 ∷ spaced value))) (read-before key h)
    ∙ ap (Entry key) (read-behind value g)

pub key-read : (key value : Words) → are_words key ≡ true → are_words value ≡ true → line_of (key_code key value) ≡ Entry key value
key-read key value h g =
    let first = first-byte key h in
    let b = first.0 in
    let code : key_code key value ≡ b ∷ ((first.1 ++ 32 ∷ []) ++ 61 ∷ 32 ∷ spaced value) = ap (λ bs. (bs ++ 32 ∷ []) ++ 61 ∷ 32 ∷ spaced value) first.2 in
    let mark : first_mark (key_code key value) ≡ Some b = ap first_mark code ∙ ap (λ t. cond (not t) (Some b) (first_mark ((first.1 ++ 32 ∷ []) ++ 61 ∷ 32 ∷ spaced value))) (or_from (b == 32) (b == 9) (test-ne is_plain b 32 first.3 refl) (test-ne is_plain b 9 first.3 refl)) in
    code-line (key_code key value) (Entry key value) (key-body key value h g)
    (ap (form_of (key_code key value)) mark
    ∙ ap (λ t. cond (t && closes (last_mark (key_code key value))) (Head (head_of_code (key_code key value))) (entry_of_code (key_code key value))) (test-ne is_plain b 91 first.3 refl)
    ∙ key-divides key value h g)

-- a line feed ends a line
no-return : (code : List ℕ) (i : ℕ) → list_all is_body code ≡ true → (get_or code i 0 == 13) ≡ false
no-return [] i h = refl
no-return (b ∷ bs) zero h = test-ne is_body b 13 (and_parts (is_body b) (list_all is_body bs) h).0 refl
no-return (b ∷ bs) (suc i) h = no-return bs i (and_parts (is_body b) (list_all is_body bs) h).1

parts-some : (xs : List ℕ) → (part : List ℕ) × (parts : List (List ℕ)) × (slice_split (λ b. b == 10) xs ≡ part ∷ parts)
parts-some [] = ([], [], refl)
parts-some (x ∷ xs) =
    let more = parts-some xs in
    elim (x == 10) as (λ t. (part : List ℕ) × (parts : List (List ℕ)) × (cond t ([] ∷ slice_split (λ b. b == 10) xs) (onto_first x (slice_split (λ b. b == 10) xs)) ≡ part ∷ parts)) [
      | true ↦ ([], slice_split (λ b. b == 10) xs, refl)
      | false ↦ (x ∷ more.0, more.1, ap (onto_first x) more.2)
    ]

pub line-ends : (code rest : List ℕ) → list_all is_body code ≡ true → lines (code ++ 10 ∷ rest) ≡ code ∷ lines rest
line-ends code rest h =
    let feed : ℕ → Bool = λ b. b == 10 in
    let more = parts-some rest in
    let none = none-of is_body feed (λ b e. test-ne is_body b 10 e refl) code h in
    let split : slice_split feed (code ++ 10 ∷ rest) ≡ code ∷ more.0 ∷ more.1 = slice_split_at feed code 10 rest (each-fails feed code none) refl ∙ ap (λ ps. code ∷ ps) more.2 in
    ap lines_of_parts split
    ∙ ap (λ t. cond t (take (length code - 1) code) code ∷ lines_of_parts (more.0 ∷ more.1)) (no-return code (length code - 1) h)
    ∙ ap (λ ps. code ∷ lines_of_parts ps) (sym more.2)

-- one line of a text
line-first : (code rest : List ℕ) (line : Line) → list_all is_body code ≡ true → line_of code ≡ line → map line_of (lines ((code ++ 10 ∷ []) ++ rest)) ≡ line ∷ map line_of (lines rest)
line-first code rest line body is =
    ap (λ bs. map line_of (lines bs)) (append_assoc code (10 ∷ []) rest)
    ∙ ap (map line_of) (line-ends code rest body)
    ∙ ap (λ l. l ∷ map line_of (lines rest)) is

head-first : (ws : Words) (rest : List ℕ) → are_words ws ≡ true → map line_of (lines (line_text (Head ws) ++ rest)) ≡ Head ws ∷ map line_of (lines rest)
unfolding line_text
head-first ws rest h = line-first (head_code ws) rest (Head ws) (head-body ws h) (head-read ws h)

key-first : (key : Key) (rest : List ℕ) → is_plain_key key ≡ true → map line_of (lines (key_text key ++ rest)) ≡ key_line key ∷ map line_of (lines rest)
unfolding line_text
key-first key rest h =
    let parts = and_parts (are_words key.words) (are_words key.value) h in
    let code : (spaced key.words ++ 32 ∷ 61 ∷ 32 ∷ []) ++ spaced key.value ≡ key_code key.words key.value =
    append_assoc (spaced key.words) (32 ∷ 61 ∷ 32 ∷ []) (spaced key.value) ∙ sym (append_assoc (spaced key.words) (32 ∷ []) (61 ∷ 32 ∷ spaced key.value)) in
    ap (λ bs. map line_of (lines ((bs ++ 10 ∷ []) ++ rest))) code
    ∙ line-first (key_code key.words key.value) rest (key_line key) (key-body key.words key.value parts.0 parts.1) (key-read key.words key.value parts.0 parts.1)

keys-first : (keys : List Key) (rest : List ℕ) → list_all is_plain_key keys ≡ true → map line_of (lines (flat_map key_text keys ++ rest)) ≡ map key_line keys ++ map line_of (lines rest)
keys-first [] rest h = refl
keys-first (key ∷ keys) rest h =
    let parts = and_parts (is_plain_key key) (list_all is_plain_key keys) h in
    ap (λ bs. map line_of (lines bs)) (append_assoc (key_text key) (flat_map key_text keys) rest)
    ∙ key-first key (flat_map key_text keys ++ rest) parts.0
    ∙ ap (λ ls. key_line key ∷ ls) (keys-first keys rest parts.1)

block-first : (block : Block) (rest : List ℕ) → is_plain_block block ≡ true → map line_of (lines (block_text block ++ rest)) ≡ block_lines block ++ map line_of (lines rest)
block-first block rest h =
    let parts = and_parts (are_words block.head) (list_all is_plain_key block.keys) h in
    ap (λ bs. map line_of (lines bs)) (append_assoc (line_text (Head block.head)) (flat_map key_text block.keys) rest)
    ∙ head-first block.head (flat_map key_text block.keys ++ rest) parts.0
    ∙ ap (λ ls. Head block.head ∷ ls) (keys-first block.keys rest parts.1)

-- the lines of sections that are written are the lines that they were
pub blocks-read : (blocks : List Block) → list_all is_plain_block blocks ≡ true → map line_of (lines (flat_map block_text blocks)) ≡ flat_map block_lines blocks
blocks-read [] h = refl
blocks-read (block ∷ blocks) h =
    let parts = and_parts (is_plain_block block) (list_all is_plain_block blocks) h in
    block-first block (flat_map block_text blocks) parts.0 ∙ ap (λ ls. block_lines block ++ ls) (blocks-read blocks parts.1)
