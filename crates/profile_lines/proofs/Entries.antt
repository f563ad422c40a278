-- Key lines and ranges, by whether the byte that divides is there.
use Rattle.std.proofs.Common.{◌≡◌, ◌==◌, ℕ, true, false, List, ap, cond}
use Rattle.std.specs.List.{list_any, before_first, after_first}
use Rattle.profile_lines.specs.Lines.{Entry, Neither, words_of, entry_of_code}
use Rattle.profile_lines.specs.Numbers.{number_of, range_of, both}

pub entry-none : (code : List ℕ) → list_any (λ b. b == 61) code ≡ false → entry_of_code code ≡ Neither
unfolding entry_of_code
entry-none code h =
    ap (λ t. cond t (Entry (words_of (before_first (λ b. b == 61) code)) (words_of (after_first (λ b. b == 61) code))) Neither) h

pub entry-some : (code : List ℕ) → list_any (λ b. b == 61) code ≡ true → entry_of_code code ≡ Entry (words_of (before_first (λ b. b == 61) code)) (words_of (after_first (λ b. b == 61) code))
unfolding entry_of_code
entry-some code h =
    ap (λ t. cond t (Entry (words_of (before_first (λ b. b == 61) code)) (words_of (after_first (λ b. b == 61) code))) Neither) h

pub range-none : (word : List ℕ) → list_any (λ b. b == 45) word ≡ false → range_of word ≡ both (number_of word) (number_of word)
unfolding range_of
range-none word h =
    ap (λ t. cond t (both (number_of (before_first (λ b. b == 45) word)) (number_of (after_first (λ b. b == 45) word))) (both (number_of word) (number_of word))) h

pub range-some : (word : List ℕ) → list_any (λ b. b == 45) word ≡ true → range_of word ≡ both (number_of (before_first (λ b. b == 45) word)) (number_of (after_first (λ b. b == 45) word))
unfolding range_of
range-some word h =
    ap (λ t. cond t (both (number_of (before_first (λ b. b == 45) word)) (number_of (after_first (λ b. b == 45) word))) (both (number_of word) (number_of word))) h
