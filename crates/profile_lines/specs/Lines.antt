-- What a line of a profile text is. The lines of a text are those of Rust's `lines`: each ends at a line feed, of which
-- one carriage return before it is a part, and the last ends with the text.
use Rattle.std.specs.Prelude.{◌==◌, ℕ, Bool, ◌&&◌, ◌||◌, not, false, nat_le, if◌then◌else◌, List, length, filter, reverse, find, Option, None, Some}
use Rattle.std.specs.List.{list_all, list_any, slice_split, before_first, before_last, after_first}

-- space and tab
abbrev pub is_blank : ℕ → Bool
is_blank b = b == 32 || b == 9

-- the bytes that may stand outside comments: tab, and 32 to 126
abbrev pub is_text : ℕ → Bool
is_text b = b == 9 || (nat_le 32 b && nat_le b 126)

-- the words between blanks
unfoldable pub words_of : List ℕ → List (List ℕ)
words_of bytes = filter (λ piece. not (length piece == 0)) (slice_split is_blank bytes)

-- the first and the last byte that is not blank
abbrev pub first_mark : List ℕ → Option ℕ
first_mark bytes = find (λ b. not (is_blank b)) bytes

abbrev pub last_mark : List ℕ → Option ℕ
last_mark bytes = find (λ b. not (is_blank b)) (reverse bytes)

pub data Line : Type 0 where
  -- a byte outside comments that may not stand there
  NotText : Line
  -- nothing outside the comment
  Blank : Line
  -- `[words]`
  Head : List (List ℕ) → Line
  -- `key = value`, each as its words
  Entry : List (List ℕ) → List (List ℕ) → Line
  -- anything else
  Neither : Line

-- the words between the brackets
unfoldable pub head_of_code : List ℕ → List (List ℕ)
head_of_code code = words_of (before_last (λ b. b == 93) (after_first (λ b. b == 91) code))

-- the words on both sides of the first `=`, where there is one
unfoldable pub entry_of_code : List ℕ → Line
entry_of_code code =
    if list_any (λ b. b == 61) code
    then Entry (words_of (before_first (λ b. b == 61) code)) (words_of (after_first (λ b. b == 61) code))
    else Neither

-- the last byte closes a bracket
abbrev pub closes : Option ℕ → Bool
closes (Some last) = last == 93
closes None = false

-- a line of text without its comment, by its first byte
abbrev pub form_of : List ℕ → Option ℕ → Line
form_of code (Some first) = if first == 91 && closes (last_mark code) then Head (head_of_code code) else entry_of_code code
form_of code None = Blank

-- a line without its comment: `[words]`, `key = value`, or neither
unfoldable pub line_of_code : List ℕ → Line
line_of_code code = if list_all is_text code then form_of code (first_mark code) else NotText

-- what a line is: a `;` begins a comment
unfoldable pub line_of : List ℕ → Line
line_of line = line_of_code (before_first (λ b. b == 59) line)
