-- A text that is read part by part.
use Rattle.std.proofs.Common.{◌≡◌, ◌≤◌, ◌+◌, ◌++◌, ℕ, List, [], Option, Some, length, take, drop, sym, ap, ◌∙◌, arith}
use Rattle.std.proofs.Math.Seq.{take-add}
use Rattle.std.proofs.lemmas.List.{drop-drop, length-drop, take_all}
use Rattle.qos_io.specs.Bytes.{left_after}
use Rattle.profile_file.specs.Reading.{AddsPart}

-- so far the text is the first bytes of what was left, and the rest of these is still left
pub record IsFront (text left : List ℕ) (now : Option (List ℕ)) : Type 0 where
  pub within : length text ≤ length left
  pub front : text ≡ take (length text) left
  pub rest : now ≡ Some (drop (length text) left)

-- one read more
pub IsFront-more : (n : ℕ) (before after left : List ℕ) (now then : Option (List ℕ)) → IsFront before left now
    → AddsPart n before after (drop (length before) left) → length after ≡ length before + n → then ≡ left_after n now
    → IsFront after left then
IsFront-more n before after left now then front part count taken = record {
  within = omega (arith, count, part.there, front.within, length-drop (length before) left);
  front = part.added ∙ rw (count, take-add (length before) n left) (ap (λ xs. xs ++ take n (drop (length before) left)) front.front);
  rest = taken ∙ ap (left_after n) front.rest ∙ rw count (ap Some (drop-drop n (length before) left));
}

-- the whole of it
pub IsFront-whole : (most : ℕ) (text left : List ℕ) (now : Option (List ℕ)) → IsFront text left now → drop (length text) left ≡ []
    → length text ≤ most → text ≡ take most left
IsFront-whole most text left now front none small =
    let all : length left ≤ length text = omega (arith, ap length none, length-drop (length text) left) in
    front.front ∙ take_all (length text) left all ∙ sym (take_all most left (omega (arith, all, small)))
