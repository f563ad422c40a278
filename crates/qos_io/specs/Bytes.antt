-- What a read takes and what a put adds, where the bytes are told.
use Rattle.std.specs.Prelude.{◌≡◌, ℕ, ◌+◌, ◌≤◌, List, [], ◌∷◌, ◌++◌, length, take, drop, Option, None, Some, refl}
use Rattle.std.specs.Option.{option_map, unwrap_or}
use Rattle.std.proofs.Common.{ap, sym, subst, ◌∙◌, zero-add, suc-add, length-append, zero-le}
use Rattle.std.proofs.Math.Nat.{add-le-add, le-add_right, le_refl, le_trans}
use Rattle.std.proofs.lemmas.List.{append_assoc, append-nil, take-append-le}

-- the first n bytes that were left now stand at the front of the buffer; 0 of them only where none was left
pub record Moves (n : ℕ) (buffer_before buffer_after before : List ℕ) : Type 0 where
  pub front : buffer_after ≡ take n before ++ drop n buffer_before
  pub there : n ≤ length before
  pub end : n ≡ 0 → before ≡ []

-- after a read of n bytes: those that were left but the first n
abbrev pub left_after : ℕ → Option (List ℕ) → Option (List ℕ)
left_after n = option_map (drop n)

-- what a sink holds once these bytes are added
abbrev pub held_after : List ℕ → Option (List ℕ) → Option (List ℕ)
held_after bytes = option_map (λ held. held ++ bytes)

-- after a refused put of these bytes: the first few of them were added, or all, or none
pub record PutSome (bytes : List ℕ) (before after : Option (List ℕ)) : Type 0 where
  pub count : ℕ
  pub within : count ≤ length bytes
  pub added : after ≡ held_after (take count bytes) before

-- a file holds the first few of these bytes, or all of them
abbrev pub HoldsPrefix : List ℕ → Option (List ℕ) → Type 0
HoldsPrefix bytes file = (n : ℕ) × (file ≡ Some (take n bytes))

-- the bytes in a file, of which there are none where it is absent
abbrev pub bytes_in : Option (List ℕ) → List ℕ
bytes_in file = unwrap_or file []

held_after-held_after : (first second : List ℕ) (o : Option (List ℕ)) → held_after second (held_after first o) ≡ held_after (first ++ second) o
held_after-held_after first second None = refl
held_after-held_after first second (Some held) = ap Some (append_assoc held first second)

held_after-nil : (o : Option (List ℕ)) → held_after [] o ≡ o
held_after-nil None = refl
held_after-nil (Some held) = ap Some (append-nil held)

-- two puts add what one put of both texts adds
pub put_both : (first second : List ℕ) (before between after : Option (List ℕ)) → between ≡ held_after first before → after ≡ held_after second between → after ≡ held_after (first ++ second) before
put_both first second before between after was is =
    is ∙ ap (held_after second) was ∙ held_after-held_after first second before

-- nothing was put
pub PutSome-none : (bytes : List ℕ) {before : Option (List ℕ)} → PutSome bytes before before
PutSome-none bytes {before = before} = record { count = 0; within = zero-le; added = sym (held_after-nil before) }

-- the first of two puts was refused
pub PutSome-first : {first : List ℕ} (second : List ℕ) {before after : Option (List ℕ)} → PutSome first before after → PutSome (first ++ second) before after
PutSome-first {first = first} second {before = before} some = record {
  count = some.count;
  within = subst (λ (n : ℕ). some.count ≤ n) (sym (length-append first second)) (le_trans some.within (le-add_right (length first) (length second)));
  added = some.added ∙ ap (λ (bytes : List ℕ). held_after bytes before) (sym (take-append-le some.count first second some.within));
}

take_behind : (n : ℕ) (first second : List ℕ) → take (length first + n) (first ++ second) ≡ first ++ take n second
take_behind n [] second = ap (λ (k : ℕ). take k second) (zero-add n)
take_behind n (x ∷ xs) second = ap (λ (k : ℕ). take k (x ∷ (xs ++ second))) (suc-add (length xs) n) ∙ ap (λ (ys : List ℕ). x ∷ ys) (take_behind n xs second)

-- the first of two puts was made, and the second was refused
pub PutSome-second : (first : List ℕ) {second : List ℕ} {before between after : Option (List ℕ)} → between ≡ held_after first before → PutSome second between after → PutSome (first ++ second) before after
PutSome-second first {second = second} {before = before} {between = between} was some = record {
  count = length first + some.count;
  within = subst (λ (n : ℕ). length first + some.count ≤ n) (sym (length-append first second)) (add-le-add (le_refl (length first)) some.within);
  added = put_both first (take some.count second) before between _ was some.added ∙ ap (λ (bytes : List ℕ). held_after bytes before) (sym (take_behind some.count first second));
}
