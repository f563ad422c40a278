-- Bytes that stand in no list, and what is cut at them.
use Rattle.std.proofs.Common.{◌≡◌, ◌==◌, ℕ, zero, suc, ◌+◌, ◌-◌, ◌<◌, Bool, true, false, cond, not, List, [], ◌∷◌, ◌++◌, length, get_or, drop, find, reverse, Some, refl, sym, ap, ◌∙◌, arith}
use Rattle.std.specs.List.{All, list_all, list_any, prefix_len, position_or_len, before_first, after_first, before_last, suffix_len}
use Rattle.std.proofs.lemmas.Bool.{and_parts, and_from, or_from, or_parts, ne_eqb}
use Rattle.std.proofs.lemmas.List.{append_assoc, take_all, take_at, drop_at, length_push, reverse-append}

-- what passes one test passes another
pub all-weaker : {X : Type 0} (p q : X → Bool) → ((b : X) → p b ≡ true → q b ≡ true) → (bs : List X) → list_all p bs ≡ true → list_all q bs ≡ true
all-weaker p q w [] h = refl
all-weaker p q w (b ∷ bs) h =
    let parts = and_parts (p b) (list_all p bs) h in
    and_from (q b) (list_all q bs) (w b parts.0) (all-weaker p q w bs parts.1)

-- a byte that passes a test is not one that fails it
pub test-ne : (p : ℕ → Bool) (b c : ℕ) → p b ≡ true → p c ≡ false → (b == c) ≡ false
test-ne p b c h g = ne_eqb b c (λ e. let same : p b ≡ p c = ap p e in absurd (cc))

-- where no byte passes, each fails
pub each-fails : (q : ℕ → Bool) (bs : List ℕ) → list_any q bs ≡ false → All (λ b. q b ≡ false) bs
each-fails q bs h k d below = fails bs k d h below
  where
    fails : (xs : List ℕ) (i e : ℕ) → list_any q xs ≡ false → i < length xs → q (get_or xs i e) ≡ false
    fails [] i e g under = absurd (omega arith)
    fails (x ∷ xs) zero e g under = (or_parts (q x) (list_any q xs) g).0
    fails (x ∷ xs) (suc i) e g under = fails xs i e (or_parts (q x) (list_any q xs) g).1 (omega arith)

-- nothing that passes one test passes another
pub none-of : (p q : ℕ → Bool) → ((b : ℕ) → p b ≡ true → q b ≡ false) → (bs : List ℕ) → list_all p bs ≡ true → list_any q bs ≡ false
none-of p q w [] h = refl
none-of p q w (b ∷ bs) h =
    let parts = and_parts (p b) (list_all p bs) h in
    or_from (q b) (list_any q bs) (w b parts.0) (none-of p q w bs parts.1)

-- the place of the first byte that passes, behind some that do not
pub place-at : (q : ℕ → Bool) (bs : List ℕ) (c : ℕ) (more : List ℕ) → list_any q bs ≡ false → q c ≡ true → position_or_len q (bs ++ c ∷ more) ≡ length bs
place-at q [] c more h e = ap (λ t. cond (not t) (1 + prefix_len (λ x. not (q x)) more) 0) e
place-at q (b ∷ bs) c more h e =
    let parts = or_parts (q b) (list_any q bs) h in
    ap (λ t. cond (not t) (1 + prefix_len (λ x. not (q x)) (bs ++ c ∷ more)) 0) parts.0
    ∙ (let more_places = place-at q bs c more parts.1 e in omega arith)

pub place-none : (q : ℕ → Bool) (bs : List ℕ) → list_any q bs ≡ false → position_or_len q bs ≡ length bs
place-none q [] h = refl
place-none q (b ∷ bs) h =
    let parts = or_parts (q b) (list_any q bs) h in
    ap (λ t. cond (not t) (1 + prefix_len (λ x. not (q x)) bs) 0) parts.0 ∙ (let rest = place-none q bs parts.1 in omega arith)

pub before-none : (q : ℕ → Bool) (bs : List ℕ) → list_any q bs ≡ false → before_first q bs ≡ bs
before-none q bs h = take_all (position_or_len q bs) bs (omega (arith, place-none q bs h))

pub before-at : (q : ℕ → Bool) (bs : List ℕ) (c : ℕ) (more : List ℕ) → list_any q bs ≡ false → q c ≡ true → before_first q (bs ++ c ∷ more) ≡ bs
before-at q bs c more h e = take_at bs (c ∷ more) (position_or_len q (bs ++ c ∷ more)) (sym (place-at q bs c more h e))

pub after-at : (q : ℕ → Bool) (bs : List ℕ) (c : ℕ) (more : List ℕ) → list_any q bs ≡ false → q c ≡ true → after_first q (bs ++ c ∷ more) ≡ more
after-at q bs c more h e =
    ap (λ xs. drop (position_or_len q (bs ++ c ∷ more) + 1) xs) (sym (append_assoc bs (c ∷ []) more))
    ∙ drop_at (bs ++ c ∷ []) more (position_or_len q (bs ++ c ∷ more) + 1) (omega (arith, length_push bs c, place-at q bs c more h e))

-- the last byte passes
pub before-last : (q : ℕ → Bool) (bs : List ℕ) (c : ℕ) → q c ≡ true → before_last q (bs ++ c ∷ []) ≡ bs
before-last q bs c e =
    let count : suffix_len (λ x. not (q x)) (bs ++ c ∷ []) ≡ 0 = ap (prefix_len (λ x. not (q x))) (reverse-append bs (c ∷ [])) ∙ ap (λ t. cond (not t) (1 + prefix_len (λ x. not (q x)) (reverse bs)) 0) e in
    take_at bs (c ∷ []) (length (bs ++ c ∷ []) - suffix_len (λ x. not (q x)) (bs ++ c ∷ []) - 1) (omega (arith, length_push bs c, count))

pub find-last : (q : ℕ → Bool) (bs : List ℕ) (c : ℕ) → q c ≡ true → find q (reverse (bs ++ c ∷ [])) ≡ Some c
find-last q bs c e =
    ap (find q) (reverse-append bs (c ∷ [])) ∙ ap (λ t. cond t (Some c) (find q (reverse bs))) e
