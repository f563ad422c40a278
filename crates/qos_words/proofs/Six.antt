-- A command line of six words, read word by word.
use Rattle.qos_words.proofs.Terms.{◌≡◌, ◌≢◌, ◌∷◌, [], List, ℕ, None, refl, map, get_or, length, arith}
use Rattle.qos_words.proofs.Terms.{if◌then◌else◌, are_options, asked_with, asked_of}

-- words that are not six ask for nothing
pub other_count : {X : Type 0} (text : X → List ℕ) (xs : List X) → length xs ≢ 6 → asked_of (map text xs) ≡ None
unfolding asked_of
other_count text (x0 ∷ x1 ∷ x2 ∷ x3 ∷ x4 ∷ x5 ∷ []) ne = absurd (ne refl)
other_count text _ ne = refl

-- six words ask for what the definition's first line says
pub six : {X : Type 0} (text : X → List ℕ) (xs : List X) (run first a second b capture : X) → length xs ≡ 6
    → run ≡ get_or xs 0 run → first ≡ get_or xs 1 first → a ≡ get_or xs 2 a → second ≡ get_or xs 3 second → b ≡ get_or xs 4 b
    → capture ≡ get_or xs 5 capture → asked_of (map text xs)
    ≡ (if are_options (text run) (text first) (text second) then asked_with (text a) (text b) (text capture)
    else (if are_options (text run) (text second) (text first) then asked_with (text b) (text a) (text capture) else None))
unfolding asked_of
six text (x0 ∷ x1 ∷ x2 ∷ x3 ∷ x4 ∷ x5 ∷ []) run first a second b capture n e0 e1 e2 e3 e4 e5 = rw (e0, e1, e2, e3, e4, e5) refl
six text _ run first a second b capture n e0 e1 e2 e3 e4 e5 = absurd (omega arith)
