-- Words that are numbers within limits.
use Rattle.std.proofs.Common.{◌≡◌, ℕ, ◌<◌, ◌≤◌, true, List, [], length, map, get_or, set, subst, sym, ap, ◌∙◌, arith, ◌+◌}
use Rattle.std.proofs.lemmas.List.{ext_get_or, get_or-map, length-map}
use Rattle.std.proofs.lemmas.List.Edits.{fill_by_more}
use Rattle.std.proofs.lemmas.List.Sums.{AllPass-from_list_all}
use Rattle.std.proofs.lemmas.Bool.{and_parts, leb-true}
use Rattle.qos_profile.specs.Values.{are_within, is_within, number_or_zero, front, rest, prefix_from, prefix_at}

-- the number at a place keeps the limits
pub within-at : (least most : ℕ) (words : List (List ℕ)) (k : ℕ) → are_within least most words ≡ true → k < length words → (least ≤ number_or_zero (get_or words k [])) × (number_or_zero (get_or words k []) ≤ most)
within-at least most words k all below =
    let test = and_parts _ _ (AllPass-from_list_all (λ w. is_within least most (number_or_zero w)) words all k [] below) in
    (leb-true _ _ test.0, leb-true _ _ test.1)

-- a list of the numbers at each place is the list of the numbers
pub filled : (xs : List ℕ) (words : List (List ℕ)) → length xs ≡ length words → ((k : ℕ) → k < length words → get_or xs k 0 ≡ number_or_zero (get_or words k [])) → xs ≡ map number_or_zero words
filled xs words same each =
    ext_get_or 0 xs (map number_or_zero words) (same ∙ sym (length-map words number_or_zero)) (λ k below. let within : k < length words = omega (arith, same) in each k within ∙ sym (get_or-map number_or_zero words k [] 0 within))

-- one more place is filled
pub filled-more : (xs : List ℕ) (words : List (List ℕ)) (i v : ℕ) → i < length xs → v ≡ number_or_zero (get_or words i []) → ((k : ℕ) → k < i → get_or xs k 0 ≡ number_or_zero (get_or words k [])) → (k : ℕ) → k < i + 1 → get_or (set xs i v) k 0 ≡ number_or_zero (get_or words k [])
filled-more xs words i v below same each =
    subst (λ x. (k : ℕ) → k < i + 1 → get_or (set xs i x) k 0 ≡ number_or_zero (get_or words k [])) (sym same) (fill_by_more (λ k. number_or_zero (get_or words k [])) xs i 0 below each)

-- an address by the parts round its dots
pub prefix-parts : (address bits a b c d r1 r2 : List ℕ) → a ≡ front 46 address → r1 ≡ rest 46 address → b ≡ front 46 r1 → r2 ≡ rest 46 r1 → c ≡ front 46 r2 → d ≡ rest 46 r2 → prefix_from a b c d bits ≡ prefix_at address bits
prefix-parts address bits a b c d r1 r2 ea e1 eb e2 ec ed =
    let f2 : r2 ≡ rest 46 (rest 46 address) = e2 ∙ ap (rest 46) e1 in
    ap (λ x. prefix_from x b c d bits) ea
    ∙ ap (λ x. prefix_from (front 46 address) x c d bits) (eb ∙ ap (front 46) e1)
    ∙ ap (λ x. prefix_from (front 46 address) (front 46 (rest 46 address)) x d bits) (ec ∙ ap (front 46) f2)
    ∙ ap (λ x. prefix_from (front 46 address) (front 46 (rest 46 address)) (front 46 (rest 46 (rest 46 address))) x bits) (ed ∙ ap (rest 46) f2)
