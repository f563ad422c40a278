-- Patterns and words, word by word.
use Rattle.std.proofs.Common.{◌≡◌, ◌==◌, ℕ, ◌+◌, ◌<◌, ◌&&◌, ◌||◌, Bool, false, List, [], ◌∷◌, length, get_or, drop, map, refl, ap, ◌∙◌, sym, arith, Bor}
use Rattle.std.specs.Str.{bytes_eq}
use Rattle.std.proofs.lemmas.List.{drop_more, get_or-map, length-map}
use Rattle.std.proofs.lemmas.Bool.{and_right}
use Rattle.qos_profile.specs.Heads.{fits}

pub fits-length : (ps ws : List (List ℕ)) → (length ps ≡ length ws → ⊥) → fits ps ws ≡ false
fits-length [] [] h = absurd (h refl)
fits-length [] (w ∷ ws) h = refl
fits-length (p ∷ ps) [] h = refl
fits-length (p ∷ ps) (w ∷ ws) h = and_right _ _ (fits-length ps ws (λ e. h (omega arith)))

pub fits-step : (ps ws : List (List ℕ)) (i : ℕ) → i < length ps → i < length ws → fits (drop i ps) (drop i ws) ≡ ((length (get_or ps i []) == 0 || bytes_eq (get_or ps i []) (get_or ws i [])) && fits (drop (i + 1) ps) (drop (i + 1) ws))
fits-step ps ws i p w =
    ap (λ a. fits a (drop i ws)) (drop_more ps i [] p) ∙ ap (λ b. fits (get_or ps i [] ∷ drop (i + 1) ps) b) (drop_more ws i [] w)

-- the same for words that are references, with the answer of a test of the words at a place
pub fits-word : (pattern words : List (Bor (List ℕ))) (i : ℕ) (d e : Bor (List ℕ)) (b c : Bool) → i < length pattern → i < length words → b ≡ (length (get_or pattern i d).now == 0 || bytes_eq (get_or pattern i d).now (get_or words i e).now) → b ≡ c → fits (drop i (map (λ p. p.now) pattern)) (drop i (map (λ w. w.now) words)) ≡ (c && fits (drop (i + 1) (map (λ p. p.now) pattern)) (drop (i + 1) (map (λ w. w.now) words)))
fits-word pattern words i d e b c p w is same =
    let ps : List (List ℕ) = map (λ p. p.now) pattern in
    let ws : List (List ℕ) = map (λ w. w.now) words in
    let step = fits-step ps ws i (omega (arith, length-map pattern (λ p. p.now))) (omega (arith, length-map words (λ w. w.now))) in
    let at_p : get_or ps i [] ≡ (get_or pattern i d).now = get_or-map (λ p. p.now) pattern i d [] p in
    let at_w : get_or ws i [] ≡ (get_or words i e).now = get_or-map (λ w. w.now) words i e [] w in
    step
    ∙ ap (λ q. (length q == 0 || bytes_eq q (get_or ws i [])) && fits (drop (i + 1) ps) (drop (i + 1) ws)) at_p
    ∙ ap (λ q. (length (get_or pattern i d).now == 0 || bytes_eq (get_or pattern i d).now q) && fits (drop (i + 1) ps) (drop (i + 1) ws)) at_w
    ∙ ap (λ t. t && fits (drop (i + 1) ps) (drop (i + 1) ws)) (sym is ∙ same)
