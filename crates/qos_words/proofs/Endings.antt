-- Names by their parts.
use Rattle.qos_words.proofs.Terms.{◌≡◌, ◌++◌, ◌∷◌, ◌&&◌, ◌≤◌, ◌∙◌, [], List, ℕ, refl, ap, sym, take, drop, length, map}
use Rattle.qos_words.proofs.Terms.{arith, range_with_len}
use Rattle.qos_words.proofs.Terms.{bytes_eq, string_bytes, ending_of, output_name, output_names}
use Rattle.std.proofs.Common.{Bor, Global, String as StringIn, Vec, Result, Ok, Err, IfOk}
use Rattle.std.proofs.lemmas.List.{take-map}
use Rattle.std.proofs.lemmas.List.FromFn.{take-map-range_with_len}

-- a name is a prefix and an ending where its first bytes are the one and its last the other
pub joined : (prefix ending name : List ℕ)
    → bytes_eq name (prefix ++ ending) ≡ (bytes_eq (take (length prefix) name) prefix && bytes_eq (drop (length prefix) name) ending)
joined [] ending name = refl
joined (p ∷ ps) ending [] = refl
joined (p ∷ ps) ending (n ∷ ns) = let rest = joined ps ending ns in grind arith

joined_texts : (prefix : List ℕ) (table : List (Bor (List ℕ)))
    → map (λ (r : Bor (List ℕ)). prefix ++ r.now) table ≡ map (λ e. prefix ++ e) (map (λ (r : Bor (List ℕ)). r.now) table)
joined_texts prefix [] = refl
joined_texts prefix (r ∷ rs) = ap (λ es. (prefix ++ r.now) ∷ es) (joined_texts prefix rs)

-- the names that the first endings of the table make
pub names_of_table : {E : Type 0} (prefix : List ℕ) (ports : ℕ) (table : List (Bor (List ℕ)))
    (made : Result (Vec (StringIn Global) Global) E)
    → IfOk made (λ names. map string_bytes names.items ≡ map (λ (r : Bor (List ℕ)). prefix ++ r.now) (take ports table))
    → map (λ (r : Bor (List ℕ)). r.now) table ≡ map ending_of (range_with_len 0 16) → ports ≤ 16
    → IfOk made (λ names. map string_bytes names.items ≡ output_names prefix ports)
names_of_table prefix ports table (Err e) is texts few = tt
names_of_table prefix ports table (Ok names) is texts few =
    let whole : map (λ (r : Bor (List ℕ)). prefix ++ r.now) table ≡ output_names prefix 16 =
    joined_texts prefix table ∙ ap (map (λ e. prefix ++ e)) texts in
    is ∙ sym (take-map (λ (r : Bor (List ℕ)). prefix ++ r.now) ports table) ∙ ap (take ports) whole
    ∙ take-map-range_with_len (output_name prefix) 0 16 ports few
