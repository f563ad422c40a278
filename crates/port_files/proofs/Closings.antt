-- What stands under a name once one more sink was closed.
use Rattle.std.proofs.Common.{◌≡◌, ◌≢◌, ◌≤◌, ◌∙◌, ◌++◌, ◌∷◌, [], ℕ, List, Option, None, Some, IsSome, IfSome}
use Rattle.std.proofs.Common.{Bool, cond, true, false, map, length, refl, sym, ap, subst, arith}
use Rattle.std.specs.List.{Contains, filter}
use Rattle.std.specs.Str.{bytes_eq}
use Rattle.std.proofs.lemmas.Bool.{false_from_ne_true}
use Rattle.std.proofs.lemmas.List.{append-nil, map-append, take_all}
use Rattle.std.proofs.lemmas.List.Elements.{filter-append}
use Rattle.std.proofs.lemmas.Slice.Eq.{bytes_eq-Decides}
use Rattle.qos_io.specs.declared.shelf.Shelf.{Ghosts}
use Rattle.qos_io.specs.declared.sink.Sink.{Ghosts as Sinks}
use Rattle.qos_io.specs.Bytes.{HoldsPrefix}
use Rattle.qos_io.specs.Kept.{Closing}
use Rattle.qos_io.specs.Shelves.{ChangesOnly}
use Rattle.port_files.specs.Change.{closed_under}
use Rattle.port_files.specs.Among.{ChangesAmong, ChangesAmong-one}

held_if : (c : Closing) (same : Bool) → map (λ (d : Closing). d.held) (cond same (c ∷ []) []) ≡ cond same (c.held ∷ []) []
held_if c true = refl
held_if c false = refl

closed-push : (n : List ℕ) (cs : List Closing) (c : Closing) (same : Bool) → bytes_eq c.name n ≡ same
    → closed_under n (cs ++ c ∷ []) ≡ closed_under n cs ++ cond same (c.held ∷ []) []
closed-push n cs c same e =
    let test : Closing → Bool = λ d. bytes_eq d.name n in
    ap (map (λ (d : Closing). d.held)) (filter-append test cs (c ∷ []))
    ∙ map-append (λ (d : Closing). d.held) (filter test cs) (filter test (c ∷ []))
    ∙ ap (λ (b : Bool). closed_under n cs ++ map (λ (d : Closing). d.held) (cond b (c ∷ []) [])) e
    ∙ ap (λ ys. closed_under n cs ++ ys) (held_if c same)

-- it stands under its own name
pub closed-same : (name held : List ℕ) (before after : List Closing) → after ≡ before ++ (record { name = name; held = held } ∷ [])
    → closed_under name after ≡ closed_under name before ++ held ∷ []
closed-same name held before after is =
    ap (closed_under name) is
    ∙ closed-push name before (record { name = name; held = held }) true ((bytes_eq-Decides name name).1 refl)

-- and under no other
pub closed-other : (name held : List ℕ) (before after : List Closing) → after ≡ before ++ (record { name = name; held = held } ∷ [])
    → (n : List ℕ) → name ≢ n → closed_under n after ≡ closed_under n before
closed-other name held before after is n apart =
    ap (closed_under n) is
    ∙ closed-push n before (record { name = name; held = held }) false
    (false_from_ne_true (bytes_eq name n) (λ e. apart ((bytes_eq-Decides name n).0 e)))
    ∙ append-nil (closed_under n before)

-- a file that holds all of the bytes holds the first few
pub holds-all : (held : List ℕ) (file : Option (List ℕ)) → file ≡ Some held → HoldsPrefix held file
holds-all held file is = (length held, is ∙ ap Some (sym (take_all (length held) held (omega arith))))

some_there : {A : Type 0} (o : Option A) → IsSome o → (a : A) × (o ≡ Some a)
some_there None is = absurd (let not : ⊥ = cc in not)
some_there (Some a) is = (a, refl)

module _ {H In Out : Type 0} (G : Ghosts H In Out) (K : Sinks Out) where
  -- the closing of a sink whose name is among these
  pub closed-among : (k : Out) (names : List (List ℕ)) (a b : H) → IsSome (K.name k) → IfSome (K.name k) (Contains names)
      → (G.Tells a → IsSome (K.contents k)) → ChangesOnly G (K.name k) a b
      → (G.Tells a → (n held : List ℕ) → K.name k ≡ Some n → K.contents k ≡ Some held
      → G.closed b ≡ G.closed a ++ (record { name = n; held = held } ∷ [])) → G.faults a ≤ G.faults b → ChangesAmong G names a b
  closed-among k names a b has among told stays closed on =
      let named = some_there (K.name k) has in
      let name : List ℕ = named.0 in
      let is : Contains names name = subst (λ (o : Option (List ℕ)). IfSome o (Contains names)) named.1 among in
      ChangesAmong-one name is (subst (λ o. ChangesOnly G o a b) named.1 stays)
      (λ tells n apart.
      let text = some_there (K.contents k) (told tells) in
      closed-other name text.0 (G.closed a) (G.closed b) (closed tells name text.0 named.1 text.1) n (λ e. apart (ap Some e))) on
