-- What a call of a shelf leaves as it was, and what was closed.
use Rattle.std.specs.Prelude.{◌≡◌, ◌≢◌, ◌↔◌, ℕ, List, Option, None, Some, MatchOption, refl}
use Rattle.std.proofs.Common.{subst, ◌∙◌}
use Rattle.std.specs.Coded.{Coded, coded×, coded_ℕ, coded_list, code_by}

-- the closing of a sink: the name of its file, and the bytes that it held
pub record Closing : Type 0 where
  pub name : List ℕ
  pub held : List ℕ

-- it is stored as the pair of the two
abbrev pub closing_code : Coded Closing
closing_code = code_by (List ℕ × List ℕ) (coded× (coded_list coded_ℕ) (coded_list coded_ℕ)) (λ c. (c.name, c.held)) (λ p. record { name = p.0; held = p.1 }) (λ _. refl)

module _ {H : Type 0} (Tells : H → Type 0) (file : H → List ℕ → Option (List ℕ)) (IsSureToRead IsSureToWrite : H → List ℕ → Type 0) where
  -- the shelf is as it was but for the file of this name, if one is given
  pub record OthersStay (name : Option (List ℕ)) (before after : H) : Type 0 where
    pub tells : Tells after ↔ Tells before
    pub files : (n : List ℕ) → name ≢ Some n → file after n ≡ file before n
    pub same_to_read : (n : List ℕ) → name ≢ Some n → IsSureToRead after n ↔ IsSureToRead before n
    pub same_to_write : (n : List ℕ) → IsSureToWrite after n ↔ IsSureToWrite before n

iff_refl : {A : Type 0} → A ↔ A
iff_refl = ((λ a. a), (λ a. a))

iff_then : {A B C : Type 0} → B ↔ A → C ↔ B → C ↔ A
iff_then first second = ((λ c. first.0 (second.0 c)), (λ a. second.1 (first.1 a)))

pub none_is_no_name : (n : List ℕ) → None ≢ Some n
none_is_no_name n = λ e. subst (λ (o : Option (List ℕ)). MatchOption o (Unit {0}) (λ _. ⊥)) e tt

module _ {H : Type 0} {Tells : H → Type 0} {file : H → List ℕ → Option (List ℕ)} {IsSureToRead IsSureToWrite : H → List ℕ → Type 0} where
  -- nothing was called
  pub OthersStay-none : (name : Option (List ℕ)) (a : H) → OthersStay Tells file IsSureToRead IsSureToWrite name a a
  OthersStay-none name a = record {
    tells = iff_refl;
    files = λ n apart. refl;
    same_to_read = λ n apart. iff_refl;
    same_to_write = λ n. iff_refl;
  }

  -- where no file changed, none but that of a name did
  pub OthersStay-any : (name : Option (List ℕ)) {a b : H} → OthersStay Tells file IsSureToRead IsSureToWrite None a b → OthersStay Tells file IsSureToRead IsSureToWrite name a b
  OthersStay-any name none = record {
    tells = none.tells;
    files = λ n apart. none.files n (none_is_no_name n);
    same_to_read = λ n apart. none.same_to_read n (none_is_no_name n);
    same_to_write = none.same_to_write;
  }

  -- two calls, one after the other
  pub OthersStay-then : {name : Option (List ℕ)} {a b c : H} → OthersStay Tells file IsSureToRead IsSureToWrite name a b → OthersStay Tells file IsSureToRead IsSureToWrite name b c → OthersStay Tells file IsSureToRead IsSureToWrite name a c
  OthersStay-then first second = record {
    tells = iff_then first.tells second.tells;
    files = λ n apart. second.files n apart ∙ first.files n apart;
    same_to_read = λ n apart. iff_then (first.same_to_read n apart) (second.same_to_read n apart);
    same_to_write = λ n. iff_then (first.same_to_write n) (second.same_to_write n);
  }
