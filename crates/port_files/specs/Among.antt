-- What calls of a shelf leave as it was but for the files of some names.
use Rattle.std.specs.Prelude.{◌≡◌, ◌≢◌, ◌≤◌, ◌↔◌, ℕ, List, Option, None, Some, slice_get, unwrap_or, refl}
use Rattle.std.specs.List.{Contains}
use Rattle.std.proofs.Common.{ap, subst, ◌∙◌}
use Rattle.std.proofs.Math.Nat.{le_refl, le_trans}
use Rattle.qos_io.specs.declared.shelf.Shelf.{Ghosts}
use Rattle.qos_io.specs.Kept.{none_is_no_name}
use Rattle.qos_io.specs.Shelves.{ChangesOnly}
use Rattle.port_files.specs.Change.{closed_under}

-- these names differ from one another
abbrev pub AreApart : List (List ℕ) → Type 0
AreApart names =
    (i j : ℕ) (name : List ℕ) → slice_get names i ≡ Some name → slice_get names j ≡ Some name → i ≡ j

-- the shelf is as it was but for the files of these names, and its count of faults has not fallen
pub record ChangesAmong {H In Out : Type 0} (G : Ghosts H In Out) (names : List (List ℕ)) (before after : H) : Type 0 where
  pub tells : G.Tells after ↔ G.Tells before
  pub files : (n : List ℕ) → (Contains names n → ⊥) → G.file after n ≡ G.file before n
  pub same_to_read : (n : List ℕ) → (Contains names n → ⊥) → G.IsSureToRead after n ↔ G.IsSureToRead before n
  pub same_to_write : (n : List ℕ) → G.IsSureToWrite after n ↔ G.IsSureToWrite before n
  pub closed : G.Tells before → (n : List ℕ) → (Contains names n → ⊥) → closed_under n (G.closed after) ≡ closed_under n (G.closed before)
  pub never_falls : G.faults before ≤ G.faults after

same_refl : {A : Type 0} → A ↔ A
same_refl = ((λ a. a), (λ a. a))

some_same : {x y : List ℕ} → Some x ≡ Some y → x ≡ y
some_same {x = x} e = ap (λ (o : Option (List ℕ)). unwrap_or o x) e

same_then : {A B C : Type 0} → B ↔ A → C ↔ B → C ↔ A
same_then first second = ((λ c. first.0 (second.0 c)), (λ a. second.1 (first.1 a)))

module _ {H In Out : Type 0} {G : Ghosts H In Out} where
  -- nothing was called
  pub ChangesAmong-none : (names : List (List ℕ)) (a : H) → ChangesAmong G names a a
  ChangesAmong-none names a = record {
    tells = same_refl;
    files = λ n apart. refl;
    same_to_read = λ n apart. same_refl;
    same_to_write = λ n. same_refl;
    closed = λ tells n apart. refl;
    never_falls = le_refl (G.faults a);
  }

  -- a call that changes no file and closes nothing
  pub ChangesAmong-unchanged : (names : List (List ℕ)) {a b : H} → ChangesOnly G None a b → (G.Tells a → G.closed b ≡ G.closed a)
      → G.faults a ≤ G.faults b → ChangesAmong G names a b
  ChangesAmong-unchanged names stays same on = record {
    tells = stays.tells;
    files = λ n apart. stays.files n (none_is_no_name n);
    same_to_read = λ n apart. stays.same_to_read n (none_is_no_name n);
    same_to_write = stays.same_to_write;
    closed = λ tells n apart. ap (closed_under n) (same tells);
    never_falls = on;
  }

  -- a call for one of the names, which closes nothing under others
  pub ChangesAmong-one : {names : List (List ℕ)} (name : List ℕ) {a b : H} → Contains names name → ChangesOnly G (Some name) a b
      → (G.Tells a → (n : List ℕ) → Some name ≢ Some n → closed_under n (G.closed b) ≡ closed_under n (G.closed a))
      → G.faults a ≤ G.faults b → ChangesAmong G names a b
  ChangesAmong-one {names = names} name among stays same on =
      let other : (n : List ℕ) → (Contains names n → ⊥) → Some name ≢ Some n = λ n apart e. apart
      (subst (Contains names) (some_same e) among) in
      record {
        tells = stays.tells;
        files = λ n apart. stays.files n (other n apart);
        same_to_read = λ n apart. stays.same_to_read n (other n apart);
        same_to_write = stays.same_to_write;
        closed = λ tells n apart. same tells n (other n apart);
        never_falls = on;
      }

  -- two spans of calls, one after the other
  pub ChangesAmong-then : {names : List (List ℕ)} {a b c : H} → ChangesAmong G names a b → ChangesAmong G names b c
      → ChangesAmong G names a c
  ChangesAmong-then first second = record {
    tells = same_then first.tells second.tells;
    files = λ n apart. second.files n apart ∙ first.files n apart;
    same_to_read = λ n apart. same_then (first.same_to_read n apart) (second.same_to_read n apart);
    same_to_write = λ n. same_then (first.same_to_write n) (second.same_to_write n);
    closed = λ tells n apart. second.closed (first.tells.1 tells) n apart ∙ first.closed tells n apart;
    never_falls = le_trans first.never_falls second.never_falls;
  }

  -- the names are among more names
  pub ChangesAmong-wider : {names more : List (List ℕ)} {a b : H} → ((n : List ℕ) → Contains names n → Contains more n)
      → ChangesAmong G names a b → ChangesAmong G more a b
  ChangesAmong-wider within changes = record {
    tells = changes.tells;
    files = λ n apart. changes.files n (λ among. apart (within n among));
    same_to_read = λ n apart. changes.same_to_read n (λ among. apart (within n among));
    same_to_write = changes.same_to_write;
    closed = λ tells n apart. changes.closed tells n (λ among. apart (within n among));
    never_falls = changes.never_falls;
  }
