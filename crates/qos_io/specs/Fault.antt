-- Counts of faults, and how they stand after a call.
use Rattle.std.specs.Prelude.{◌≡◌, ◌⊎◌, ℕ, ◌-◌, ◌^◌, ◌<◌, ◌≤◌, refl}
use Rattle.std.proofs.Common.{inl, inr, ◌∙◌}
use Rattle.std.proofs.Math.Nat.{eq-or-lt_of_le, le_refl, le_trans, lt_of_le_of_lt, lt_of_lt_of_le}

-- A count of faults never falls. One that stands at the last number of 64 bits stays there, and a failure then counts as a rise.
abbrev pub HasRisen : ℕ → ℕ → Type 0
HasRisen before after = (before < after) ⊎ (before ≡ 2 ^ 64 - 1)

module _ {A : Type 0} (faults : A → ℕ) (IsSure : A → Type 0) where
  -- how an object's faults stand after a call, where `failed` says that the call answered a failure
  pub record Counts (before after : A) (failed : Type 0) : Type 0 where
    pub never_falls : faults before ≤ faults after
    -- a failure has raised the count
    pub rose : failed → HasRisen (faults before) (faults after)
    -- an object that is sure stays so, counts nothing and answers no failure
    pub sure : IsSure before → IsSure after × (faults after ≡ faults before) × (failed → ⊥)

-- a rise within two calls, of which one has seen it
HasRisen-early : (a b c : ℕ) → b ≤ c → HasRisen a b → HasRisen a c
HasRisen-early a b c on (inl rise) = inl (lt_of_lt_of_le rise on)
HasRisen-early a b c on (inr last) = inr last

pub HasRisen-late : (a b c : ℕ) → a ≤ b → b ≤ c → HasRisen b c → HasRisen a c
HasRisen-late a b c first on (inl rise) = inl (lt_of_le_of_lt first rise)
HasRisen-late a b c first on (inr last) = elim (eq-or-lt_of_le first) [
  | inl same ↦ inr (same ∙ last)
  | inr below ↦ inl (lt_of_lt_of_le below on)
]

module _ {A : Type 0} {faults : A → ℕ} {IsSure : A → Type 0} where
  -- nothing was called
  pub Counts-none : {P : Type 0} (a : A) → (P → ⊥) → Counts faults IsSure a a P
  Counts-none a none = record {
    never_falls = le_refl (faults a);
    rose = λ p. absurd (none p);
    sure = λ is. (is, refl, none);
  }

  -- a claim of failure that follows from the one told
  pub Counts-weaker : {a b : A} {P Q : Type 0} → (Q → P) → Counts faults IsSure a b P → Counts faults IsSure a b Q
  Counts-weaker from counts = record {
    never_falls = counts.never_falls;
    rose = λ q. counts.rose (from q);
    sure = λ is. let was = counts.sure is in (was.0, was.1, λ q. was.2 (from q));
  }

  -- two calls, one after the other, where a failure is one of theirs
  pub Counts-then : {a b c : A} {P Q R : Type 0} → (R → P ⊎ Q) → Counts faults IsSure a b P → Counts faults IsSure b c Q → Counts faults IsSure a c R
  Counts-then {a = a} {b = b} {c = c} from first second = record {
    never_falls = le_trans first.never_falls second.never_falls;
    rose = λ r. elim (from r) [
      | inl p ↦ HasRisen-early (faults a) (faults b) (faults c) second.never_falls (first.rose p)
      | inr q ↦ HasRisen-late (faults a) (faults b) (faults c) first.never_falls second.never_falls (second.rose q)
    ];
    sure = λ is.
        let was = first.sure is in
        let next = second.sure was.0 in
        (next.0, next.1 ∙ was.1, λ r. elim (from r) [ inl p ↦ was.2 p | inr q ↦ next.2 q ]);
  }
