-- A choice by a comparison of two numbers.
use Rattle.std.proofs.Common.{◌≡◌, ◌<◌, ◌≤◌, ◌⊎◌, ℕ, zero, suc, Bool, true, false, IsTrue, cond, eqb, leb, ltb, Result, Ok, Err, OnOk, OnErr, IsOk, refl, inl, inr, arith}
use Rattle.std.proofs.lemmas.Bool.Decides.{nat_tests}

pub if-le : {X : Type 0} (m n : ℕ) (x y : X) → m ≤ n → cond (leb m n) x y ≡ x
if-le m n x y within = grind (arith, nat_tests)

pub if-gt : {X : Type 0} (m n : ℕ) (x y : X) → n < m → cond (leb m n) x y ≡ y
if-gt m n x y above = grind (arith, nat_tests)

pub if-lt : {X : Type 0} (m n : ℕ) (x y : X) → m < n → cond (ltb m n) x y ≡ x
if-lt m n x y below = grind (arith, nat_tests)

pub if-ge : {X : Type 0} (m n : ℕ) (x y : X) → n ≤ m → cond (ltb m n) x y ≡ y
if-ge m n x y above = grind (arith, nat_tests)

pub if-zero : {X : Type 0} (m : ℕ) (x y : X) → m ≡ 0 → cond (eqb m 0) x y ≡ x
if-zero m x y is = grind (arith, nat_tests)

pub if-some : {X : Type 0} (m : ℕ) (x y : X) → 0 < m → cond (eqb m 0) x y ≡ y
if-some m x y some = grind (arith, nat_tests)

pub zero_or_some : (n : ℕ) → (n ≡ 0) ⊎ (0 < n)
zero_or_some zero = inl refl
zero_or_some (suc n) = inr (omega arith)

pub eqb-some : (n : ℕ) → eqb n 0 ≡ false → 0 < n
eqb-some n is = grind (arith, nat_tests)

-- what holds anyway holds of a failure
pub on_err : {A E P : Type 0} (r : Result A E) → P → OnErr r P
on_err (Ok x) p = tt
on_err (Err e) p = p

-- what holds anyway holds of a success
pub on_ok : {A E P : Type 0} (r : Result A E) → P → OnOk r P
on_ok (Ok x) p = p
on_ok (Err e) p = tt

-- what follows from a fact about a failure
pub on_err_from : {A E P Q : Type 0} (r : Result A E) → OnErr r P → (P → Q) → OnErr r Q
on_err_from (Ok x) p from = tt
on_err_from (Err e) p from = from p

-- what follows from a fact about a success
pub on_ok_from : {A E P Q : Type 0} (r : Result A E) → OnOk r P → (P → Q) → OnOk r Q
on_ok_from (Ok x) p from = from p
on_ok_from (Err e) p from = tt

-- a fact about a success that came
pub from_ok : {A E P : Type 0} (r : Result A E) → IsOk r → OnOk r P → P
from_ok (Ok x) ok p = p
from_ok (Err e) ok p = absurd (let impossible : ⊥ = cc in impossible)

-- what isn't true is false
pub not_true : (b : Bool) → (IsTrue b → ⊥) → b ≡ false
not_true true never = absurd (never refl)
not_true false _ = refl
