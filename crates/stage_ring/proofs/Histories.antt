-- Of the messages of one sender.
use Rattle.std.proofs.Common.{◌≡◌, ◌≢◌, ℕ, zero, suc, ◌<◌, ◌||◌, Bool, true, false, true≢false, List, [], ◌∷◌, ◌++◌, length, get_or, set, map, cond, eqb, refl, ap, sym, ◌∙◌, subst, append-nil, arith}
use Rattle.std.proofs.lemmas.List.{map-append, length-set, get_or-set_same, get_or-set_other}
use native.Mathlib.Decide.{ℕ_discrete}
use mathlib.Core.Logic.{dite}
use Rattle.std.proofs.lemmas.Bool.{eq-eqb, ne_eqb}
use Rattle.mbuf_pool.specs.declared.mbuf.Mbuf.{Mbuf}
use Rattle.stage_ring.specs.declared.msg.Msg.{Msg}
use Rattle.stage_ring.specs.declared.msg.Msg.TheVariants.{Parcel, Fin}
use Rattle.stage_ring.specs.declared.msg.Posted.{Posted}
use Rattle.stage_ring.specs.History.{of, is_fin, has_fin, history}

cons_not_nil : {X : Type 0} (x : X) (xs : List X) → x ∷ xs ≢ []
cons_not_nil x xs e = cc

first_empty : {X : Type 0} (xs ys : List X) → xs ++ ys ≡ [] → xs ≡ []
first_empty [] ys e = refl
first_empty (x ∷ xs) ys e = absurd (cons_not_nil _ _ e)

or_assoc : (a b c : Bool) → ((a || b) || c) ≡ (a || (b || c))
or_assoc true b c = refl
or_assoc false b c = refl

pub of_append : (p : ℕ) (xs ys : List Posted) → of p (xs ++ ys) ≡ of p xs ++ of p ys
of_append p [] ys = refl
of_append p (x ∷ xs) ys =
    elim (eqb x.from p) as (λ b. cond b (x.msg ∷ of p (xs ++ ys)) (of p (xs ++ ys)) ≡ cond b (x.msg ∷ of p xs) (of p xs) ++ of p ys)
    [ true ↦ ap (λ l. x.msg ∷ l) (of_append p xs ys) | false ↦ of_append p xs ys ]

pub of_mine : (p : ℕ) (x : Posted) (xs : List Posted) → x.from ≡ p → of p (x ∷ xs) ≡ x.msg ∷ of p xs
of_mine p x xs is = ap (λ b. cond b (x.msg ∷ of p xs) (of p xs)) (eq-eqb x.from p is)

pub of_other : (p : ℕ) (x : Posted) (xs : List Posted) → x.from ≢ p → of p (x ∷ xs) ≡ of p xs
of_other p x xs ne = ap (λ b. cond b (x.msg ∷ of p xs) (of p xs)) (ne_eqb x.from p ne)

-- one more message of a sender, and of another one
pub of_push_mine : (p : ℕ) (xs : List Posted) (x : Posted) → x.from ≡ p → of p (xs ++ x ∷ []) ≡ of p xs ++ x.msg ∷ []
of_push_mine p xs x is = of_append p xs (x ∷ []) ∙ ap (λ l. of p xs ++ l) (of_mine p x [] is)

pub of_push_other : (p : ℕ) (xs : List Posted) (x : Posted) → x.from ≢ p → of p (xs ++ x ∷ []) ≡ of p xs
of_push_other p xs x ne = of_append p xs (x ∷ []) ∙ ap (λ l. of p xs ++ l) (of_other p x [] ne) ∙ append-nil (of p xs)

-- a message stands among those of its sender
pub of_there : (xs : List Posted) (k : ℕ) (d : Posted) → k < length xs → of (get_or xs k d).from xs ≢ []
of_there [] k d lt e = absurd (omega arith)
of_there (x ∷ xs) zero d lt e = let mine = of_mine x.from x xs refl in cc
of_there (x ∷ xs) (suc k) d lt e =
    of_there xs k d (omega arith) (elim (eqb x.from (get_or xs k d).from) as (λ b. cond b (x.msg ∷ of (get_or xs k d).from xs) (of (get_or xs k d).from xs) ≡ [] → of (get_or xs k d).from xs ≡ [])
    [ true ↦ (λ h. absurd (cons_not_nil _ _ h)) | false ↦ (λ h. h) ] e)

pub end_empty : {X : Type 0} (xs ys : List X) → xs ++ ys ≡ [] → ys ≡ []
end_empty [] ys e = e
end_empty (x ∷ xs) ys e = absurd (cons_not_nil _ _ e)

-- a sender's history after one more parcel, and after its Fin
pub history_push : (p : ℕ) (parcels : List Mbuf) (m : Mbuf) (done : Bool) → done ≡ false → history p (parcels ++ m ∷ []) done ≡ history p parcels done ++ Parcel m ∷ []
history_push p parcels m true e = absurd (true≢false e)
history_push p parcels m false e =
    append-nil (map (λ (y : Mbuf). Parcel y) (parcels ++ m ∷ [])) ∙ map-append (λ (y : Mbuf). Parcel y) parcels (m ∷ []) ∙ ap (λ l. l ++ Parcel m ∷ []) (sym (append-nil (map (λ (y : Mbuf). Parcel y) parcels)))

pub history_fin : (p : ℕ) (parcels : List Mbuf) (done : Bool) → done ≡ false → history p parcels true ≡ history p parcels done ++ Fin p ∷ []
history_fin p parcels true e = absurd (true≢false e)
history_fin p parcels false e = ap (λ l. l ++ Fin p ∷ []) (sym (append-nil (map (λ (y : Mbuf). Parcel y) parcels)))

pub has_fin_push : (xs : List Msg) (x : Msg) → has_fin (xs ++ x ∷ []) ≡ (has_fin xs || is_fin x)
has_fin_push [] x = elim (is_fin x) as (λ b. (b || false) ≡ (false || b)) [ true ↦ refl | false ↦ refl ]
has_fin_push (y ∷ ys) x = ap (λ b. is_fin y || b) (has_fin_push ys x) ∙ sym (or_assoc (is_fin y) (has_fin ys) (is_fin x))

-- a first part of an ended history that has a Fin is the whole
pub whole_history : (p : ℕ) (parcels : List Mbuf) (xs rest : List Msg) → xs ++ rest ≡ history p parcels true → has_fin xs ≡ true → xs ≡ history p parcels true
whole_history p parcels [] rest e fin = absurd (true≢false (sym fin))
whole_history p [] (x ∷ xs) rest e fin = let none : xs ++ rest ≡ [] = cc in let empty = first_empty xs rest none in let head : x ≡ Fin p = cc in cc
whole_history p (m ∷ ms) (x ∷ xs) rest e fin =
    let head : x ≡ Parcel m = cc in
    let tail : xs ++ rest ≡ history p ms true = cc in
    let later : has_fin xs ≡ true = ap (λ (y : Msg). is_fin y || has_fin xs) (sym head) ∙ fin in
    let same = whole_history p ms xs rest tail later in
    cc

-- where a sender's Fin was taken, after one more message
pub fin_after : (xs : List Posted) (x : Posted) (k : ℕ) → has_fin (of k (xs ++ x ∷ [])) ≡ cond (eqb x.from k) (has_fin (of k xs) || is_fin x.msg) (has_fin (of k xs))
fin_after xs x k =
    dite (ℕ_discrete x.from k)
    (λ is. ap has_fin (of_push_mine k xs x is) ∙ has_fin_push (of k xs) x.msg ∙ ap (λ b. cond b (has_fin (of k xs) || is_fin x.msg) (has_fin (of k xs))) (sym (eq-eqb x.from k is)))
    (λ ne. ap has_fin (of_push_other k xs x ne) ∙ ap (λ b. cond b (has_fin (of k xs) || is_fin x.msg) (has_fin (of k xs))) (sym (ne_eqb x.from k ne)))

or_true : (b : Bool) → (b || true) ≡ true
or_true true = refl
or_true false = refl

or_false : (b : Bool) → (b || false) ≡ b
or_false true = refl
or_false false = refl

abbrev pub Marks : List Bool → List Posted → Type 0
Marks marks xs = (k : ℕ) → k < length marks → get_or marks k false ≡ has_fin (of k xs)

-- the marks after a Fin, and after a parcel
pub marks_fin : (marks : List Bool) (xs : List Posted) (x : Posted) → Marks marks xs → is_fin x.msg ≡ true → Marks (set marks x.from true) (xs ++ x ∷ [])
marks_fin marks xs x was fin k lt =
    let len = length-set marks x.from true in
    dite (ℕ_discrete k x.from)
    (λ is.
    let one : eqb x.from k ≡ true = eq-eqb x.from k (sym is) in
    let here : get_or (set marks x.from true) k false ≡ true = subst (λ j. get_or (set marks x.from true) j false ≡ true) (sym is) (get_or-set_same marks x.from true false (omega arith)) in
    here ∙ sym (fin_after xs x k ∙ ap (λ b. cond b (has_fin (of k xs) || is_fin x.msg) (has_fin (of k xs))) one ∙ ap (λ b. has_fin (of k xs) || b) fin ∙ or_true (has_fin (of k xs))))
    (λ ne.
    let other : eqb x.from k ≡ false = ne_eqb x.from k (λ h. ne (sym h)) in
    get_or-set_other marks x.from k true false ne ∙ was k (omega arith) ∙ sym (fin_after xs x k ∙ ap (λ b. cond b (has_fin (of k xs) || is_fin x.msg) (has_fin (of k xs))) other))

both_cases : (b c : Bool) → cond b (c || false) c ≡ c
both_cases true c = or_false c
both_cases false c = refl

pub marks_parcel : (marks : List Bool) (xs : List Posted) (x : Posted) → Marks marks xs → is_fin x.msg ≡ false → Marks marks (xs ++ x ∷ [])
marks_parcel marks xs x was parcel k lt =
    was k lt ∙ sym (fin_after xs x k ∙ ap (λ b. cond (eqb x.from k) (has_fin (of k xs) || b) (has_fin (of k xs))) parcel ∙ both_cases (eqb x.from k) (has_fin (of k xs)))
