-- Each step of a pass keeps the rule of the count.
use Rattle.std.proofs.Common.{◌≡◌, ℕ, ◌+◌, ◌-◌, ◌*◌, ◌%◌, ◌^◌, ◌<◌, ◌≤◌, ◌||◌, Bool, true, false, List, [], ◌∷◌, ◌++◌, length, get_or, set, cond, eqb, refl, ap, sym, ◌∙◌, subst, ⊎_elim, arith}
use Rattle.std.specs.List.{sum_by}
use Rattle.std.proofs.lemmas.List.{get_or-set_same, length-set, set-get_or}
use Rattle.std.proofs.lemmas.List.Sums.{sum_by_push}
use Rattle.std.proofs.lemmas.Bool.{eq-eqb, ne_eqb, false≢true}
use Rattle.std.proofs.Math.Nat.{mod-eq_of_lt}
use native.Mathlib.Decide.{ℕ_discrete}
use mathlib.Core.Logic.{dite}
use mathlib.Core.Option.{some, none}
use lib.ListN.{get_elem?}
use prog.Atomic.{either}
use Rattle.atomic_table.specs.Table.{State, Me, step, keeps, Allows, Splits, Joins, opening}
use Rattle.atomic_table.proofs.Lists.{at_set, set_again}
use Rattle.mbuf_pool.specs.declared.pass.Count.{Count}
use Rattle.mbuf_pool.specs.FreeCount.{new_count, IsFreeCount, turned_away, lowered_once, raised_once, Looks, Lowers, Raises, one_count_less, both_counts}
use Rattle.mbuf_pool.proofs.Sums.{sum_at, sum_within, sum_alone, each_set, each_snoc, only}

abbrev lowered : Count → ℕ
lowered v = v.lowered

abbrev raised : Count → ℕ
raised v = v.raised

abbrev parts : Count → ℕ
parts v = v.parts

abbrev InLimit : Count → Type 0
InLimit v = v.raised ≤ 2 ^ 56 * v.parts

abbrev Idles : Count → Type 0
Idles v = v.parts ≡ 0 → v ≡ new_count 0

abbrev Met : ℕ → ℕ → Count → Type 0
Met slots lowerings v = v.met_zero ≡ true → slots ≤ lowerings

abbrev with_word : State ℕ Count → ℕ → ℕ → Count → State ℕ Count
with_word s word id w = record { words = set s.words 0 word; homes = s.homes; views = set s.views id w }

-- a pass that finds 0 knows that the slots have all been lowered for
away : (slots : ℕ) (s : State ℕ Count) (id : ℕ) (v : Count) → IsFreeCount slots s → get_elem? s.views id ≡ some v → 0 < v.parts → get_or s.words 0 0 ≡ 0 → IsFreeCount slots (with_word s (get_or s.words 0 0) id (turned_away v))
away slots s id v kept at part found =
    let w = turned_away v in
    let same = set-get_or s.words 0 0 in
    let low = sum_at lowered s.views id v w at in
    let high = sum_at raised s.views id v w at in
    let total : ℕ = sum_by lowered (set s.views id w) in
    let still : (u : Count) → Met slots (sum_by lowered s.views) u → Met slots total u = λ u was m. let h = was m in omega arith in
    record {
      one_word = ap length same ∙ kept.one_word;
      balance = let word = ap (λ l. get_or l 0 0) same in omega (arith, kept.balance);
      met_zero = each_set (Met slots total) s.views id w (λ m. omega (arith, kept.balance)) (λ j u e. still u (kept.met_zero j u e));
      limit = each_set InLimit s.views id w (kept.limit id v at) kept.limit;
      parts = omega (arith, kept.parts, sum_at parts s.views id v w at);
      idle = each_set Idles s.views id w (λ none. absurd (omega arith)) kept.idle;
    }

-- a step that tells nothing
nothing : (slots : ℕ) (s : State ℕ Count) (id : ℕ) (v : Count) → IsFreeCount slots s → get_elem? s.views id ≡ some v → IsFreeCount slots (with_word s (get_or s.words 0 0) id v)
nothing slots s id v kept at =
    let words = set-get_or s.words 0 0 in
    let views = set_again s.views id v at in
    subst (λ (x : List ℕ × List Count). IsFreeCount slots (record { words = x.0; homes = s.homes; views = x.1 })) (λ i. (sym words i, sym views i)) kept

pub looks : (slots n id : ℕ) (me : Me ℕ Count) → 0 < me.0.parts → Allows (IsFreeCount slots) n id me 0 (λ m. m) (Looks (step n 0 0 0 none) me)
looks slots n id me part s kept homes at small =
    let found : ℕ = get_or s.words 0 0 in
    dite (ℕ_discrete found 0)
    (λ zero_found. (turned_away me.0, keeps, tt, away slots s id me.0 kept at part zero_found, ap (λ b. (cond b (turned_away me.0) me.0, me.1)) (sym (eq-eqb found 0 zero_found))))
    (λ more. (me.0, keeps, tt, nothing slots s id me.0 kept at, ap (λ b. (cond b (turned_away me.0) me.0, me.1)) (sym (ne_eqb found 0 more))))

lower : (slots : ℕ) (s : State ℕ Count) (id : ℕ) (v : Count) → IsFreeCount slots s → get_elem? s.views id ≡ some v → 0 < v.parts → 0 < get_or s.words 0 0 → IsFreeCount slots (with_word s (get_or s.words 0 0 - 1) id (lowered_once v))
lower slots s id v kept at part found =
    let w = lowered_once v in
    let low = sum_at lowered s.views id v w at in
    let high = sum_at raised s.views id v w at in
    let total : ℕ = sum_by lowered (set s.views id w) in
    let still : (u : Count) → Met slots (sum_by lowered s.views) u → Met slots total u = λ u was m. let h = was m in omega arith in
    record {
      one_word = length-set s.words 0 _ ∙ kept.one_word;
      balance = omega (arith, kept.balance, get_or-set_same s.words 0 (get_or s.words 0 0 - 1) 0 (omega (arith, kept.one_word)));
      met_zero = each_set (Met slots total) s.views id w (still v (kept.met_zero id v at)) (λ j u e. still u (kept.met_zero j u e));
      limit = each_set InLimit s.views id w (kept.limit id v at) kept.limit;
      parts = omega (arith, kept.parts, sum_at parts s.views id v w at);
      idle = each_set Idles s.views id w (λ none. absurd (omega arith)) kept.idle;
    }

pub lowers : (slots n id : ℕ) (me : Me ℕ Count) (old : ℕ) → 0 < old → 0 < me.0.parts → Allows (IsFreeCount slots) n id me 0 (λ m. either (eqb m old) (old - 1) m) (Lowers (step n 0 old (old - 1) none) me)
lowers slots n id me old some_old part s kept homes at small =
    let found : ℕ = get_or s.words 0 0 in
    dite (ℕ_discrete found old)
    (λ hit.
    let test = sym (eq-eqb found old hit) in (
      lowered_once me.0,
      keeps,
      tt,
      subst (λ k. IsFreeCount slots (with_word s k id (lowered_once me.0))) (ap (λ k. k - 1) hit ∙ ap (λ b. either b (old - 1) found) test) (lower slots s id me.0 kept at part (omega arith)),
      ap (λ b. (cond b (lowered_once me.0) me.0, me.1)) test,
    ))
    (λ miss.
    let test = sym (ne_eqb found old miss) in (
      me.0,
      keeps,
      tt,
      subst (λ k. IsFreeCount slots (with_word s k id me.0)) (ap (λ b. either b (old - 1) found) test) (nothing slots s id me.0 kept at),
      ap (λ b. (cond b (lowered_once me.0) me.0, me.1)) test,
    ))

pub raises : (slots n id : ℕ) (me : Me ℕ Count) → slots < 2 ^ 32 → 0 < me.0.parts → me.0.raised < 2 ^ 56 → Allows (IsFreeCount slots) n id me 0 (λ m. (m + 1) % 2 ^ 64) (Raises (step n 0 1 0 none) me)
raises slots n id me few part room s kept homes at small =
    let v : Count = me.0 in
    let w = raised_once v in
    let found : ℕ = get_or s.words 0 0 in
    let low = sum_at lowered s.views id v w at in
    let high = sum_at raised s.views id v w at in
    let total : ℕ = sum_by lowered (set s.views id w) in
    let still : (u : Count) → Met slots (sum_by lowered s.views) u → Met slots total u = λ u was m. let h = was m in omega arith in
    let all : sum_by parts (set s.views id w) ≡ 48 = omega (arith, kept.parts, sum_at parts s.views id v w at) in
    let mine : InLimit w = omega arith in
    let limit = each_set InLimit s.views id w mine kept.limit in
    let within = sum_within raised parts (2 ^ 56) (set s.views id w) limit in
    let product = ap (λ k. 2 ^ 56 * k) all in
    let fits : found + 1 < 2 ^ 64 = omega (arith, kept.balance) in
    let put : get_or (set s.words 0 ((found + 1) % 2 ^ 64)) 0 0 ≡ found + 1 = get_or-set_same s.words 0 _ 0 (omega (arith, kept.one_word)) ∙ mod-eq_of_lt fits in (
      w,
      keeps,
      tt,
      record {
        one_word = length-set s.words 0 _ ∙ kept.one_word;
        balance = omega (arith, kept.balance);
        met_zero = each_set (Met slots total) s.views id w (still v (kept.met_zero id v at)) (λ j u e. still u (kept.met_zero j u e));
        limit = limit;
        parts = all;
        idle = each_set Idles s.views id w (λ none. absurd (omega arith)) kept.idle;
      },
      refl,
    )

pub splits : (slots id : ℕ) (v : Count) → 1 < v.parts → v.raised ≡ 0 → Splits {S = ℕ} (IsFreeCount slots) id v (one_count_less v) (new_count 1)
splits slots id v more fresh s kept at =
    let w = one_count_less v in
    let r = new_count 1 in
    let vs : List Count = set s.views id w in
    let low = sum_at lowered s.views id v w at in
    let high = sum_at raised s.views id v w at in
    let lows = sum_by_push lowered vs r in
    let highs = sum_by_push raised vs r in
    let total : ℕ = sum_by lowered (vs ++ r ∷ []) in
    let still : (u : Count) → Met slots (sum_by lowered s.views) u → Met slots total u = λ u was m. let h = was m in omega arith in
    record {
      one_word = kept.one_word;
      balance = omega (arith, kept.balance);
      met_zero = each_snoc (Met slots total) vs r (λ m. absurd (false≢true m)) (each_set (Met slots total) s.views id w (still v (kept.met_zero id v at)) (λ j u e. still u (kept.met_zero j u e)));
      limit = each_snoc InLimit vs r (omega arith) (each_set InLimit s.views id w (omega arith) kept.limit);
      parts = omega (arith, kept.parts, sum_at parts s.views id v w at, sum_by_push parts vs r);
      idle = each_snoc Idles vs r (λ none. absurd (omega arith)) (each_set Idles s.views id w (λ none. absurd (omega arith)) kept.idle);
    }

either_met : (a b : Bool) (F : Type 0) → (a ≡ true → F) → (b ≡ true → F) → (a || b) ≡ true → F
either_met true b F x y m = x refl
either_met false b F x y m = y m

pub joins : (slots id : ℕ) (v : Count) (other : ℕ) (u : Count) → 0 < v.parts → Joins {S = ℕ} (IsFreeCount slots) id v other u (both_counts v u) (new_count 0)
joins slots id v other u part s kept at two at' =
    let w = both_counts v u in
    let vs : List Count = set s.views id w in
    let was : get_elem? s.views other ≡ some u = ⊎_elim (λ x. absurd (two x.0)) (λ x. x.1) (at_set s.views id other w u at') in
    let low = sum_at lowered s.views id v w at in
    let high = sum_at raised s.views id v w at in
    let lows = sum_at lowered vs other u (new_count 0) at' in
    let highs = sum_at raised vs other u (new_count 0) at' in
    let total : ℕ = sum_by lowered (set vs other (new_count 0)) in
    let still : (y : Count) → Met slots (sum_by lowered s.views) y → Met slots total y = λ y was m. let h = was m in omega arith in
    let mine : Met slots total w = either_met v.met_zero u.met_zero (slots ≤ total) (still v (kept.met_zero id v at)) (still u (kept.met_zero other u was)) in
    record {
      one_word = kept.one_word;
      balance = omega (arith, kept.balance);
      met_zero = each_set (Met slots total) vs other (new_count 0) (λ m. absurd (false≢true m)) (each_set (Met slots total) s.views id w mine (λ j y e. still y (kept.met_zero j y e)));
      limit = each_set InLimit vs other (new_count 0) (omega arith) (each_set InLimit s.views id w (omega (arith, kept.limit id v at, kept.limit other u was)) kept.limit);
      parts = omega (arith, kept.parts, sum_at parts s.views id v w at, sum_at parts vs other u (new_count 0) at');
      idle = each_set Idles vs other (new_count 0) (λ none. refl) (each_set Idles s.views id w (λ none. absurd (omega arith)) kept.idle);
    }

pub begins : (slots : ℕ) → IsFreeCount slots (opening {S = ℕ} (slots ∷ []) [] (new_count 48))
begins slots = record {
  one_word = refl;
  balance = omega arith;
  met_zero = only (Met slots 0) (new_count 48) (λ m. absurd (false≢true m));
  limit = only InLimit (new_count 48) (omega arith);
  parts = refl;
  idle = only Idles (new_count 48) (λ none. absurd (omega arith));
}

-- who has every part, and has met 0, has lowered at least as often as there are slots
pub ends : (slots : ℕ) (s : State ℕ Count) (id : ℕ) (v : Count) → IsFreeCount slots s → get_elem? s.views id ≡ some v → v.parts ≡ 48 → v.met_zero ≡ true → slots ≤ v.lowered
ends slots s id v kept at all met =
    let sums = sum_alone lowered parts s.views id v at (λ j y e none. ap lowered (kept.idle j y e none)) (kept.parts ∙ sym all) in
    omega (arith, kept.met_zero id v at met)

looked_at : (b : Bool) (v : Count) → (cond b (turned_away v) v).parts ≡ v.parts
looked_at true v = refl
looked_at false v = refl

-- a load keeps a pass's parts
pub looks_parts : (found : ℕ) (v : Count) (rest : List (ℕ × ℕ)) (after : Me ℕ Count) → after ≡ (cond (eqb found 0) (turned_away v) v, rest) → 0 < v.parts → 0 < after.0.parts
looks_parts found v rest after is part = let same = ap (λ (m : Me ℕ Count). m.0.parts) is in let kept = looked_at (eqb found 0) v in omega arith
