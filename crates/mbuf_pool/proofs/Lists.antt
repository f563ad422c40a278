-- Each step of a pass keeps the rule of the free list.
use Rattle.std.proofs.Common.{◌≡◌, ◌≢◌, ℕ, ◌+◌, ◌<◌, List, [], ◌∷◌, ◌++◌, length, set, map-id, refl, ap, sym, ◌∙◌, subst, ⊎_elim, arith}
use Rattle.std.specs.List.{sum_by, All}
use Rattle.std.proofs.lemmas.List.Sums.{sum_by-append, sum_by_push, sum_by-cons}
use Rattle.std.proofs.lemmas.List.Elements.{All-push, All-head, All-tail, All-weaker}
use Rattle.std.proofs.lemmas.List.FromFn.{sum_by-map-range_with_len_more}
use native.Mathlib.Decide.{ℕ_discrete}
use mathlib.Core.Logic.{dite}
use mathlib.Core.Option.{some}
use lib.ListN.{get_elem?}
use Rattle.atomic_table.proofs.Lists.{at_set}
use Rattle.crossbeam_queue.specs.Fifo.{Pushes, Pops, Forks, Merges, Learns}
use Rattle.mbuf_pool.specs.declared.mbuf.Mbuf.{Mbuf}
use Rattle.mbuf_pool.specs.declared.pass.Slots.{Slots}
use Rattle.mbuf_pool.specs.FreeList.{slots_of_pass, new_slots, weigh, first_slots, IsSlot, IsFreeList, Makes, Takes, Gives, Free, one_part_less, one_part, both_slots, no_slots}
use Rattle.mbuf_pool.proofs.Sums.{sum_at, sum_two, sum_alone, each_set, each_snoc, only}

abbrev taken : (ℕ → ℕ) → Slots → ℕ
taken h v = weigh h v.taken

abbrev given : (ℕ → ℕ) → Slots → ℕ
given h v = weigh h v.given

abbrev parts : Slots → ℕ
parts v = v.parts

abbrev Knows : ℕ → ℕ → Slots → Type 0
Knows slots bytes v = 0 < v.parts → (v.slots ≡ slots) × (v.bytes ≡ bytes)

abbrev Idles : Slots → Type 0
Idles v = v.parts ≡ 0 → (v.taken ≡ []) × (v.given ≡ [])

pub begins : IsFreeList [] (new_slots ∷ [])
begins = record {
  slots = 0;
  bytes = 0;
  bags = λ h. refl;
  whole = λ k d lt. absurd (omega arith);
  known = only (Knows 0 0) new_slots (λ p. (refl, refl));
  idle = only Idles new_slots (λ p. absurd (omega arith));
  parts = refl;
}

-- one more slot is weighed with the first ones
one_more : (h : ℕ → ℕ) (n : ℕ) → weigh h (first_slots (n + 1)) ≡ weigh h (first_slots n) + h n
one_more h n = simp map-id at (sum_by-map-range_with_len_more h (λ (k : ℕ). k) 0 n n (omega arith))

pub takes : (pass : ℕ) (v : Slots) → 0 < v.parts → Pops IsFreeList pass v (Takes v)
takes pass v part m items views kept at =
    let w = slots_of_pass v.parts v.slots v.bytes (v.taken ++ m.slot ∷ []) v.given in
    let known = kept.known pass v at part in
    let first = All-head (IsSlot kept.slots kept.bytes) m items kept.whole in (
      w,
      record {
        slots = kept.slots;
        bytes = kept.bytes;
        bags = λ h. omega (arith, kept.bags h, sum_by-cons (λ (x : Mbuf). h x.slot) m items, sum_at (taken h) views pass v w at, sum_at (given h) views pass v w at, sum_by_push h v.taken m.slot);
        whole = All-tail (IsSlot kept.slots kept.bytes) m items kept.whole;
        known = each_set (Knows kept.slots kept.bytes) views pass w (λ p. known) kept.known;
        idle = each_set Idles views pass w (λ none. absurd (omega arith)) kept.idle;
        parts = omega (arith, kept.parts, sum_at parts views pass v w at);
      },
      (refl, (omega (arith, first.0, known.0), first.1 ∙ sym known.1)),
    )

pub gives : (n pass : ℕ) (v : Slots) (m : Mbuf) → 0 < v.parts → IsSlot v.slots v.bytes m → Pushes IsFreeList n pass v m (Gives v m)
gives n pass v m part slot items views room kept at =
    let w = slots_of_pass v.parts v.slots v.bytes v.taken (v.given ++ m.slot ∷ []) in
    let known = kept.known pass v at part in (
      w,
      record {
        slots = kept.slots;
        bytes = kept.bytes;
        bags = λ h. omega (arith, kept.bags h, sum_by_push (λ (x : Mbuf). h x.slot) items m, sum_at (taken h) views pass v w at, sum_at (given h) views pass v w at, sum_by_push h v.given m.slot);
        whole = All-push (IsSlot kept.slots kept.bytes) items m kept.whole (omega (arith, slot.0, known.0), slot.1 ∙ known.1);
        known = each_set (Knows kept.slots kept.bytes) views pass w (λ p. known) kept.known;
        idle = each_set Idles views pass w (λ none. absurd (omega arith)) kept.idle;
        parts = omega (arith, kept.parts, sum_at parts views pass v w at);
      },
      refl,
    )

-- who has all parts knows all that was taken and given
pub totals : (pass : ℕ) (v : Slots) → v.parts ≡ 48 → Learns IsFreeList pass v (Free v)
totals pass v all items views kept at h =
    let known = kept.known pass v at (omega arith) in
    let took = sum_alone (taken h) parts views pass v at (λ j y e none. ap (weigh h) (kept.idle j y e none).0) (kept.parts ∙ sym all) in
    let gave = sum_alone (given h) parts views pass v at (λ j y e none. ap (weigh h) (kept.idle j y e none).1) (kept.parts ∙ sym all) in
    let first = ap (λ n. weigh h (first_slots n)) known.0 in
    omega (arith, kept.bags h)

no_items : (items : List Mbuf) → sum_by (λ (x : Mbuf). 1) items ≡ 0 → items ≡ []
no_items [] e = refl
no_items (x ∷ xs) e = absurd (omega (arith, sum_by-cons (λ (y : Mbuf). 1) x xs))

-- before the first slot is made there is none
none_made : (pass : ℕ) (v : Slots) (items : List Mbuf) → Free v items → v.slots ≡ 0 → v.taken ≡ [] → v.given ≡ [] → items ≡ []
none_made pass v items free none took gave =
    let all = free (λ _. 1) in
    let first : weigh (λ _. 1) (first_slots v.slots) ≡ 0 = ap (λ n. weigh (λ _. 1) (first_slots n)) none in
    let gives : weigh (λ _. 1) v.given ≡ 0 = ap (weigh (λ _. 1)) gave in
    no_items items (omega arith)

pub makes : (n pass : ℕ) (v : Slots) (m : Mbuf) → v.parts ≡ 48 → v.taken ≡ [] → v.given ≡ [] → m.slot ≡ v.slots → (0 < v.slots → v.bytes ≡ length m.bytes.items) → Pushes IsFreeList n pass v m (Makes v m)
makes n pass v m all took gave next whole items views room kept at =
    let bytes : ℕ = length m.bytes.items in
    let w = slots_of_pass v.parts (v.slots + 1) bytes v.taken v.given in
    let known = kept.known pass v at (omega arith) in
    let alone : (j : ℕ) (u : Slots) → j ≢ pass → get_elem? views j ≡ some u → u.parts ≡ 0 = λ j u ne e. omega (arith, kept.parts, sum_two parts views pass j v u ne at e) in
    let old : All (IsSlot (v.slots + 1) bytes) items =
    dite (ℕ_discrete v.slots 0)
    (λ none. subst (All (IsSlot (v.slots + 1) bytes)) (sym (none_made pass v items (totals pass v all items views kept at) none took gave)) (λ k d lt. absurd (omega arith)))
    (λ some_slot.
    let same : v.bytes ≡ bytes = whole (omega arith) in
    All-weaker (IsSlot kept.slots kept.bytes) (IsSlot (v.slots + 1) bytes) (λ x slot. (omega (arith, slot.0, known.0), slot.1 ∙ sym known.1 ∙ same)) items kept.whole) in (
      w,
      record {
        slots = v.slots + 1;
        bytes = bytes;
        bags = λ h. omega (arith, kept.bags h, sum_by_push (λ (x : Mbuf). h x.slot) items m, sum_at (taken h) views pass v w at, sum_at (given h) views pass v w at, one_more h v.slots, ap (λ k. weigh h (first_slots k)) known.0, ap h next);
        whole = All-push (IsSlot (v.slots + 1) bytes) items m old (omega arith, refl);
        known = λ j u e p. ⊎_elim (λ x. (sym (ap (λ (y : Slots). y.slots) x.1), sym (ap (λ (y : Slots). y.bytes) x.1))) (λ x. absurd (omega (arith, alone j u x.0 x.1))) (at_set views pass j w u e);
        idle = each_set Idles views pass w (λ none. absurd (omega arith)) kept.idle;
        parts = omega (arith, kept.parts, sum_at parts views pass v w at);
      },
      refl,
    )

pub forks : (pass : ℕ) (v : Slots) → 1 < v.parts → Forks IsFreeList pass v (one_part_less v) (one_part v)
forks pass v more items views kept at =
    let w = one_part_less v in
    let r = one_part v in
    let known = kept.known pass v at (omega arith) in
    let vs : List Slots = set views pass w in
    record {
      slots = kept.slots;
      bytes = kept.bytes;
      bags = λ h. omega (arith, kept.bags h, sum_at (taken h) views pass v w at, sum_at (given h) views pass v w at, sum_by_push (taken h) vs r, sum_by_push (given h) vs r);
      whole = kept.whole;
      known = each_snoc (Knows kept.slots kept.bytes) vs r (λ p. known) (each_set (Knows kept.slots kept.bytes) views pass w (λ p. known) kept.known);
      idle = each_snoc Idles vs r (λ none. absurd (omega arith)) (each_set Idles views pass w (λ none. absurd (omega arith)) kept.idle);
      parts = omega (arith, kept.parts, sum_at parts views pass v w at, sum_by_push parts vs r);
    }

pub merges : (pass : ℕ) (v : Slots) (other : ℕ) (u : Slots) → 0 < v.parts → Merges IsFreeList pass v other u (both_slots v u) no_slots
merges pass v other u part items views kept at two at' =
    let w = both_slots v u in
    let known = kept.known pass v at part in
    let vs : List Slots = set views pass w in
    record {
      slots = kept.slots;
      bytes = kept.bytes;
      bags = λ h. omega (arith, kept.bags h, sum_at (taken h) views pass v w at, sum_at (given h) views pass v w at, sum_at (taken h) vs other u no_slots at', sum_at (given h) vs other u no_slots at', sum_by-append h v.taken u.taken, sum_by-append h v.given u.given);
      whole = kept.whole;
      known = each_set (Knows kept.slots kept.bytes) vs other no_slots (λ p. absurd (omega arith)) (each_set (Knows kept.slots kept.bytes) views pass w (λ p. known) kept.known);
      idle = each_set Idles vs other no_slots (λ none. (refl, refl)) (each_set Idles views pass w (λ none. absurd (omega arith)) kept.idle);
      parts = omega (arith, kept.parts, sum_at parts views pass v w at, sum_at parts vs other u no_slots at');
    }

-- how many there are is what they weigh by 1 each
ones : {X : Type 0} (xs : List X) → sum_by (λ (x : X). 1) xs ≡ length xs
ones [] = refl
ones {X} (x ∷ xs) = omega (arith, sum_by-cons (λ (y : X). 1) x xs, ones xs)

-- who has all parts and has taken as many slots as there were has taken them all
pub drained : (v : Slots) (before after : List Mbuf) (out : List ℕ) → Free v before → length out ≡ length before → Free (slots_of_pass v.parts v.slots v.bytes (v.taken ++ out) v.given) after
    → (h : ℕ → ℕ) → weigh h out + weigh h v.taken ≡ weigh h (first_slots v.slots) + weigh h v.given
drained v before after out first same last h =
    let one : ℕ → ℕ = λ _. 1 in
    let none : sum_by (λ (m : Mbuf). 1) after ≡ 0 = omega (arith, first one, last one, sum_by-append one v.taken out, ones before, ones out) in
    let empty = ap (λ l. sum_by (λ (m : Mbuf). h m.slot) l) (no_items after none) in
    omega (arith, last h, sum_by-append h v.taken out)
