-- Each step of an end keeps the rule of a ring.
use Rattle.std.proofs.Common.{◌≡◌, ◌≢◌, ◌⊎◌, ℕ, zero, suc, ◌+◌, ◌<◌, ◌≤◌, true, false, true≢false, Option, Some, None, List, [], ◌∷◌, ◌++◌, length, get_or, set, cond, eqb, refl, ap, sym, ◌∙◌, subst, inl, inr, ⊎_elim, append_assoc, length-append, arith}
use Rattle.std.specs.List.{All}
use Rattle.std.proofs.lemmas.List.{get_or_append_left}
use Rattle.std.proofs.Math.Seq.{get_or-append_seam}
use Rattle.std.proofs.lemmas.List.Elements.{All-push, All-head, All-tail, All-weaker}
use Rattle.std.proofs.lemmas.Bool.{eq-eqb, ne_eqb}
use native.Mathlib.Decide.{ℕ_discrete, dec_le}
use mathlib.Core.Logic.{dite}
use mathlib.Core.Option.{some, some-injective, some-ne-none}
use lib.ListN.{get_elem?}
use Rattle.atomic_table.proofs.Lists.{at_set}
use Rattle.crossbeam_queue.specs.Fifo.{Pushes, Pops, Forks, Merges, Learns}
use Rattle.mbuf_pool.specs.declared.mbuf.Mbuf.{Mbuf}
use Rattle.stage_ring.specs.declared.msg.Msg.{Msg}
use Rattle.stage_ring.specs.declared.msg.Msg.TheVariants.{Parcel, Fin}
use Rattle.stage_ring.specs.declared.msg.Posted.{Posted}
use Rattle.stage_ring.specs.declared.line.Known.{Known}
use Rattle.stage_ring.specs.History.{posted, of, history, HasNumber}
use Rattle.stage_ring.specs.Line.{RingHistory, put_by, IsInOrder, IsAll, Fits, IsLine, idle, first_known, after_push, Receives, MayHold, one_more, one_made, new_sender, finished, with_met}
use Rattle.stage_ring.proofs.Histories.{of_append, of_push_mine, of_push_other, of_there, end_empty, history_push, history_fin}

abbrev Each : RingHistory → List Known → Type 0
Each r views = (j : ℕ) (u : Known) → get_elem? views j ≡ some u → Fits r j u

-- what fits each end after one of them has changed
each_set : (r : RingHistory) (views : List Known) (e : ℕ) (w : Known) → Fits r e w → ((j : ℕ) (u : Known) → j ≢ e → get_elem? views j ≡ some u → Fits r j u) → Each r (set views e w)
each_set r views e w mine others j u at =
    ⊎_elim (λ (x : (j ≡ e) × (w ≡ u)). subst (λ (y : ℕ × Known). Fits r y.0 y.1) (λ i. (sym x.0 i, x.1 i)) mine)
    (λ (x : (j ≢ e) × (get_elem? views j ≡ some u)). others j u x.0 x.1) (at_set views e j w u at)

at_snoc_at : {A : Type 0} (l : List A) (a b : A) (j : ℕ) → get_elem? (l ++ a ∷ []) j ≡ some b → (get_elem? l j ≡ some b) ⊎ ((j ≡ length l) × (a ≡ b))
at_snoc_at [] a b zero e = inr (refl, some-injective a b e)
at_snoc_at [] a b (suc j) e = absurd (some-ne-none b (sym e))
at_snoc_at (x ∷ xs) a b zero e = inl e
at_snoc_at (x ∷ xs) a b (suc j) e = ⊎_elim (λ h. inl h) (λ h. inr (ap suc h.0, h.1)) (at_snoc_at xs a b j e)

each_snoc : (r : RingHistory) (views : List Known) (a : Known) → Fits r (length views) a → Each r views → Each r (views ++ a ∷ [])
each_snoc r views a mine others j u at =
    ⊎_elim (λ h. others j u h) (λ (x : (j ≡ length views) × (a ≡ u)). subst (λ (y : ℕ × Known). Fits r y.0 y.1) (λ i. (sym x.0 i, x.1 i)) mine) (at_snoc_at views a u j at)

-- a function, changed at one number
abbrev change : {A : Type 0} → (ℕ → A) → ℕ → A → ℕ → A
change f p a = λ q. cond (eqb q p) a (f q)

module _ {A : Type 0} (f : ℕ → A) (p : ℕ) (a : A) (q : ℕ) where
  changed : q ≡ p → change f p a q ≡ a
  changed is = ap (λ b. cond b a (f q)) (eq-eqb q p is)

  unchanged : q ≢ p → change f p a q ≡ f q
  unchanged ne = ap (λ b. cond b a (f q)) (ne_eqb q p ne)

idles : (r : RingHistory) (e : ℕ) → Fits r e idle
idles r e = record { sending = λ h. absurd (true≢false (sym h)); done = λ h. absurd (true≢false (sym h)); taking = λ h. absurd (true≢false (sym h)); met = λ h. absurd (true≢false (sym h)) }

only : (r : RingHistory) (v : Known) → Fits r 0 v → Each r (v ∷ [])
only r v mine zero u e = subst (Fits r 0) (some-injective v u e) mine
only r v mine (suc j) u e = absurd (some-ne-none u (sym e))

some_same : {a b : ℕ} → Some a ≡ Some b → a ≡ b
some_same e = cc

lt_or_le : (a b : ℕ) → (a < b) ⊎ (b ≤ a)
lt_or_le a b = dite (dec_le b a) (λ h. inr h) (λ h. inl (omega arith))

pub begins : IsLine [] (first_known ∷ [])
begins =
    let r : RingHistory = record { senders = 0; made = 0; reader = 0; seat = λ _. None; put = λ _. []; taken = [] } in
    let mine : Fits r 0 first_known = record { sending = λ h. absurd (true≢false (sym h)); done = λ h. absurd (true≢false (sym h)); taking = λ h. (refl, refl, refl, refl); met = λ h k d lt. absurd (omega arith) } in
    record {
      ring = r;
      in_order = record { order = λ p. refl; none_yet = λ p h. (refl, refl); within = omega arith; marked = λ k d lt. absurd (omega arith) };
      fits = only r first_known mine;
    }

-- the ring after the sender p, whose end is e, has put something, with who may send as p from then on
abbrev after : RingHistory → ℕ → List Msg → Option ℕ → RingHistory
after r p all may = record r { put = change r.put p all; seat = change r.seat p may }

module _ (r : RingHistory) (p e : ℕ) (all : List Msg) (may : Option ℕ) (mine : r.seat p ≡ Some e) where
  all_kept : (q : ℕ) (xs : List Msg) → IsAll r q xs → IsAll (after r p all may) q xs
  all_kept q xs is =
      let apart : q ≢ p = λ (h : q ≡ p). let same = ap r.seat h in let none = is.0 in cc in
      (unchanged r.seat p may q apart ∙ is.0, is.1 ∙ sym (unchanged r.put p all q apart), is.2)

  others_fit : (j : ℕ) (u : Known) → j ≢ e → Fits r j u → Fits (after r p all may) j u
  others_fit j u ne fit = record {
    sending = λ h.
        let s = fit.sending h in
        let apart : u.from ≢ p = λ (is : u.from ≡ p). let same = ap r.seat is in let own = s.0 in ne (some_same (sym own ∙ same ∙ mine)) in
        (unchanged r.seat p may u.from apart ∙ s.0, s.1 ∙ sym (unchanged r.put p all u.from apart), s.2, s.3);
    done = λ h. all_kept u.from (put_by u) (fit.done h);
    taking = fit.taking;
    met = λ h. All-weaker (λ (x : ℕ × List Msg). IsAll r x.0 x.1) (λ (x : ℕ × List Msg). IsAll (after r p all may) x.0 x.1) (λ x. all_kept x.0 x.1) u.met (fit.met h);
  }

-- the messages in order after a push
pushed : (r : RingHistory) (items : List Posted) (p e : ℕ) (x : Posted) (may : Option ℕ) → r.seat p ≡ Some e → x.from ≡ p → HasNumber x.from x.msg → IsInOrder r items → IsInOrder (after r p (r.put p ++ x.msg ∷ []) may) (items ++ x ∷ [])
pushed r items p e x may mine from marked ok = record {
  order = λ q.
      dite (ℕ_discrete q p)
      (λ is.
      let here : x.from ≡ q = from ∙ sym is in
      ap (λ l. of q r.taken ++ l) (of_push_mine q items x here) ∙ sym (append_assoc (of q r.taken) (of q items) (x.msg ∷ [])) ∙ ap (λ l. l ++ x.msg ∷ []) (ok.order q ∙ ap r.put is)
      ∙ sym (changed r.put p (r.put p ++ x.msg ∷ []) q is))
      (λ ne.
      let there : x.from ≢ q = λ (h : x.from ≡ q). ne (sym h ∙ from) in
      ap (λ l. of q r.taken ++ l) (of_push_other q items x there) ∙ ok.order q ∙ sym (unchanged r.put p (r.put p ++ x.msg ∷ []) q ne));
  none_yet = λ q h.
      let apart : q ≢ p = λ (is : q ≡ p). let same = ap r.seat is in let none = (ok.none_yet q h).1 in cc in
      (unchanged r.put p (r.put p ++ x.msg ∷ []) q apart ∙ (ok.none_yet q h).0, unchanged r.seat p may q apart ∙ (ok.none_yet q h).1);
  within = ok.within;
  marked = All-push (λ (y : Posted). HasNumber y.from y.msg) items x ok.marked marked;
}

pub posts : (n e : ℕ) (v : Known) (m : Mbuf) → v.sends ≡ true → Pushes IsLine n e v (posted v.from (Parcel m)) (λ w. w ≡ after_push v (Parcel m))
posts n e v m sends items views room line at =
    let r = line.ring in
    let fit = line.fits e v at in
    let s = fit.sending sends in
    let p : ℕ = v.from in
    let x : Posted = posted p (Parcel m) in
    let w : Known = after_push v (Parcel m) in
    let all : List Msg = r.put p ++ Parcel m ∷ [] in
    let r' : RingHistory = after r p all (Some e) in
    let mine : Fits r' e w = record {
      sending = λ h. (changed r.seat p (Some e) p refl, history_push p v.parcels m v.done s.2 ∙ ap (λ l. l ++ Parcel m ∷ []) s.1 ∙ sym (changed r.put p all p refl), s.2, s.3);
      done = λ h. absurd (true≢false (sym h ∙ s.2));
      taking = fit.taking;
      met = λ h. All-weaker (λ (y : ℕ × List Msg). IsAll r y.0 y.1) (λ (y : ℕ × List Msg). IsAll r' y.0 y.1) (λ y. all_kept r p e all (Some e) s.0 y.0 y.1) v.met (fit.met h);
    } in (
      w,
      record {
        ring = r';
        in_order = pushed r items p e x (Some e) s.0 refl tt line.in_order;
        fits = each_set r' views e w mine (λ j u ne there. others_fit r p e all (Some e) s.0 j u ne (line.fits j u there));
      },
      refl,
    )

pub ends : (n e : ℕ) (v : Known) → v.sends ≡ true → Pushes IsLine n e v (posted v.from (Fin v.from)) (λ w. w ≡ after_push v (Fin v.from))
ends n e v sends items views room line at =
    let r = line.ring in
    let fit = line.fits e v at in
    let s = fit.sending sends in
    let p : ℕ = v.from in
    let x : Posted = posted p (Fin p) in
    let w : Known = after_push v (Fin p) in
    let all : List Msg = r.put p ++ Fin p ∷ [] in
    let r' : RingHistory = after r p all None in
    let made : p < r.made =
    ⊎_elim (λ h. h) (λ (h : r.made ≤ p). let none = (line.in_order.none_yet p h).1 in let own = s.0 in cc) (lt_or_le p r.made) in
    let mine : Fits r' e w = record {
      sending = λ h. absurd (true≢false (sym h));
      done = λ h. (changed r.seat p None p refl, history_fin p v.parcels v.done s.2 ∙ ap (λ l. l ++ Fin p ∷ []) s.1 ∙ sym (changed r.put p all p refl), made);
      taking = fit.taking;
      met = λ h. All-weaker (λ (y : ℕ × List Msg). IsAll r y.0 y.1) (λ (y : ℕ × List Msg). IsAll r' y.0 y.1) (λ y. all_kept r p e all None s.0 y.0 y.1) v.met (fit.met h);
    } in (
      w,
      record {
        ring = r';
        in_order = pushed r items p e x None s.0 refl refl line.in_order;
        fits = each_set r' views e w mine (λ j u ne there. others_fit r p e all None s.0 j u ne (line.fits j u there));
      },
      refl,
    )

-- what lies there is of senders that are made
of_made : (r : RingHistory) (items : List Posted) → IsInOrder r items → All (λ (x : Posted). x.from < r.made) items
of_made r items ok k d lt =
    let p = (get_or items k d).from in
    ⊎_elim (λ h. h) (λ (h : r.made ≤ p). absurd (of_there items k d lt (end_empty (of p r.taken) (of p items) (ok.order p ∙ (ok.none_yet p h).0)))) (lt_or_le p r.made)

pub receives : (e : ℕ) (v : Known) → v.takes ≡ true → Pops IsLine e v (Receives v)
receives e v takes x items views line at =
    let r = line.ring in
    let fit = line.fits e v at in
    let t = fit.taking takes in
    let w : Known = record v { taken = v.taken ++ x ∷ [] } in
    let r' : RingHistory = record r { taken = r.taken ++ x ∷ [] } in
    let ok = line.in_order in
    let made = All-head (λ (y : Posted). y.from < r.made) x items (of_made r (x ∷ items) ok) in
    let marked = All-head (λ (y : Posted). HasNumber y.from y.msg) x items ok.marked in
    let mine : Fits r' e w = record { sending = fit.sending; done = fit.done; taking = λ h. (t.0, ap (λ l. l ++ x ∷ []) t.1, t.2, t.3); met = fit.met } in
    let other : (j : ℕ) (u : Known) → j ≢ e → get_elem? views j ≡ some u → Fits r' j u = λ j u ne there.
    let f = line.fits j u there in
    record { sending = f.sending; done = f.done; taking = λ h. absurd (ne ((f.taking h).0 ∙ sym t.0)); met = f.met } in (
      w,
      record {
        ring = r';
        in_order = record {
          order = λ q.
              ap (λ l. l ++ of q items) (of_append q r.taken (x ∷ [])) ∙ append_assoc (of q r.taken) (of q (x ∷ [])) (of q items) ∙ ap (λ l. of q r.taken ++ l) (sym (of_append q (x ∷ []) items)) ∙ ok.order q;
          none_yet = ok.none_yet;
          within = ok.within;
          marked = All-tail (λ (y : Posted). HasNumber y.from y.msg) x items ok.marked;
        };
        fits = each_set r' views e w mine other;
      },
      record { view = refl; sender = omega (arith, ok.within, t.2); marked = marked },
    )

pub learns : (e : ℕ) (v : Known) → (v.sends ≡ true) ⊎ (v.takes ≡ true) → Learns IsLine e v (MayHold v)
learns e v role items views line at =
    let r = line.ring in
    let fit = line.fits e v at in
    let ok = line.in_order in
    let senders : v.senders ≡ r.senders = ⊎_elim (λ h. (fit.sending h).3) (λ h. (fit.taking h).2) role in
    record {
      senders = All-weaker (λ (x : Posted). x.from < r.made) (λ (x : Posted). x.from < v.senders) (λ x h. omega (arith, ok.within)) items (of_made r items ok);
      own = λ h. (of v.from r.taken, ok.order v.from ∙ sym (fit.sending h).1);
      met = λ h. All-weaker (λ (x : ℕ × List Msg). IsAll r x.0 x.1) (λ (x : ℕ × List Msg). (x.0 < v.senders) × (of x.0 v.taken ++ of x.0 items ≡ x.1))
          (λ x all. (omega (arith, ok.within, all.2), ap (λ l. of x.0 l ++ of x.0 items) (fit.taking h).1 ∙ ok.order x.0 ∙ sym all.1)) v.met (fit.met h);
    }

-- nobody sends before a sender is made
none_sends : (r : RingHistory) (items : List Posted) (j : ℕ) (u : Known) → IsInOrder r items → r.made ≡ 0 → Fits r j u → u.sends ≢ true
none_sends r items j u ok zero_made fit h = let none = (ok.none_yet u.from (omega arith)).1 in let own = (fit.sending h).0 in cc

pub counts : (e : ℕ) (v : Known) → v.takes ≡ true → v.made ≡ 0 → Forks IsLine e v (one_more v) idle
counts e v takes none items views line at =
    let r = line.ring in
    let fit = line.fits e v at in
    let t = fit.taking takes in
    let w = one_more v in
    let r' : RingHistory = record r { senders = r.senders + 1 } in
    let ok = line.in_order in
    let zero_made : r.made ≡ 0 = sym t.3 ∙ none in
    let mine : Fits r' e w = record { sending = λ h. absurd (none_sends r items e v ok zero_made fit h); done = fit.done; taking = λ h. (t.0, t.1, ap (λ k. k + 1) t.2, t.3); met = fit.met } in
    let other : (j : ℕ) (u : Known) → j ≢ e → get_elem? views j ≡ some u → Fits r' j u = λ j u ne there.
    let f = line.fits j u there in
    record { sending = λ h. absurd (none_sends r items j u ok zero_made f h); done = f.done; taking = λ h. absurd (ne ((f.taking h).0 ∙ sym t.0)); met = f.met } in
    record {
      ring = r';
      in_order = record { order = ok.order; none_yet = ok.none_yet; within = omega (arith, ok.within); marked = ok.marked };
      fits = each_snoc r' (set views e w) idle (idles r' _) (each_set r' views e w mine other);
    }

pub makes : (e : ℕ) (v : Known) → v.takes ≡ true → v.sends ≡ false → v.made < v.senders → Forks IsLine e v (one_made v) (new_sender v)
makes e v takes quiet more items views line at =
    let r = line.ring in
    let fit = line.fits e v at in
    let t = fit.taking takes in
    let w = one_made v in
    let vs : List Known = set views e w in
    let p : ℕ = r.made in
    let seat : ℕ = length vs in
    let r' : RingHistory = record r { made = r.made + 1; seat = change r.seat p (Some seat) } in
    let ok = line.in_order in
    let known : (q : ℕ) (xs : List Msg) → IsAll r q xs → IsAll r' q xs = λ q xs is. (unchanged r.seat p (Some seat) q (λ (h : q ≡ p). absurd (omega (arith, is.2))) ∙ is.0, is.1, omega (arith, is.2)) in
    let knows : (xs : List (ℕ × List Msg)) → All (λ (x : ℕ × List Msg). IsAll r x.0 x.1) xs → All (λ (x : ℕ × List Msg). IsAll r' x.0 x.1) xs =
    λ xs. All-weaker (λ (x : ℕ × List Msg). IsAll r x.0 x.1) (λ (x : ℕ × List Msg). IsAll r' x.0 x.1) (λ x. known x.0 x.1) xs in
    let mine : Fits r' e w = record { sending = λ h. absurd (true≢false (sym h ∙ quiet)); done = λ h. known v.from (put_by v) (fit.done h); taking = λ h. (t.0, t.1, t.2, ap (λ k. k + 1) t.3); met = λ h. knows v.met (fit.met h) } in
    let other : (j : ℕ) (u : Known) → j ≢ e → get_elem? views j ≡ some u → Fits r' j u = λ j u ne there.
    let f = line.fits j u there in
    record {
      sending = λ h.
          let s = f.sending h in
          let apart : u.from ≢ p = λ (is : u.from ≡ p). let none = (ok.none_yet u.from (omega arith)).1 in let own = s.0 in cc in
          (unchanged r.seat p (Some seat) u.from apart ∙ s.0, s.1, s.2, s.3);
      done = λ h. known u.from (put_by u) (f.done h);
      taking = λ h. absurd (ne ((f.taking h).0 ∙ sym t.0));
      met = λ h. knows u.met (f.met h);
    } in
    let new : Fits r' seat (new_sender v) = record {
      sending = λ h. (changed r.seat p (Some seat) v.made t.3, sym (ap r.put t.3 ∙ (ok.none_yet p (omega arith)).0), refl, t.2);
      done = λ h. absurd (true≢false (sym h));
      taking = λ h. absurd (true≢false (sym h));
      met = λ h. absurd (true≢false (sym h));
    } in
    record {
      ring = r';
      in_order = record {
        order = ok.order;
        none_yet = λ q h. ((ok.none_yet q (omega arith)).0, unchanged r.seat p (Some seat) q (λ (is : q ≡ p). absurd (omega arith)) ∙ (ok.none_yet q (omega arith)).1);
        within = omega (arith, t.2, t.3);
        marked = ok.marked;
      };
      fits = each_snoc r' vs (new_sender v) new (each_set r' views e w mine other);
    }

pub tells : (e : ℕ) (v : Known) → Forks IsLine e v v (finished v)
tells e v items views line at =
    let r = line.ring in
    let fit = line.fits e v at in
    let told : (j : ℕ) → Fits r j (finished v) = λ j. record { sending = λ h. absurd (true≢false (sym h)); done = fit.done; taking = λ h. absurd (true≢false (sym h)); met = λ h. absurd (true≢false (sym h)) } in
    record { ring = r; in_order = line.in_order; fits = each_snoc r (set views e v) (finished v) (told _) (each_set r views e v fit (λ j u ne there. line.fits j u there)) }

pub hears : (e : ℕ) (v : Known) (other : ℕ) (u : Known) → v.takes ≡ true → u.done ≡ true → Merges IsLine e v other u (with_met v u) idle
hears e v other u takes done items views line at two at' =
    let r = line.ring in
    let fit = line.fits e v at in
    let w = with_met v u in
    let vs : List Known = set views e w in
    let was : get_elem? views other ≡ some u = ⊎_elim (λ x. absurd (two x.0)) (λ x. x.1) (at_set views e other w u at') in
    let all = (line.fits other u was).done done in
    let mine : Fits r e w = record { sending = fit.sending; done = fit.done; taking = fit.taking; met = λ h. All-push (λ (x : ℕ × List Msg). IsAll r x.0 x.1) v.met (u.from, put_by u) (fit.met h) all } in
    let now : Each r vs = each_set r views e w mine (λ j y ne there. line.fits j y there) in
    record { ring = r; in_order = line.in_order; fits = each_set r vs other idle (idles r other) (λ j y ne there. now j y there) }

-- the same, by the number that the outlet has
pub posts_as : (n e : ℕ) (v : Known) (m : Mbuf) (p : ℕ) → v.from ≡ p → v.sends ≡ true → Pushes IsLine n e v (posted p (Parcel m)) (λ w. w ≡ after_push v (Parcel m))
posts_as n e v m p is sends = subst (λ q. Pushes IsLine n e v (posted q (Parcel m)) (λ w. w ≡ after_push v (Parcel m))) is (posts n e v m sends)

pub ends_as : (n e : ℕ) (v : Known) (p : ℕ) → v.from ≡ p → v.sends ≡ true → Pushes IsLine n e v (posted p (Fin p)) (λ w. w ≡ after_push v (Fin p))
ends_as n e v p is sends = subst (λ q. Pushes IsLine n e v (posted q (Fin q)) (λ w. w ≡ after_push v (Fin q))) is (ends n e v sends)

all_last : {X : Type 0} (P : X → Type 0) (xs : List X) (y : X) → All P (xs ++ y ∷ []) → P y
all_last P xs y h = subst P (get_or-append_seam xs y [] y) (h (length xs) y (omega (arith, length-append xs (y ∷ []))))

-- what an inlet knows of a sender that it has just met
pub meets : (v s w : Known) (items : List Posted) → v.takes ≡ true → s.done ≡ true → w ≡ with_met v (finished s) → MayHold w items → (s.from < v.senders) × (of s.from v.taken ++ of s.from items ≡ history s.from s.parcels true)
meets v s w items takes done is may =
    let hold : MayHold (with_met v (finished s)) items = subst (λ u. MayHold u items) is may in
    let last = all_last (λ (x : ℕ × List Msg). (x.0 < v.senders) × (of x.0 v.taken ++ of x.0 items ≡ x.1)) v.met (s.from, put_by (finished s)) (hold.met takes) in
    (last.0, last.1 ∙ ap (λ b. history s.from s.parcels b) done)

-- what holds at each place of a list holds after one more element
pub each_push : {X : Type 0} (P : ℕ → X → Type 0) (xs : List X) (y : X) → ((k : ℕ) (d : X) → k < length xs → P k (get_or xs k d)) → P (length xs) y → (k : ℕ) (d : X) → k < length (xs ++ y ∷ []) → P k (get_or (xs ++ y ∷ []) k d)
each_push P xs y each last k d lt =
    ⊎_elim (λ (h : k < length xs). subst (P k) (sym (get_or_append_left xs (y ∷ []) d k h)) (each k d h))
    (λ (h : length xs ≤ k).
    let is : k ≡ length xs = omega (arith, length-append xs (y ∷ [])) in
    subst (λ j. P j (get_or (xs ++ y ∷ []) j d)) (sym is) (subst (P (length xs)) (sym (get_or-append_seam xs y [] d)) last))
    (lt_or_le k (length xs))
