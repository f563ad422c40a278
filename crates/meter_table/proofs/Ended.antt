-- What who has all seats and all marks makes of them.
use Rattle.std.proofs.Common.{◌≡◌, ℕ, suc, ◌+◌, ◌<◌, Bool, true, false, List, [], ◌∷◌, ◌++◌, Some, length, slice_get, cond, eqb, inl, inr, refl, ap, sym, ◌∙◌, subst, arith}
use Rattle.std.specs.List.{sum_by, All}
use Rattle.std.proofs.lemmas.Bool.{cases_lt, eqb-true}
use Rattle.std.proofs.lemmas.List.Sums.{sum_by-cons, sum_by_push}
use Rattle.std.proofs.lemmas.List.Elements.{All-same, All-push}
use Rattle.std.proofs.lemmas.Option.{slice_get_within, get_or_from_slice_get, none-some}
use native.Mathlib.Decide.{ℕ_discrete}
use mathlib.Core.Logic.{dite}
use Rattle.crossbeam_utils.specs.Seq.{cell_view}
use Rattle.color_meter.specs.Setting.{Setting}
use Rattle.meter_table.specs.declared.mark.Mark.{Mark}
use Rattle.meter_table.specs.declared.mark.MeterLog.{MeterLog}
use Rattle.meter_table.specs.declared.rule.View.{View}
use Rattle.meter_table.specs.declared.seat.MeterSeat.{MeterSeat}
use Rattle.meter_table.specs.declared.table.MeterTable.{MeterTable}
use Rattle.meter_table.specs.Gathered.{Fills}
use Rattle.meter_table.specs.Kept.{Knows, StandsIn, IsSeen}
use Rattle.meter_table.specs.Log.{IsLegalLog, made_at}
use Rattle.meter_table.specs.Logs.{AreAllMarks, AreLogs, IsLogOf, Among}
use Rattle.meter_table.specs.Seats.{settings_of, marks_by, parts_at, view_at, HasPasses, IsSeatOf, AreAllSeats}
use Rattle.meter_table.proofs.Passes.{APass, OneChanged, marks_is, parts_is, view_is, now, others, has_passes}
use Rattle.meter_table.proofs.Tables.{count_is}

module _ {X : Type 0} where
  -- what holds of all elements holds of the one at a place
  pub all_at : (P : X → Type 0) (xs : List X) (i : ℕ) (x : X) → All P xs → slice_get xs i ≡ Some x → P x
  all_at P xs i x all at = subst P (get_or_from_slice_get xs i x x at) (all i x (slice_get_within xs i x at))

  -- a sum above 0 has a term above 0
  pub sum_some : (f : X → ℕ) (xs : List X) → 0 < sum_by f xs → (i : ℕ) × (x : X) × (slice_get xs i ≡ Some x) × (0 < f x)
  sum_some f [] some = absurd (omega arith)
  sum_some f (x ∷ xs) some =
      let parts = sum_by-cons f x xs in
      elim (cases_lt 0 (f x)) [
        | inl here ↦ (0, x, refl, here)
        | inr none ↦ let rest = sum_some f xs (omega arith) in (suc rest.0, rest.1, rest.2, rest.3)
      ]

flagged : (b : Bool) → 0 < cond {A = ℕ} b 1 0 → b ≡ true
flagged true some = refl
flagged false some = absurd (omega arith)

-- marks of which some have a turn
pub made_some : (turn : ℕ) (marks : List Mark) → 0 < made_at turn marks → (i : ℕ) × (mark : Mark) × (slice_get marks i ≡ Some mark) × (mark.turn ≡ turn)
made_some turn marks some =
    let found = sum_some (λ (m : Mark). cond {A = ℕ} (eqb m.turn turn) 1 0) marks some in
    (found.0, found.1, found.2, eqb-true _ _ (flagged (eqb found.1.turn turn) found.3))

-- a table of which there is no seat has no meter
pub none_left : (t : MeterTable) (seats : List MeterSeat) (logs : List MeterLog) → AreAllSeats t seats → length seats ≡ 0 → logs ≡ [] → AreLogs t seats logs
none_left t (s ∷ ss) logs are none is = absurd (omega arith)
none_left t [] logs are none is =
    let no_cell : length t.cells.items ≡ 0 = elim (cases_lt 0 (length t.cells.items)) [
      | inl some ↦ let parts = are.parts 0 some in absurd (omega arith)
      | inr less ↦ omega arith
    ] in
    let counts = count_is t in
    let lengths = ap (λ (l : List MeterLog). length l) is in
    record {
      count = omega arith;
      each = λ meter setting log at at'. absurd (none-some log (sym (ap (λ l. slice_get l meter) is) ∙ at'));
    }

-- a seat that has all parts and all marks of these seats
pub record IsWhole (t : MeterTable) (seats : List MeterSeat) (all : MeterSeat) : Type 0 where
  pub has : HasPasses t all
  pub parts : (n : ℕ) → n < length t.cells.items → parts_at n all ≡ 48
  pub made : (n turn : ℕ) → made_at turn (marks_by n all) ≡ sum_by (λ s. made_at turn (marks_by n s)) seats
  pub stand : (n : ℕ) (log : List Mark) → All (StandsIn log) (marks_by n all) → All (λ s. All (StandsIn log) (marks_by n s)) seats

-- the same seat, one of whose passes has looked at its cell
pub still_whole : (t : MeterTable) (seats : List MeterSeat) (all after : MeterSeat) → IsWhole t seats all → HasPasses t after → ((n : ℕ) → view_at n after ≡ view_at n all) → IsWhole t seats after
still_whole t seats all after whole has same =
    let marks : (n : ℕ) → marks_by n after ≡ marks_by n all = λ n. marks_is n after ∙ ap (λ (v : View). v.marks) (same n) ∙ sym (marks_is n all) in
    record {
      has = has;
      parts = λ n lt. parts_is n after ∙ ap (λ (v : View). v.parts) (same n) ∙ sym (parts_is n all) ∙ whole.parts n lt;
      made = λ n turn. ap (made_at turn) (marks n) ∙ whole.made n turn;
      stand = λ n log stood. whole.stand n log (All-same (StandsIn log) _ _ (sym (marks n)) stood);
    }

-- a seat that one of its passes has looked at its cell knows what it knew
pub look_whole : (t : MeterTable) (seats : List MeterSeat) (all after : MeterSeat) (i : ℕ) (p q : APass) → IsWhole t seats all → OneChanged all after i p q → cell_view {V = View} q ≡ cell_view p → IsWhole t seats after
look_whole t seats all after i p q whole changed same =
    still_whole t seats all after whole
    (has_passes all after i p q changed t (λ meter setting knows. subst (Knows meter setting) (sym same) knows) whole.has)
    (λ n.
    dite (ℕ_discrete n i)
    (λ is.
    ap (λ k. view_at k after) is ∙ view_is i after q (now all after i p q changed) ∙ same ∙ sym (view_is i all p changed.was) ∙ ap (λ k. view_at k all) (sym is))
    (λ not. others all after i p q changed n not))

-- all seats as one
pub whole_of : (t : MeterTable) (seats rest : List MeterSeat) (first all : MeterSeat) → AreAllSeats t seats → seats ≡ rest ++ first ∷ [] → HasPasses t all
    → ((n : ℕ) → parts_at n all ≡ sum_by (parts_at n) rest + parts_at n first)
    → ((n turn : ℕ) → made_at turn (marks_by n all) ≡ sum_by (λ s. made_at turn (marks_by n s)) rest + made_at turn (marks_by n first))
    → ((n : ℕ) (log : List Mark) → All (StandsIn log) (marks_by n all) → All (λ s. All (StandsIn log) (marks_by n s)) rest × All (StandsIn log) (marks_by n first))
    → IsWhole t seats all
whole_of t seats rest first all are were has parts made stand = record {
  has = has;
  parts = λ n lt. omega (arith, are.parts n lt, parts n, ap (sum_by (parts_at n)) were, sum_by_push (parts_at n) rest first);
  made = λ n turn.
      let of : MeterSeat → ℕ = λ s. made_at turn (marks_by n s) in
      made n turn ∙ sym (sum_by_push of rest first) ∙ ap (sum_by of) (sym were);
  stand = λ n log stood.
      let Stand : MeterSeat → Type 0 = λ s. All (StandsIn log) (marks_by n s) in
      let both = stand n log stood in
      All-same Stand _ _ were (All-push Stand rest first both.0 both.1);
}

module _ (t : MeterTable) (seats : List MeterSeat) (marks : List Mark) (all : MeterSeat) (are : AreAllSeats t seats) (made : AreAllMarks seats marks) (whole : IsWhole t seats all)
    (n : ℕ) (setting : Setting) (words : List ℕ) (at : slice_get (settings_of t) n ≡ Some setting) (seen : IsSeen n setting (view_at n all) words) where
  stand_all : All (λ s. All (StandsIn seen.log) (marks_by n s)) seats
  stand_all = whole.stand n seen.log (All-same (StandsIn seen.log) _ _ (marks_is n all) seen.stands)

  once_all : (turn : ℕ) → turn < length seen.log → sum_by (λ s. made_at turn (marks_by n s)) seats ≡ 1
  once_all turn lt =
      let within = slice_get_within (settings_of t) n setting at in
      let counts = count_is t in
      let parts = sym (parts_is n all) ∙ whole.parts n (omega arith) in
      sym (whole.made n turn) ∙ ap (made_at turn) (marks_is n all) ∙ seen.once parts turn lt

  -- the marks given fill the log that the words tell
  pub fills : Fills n marks seen.log
  fills = record {
    stand = λ k mark at_k mine.
        let by = made.made mark (k, at_k) in
        let stands = all_at (λ s. All (StandsIn seen.log) (marks_by n s)) seats by.0 by.1 stand_all by.2 in
        let among = subst (λ m. Among (marks_by m by.1) mark) mine by.3 in
        all_at (StandsIn seen.log) (marks_by n by.1) among.0 mark stands among.1;
    each = λ turn lt.
        let one = once_all turn lt in
        let seat = sum_some (λ s. made_at turn (marks_by n s)) seats (omega arith) in
        let mark = made_some turn (marks_by n seat.1) seat.3 in
        let stands = all_at (λ s. All (StandsIn seen.log) (marks_by n s)) seats seat.0 seat.1 stand_all seat.2 in
        let stood = all_at (StandsIn seen.log) (marks_by n seat.1) mark.0 mark.1 stands mark.2 in
        let number = (seen.legal mark.1.turn mark.1 stood).meter_is in
        let among = made.all mark.1 (seat.0, seat.1, seat.2, subst (λ m. Among (marks_by m seat.1) mark.1) (sym number) (mark.0, mark.2)) in
        (among.0, mark.1, among.1, number, mark.3);
  }

  pub log_is : (log : MeterLog) → log.meter ≡ n → log.marks ≡ seen.log → IsLogOf n setting seats log
  log_is log number is = record {
    meter_is = number;
    legal = subst (IsLegalLog n setting) (sym is) seen.legal;
    stands = λ k seat at_k. subst (λ l. All (StandsIn l) (marks_by n seat)) (sym is) (all_at (λ s. All (StandsIn seen.log) (marks_by n s)) seats k seat stand_all at_k);
    order = λ k seat at_k. (all_at (IsSeatOf t) seats k seat are.each at_k).order n;
    once = λ turn lt. once_all turn (let same = ap (λ (l : List Mark). length l) is in omega arith);
  }
