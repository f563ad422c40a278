-- The logs of the meters of a run, of which one seat made all marks.
use Rattle.std.proofs.Common.{◌≡◌, ◌<◌, ℕ, zero, suc, cond, List, [], ◌∷◌, length, map, Some, Result, Ok, Err, IfOk}
use Rattle.std.proofs.Common.{All, Bool, true, false}
use Rattle.std.proofs.Common.{refl, sym, ap, ◌∙◌, ◌++◌, subst, arith, length-append}
use Rattle.std.specs.Prelude.{◌==◌, filter}
use Rattle.std.specs.List.{slice_get, sum_by}
use Rattle.std.proofs.lemmas.Bool.Decides.{nat_tests}
use Rattle.std.proofs.lemmas.List.{length-map}
use Rattle.std.proofs.lemmas.List.Elements.{All-cons, All-head, All-nil, All-tail}
use Rattle.std.proofs.lemmas.Option.{slice_get_within}
use Rattle.qos_io.specs.declared.source.Source.{Ghosts as Sources}
use Rattle.qos_pcap.specs.declared.fault.Stop.{Stop}
use Rattle.qos_pcap.specs.Format.{Record}
use Rattle.color_meter.specs.Setting.{setting_of}
use Rattle.profile_plan.specs.declared.meter.MeterPlan.{MeterPlan}
use Rattle.profile_plan.specs.Profile.{KeepsLimits, Plan}
use Rattle.meter_table.specs.declared.mark.Mark.{Mark}
use Rattle.meter_table.specs.declared.mark.MeterLog.{MeterLog}
use Rattle.meter_table.specs.declared.seat.MeterSeat.{MeterSeat}
use Rattle.meter_table.specs.declared.table.MeterTable.{MeterTable}
use Rattle.meter_table.specs.Asked.{Request, request_in}
use Rattle.meter_table.specs.Laws.{OneSeatsLog}
use Rattle.meter_table.specs.Logs.{Among, AreAllMarks, AreLogs, IsMadeBy}
use Rattle.meter_table.specs.Seats.{AreAllSeats, IsSeatOf, marks_by, parts_at, settings_of}
use Rattle.pkt_receive.specs.declared.receive.Receiver.{Receiver}
use Rattle.pkt_receive.specs.Colours.{colours_in, marks_at}
use Rattle.pkt_receive.specs.Laws.{LogsAgree, MarksAgree}
use Rattle.pkt_receive.specs.Marks.{AreLegalLogs, AreLogsFor, asked_at}
use Rattle.run_journal.specs.declared.entry.Entry.{Entry}
use Rattle.qos_pipeline.specs.Logs.{AreLogsOf}
use Rattle.qos_pipeline.specs.Took.{Took, TookBy}
use Rattle.qos_pipeline.proofs.Metered.{asked-metered}
use Rattle.qos_pipeline.proofs.Places.{map-there, nothing-left, same-at, there}

module _ {X : Type 0} (p : X → Bool) where
  kept-more : (b : Bool) (y x : X) (ys : List X) → (m : ℕ) × (slice_get ys m ≡ Some x)
      → (m : ℕ) × (slice_get (cond b (y ∷ ys) ys) m ≡ Some x)
  kept-more true y x ys rest = (suc rest.0, rest.1)
  kept-more false y x ys rest = rest

  kept-from : (b : Bool) (y x : X) (ys zs : List X) → ((m : ℕ) → slice_get zs m ≡ Some x → (n : ℕ) × (slice_get ys n ≡ Some x))
      → (m : ℕ) → slice_get (cond b (y ∷ zs) zs) m ≡ Some x → (n : ℕ) × (slice_get (y ∷ ys) n ≡ Some x)
  kept-from true y x ys zs rest zero is = (0, is)
  kept-from true y x ys zs rest (suc m) is = let later = rest m is in (suc later.0, later.1)
  kept-from false y x ys zs rest m is = let later = rest m is in (suc later.0, later.1)

  -- an element that passes a test is among those that do, and each of these is one of all
  filter-has : (xs : List X) (n : ℕ) (x : X) → slice_get xs n ≡ Some x → p x ≡ true
      → (m : ℕ) × (slice_get (filter p xs) m ≡ Some x)
  filter-has [] n x is passes = absurd (let within = slice_get_within [] n x is in omega arith)
  filter-has (y ∷ ys) zero x is passes =
      let kept : p y ≡ true = ap p (same-at y x is) ∙ passes in
      (0, ap (λ b. slice_get (cond b (y ∷ filter p ys) (filter p ys)) 0) kept ∙ is)
  filter-has (y ∷ ys) (suc n) x is passes = kept-more (p y) y x (filter p ys) (filter-has ys n x is passes)

  filter-from : (xs : List X) (m : ℕ) (x : X) → slice_get (filter p xs) m ≡ Some x → (n : ℕ) × (slice_get xs n ≡ Some x)
  filter-from [] m x is = absurd (let within = slice_get_within [] m x is in omega arith)
  filter-from (y ∷ ys) m x is = kept-from (p y) y x ys (filter p ys) (λ m is. filter-from ys m x is) m is

map-kept : {X Y : Type 0} (f : X → Y) (b : Bool) (x : X) (xs : List X) (ys : List Y) → map f xs ≡ ys
    → map f (cond b (x ∷ xs) xs) ≡ cond b (f x ∷ ys) ys
map-kept f true x xs ys so = ap (λ zs. f x ∷ zs) so
map-kept f false x xs ys so = so

-- of what is asked for a list of marks, that of a meter is what its marks ask
asked-marks : (meter : ℕ) (marks : List Mark) → map request_in (marks_at meter marks) ≡ asked_at meter (map request_in marks)
asked-marks meter [] = refl
asked-marks meter (mark ∷ marks) =
    map-kept request_in (mark.meter == meter) mark (marks_at meter marks) (asked_at meter (map request_in marks))
    (asked-marks meter marks)

-- what holds of all that is seen of a list
seen-all : {X Y : Type 0} (P : Y → Type 0) (f : X → Y) (xs : List X) → All P (map f xs) → All (λ x. P (f x)) xs
seen-all P f [] all = All-nil (λ x. P (f x))
seen-all P f (x ∷ xs) all =
    All-cons (λ x. P (f x)) x xs (All-head P (f x) (map f xs) all) (seen-all P f xs (All-tail P (f x) (map f xs) all))

module _ (seat : MeterSeat) (marks : List Mark) (kept : (meter : ℕ) → marks_by meter seat ≡ marks_at meter marks) where
  -- these are all marks of one seat
  pub all-marks : AreAllMarks (seat ∷ []) marks
  all-marks = record { made = λ mark among. made mark among; all = λ mark made. all mark made } where
    made : (mark : Mark) → Among marks mark → IsMadeBy (seat ∷ []) mark
    made mark among =
        let own : mark.meter == mark.meter ≡ true = grind (arith, nat_tests) in
        let at = filter-has (λ m. m.meter == mark.meter) marks among.0 mark among.1 own in
        (0, seat, refl, subst (λ ms. Among ms mark) (sym (kept mark.meter)) at)

    of-seat : (mark : Mark) → Among (marks_by mark.meter seat) mark → Among marks mark
    of-seat mark among =
        let at = subst (λ ms. Among ms mark) (kept mark.meter) among in
        filter-from (λ m. m.meter == mark.meter) marks at.0 mark at.1

    all : (mark : Mark) → IsMadeBy (seat ∷ []) mark → Among marks mark
    all mark (zero, s, is, among) =
        of-seat mark (subst (λ s. Among (marks_by mark.meter s) mark) (sym (same-at seat s is)) among)
    all mark (suc n, s, is, among) = absurd (let within = slice_get_within (seat ∷ []) (suc n) s is in omega arith)

  -- so the logs are those marks by their meters
  pub logs-of : OneSeatsLog → (t : MeterTable) (logs : List MeterLog) → AreLogs t (seat ∷ []) logs → AreLogsOf t marks logs
  logs-of law t logs are = record {
    count = are.count;
    each = λ meter setting log is at.
        let one = are.each meter setting log is at in
        record { meter_is = one.meter_is; legal = one.legal; marks_are = law meter setting seat log one ∙ kept meter };
  }

-- a success, by what is so of it
pub ok-so : {A E : Type 0} {P Q : A → Type 0} (r : Result A E) → IfOk r P → ((x : A) → P x → Q x) → IfOk r Q
ok-so (Ok x) is each = each x is
ok-so (Err e) is each = tt

-- the last of one element is that element
pub one-popped : {X : Type 0} (xs rest : List X) (x : X) → xs ≡ rest ++ x ∷ [] → length xs ≡ 1 → xs ≡ x ∷ []
one-popped xs rest x is one =
    is ∙ ap (λ ys. ys ++ x ∷ []) (nothing-left rest (omega (arith, one, ap length is, length-append rest (x ∷ []))))

-- a seat that has kept its parts is still the only one
pub still-all : (t : MeterTable) (seat after : MeterSeat) → AreAllSeats t (seat ∷ []) → IsSeatOf t after
    → ((meter : ℕ) → parts_at meter after ≡ parts_at meter seat) → AreAllSeats t (after ∷ [])
still-all t seat after all is parts = record {
  each = All-cons (IsSeatOf t) after [] is (All-nil (IsSeatOf t));
  parts = λ meter within. ap (λ n. sum_by (λ (m : ℕ). m) (n ∷ [])) (parts meter) ∙ all.parts meter within;
}

module _ (p : Plan) {t : MeterTable} {marks : List Mark} {logs : List MeterLog} (settings : settings_of t ≡ map setting_of p.meters)
    (are : AreLogsOf t marks logs) where
  logs-count : length logs ≡ length p.meters
  logs-count = are.count ∙ ap length settings ∙ length-map p.meters setting_of

  setting-at : (meter : ℕ) (plan : MeterPlan) → slice_get p.meters meter ≡ Some plan
      → slice_get (settings_of t) meter ≡ Some (setting_of plan)
  setting-at meter plan is = ap (λ ss. slice_get ss meter) settings ∙ map-there setting_of p.meters meter plan is

  pub legal-logs : AreLegalLogs p logs
  legal-logs = record {
    count = logs-count;
    each = λ meter plan log is at.
        let one = are.each meter (setting_of plan) log (setting-at meter plan is) at in (one.meter_is, one.legal);
  }

  marks-are : (meter : ℕ) (log : MeterLog) → slice_get logs meter ≡ Some log → log.marks ≡ marks_at meter marks
  marks-are meter log at =
      let setting = there (settings_of t) meter (omega (arith, are.count, slice_get_within logs meter log at)) in
      (are.each meter setting.0 log setting.1 at).marks_are

  module _ {S : Type 0} {F : Sources S} {records : List Record} {stop : Stop} {rx : Receiver S F} {journals : List (List Entry)}
      (by : TookBy p records stop rx marks journals) where
    logs-for : AreLogsFor p rx.origin rx.input by.given logs
    logs-for = record {
      count = logs-count;
      each = λ meter plan log is at.
          let one = are.each meter (setting_of plan) log (setting-at meter plan is) at in
          record {
            meter_is = one.meter_is;
            legal = one.legal;
            marks = ap (map request_in) one.marks_are ∙ asked-marks meter marks ∙ ap (asked_at meter) by.asked;
          };
    }

    marks-below : KeepsLimits p → All (λ mark. mark.meter < length logs) marks
    marks-below limits =
        seen-all (λ (request : Request). request.meter < length logs) request_in marks
        (subst (λ n. All (λ (request : Request). request.meter < n) (map request_in marks)) (sym logs-count)
        (subst (All (λ (request : Request). request.meter < length p.meters)) (sym by.asked)
        (asked-metered p limits rx.origin rx.input by.given)))

    -- what was taken, by the logs
    pub took-logs : MarksAgree → LogsAgree → KeepsLimits p → Took p records stop rx journals logs
    took-logs marks_law logs_law limits = record {
      given = by.given;
      rest = by.rest;
      parts = by.parts;
      stopped = by.stopped;
      read = by.read;
      logs_are = logs-for;
      taken = by.taken (colours_in logs)
          (logs_law logs marks (marks_law p rx.origin rx.input by.given marks by.asked) marks-are (marks-below limits));
    }
