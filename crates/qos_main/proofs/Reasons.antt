-- Why a command ends with its number, by the ways in which it ends and how that was reported.
use Rattle.std.specs.Prelude.{◌≡◌, ◌⊎◌, ◌<◌, ◌==◌, if◌then◌else◌, ℕ, zero, suc, Bool, true, false, List, [], ◌∷◌, ◌++◌}
use Rattle.std.specs.Prelude.{length, Option, None, Some, slice_get}
use Rattle.std.specs.Option.{option_map_or}
use Rattle.std.proofs.Common.{ap, subst, sym, refl, ◌∙◌, inl, inr, arith}
use Rattle.qos_io.specs.declared.shelf.Shelf.{Ghosts}
use Rattle.qos_io.specs.declared.sink.Sink.{Ghosts as Sinks}
use Rattle.qos_io.specs.Fault.{HasRisen}
use Rattle.qos_pcap.specs.declared.fault.PcapFault.TheVariants as faults
use Rattle.qos_pcap.specs.declared.fault.Stop.{Stop}
use Rattle.qos_pcap.specs.declared.fault.Stop.TheVariants.{End, NotOpened, Fault}
use Rattle.qos_pcap.specs.Format.{Record}
use Rattle.qos_pcap.specs.Reads.{Reads, ReadsOneWay, IsWholeCapture}
use Rattle.profile_plan.specs.Profile.{Plan}
use Rattle.pkt_receive.specs.declared.limits.TheConstants.{MAX_RECORDS}
use Rattle.pkt_receive.specs.Receiver.{IsReadFault}
use Rattle.qos_profile.specs.declared.fault.ProfileFault.{ProfileFault}
use Rattle.qos_profile.specs.Faults.{fault_of_text}
use Rattle.qos_words.specs.Names.{output_name}
use Rattle.qos_words.specs.Words.{Asked}
use Rattle.run_report.specs.declared.ended.Ended.{Ended}
use Rattle.run_report.specs.declared.ended.Note.{Note}
use Rattle.run_report.specs.declared.ended.Note.TheVariants as notes
use Rattle.run_report.specs.declared.status.Status.{Status}
use Rattle.run_report.specs.declared.status.Status.TheVariants.{Fine, Usage, Profile, Read, Write, Capture, Memory}
use Rattle.run_report.specs.Report.{noted_lines, report_of, run_lines, status_line, told_lines}
use Rattle.run_report.specs.Reports.{Reports}
use Rattle.run_report.specs.Reports.Reports.{told, failed, sink_memory, text_memory}
use Rattle.run_report.specs.Status.{after_fault, any_true, status_for, status_number}
use Rattle.qos_main.specs.Causes.{AreSure, HasCauses, IsComplete, status_by}
use Rattle.qos_main.specs.Command.{CommandEnds, IsEmptyEnd, IsProfileOn, text_on}
use Rattle.qos_main.specs.Command.CommandEnds.{unread, faulty, not_loaded, ran, refused}
use Rattle.qos_main.specs.Run.{IsRun, capture_on}
use Rattle.qos_main.proofs.Earlier.{numbered}

-- the status of a number
abbrev status_at : ℕ → Status
status_at n =
    if n == 0 then Fine else if n == 2 then Usage else if n == 3 then Profile else if n == 4 then Read
    else if n == 5 then Write else if n == 6 then Capture else Memory

at-number : (a : Status) → status_at (status_number a) ≡ a
at-number Fine = refl
at-number Usage = refl
at-number Profile = refl
at-number Read = refl
at-number Write = refl
at-number Capture = refl
at-number Memory = refl

-- no two statuses have one number
number-is : (a b : Status) → status_number a ≡ status_number b → a ≡ b
number-is a b is = sym (at-number a) ∙ ap status_at is ∙ at-number b

after-is : (status x : Status) → after_fault status ≡ x → (Write ≡ x → ⊥) → status ≡ x
after-is Fine x is never = absurd (never is)
after-is Usage x is never = is
after-is Profile x is never = is
after-is Read x is never = is
after-is Write x is never = absurd (never is)
after-is Capture x is never = is
after-is Memory x is never = is

module _ (profile : Option Plan) (ended : Ended) (number : ℕ) where
  noted-stay : (note : Note) → noted_lines profile (numbered ended number) note ≡ noted_lines profile ended note
  unfolding run_lines
  noted-stay notes.Nothing = refl
  noted-stay notes.ProfileRead = refl
  noted-stay (notes.Profile fault) = refl

  told-stay : (status : Status) → told_lines status profile (numbered ended number) ≡ told_lines status profile ended
  unfolding told_lines
  told-stay Usage = refl
  told-stay Memory = refl
  told-stay _ = noted-stay ended.note

-- the report says nothing of the number, which is set after it
report-stays : (status : Status) (profile : Option Plan) (ended : Ended) (number : ℕ)
    → report_of status profile (numbered ended number) ≡ report_of status profile ended
unfolding report_of
report-stays status profile ended number =
    ap (λ lines. lines ++ status_line status) (told-stay profile ended number status)

module _ {K : Type 0} {S : Sinks K} {status answer : Status} {profile : Option Plan} {ended : Ended}
    {before after : K} where
  pub reports-stay : (number : ℕ) → Reports S status profile ended before after answer
      → Reports S status profile (numbered ended number) before after answer
  reports-stay number (told text same) = told (rw (report-stays status profile ended number) text) same
  reports-stay number (failed some rise same) = failed (rw (report-stays status profile ended number) some) rise same
  reports-stay number (sink_memory some same) = sink_memory (rw (report-stays status profile ended number) some) same
  reports-stay number (text_memory some same) = text_memory (rw (report-stays Memory profile ended number) some) same

  -- a number but 5 and 7 is that of the status which was reported
  status-is : Reports S status profile ended before after answer → (x : Status) → answer ≡ x → (Write ≡ x → ⊥)
      → (Memory ≡ x → ⊥) → status ≡ x
  status-is (told text same) x is no_write no_memory = sym same ∙ is
  status-is (failed some rise same) x is no_write no_memory = after-is status x (sym same ∙ is) no_write
  status-is (sink_memory some same) x is no_write no_memory = absurd (no_memory (sym same ∙ is))
  status-is (text_memory some same) x is no_write no_memory = absurd (no_memory (sym same ∙ is))

  -- 5 is the number of the status, or the report failed
  write-is : Reports S status profile ended before after answer → answer ≡ Write
      → HasRisen (S.faults before) (S.faults after) ⊎ (status ≡ Write)
  write-is (told text same) is = inr (sym same ∙ is)
  write-is (failed some rise same) is = inl rise
  write-is (sink_memory some same) is = absurd (omega (arith, ap status_number (sym same ∙ is)))
  write-is (text_memory some same) is = absurd (omega (arith, ap status_number (sym same ∙ is)))

  -- where the report doesn't fail, the number is that of the status, or 7
  answer-is : Reports S status profile ended before after answer → (HasRisen (S.faults before) (S.faults after) → ⊥)
      → (answer ≡ status) ⊎ (answer ≡ Memory)
  answer-is (told text same) never = inl same
  answer-is (failed some rise same) never = absurd (never rise)
  answer-is (sink_memory some same) never = inr same
  answer-is (text_memory some same) never = inr same

write-if : (b : Bool) → (if b then Write else Fine) ≡ Write → b ≡ true
write-if true is = refl
write-if false is = absurd (omega (arith, ap status_number is))

-- not the end
abbrev IsNoEnd : Stop → Type 0
IsNoEnd End = ⊥
IsNoEnd _ = Unit {0}

abbrev IsTrue' : Bool → Type 0
IsTrue' true = Unit {0}
IsTrue' false = ⊥

false-is-not-true : false ≡ true → ⊥
false-is-not-true is = subst IsTrue' (sym is) tt

abbrev IsSomething : Option Bool → Type 0
IsSomething None = ⊥
IsSomething (Some b) = Unit {0}

none-in-nothing : (n : ℕ) → slice_get [] n ≡ Some true → ⊥
none-in-nothing n is = subst IsSomething (sym is) tt

-- what the status of a run whose input came to its end is not
ended-is : (b : Bool) (x : Status) → (if b then Write else Fine) ≡ x → (Write ≡ x) ⊎ (Fine ≡ x)
ended-is true x is = inl is
ended-is false x is = inr is

-- what a status of a run says of how the input stopped
is-read : (stop : Stop) (fs : List Bool) → status_for stop fs ≡ Read → IsReadFault stop
is-read NotOpened fs is = tt
is-read (Fault faults.Read) fs is = tt
is-read (Fault fault) fs is = absurd (omega (arith, ap status_number is))
is-read End fs is =
    elim (ended-is (any_true fs) Read is) [
      | inl e ↦ absurd (omega (arith, ap status_number e))
      | inr e ↦ absurd (omega (arith, ap status_number e))
    ]

-- a capture that is at fault was read, and did not come to its end
is-at-fault : (stop : Stop) (fs : List Bool) → status_for stop fs ≡ Capture → (IsReadFault stop → ⊥) × (stop ≡ End → ⊥)
is-at-fault NotOpened fs is = absurd (omega (arith, ap status_number is))
is-at-fault (Fault faults.Read) fs is = absurd (omega (arith, ap status_number is))
is-at-fault (Fault fault) fs is = ((λ e. e), λ e. subst IsNoEnd e tt)
is-at-fault End fs is =
    elim (ended-is (any_true fs) Capture is) [
      | inl e ↦ absurd (omega (arith, ap status_number e))
      | inr e ↦ absurd (omega (arith, ap status_number e))
    ]

-- an output has a fault
is-faulty : (stop : Stop) (fs : List Bool) → status_for stop fs ≡ Write → any_true fs ≡ true
is-faulty NotOpened fs is = absurd (omega (arith, ap status_number is))
is-faulty (Fault faults.Read) fs is = absurd (omega (arith, ap status_number is))
is-faulty (Fault fault) fs is = absurd (omega (arith, ap status_number is))
is-faulty End fs is = write-if (any_true fs) is

-- a run does not end as a faulty profile does
is-no-profile : (stop : Stop) (fs : List Bool) → status_for stop fs ≡ Profile → ⊥
is-no-profile NotOpened fs is = omega (arith, ap status_number is)
is-no-profile (Fault faults.Read) fs is = omega (arith, ap status_number is)
is-no-profile (Fault fault) fs is = omega (arith, ap status_number is)
is-no-profile End fs is =
    elim (ended-is (any_true fs) Profile is) [
      | inl e ↦ omega (arith, ap status_number e)
      | inr e ↦ omega (arith, ap status_number e)
    ]

-- where no output has a fault, the status is that of no outputs
none-faulty : (stop : Stop) (fs : List Bool) → any_true fs ≡ false → status_for stop fs ≡ status_for stop []
none-faulty NotOpened fs none = refl
none-faulty (Fault faults.Read) fs none = refl
none-faulty (Fault fault) fs none = refl
none-faulty End fs none = rw none

-- a list has a place that is true, or none
some-place : (fs : List Bool) → any_true fs ≡ true → (n : ℕ) × (slice_get fs n ≡ Some true)
some-place [] is = absurd (false-is-not-true is)
some-place (true ∷ fs) is = (0, refl)
some-place (false ∷ fs) is = let found = some-place fs is in (suc found.0, found.1)

no-place : (fs : List Bool) → ((n : ℕ) → slice_get fs n ≡ Some true → ⊥) → any_true fs ≡ false
no-place [] none = refl
no-place (true ∷ fs) none = absurd (none 0 refl)
no-place (false ∷ fs) none = no-place fs (λ n is. none (suc n) is)

get-within : (fs : List Bool) (n : ℕ) → slice_get fs n ≡ Some true → n < length fs
get-within [] n is = absurd (none-in-nothing n is)
get-within (f ∷ fs) zero is = omega arith
get-within (f ∷ fs) (suc n) is = omega (arith, get-within fs n is)

-- a note is one of three, and a fault is told by its note
abbrev note_number : Note → ℕ
note_number notes.Nothing = 0
note_number notes.ProfileRead = 1
note_number (notes.Profile fault) = 2

abbrev fault_in : ProfileFault → Note → ProfileFault
fault_in other (notes.Profile fault) = fault
fault_in other _ = other

by-fault : (text : List ℕ) (stop : Stop) {fault : ProfileFault} → fault_of_text text ≡ Some fault
    → status_by text stop ≡ Profile
by-fault text stop is = ap (λ (o : Option ProfileFault). option_map_or (λ _. Profile) o (status_for stop [])) is

by-plan : (text : List ℕ) (stop : Stop) → fault_of_text text ≡ None → status_by text stop ≡ status_for stop []
by-plan text stop none = ap (λ (o : Option ProfileFault). option_map_or (λ _. Profile) o (status_for stop [])) none

no-fault : {ended : Ended} → IsEmptyEnd ended → (n : ℕ) → slice_get ended.write_fault n ≡ Some true → ⊥
no-fault empty n is = none-in-nothing n (subst (λ (fs : List Bool). slice_get fs n ≡ Some true) empty.write_fault is)

module _ {H In Out : Type 0} {G : Ghosts H In Out} {command : Asked} {old new : H} {p : Plan} {status : Status}
    {ended : Ended} (run : IsRun G command p old new status ended) where
  -- a place of a port is below 16
  below : IsProfileOn G command old p → (n : ℕ) → slice_get ended.write_fault n ≡ Some true → n < 16
  below on n fault = omega (arith, get-within ended.write_fault n fault, run.faults, on.limits.ports.1)

  -- a run whose input was read came to the stop of its bytes
  stop-is : ReadsOneWay → G.Tells old → (IsReadFault run.input.stopped → ⊥) → (records : List Record) (stop : Stop)
      → Reads (capture_on G command old) MAX_RECORDS records stop → run.input.stopped ≡ stop
  stop-is one_way tells no_fault records stop reads =
      let outcome = run.outcome tells in
      let same = one_way.one (capture_on G command old) MAX_RECORDS records outcome.records stop outcome.stop reads
      outcome.reads in
      elim outcome.stopped [ inl fault ↦ absurd (no_fault fault) | inr came ↦ came.1 ∙ same.1 ]

module _ {H In Out : Type 0} (G : Ghosts H In Out) (command : Asked) (old new : H) {profile : Option Plan}
    {status : Status} {ended : Ended} where
  cause-of-profile : CommandEnds G command old new profile status ended → status ≡ Profile
      → (fault : ProfileFault) × (ended.note ≡ notes.Profile fault)
  cause-of-profile (unread none is nothing unsure) e = absurd (omega (arith, ap status_number (sym is ∙ e)))
  cause-of-profile (faulty none is fault nothing has) e = (fault, nothing.note_is)
  cause-of-profile (not_loaded none is nothing) e = absurd (omega (arith, ap status_number (sym is ∙ e)))
  cause-of-profile (ran p some on run) e =
      absurd (is-no-profile run.input.stopped ended.write_fault (sym run.status_is ∙ e))
  cause-of-profile (refused none is empty note p on has) e = absurd (omega (arith, ap status_number (sym is ∙ e)))

  fault-of-note : CommandEnds G command old new profile status ended → (fault : ProfileFault)
      → ended.note ≡ notes.Profile fault → G.Tells old → fault_of_text (text_on G command old) ≡ Some fault
  fault-of-note (unread none is nothing unsure) fault e tells =
      absurd (omega (arith, ap note_number (sym nothing.note_is ∙ e)))
  fault-of-note (faulty none is f nothing has) fault e tells =
      has tells ∙ ap (λ (n : Note). Some (fault_in fault n)) (sym nothing.note_is ∙ e)
  fault-of-note (not_loaded none is nothing) fault e tells =
      absurd (omega (arith, ap note_number (sym nothing.note_is ∙ e)))
  fault-of-note (ran p some on run) fault e tells = absurd (omega (arith, ap note_number (sym run.note ∙ e)))
  fault-of-note (refused none is empty note p on has) fault e tells =
      absurd (omega (arith, ap note_number (sym note ∙ e)))

  cause-of-read : CommandEnds G command old new profile status ended → status ≡ Read
      → (ended.note ≡ notes.ProfileRead) ⊎ ((ended.note ≡ notes.Nothing) × (G.IsSureToRead old command.capture → ⊥))
  cause-of-read (unread none is nothing unsure) e = inl nothing.note_is
  cause-of-read (faulty none is fault nothing has) e = absurd (omega (arith, ap status_number (sym is ∙ e)))
  cause-of-read (not_loaded none is nothing) e = absurd (omega (arith, ap status_number (sym is ∙ e)))
  cause-of-read (ran p some on run) e =
      inr (run.note, λ sure. run.read sure (is-read run.input.stopped ended.write_fault (sym run.status_is ∙ e)))
  cause-of-read (refused none is empty note p on has) e = absurd (omega (arith, ap status_number (sym is ∙ e)))

  unread-by-note : CommandEnds G command old new profile status ended → ended.note ≡ notes.ProfileRead
      → G.IsSureToRead old command.profile → ⊥
  unread-by-note (unread none is nothing unsure) e sure = unsure sure
  unread-by-note (faulty none is fault nothing has) e sure = omega (arith, ap note_number (sym nothing.note_is ∙ e))
  unread-by-note (not_loaded none is nothing) e sure = omega (arith, ap note_number (sym nothing.note_is ∙ e))
  unread-by-note (ran p some on run) e sure = omega (arith, ap note_number (sym run.note ∙ e))
  unread-by-note (refused none is empty note p on has) e sure = omega (arith, ap note_number (sym note ∙ e))

  cause-of-write : CommandEnds G command old new profile status ended → status ≡ Write
      → (n : ℕ) × (slice_get ended.write_fault n ≡ Some true)
  cause-of-write (unread none is nothing unsure) e = absurd (omega (arith, ap status_number (sym is ∙ e)))
  cause-of-write (faulty none is fault nothing has) e = absurd (omega (arith, ap status_number (sym is ∙ e)))
  cause-of-write (not_loaded none is nothing) e = absurd (omega (arith, ap status_number (sym is ∙ e)))
  cause-of-write (ran p some on run) e =
      some-place ended.write_fault (is-faulty run.input.stopped ended.write_fault (sym run.status_is ∙ e))
  cause-of-write (refused none is empty note p on has) e = absurd (omega (arith, ap status_number (sym is ∙ e)))

  cause-of-fault : CommandEnds G command old new profile status ended → (n : ℕ)
      → slice_get ended.write_fault n ≡ Some true → G.IsSureToWrite old (output_name command.prefix n) → ⊥
  cause-of-fault (unread none is nothing unsure) n fault sure = no-fault nothing.empty n fault
  cause-of-fault (faulty none is f nothing has) n fault sure = no-fault nothing.empty n fault
  cause-of-fault (not_loaded none is nothing) n fault sure = no-fault nothing.empty n fault
  cause-of-fault (ran p some on run) n fault sure = run.write n sure fault
  cause-of-fault (refused none is empty note p on has) n fault sure = no-fault empty n fault

  module _ (one_way : ReadsOneWay) where
    cause-of-capture : CommandEnds G command old new profile status ended → status ≡ Capture → G.Tells old
        → (records : List Record) → IsWholeCapture MAX_RECORDS (capture_on G command old) records → ⊥
    cause-of-capture (unread none is nothing unsure) e tells records whole =
        omega (arith, ap status_number (sym is ∙ e))
    cause-of-capture (faulty none is fault nothing has) e tells records whole =
        omega (arith, ap status_number (sym is ∙ e))
    cause-of-capture (not_loaded none is nothing) e tells records whole =
        omega (arith, ap status_number (sym is ∙ e))
    cause-of-capture (ran p some on run) e tells records whole =
        let stopped = is-at-fault run.input.stopped ended.write_fault (sym run.status_is ∙ e) in
        stopped.1 (stop-is run one_way tells stopped.0 records End whole)
    cause-of-capture (refused none is empty note p on has) e tells records whole =
        omega (arith, ap status_number (sym is ∙ e))

    -- the status where no call fails is that of the bytes, or memory was refused
    status-by : CommandEnds G command old new profile status ended → G.Tells old → AreSure G command old
        → (records : List Record) (stop : Stop) → Reads (capture_on G command old) MAX_RECORDS records stop
        → (status ≡ status_by (text_on G command old) stop) ⊎ (status ≡ Memory)
    status-by (unread none is nothing unsure) tells sure records stop reads = absurd (unsure sure.profile)
    status-by (faulty none is fault nothing has) tells sure records stop reads =
        inl (is ∙ sym (by-fault (text_on G command old) stop (has tells)))
    status-by (not_loaded none is nothing) tells sure records stop reads = inr is
    status-by (ran p some on run) tells sure records stop reads =
        let fine = no-place ended.write_fault (λ n fault. run.write n (sure.outputs n (below run on n fault)) fault) in
        inl (run.status_is
        ∙ none-faulty run.input.stopped ended.write_fault fine
        ∙ ap (λ (s : Stop). status_for s []) (stop-is run one_way tells (run.read sure.capture) records stop reads)
        ∙ sym (by-plan (text_on G command old) stop (on.no_fault tells)))
    status-by (refused none is empty note p on has) tells sure records stop reads = inr is

-- What a command ends with, and how that was reported.
module _ {H In Out K : Type 0} (G : Ghosts H In Out) (S : Sinks K) (command : Asked) (old new : H) (before after : K)
    {profile : Option Plan} {status answer : Status} (ended : Ended) (number : ended.status ≡ status_number answer)
    (reports : Reports S status profile ended before after answer) (one_way : ReadsOneWay)
    (ends : CommandEnds G command old new profile status ended) where
  answered : (x : Status) → ended.status ≡ status_number x → answer ≡ x
  answered x is = number-is answer x (sym number ∙ is)

  -- the status that was reported, where the number is that of another than 5 and 7
  status-of : (x : Status) → (Write ≡ x → ⊥) → (Memory ≡ x → ⊥) → ended.status ≡ status_number x → status ≡ x
  status-of x no_write no_memory is = status-is reports x (answered x is) no_write no_memory

  reported-3 : ended.status ≡ 3 → status ≡ Profile
  reported-3 = status-of Profile (λ e. omega (arith, ap status_number e)) (λ e. omega (arith, ap status_number e))

  reported-4 : ended.status ≡ 4 → status ≡ Read
  reported-4 = status-of Read (λ e. omega (arith, ap status_number e)) (λ e. omega (arith, ap status_number e))

  reported-6 : ended.status ≡ 6 → status ≡ Capture
  reported-6 = status-of Capture (λ e. omega (arith, ap status_number e)) (λ e. omega (arith, ap status_number e))

  pub has-causes : HasCauses G command old (HasRisen (S.faults before) (S.faults after)) ended
  has-causes = record {
    profile = λ is. cause-of-profile G command old new ends (reported-3 is);
    profile_note = fault-of-note G command old new ends;
    read = λ is. cause-of-read G command old new ends (reported-4 is);
    read_note = unread-by-note G command old new ends;
    write = λ is.
        elim (write-is reports (answered Write is)) [
          | inl rise ↦ inl rise
          | inr e ↦ inr (cause-of-write G command old new ends e)
        ];
    one_output = cause-of-fault G command old new ends;
    capture = λ is. cause-of-capture G command old new one_way ends (reported-6 is);
  }

  pub is-complete : IsComplete G command old (HasRisen (S.faults before) (S.faults after)) ended
  is-complete tells sure never records stop reads =
      elim (answer-is reports never) [
        | inl same ↦ elim (status-by G command old new one_way ends tells sure records stop reads) [
          | inl is ↦ inl (number ∙ ap status_number (same ∙ is))
          | inr is ↦ inr (number ∙ ap status_number (same ∙ is))
        ]
        | inr is ↦ inr (number ∙ ap status_number is)
      ]
