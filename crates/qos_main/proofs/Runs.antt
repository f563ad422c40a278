-- What a run comes to, from what its parts did.
use Rattle.std.proofs.Common.{◌≡◌, ◌∙◌, ◌⊎◌, ◌≤◌, inl, inr, ℕ, Bool, true, List, [], ◌∷◌, length, slice_get, Some, None}
use Rattle.std.proofs.Common.{Result, Ok, Err, OnErr, refl, sym, ap, subst, arith}
use Rattle.std.specs.Option.{option_map}
use Rattle.std.specs.List.{Contains}
use Rattle.std.proofs.lemmas.Option.{slice_get-map}
use Rattle.qos_base.specs.Time.{origin_of}
use Rattle.qos_io.specs.Bytes.{bytes_in}
use Rattle.qos_io.specs.Shelves.{ChangesOnly}
use Rattle.qos_io.specs.declared.shelf.Shelf.{Ghosts}
use Rattle.qos_io.specs.declared.source.Source.{Ghosts as Sources}
use Rattle.qos_pcap.specs.declared.fault.Stop.{Stop}
use Rattle.qos_pcap.specs.declared.fault.Stop.TheVariants.{NotOpened}
use Rattle.qos_pcap.specs.First.{first_stamp}
use Rattle.qos_pcap.specs.Format.{Record}
use Rattle.qos_pcap.specs.Reads.{Reads, ReadsOneWay}
use Rattle.profile_plan.specs.Profile.{Plan}
use Rattle.pkt_receive.specs.declared.limits.TheConstants.{MAX_RECORDS}
use Rattle.pkt_receive.specs.declared.receive.Receiver.{Receiver}
use Rattle.pkt_receive.specs.Colours.{Colours, colours_in}
use Rattle.pkt_receive.specs.Fate.{admitted, to_port}
use Rattle.pkt_receive.specs.Losses.{losses_of}
use Rattle.pkt_receive.specs.Marks.{AreLegalLogs, AreLogsFor}
use Rattle.pkt_receive.specs.Receiver.{HasOrigin, IsFine, IsFresh, IsReadFault, StaysReceiver, ToCome}
use Rattle.port_files.specs.Among.{ChangesAmong, ChangesAmong-then, ChangesAmong-unchanged, ChangesAmong-wider}
use Rattle.port_files.specs.Change.{FileChange}
use Rattle.run_journal.specs.declared.ended.PortEnd.{PortEnd}
use Rattle.run_journal.specs.Schedule.{arrivals_of}
use Rattle.meter_table.specs.declared.mark.MeterLog.{MeterLog}
use Rattle.qos_pipeline.specs.PortEnds.{AreLeft, ArePortEnds, AreWritten, journals}
use Rattle.qos_pipeline.specs.Since.{AreLeft-since, AreWritten-since}
use Rattle.qos_pipeline.specs.Took.{IsSummed, Took}
use Rattle.qos_words.specs.Names.{output_name, output_names}
use Rattle.qos_words.specs.Words.{Asked}
use Rattle.run_report.specs.declared.ended.Ended.{Ended}
use Rattle.run_report.specs.declared.ended.InputEnd.{InputEnd}
use Rattle.run_report.specs.declared.ended.Note.TheVariants.{Nothing}
use Rattle.run_report.specs.declared.status.Status.{Status}
use Rattle.qos_main.specs.Ended.{IsEndOf, sums_over}
use Rattle.qos_main.specs.Run.{HasRefused, IsOutcome, IsRefused, IsRun, capture_on, changes_of}
use Rattle.run_report.specs.Status.{status_for}
use Rattle.qos_main.proofs.Accounts.{is-account}

nothing-is : {A : Type 0} (xs : List A) → length xs ≡ 0 → xs ≡ []
nothing-is [] is = refl
nothing-is (x ∷ xs) is = absurd (omega (arith, is))

-- What the opening of an input has done to a shelf, and the receiver that it made.
pub record HasOpened {H In Out : Type 0} (G : Ghosts H In Out) (F : Sources In) (name : List ℕ) (old mid : H)
    (rx : Receiver In F) : Type 0 where
  pub told : G.Tells old → (records : List Record) (stop : Stop)
      → Reads (bytes_in (G.file old name)) MAX_RECORDS records stop → ToCome F rx records stop
  pub origin : G.Tells old → HasOrigin (bytes_in (G.file old name)) rx
  pub absent : G.Tells old → G.file old name ≡ None → (G.IsSureToRead old name → ⊥)
      → (rx.head ≡ None) × (rx.stopped ≡ NotOpened)
  pub fresh : IsFresh 0 rx
  pub fine : G.IsSureToRead old name → IsFine F rx
  pub kept : ChangesAmong G [] old mid

-- an input that has no head gives no record, or nothing is said of what it gives
none-to-come : {S : Type 0} (F : Sources S) (rx : Receiver S F) (records : List Record) (stop : Stop) → rx.head ≡ None
    → ToCome F rx records stop → ToCome F rx [] stop
none-to-come F rx records stop none come =
    let either : IsReadFault rx.stopped ⊎ ((records ≡ []) × (rx.stopped ≡ stop)) = rw none at come in
    rw none (elim either [ inl fault ↦ inl fault | inr done ↦ inr (refl, done.1) ])

module _ {H In Out : Type 0} (G : Ghosts H In Out) (command : Asked) (p : Plan) (old mid : H)
    (one_way : ReadsOneWay) where
  none-named : (name : List ℕ) → Contains [] name → ⊥
  none-named name among = absurd (omega (arith, among.1))

  among-outputs : ChangesAmong G [] old mid → ChangesAmong G (output_names command.prefix (length p.ports)) old mid
  among-outputs changes = ChangesAmong-wider (λ n among. absurd (none-named n among)) changes

  -- memory was refused before an output was tried
  pub refused-early : ChangesAmong G [] old mid → HasRefused G command p old mid
  refused-early kept = record {
    left = λ tells.
        let read = one_way.some (capture_on G command old) MAX_RECORDS in
        record {
          records = read.0;
          stop = read.1;
          reads = read.2;
          seen = [];
          origin = 0;
          seen_is = inr refl;
          left = λ n plan here. inl (record {
            file = inl (kept.files (output_name command.prefix n) (none-named (output_name command.prefix n)));
            closed = kept.closed tells (output_name command.prefix n) (none-named (output_name command.prefix n));
          });
        };
    files = among-outputs kept;
  }

module _ {H In Out : Type 0} (G : Ghosts H In Out) (F : Sources In) (command : Asked) (p : Plan) (old mid new : H)
    (one_way : ReadsOneWay) (rx : Receiver In F) (opened : HasOpened G F command.capture old mid rx)
    (others : ChangesAmong G (output_names command.prefix (length p.ports)) mid new) where
  files-are : ChangesAmong G (output_names command.prefix (length p.ports)) old new
  files-are = ChangesAmong-then (among-outputs G command p old mid one_way opened.kept) others

  abbrev Left : List Record → Type 0
  Left records = AreLeft p rx.origin 0 records (changes_of G command old new)

  seen-left : (records : List Record) (stop : Stop) → Reads (capture_on G command old) MAX_RECORDS records stop
      → HasOrigin (capture_on G command old) rx → ToCome F rx records stop
      → ((records : List Record) (stop : Stop) → ToCome F rx records stop → Left records)
      → IsRefused G command p old new
  seen-left records stop reads (inl origin) come left = record {
    records = records;
    stop = stop;
    reads = reads;
    seen = records;
    origin = rx.origin;
    seen_is = inl (refl, origin);
    left = left records stop come;
  }
  seen-left records stop reads (inr none) come left = record {
    records = records;
    stop = stop;
    reads = reads;
    seen = [];
    origin = rx.origin;
    seen_is = inr refl;
    left = left [] stop (none-to-come F rx records stop none.0 come);
  }

  -- memory was refused with the outputs
  pub refused-late : (G.Tells mid → (records : List Record) (stop : Stop) → ToCome F rx records stop
      → AreLeft p rx.origin 0 records (changes_of G command mid new)) → HasRefused G command p old new
  refused-late left = record {
    left = λ tells.
        let read = one_way.some (capture_on G command old) MAX_RECORDS in
        seen-left read.0 read.1 read.2 (opened.origin tells) (opened.told tells read.0 read.1 read.2)
        (λ records stop come.
        AreLeft-since tells opened.kept others.never_falls (output_name command.prefix) p rx.origin 0 records
        (left (opened.kept.tells.1 tells) records stop come));
    files = files-are;
  }

-- what a command whose profile was had ends with
abbrev pub end_of : ℕ → List PortEnd → List MeterLog → List InputEnd → List Bool → Ended
end_of status ports logs inputs faults =
    record { status = status; ports = ports; meters = logs; inputs = inputs; write_fault = faults; note = Nothing }

-- what the run with its outputs has come to
pub record HasRun {S : Type 0} {F : Sources S} (p : Plan) (first rx : Receiver S F) (ports : List PortEnd)
    (logs : List MeterLog) : Type 0 where
  pub count : length ports ≡ length p.ports
  pub ends : ArePortEnds p first.origin ports
  pub summed : IsSummed rx (journals ports)
  pub stays : StaysReceiver F first rx
  pub legal : AreLegalLogs p logs

module _ {S : Type 0} {F : Sources S} (bytes : List ℕ) (p : Plan) (first rx : Receiver S F) (fresh : IsFresh 0 first)
    (ports : List PortEnd) (logs : List MeterLog) (run : HasRun p first rx ports logs) (input : InputEnd)
    (numbers : IsEndOf rx (sums_over ports) input) where
  -- where no first head was read, nothing was given
  origin-is : (given : List Record) → HasOrigin bytes first → rx.read ≡ length given
      → (first.origin ≡ origin_of (first_stamp bytes MAX_RECORDS ∷ [])) ⊎ (given ≡ [])
  origin-is given (inl is) read = inl is
  origin-is given (inr none) read =
      inr (nothing-is given (sym read ∙ ap (λ (r : Receiver S F). r.read) (run.stays.still none.0) ∙ fresh.read_is))

  pub is-outcome : (change : ℕ → FileChange) (status : ℕ) (inputs : List InputEnd) (faults : List Bool)
      (records : List Record) (stop : Stop) → Reads bytes MAX_RECORDS records stop → HasOrigin bytes first
      → Took p records stop rx (journals ports) logs → AreWritten p first.origin records change ports faults
      → IsOutcome p bytes change input (end_of status ports logs inputs faults)
  is-outcome change status inputs faults records stop reads origin took written =
      let given : List Record = took.given in
      let colours : Colours = colours_in logs in
      let first_input : rx.input ≡ 0 = run.stays.input ∙ fresh.input_is in
      let losses : rx.losses ≡ losses_of p colours 0 given =
      subst (λ (i : ℕ). rx.losses ≡ losses_of p colours i given) first_input took.taken.losses in
      record {
        records = records;
        stop = stop;
        reads = reads;
        given = given;
        rest = took.rest;
        parts = took.parts;
        stopped = rw numbers.stopped took.stopped;
        not_opened = λ is.
            nothing-is given (sym took.read ∙ (run.stays.opened (sym numbers.stopped ∙ is)).1 ∙ fresh.read_is);
        origin = first.origin;
        origin_is = origin-is given origin took.read;
        logs = subst (λ (i : ℕ). AreLogsFor p first.origin i given logs) first_input
            (subst (λ (o : ℕ). AreLogsFor p o rx.input given logs) run.stays.origin took.logs_are);
        merge = λ n end at.
            subst (λ (i : ℕ). arrivals_of end.journal ≡ to_port n (admitted p colours i given)) first_input
            (took.taken.merge n end.journal
            (slice_get-map (λ (e : PortEnd). e.journal) ports n ∙ ap (option_map (λ (e : PortEnd). e.journal)) at));
        ports = run.ends;
        outputs = written;
        account = is-account p colours first.origin given rx ports input numbers run.count run.ends run.summed
            took.read losses;
      }

-- what holds anyway holds of a failure
pub on_err : {A E P : Type 0} (r : Result A E) → P → OnErr r P
on_err (Ok x) p = tt
on_err (Err e) p = p

-- a call that changes no file and closes nothing
pub kept-of : {H In Out : Type 0} (G : Ghosts H In Out) {old mid : H} → ChangesOnly G None old mid
    → (G.Tells old → G.closed mid ≡ G.closed old) → G.faults old ≤ G.faults mid → ChangesAmong G [] old mid
kept-of G others closed on = ChangesAmong-unchanged [] others closed on

-- the run of a command over its profile, where memory was not refused
module _ {H In Out : Type 0} (G : Ghosts H In Out) (F : Sources In) (command : Asked) (p : Plan) (old mid new : H)
    (one_way : ReadsOneWay) (first rx : Receiver In F) (opened : HasOpened G F command.capture old mid first)
    (ports : List PortEnd) (logs : List MeterLog) (faults : List Bool) (run : HasRun p first rx ports logs)
    (input : InputEnd) (numbers : IsEndOf rx (sums_over ports) input)
    (others : ChangesAmong G (output_names command.prefix (length p.ports)) mid new) where
  pub is-run : (status : Status) (number : ℕ) → length faults ≡ length p.ports → status ≡ status_for rx.stopped faults
      → ((n : ℕ) → G.IsSureToWrite mid (output_name command.prefix n) → slice_get faults n ≡ Some true → ⊥)
      → (G.Tells mid → (records : List Record) (stop : Stop) → ToCome F first records stop
      → Took p records stop rx (journals ports) logs)
      → (G.Tells mid → (records : List Record) (stop : Stop) → ToCome F first records stop
      → AreWritten p first.origin records (changes_of G command mid new) ports faults)
      → IsRun G command p old new status (end_of number ports logs (input ∷ []) faults)
  is-run status number count status_is sure took written = record {
    input = input;
    one_input = refl;
    ports = run.count;
    faults = count;
    status_is = status_is ∙ ap (λ (stop : Stop). status_for stop faults) (sym numbers.stopped);
    read = λ readable fault. (run.stays.fine (opened.fine readable)).none_failed (rw numbers.stopped at fault);
    absent = λ tells none unsure.
        let first_is = opened.absent tells none unsure in
        numbers.stopped ∙ ap (λ (r : Receiver In F). r.stopped) (run.stays.still first_is.0) ∙ first_is.1;
    write = λ n writable. sure n ((opened.kept.same_to_write (output_name command.prefix n)).1 writable);
    outcome = λ tells.
        let read = one_way.some (capture_on G command old) MAX_RECORDS in
        let come : ToCome F first read.0 read.1 = opened.told tells read.0 read.1 read.2 in
        let told : G.Tells mid = opened.kept.tells.1 tells in
        is-outcome (capture_on G command old) p first rx opened.fresh ports logs run input numbers
        (changes_of G command old new) number (input ∷ []) faults read.0 read.1 read.2 (opened.origin tells)
        (took told read.0 read.1 come)
        (AreWritten-since tells opened.kept others.never_falls (output_name command.prefix) p first.origin read.0 ports
        faults (written told read.0 read.1 come));
    meters = run.legal;
    note = refl;
    files = files-are G F command p old mid new one_way first opened others;
  }
