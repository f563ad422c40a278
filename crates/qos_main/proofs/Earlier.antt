-- What a run on a shelf comes to, said from an earlier shelf on, from which no file has changed; and with another
-- number in the end.
use Rattle.std.specs.Prelude.{◌≡◌, ◌≤◌, ℕ, List, [], length}
use Rattle.std.specs.List.{Contains}
use Rattle.std.proofs.Common.{ap, ◌∙◌, arith}
use Rattle.qos_io.specs.declared.shelf.Shelf.{Ghosts}
use Rattle.qos_io.specs.Bytes.{bytes_in}
use Rattle.profile_plan.specs.Profile.{Plan}
use Rattle.port_files.specs.Among.{ChangesAmong, ChangesAmong-then, ChangesAmong-wider}
use Rattle.qos_pipeline.specs.Since.{AreLeft-since, AreWritten-since}
use Rattle.qos_words.specs.Names.{output_name, output_names}
use Rattle.qos_words.specs.Words.{Asked}
use Rattle.run_report.specs.declared.ended.Ended.{Ended}
use Rattle.run_report.specs.declared.ended.InputEnd.{InputEnd}
use Rattle.run_report.specs.declared.status.Status.{Status}
use Rattle.qos_main.specs.Run.{IsOutcome, IsRun, IsRefused, HasRefused, capture_on, changes_of}

pub nowhere : (name : List ℕ) → Contains [] name → ⊥
nowhere name among = absurd (omega (arith, among.1))

-- the end with another number
abbrev pub numbered : Ended → ℕ → Ended
numbered ended number = record ended { status = number }

module _ {H In Out : Type 0} {G : Ghosts H In Out} (command : Asked) (p : Plan) (first old new : H)
    (kept : ChangesAmong G [] first old) where
  bytes-same : capture_on G command old ≡ capture_on G command first
  bytes-same = ap bytes_in (kept.files command.capture (nowhere command.capture))

  abbrev ToOutputs : H → Type 0
  ToOutputs shelf = ChangesAmong G (output_names command.prefix (length p.ports)) shelf new

  files-since : ToOutputs old → ToOutputs first
  files-since changes = ChangesAmong-then (ChangesAmong-wider (λ n among. absurd (nowhere n among)) kept) changes

  outcome-since : G.Tells first → G.faults old ≤ G.faults new → (input : InputEnd) (ended : Ended) (number : ℕ)
      → IsOutcome p (capture_on G command old) (changes_of G command old new) input ended
      → IsOutcome p (capture_on G command first) (changes_of G command first new) input (numbered ended number)
  outcome-since tells on input ended number is = record {
    records = is.records;
    stop = is.stop;
    reads = rw bytes-same at is.reads;
    given = is.given;
    rest = is.rest;
    parts = is.parts;
    stopped = is.stopped;
    not_opened = is.not_opened;
    origin = is.origin;
    origin_is = rw bytes-same at is.origin_is;
    logs = is.logs;
    merge = is.merge;
    ports = is.ports;
    outputs = AreWritten-since tells kept on (output_name command.prefix) p is.origin is.records ended.ports
        ended.write_fault is.outputs;
    account = is.account;
  }

  pub IsRun-since : (status : Status) (ended : Ended) (number : ℕ) → IsRun G command p old new status ended
      → IsRun G command p first new status (numbered ended number)
  IsRun-since status ended number run = record {
    input = run.input;
    one_input = run.one_input;
    ports = run.ports;
    faults = run.faults;
    status_is = run.status_is;
    read = λ sure fault. run.read ((kept.same_to_read command.capture (nowhere command.capture)).1 sure) fault;
    absent = λ tells none unsure.
        run.absent (kept.tells.1 tells) (kept.files command.capture (nowhere command.capture) ∙ none)
        (λ sure. unsure ((kept.same_to_read command.capture (nowhere command.capture)).0 sure));
    write = λ n sure fault. run.write n ((kept.same_to_write (output_name command.prefix n)).1 sure) fault;
    outcome = λ tells.
        outcome-since tells run.files.never_falls run.input ended number (run.outcome (kept.tells.1 tells));
    meters = run.meters;
    note = run.note;
    files = files-since run.files;
  }

  refused-since : G.Tells first → G.faults old ≤ G.faults new → IsRefused G command p old new
      → IsRefused G command p first new
  refused-since tells on is = record {
    records = is.records;
    stop = is.stop;
    reads = rw bytes-same at is.reads;
    seen = is.seen;
    origin = is.origin;
    seen_is = rw bytes-same at is.seen_is;
    left = AreLeft-since tells kept on (output_name command.prefix) p is.origin 0 is.seen is.left;
  }

  pub HasRefused-since : HasRefused G command p old new → HasRefused G command p first new
  HasRefused-since has = record {
    left = λ tells. refused-since tells has.files.never_falls (has.left (kept.tells.1 tells));
    files = files-since has.files;
  }
