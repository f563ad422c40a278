-- What was loaded, in the words of the command.
use Rattle.std.specs.Prelude.{◌≡◌, ℕ, List, [], Some, Result, Ok, Err}
use Rattle.std.proofs.Common.{subst}
use Rattle.qos_io.specs.declared.shelf.Shelf.{Ghosts}
use Rattle.qos_io.specs.Bytes.{bytes_in}
use Rattle.profile_plan.specs.Profile.{Plan, KeepsLimits}
use Rattle.port_files.specs.Among.{ChangesAmong}
use Rattle.profile_file.specs.declared.fault.LoadFault.{LoadFault}
use Rattle.profile_file.specs.declared.fault.LoadFault.TheVariants as loads
use Rattle.profile_file.specs.Loaded.{IsLoaded}
use Rattle.qos_profile.specs.declared.fault.ProfileFault.{ProfileFault}
use Rattle.qos_profile.specs.Faults.{fault_of_text}
use Rattle.qos_words.specs.Words.{Asked}
use Rattle.run_report.specs.declared.ended.Ended.{Ended}
use Rattle.run_report.specs.declared.ended.Note.{Note}
use Rattle.qos_main.specs.Command.{IsEmptyEnd, IsNothing, IsProfileOn, text_on}
use Rattle.qos_main.proofs.Earlier.{numbered}

pub still-empty : (ended : Ended) (number : ℕ) → IsEmptyEnd ended → IsEmptyEnd (numbered ended number)
still-empty ended number is = record {
  ports = is.ports;
  meters = is.meters;
  inputs = is.inputs;
  write_fault = is.write_fault;
}

-- nothing was scheduled and no file has changed, whatever the number
pub is-nothing : {H In Out : Type 0} {G : Ghosts H In Out} {old new : H} {note : Note} (ended : Ended) (number : ℕ)
    → IsEmptyEnd ended → ended.note ≡ note → ChangesAmong G [] old new
    → IsNothing G old new note (numbered ended number)
is-nothing ended number empty note changes = record {
  empty = still-empty ended number empty;
  note_is = note;
  files = changes;
}

module _ {H In Out : Type 0} (G : Ghosts H In Out) (command : Asked) (shelf : H) (name : List ℕ)
    (named : name ≡ command.profile) where
  abbrev IsAnswerFor : List ℕ → Result Plan LoadFault → Type 0
  IsAnswerFor file answer = IsLoaded (bytes_in (G.file shelf file)) answer

  -- an answer for the file of that name is one for the command's profile
  of-command : (answer : Result Plan LoadFault) → IsAnswerFor name answer → IsAnswerFor command.profile answer
  of-command answer = subst (λ (file : List ℕ). IsAnswerFor file answer) named

  pub profile-on : (p : Plan) → KeepsLimits p → (G.Tells shelf → IsAnswerFor name (Ok p))
      → IsProfileOn G command shelf p
  profile-on p limits loaded = record {
    limits = limits;
    no_fault = λ tells. (of-command (Ok p) (loaded tells)).0;
    profile = λ tells. (of-command (Ok p) (loaded tells)).1;
  }

  pub fault-on : (answer : Result Plan LoadFault) (fault : ProfileFault) → answer ≡ Err (loads.Fault fault)
      → (G.Tells shelf → IsAnswerFor name answer) → G.Tells shelf → fault_of_text (text_on G command shelf) ≡ Some fault
  fault-on answer fault is loaded tells =
      of-command (Err (loads.Fault fault)) (subst (λ (a : Result Plan LoadFault). IsAnswerFor name a) is (loaded tells))
