-- How a command ends.
use Rattle.std.specs.Prelude.{◌≡◌, ℕ, List, [], map, String, string_bytes, Option, None, Some}
use Rattle.std.specs.declared.alloc.Global.{Global}
use Rattle.qos_io.specs.declared.shelf.Shelf.{Ghosts}
use Rattle.qos_io.specs.declared.sink.Sink.{Ghosts as Sinks}
use Rattle.qos_io.specs.Bytes.{bytes_in}
use Rattle.profile_plan.specs.Profile.{Plan, KeepsLimits}
use Rattle.port_files.specs.Among.{ChangesAmong}
use Rattle.profile_file.specs.Loaded.{text_in}
use Rattle.qos_profile.specs.declared.fault.ProfileFault.{ProfileFault}
use Rattle.qos_profile.specs.Faults.{fault_of_text}
use Rattle.qos_profile.specs.Planned.{profile_of}
use Rattle.qos_words.specs.Words.{Asked, asked_of}
use Rattle.run_report.specs.declared.ended.Ended.{Ended}
use Rattle.run_report.specs.declared.ended.Note.{Note}
use Rattle.run_report.specs.declared.ended.Note.TheVariants.{Nothing, ProfileRead, Profile}
use Rattle.run_report.specs.declared.status.Status.{Status}
use Rattle.run_report.specs.declared.status.Status.TheVariants as statuses
use Rattle.run_report.specs.Reports.{Reports}
use Rattle.run_report.specs.Status.{status_number}
use Rattle.qos_main.specs.Run.{HasRefused, IsRun}

-- the command that a program's words ask for
abbrev pub asked : List (String Global) → Option Asked
asked words = asked_of (map string_bytes words)

-- what holds of the command that a program's words ask for, if they ask for one
abbrev pub IfAsked : List (String Global) → (Asked → Type 0) → Type 0
IfAsked words P = (command : Asked) → asked words ≡ Some command → P command

-- the text of a command's profile on a shelf, of which no more is read than one byte past the longest
abbrev pub text_on : {H In Out : Type 0} → Ghosts H In Out → Asked → H → List ℕ
text_on G command shelf = text_in (bytes_in (G.file shelf command.profile))

-- where the shelf tells its files, this is the profile of the command
pub record IsProfileOn {H In Out : Type 0} (G : Ghosts H In Out) (command : Asked) (shelf : H) (p : Plan) : Type 0 where
  pub limits : KeepsLimits p
  pub no_fault : G.Tells shelf → fault_of_text (text_on G command shelf) ≡ None
  pub profile : G.Tells shelf → p ≡ profile_of (text_on G command shelf)

-- nothing was scheduled
pub record IsEmptyEnd (ended : Ended) : Type 0 where
  pub ports : ended.ports ≡ []
  pub meters : ended.meters ≡ []
  pub inputs : ended.inputs ≡ []
  pub write_fault : ended.write_fault ≡ []

-- nothing was scheduled, for this reason, and no file has changed
pub record IsNothing {H In Out : Type 0} (G : Ghosts H In Out) (old new : H) (note : Note) (ended : Ended) : Type 0 where
  pub empty : IsEmptyEnd ended
  pub note_is : ended.note ≡ note
  pub files : ChangesAmong G [] old new

module _ {H In Out : Type 0} (G : Ghosts H In Out) (command : Asked) (old new : H) where
  -- the ways in which a command ends, on a shelf that was `old` and is `new`, and the profile that was run
  pub data CommandEnds (profile : Option Plan) (status : Status) (ended : Ended) : Type 0 where
    -- the profile could not be read
    unread : profile ≡ None → status ≡ statuses.Read → IsNothing G old new ProfileRead ended → (G.IsSureToRead old command.profile → ⊥)
        → CommandEnds profile status ended
    -- its text has this fault
    faulty : profile ≡ None → status ≡ statuses.Profile → (fault : ProfileFault) → IsNothing G old new (Profile fault) ended
        → (G.Tells old → fault_of_text (text_on G command old) ≡ Some fault) → CommandEnds profile status ended
    -- memory was refused for it
    not_loaded : profile ≡ None → status ≡ statuses.Memory → IsNothing G old new Nothing ended → CommandEnds profile status ended
    -- it was run
    ran : (p : Plan) → profile ≡ Some p → IsProfileOn G command old p → IsRun G command p old new status ended → CommandEnds profile status ended
    -- memory was refused in its run
    refused : profile ≡ None → status ≡ statuses.Memory → IsEmptyEnd ended → ended.note ≡ Nothing
        → (p : Plan) → IsProfileOn G command old p → HasRefused G command p old new → CommandEnds profile status ended

-- the report of what a command ended with was put into a sink, which was `before` and is `after`, and the program ends so
abbrev pub IsReported : {K : Type 0} → Sinks K → Option Plan → Status → K → K → Ended → Type 0
IsReported G profile status before after ended =
    (answer : Status) × (ended.status ≡ status_number answer) × Reports G status profile ended before after answer
