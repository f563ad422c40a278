-- Why a command ends so.
use Rattle.std.specs.Prelude.{◌≡◌, ◌⊎◌, ◌<◌, ℕ, true, List, [], Some, slice_get}
use Rattle.std.specs.Option.{option_map_or}
use Rattle.qos_io.specs.declared.shelf.Shelf.{Ghosts}
use Rattle.qos_pcap.specs.declared.fault.Stop.{Stop}
use Rattle.qos_pcap.specs.Format.{Record}
use Rattle.qos_pcap.specs.Reads.{Reads, IsWholeCapture}
use Rattle.pkt_receive.specs.declared.limits.TheConstants.{MAX_RECORDS}
use Rattle.qos_profile.specs.declared.fault.ProfileFault.{ProfileFault}
use Rattle.qos_profile.specs.Faults.{fault_of_text}
use Rattle.qos_words.specs.Names.{output_name}
use Rattle.qos_words.specs.Words.{Asked}
use Rattle.run_report.specs.declared.ended.Ended.{Ended}
use Rattle.run_report.specs.declared.status.Status.{Status}
use Rattle.run_report.specs.declared.ended.Note.TheVariants as notes
use Rattle.run_report.specs.declared.status.Status.TheVariants.{Profile}
use Rattle.qos_main.specs.Command.{text_on}
use Rattle.qos_main.specs.Run.{capture_on}
use Rattle.run_report.specs.Status.{status_for, status_number}

-- the status by the bytes of the profile's text and how the capture stops, where no call fails
abbrev pub status_by : List ℕ → Stop → Status
status_by text stop =
    option_map_or (λ fault. Profile) (fault_of_text text) (status_for stop [])

module _ {H In Out : Type 0} (G : Ghosts H In Out) (command : Asked) (old : H) where
  -- no call on a name of the command fails
  pub record AreSure : Type 0 where
    pub profile : G.IsSureToRead old command.profile
    pub capture : G.IsSureToRead old command.capture
    pub outputs : (n : ℕ) → n < 16 → G.IsSureToWrite old (output_name command.prefix n)

  -- the cause of each status but 2, which the words alone tell, and 7, which is free; `Unreported` says that the report's sink has counted a fault
  pub record HasCauses (Unreported : Type 0) (ended : Ended) : Type 0 where
    pub profile : ended.status ≡ 3 → (fault : ProfileFault) × (ended.note ≡ notes.Profile fault)
    pub profile_note : (fault : ProfileFault) → ended.note ≡ notes.Profile fault → G.Tells old → fault_of_text (text_on G command old) ≡ Some fault
    -- the profile could not be read, or the capture
    pub read : ended.status ≡ 4 → (ended.note ≡ notes.ProfileRead) ⊎ ((ended.note ≡ notes.Nothing) × (G.IsSureToRead old command.capture → ⊥))
    pub read_note : ended.note ≡ notes.ProfileRead → G.IsSureToRead old command.profile → ⊥
    pub write : ended.status ≡ 5 → Unreported ⊎ ((n : ℕ) × (slice_get ended.write_fault n ≡ Some true))
    pub one_output : (n : ℕ) → slice_get ended.write_fault n ≡ Some true → G.IsSureToWrite old (output_name command.prefix n) → ⊥
    pub capture : ended.status ≡ 6 → G.Tells old → (records : List Record) → IsWholeCapture MAX_RECORDS (capture_on G command old) records → ⊥

  -- where no call on a name fails, nor the report, the files' bytes alone say how the command ends, but for want of memory
  abbrev pub IsComplete : Type 0 → Ended → Type 0
  IsComplete Unreported ended =
      G.Tells old → AreSure → (Unreported → ⊥) → (records : List Record) (stop : Stop)
      → Reads (capture_on G command old) MAX_RECORDS records stop
      → (ended.status ≡ status_number (status_by (text_on G command old) stop)) ⊎ (ended.status ≡ 7)
