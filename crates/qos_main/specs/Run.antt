-- What the run of a profile comes to: what an operator may rely on.
use Rattle.std.specs.Prelude.{◌≡◌, ◌⊎◌, ℕ, true, List, [], ◌∷◌, ◌++◌, length, Some, None, slice_get}
use Rattle.qos_base.specs.Time.{origin_of}
use Rattle.qos_io.specs.declared.shelf.Shelf.{Ghosts}
use Rattle.qos_io.specs.Bytes.{bytes_in}
use Rattle.qos_pcap.specs.declared.fault.Stop.{Stop}
use Rattle.qos_pcap.specs.declared.fault.Stop.TheVariants.{NotOpened}
use Rattle.qos_pcap.specs.First.{first_stamp}
use Rattle.qos_pcap.specs.Format.{Record}
use Rattle.qos_pcap.specs.Reads.{Reads}
use Rattle.profile_plan.specs.Profile.{Plan}
use Rattle.pkt_receive.specs.declared.limits.TheConstants.{MAX_RECORDS}
use Rattle.pkt_receive.specs.Colours.{colours_in}
use Rattle.pkt_receive.specs.Fate.{admitted, to_port}
use Rattle.pkt_receive.specs.Marks.{AreLegalLogs, AreLogsFor}
use Rattle.pkt_receive.specs.Receiver.{IsReadFault}
use Rattle.port_files.specs.Among.{ChangesAmong}
use Rattle.port_files.specs.Change.{FileChange, change_of}
use Rattle.run_journal.specs.declared.ended.PortEnd.{PortEnd}
use Rattle.run_journal.specs.Schedule.{arrivals_of}
use Rattle.qos_pipeline.specs.PortEnds.{AreLeft, ArePortEnds, AreWritten}
use Rattle.qos_words.specs.Names.{output_name, output_names}
use Rattle.qos_words.specs.Words.{Asked}
use Rattle.run_report.specs.declared.ended.Ended.{Ended}
use Rattle.run_report.specs.declared.ended.InputEnd.{InputEnd}
use Rattle.run_report.specs.declared.ended.Note.TheVariants.{Nothing}
use Rattle.run_report.specs.declared.status.Status.{Status}
use Rattle.qos_main.specs.Account.{IsAccount}
use Rattle.run_report.specs.Status.{status_for}

-- The run of a profile over a capture with these bytes, where `change` tells what became of the file of each port.
pub record IsOutcome (p : Plan) (bytes : List ℕ) (change : ℕ → FileChange) (input : InputEnd) (ended : Ended) : Type 0 where
  -- the records of the capture and how it stops, by its bytes
  pub records : List Record
  pub stop : Stop
  pub reads : Reads bytes MAX_RECORDS records stop
  -- the records that were given whole: all of them up to that stop, or the first ones where a read failed
  pub given : List Record
  pub rest : List Record
  pub parts : records ≡ given ++ rest
  pub stopped : IsReadFault input.stopped ⊎ ((rest ≡ []) × (input.stopped ≡ stop))
  pub not_opened : input.stopped ≡ NotOpened → given ≡ []
  -- the origin is the stamp of the first head in the bytes; where none was read there is no record
  pub origin : ℕ
  pub origin_is : (origin ≡ origin_of (first_stamp bytes MAX_RECORDS ∷ [])) ⊎ (given ≡ [])
  -- each meter's log is legal and has exactly one mark for each record that reaches the meter, in order, and no other
  pub logs : AreLogsFor p origin 0 given ended.meters
  -- the arrivals in each port's journal are the admitted packets of the capture for that port, each once and in order, with the
  -- colours in the meters' logs
  pub merge : (n : ℕ) (end : PortEnd) → slice_get ended.ports n ≡ Some end
      → arrivals_of end.journal ≡ to_port n (admitted p (colours_in ended.meters) 0 given)
  -- each journal is the paced journal of its arrivals, and each port's numbers are those of its schedule
  pub ports : ArePortEnds p origin ended.ports
  -- each output is what the schedule of the port's journal sends
  pub outputs : AreWritten p origin records change ended.ports ended.write_fault
  pub account : IsAccount p (colours_in ended.meters) 0 given ended.ports input

-- what became of the file of each port, where a command ran on a shelf that was `old` and is `new`
abbrev pub changes_of : {H In Out : Type 0} → Ghosts H In Out → Asked → H → H → ℕ → FileChange
changes_of G command old new n = change_of G (output_name command.prefix n) old new

-- the bytes of a command's capture on a shelf
abbrev pub capture_on : {H In Out : Type 0} → Ghosts H In Out → Asked → H → List ℕ
capture_on G command shelf = bytes_in (G.file shelf command.capture)

module _ {H In Out : Type 0} (G : Ghosts H In Out) (command : Asked) (p : Plan) (old new : H) where
  -- a command was run over its profile, and ends so
  pub record IsRun (status : Status) (ended : Ended) : Type 0 where
    pub input : InputEnd
    pub one_input : ended.inputs ≡ input ∷ []
    pub ports : length ended.ports ≡ length p.ports
    pub faults : length ended.write_fault ≡ length p.ports
    -- the status follows from how the capture stopped and whether an output has a fault
    pub status_is : status ≡ status_for input.stopped ended.write_fault
    -- the reading of a name that is sure to read does not fail, and nothing else does where there is no such file
    pub read : G.IsSureToRead old command.capture → IsReadFault input.stopped → ⊥
    pub absent : G.Tells old → G.file old command.capture ≡ None → (G.IsSureToRead old command.capture → ⊥) → input.stopped ≡ NotOpened
    -- an output has a fault only where its own name is not sure to write
    pub write : (n : ℕ) → G.IsSureToWrite old (output_name command.prefix n) → slice_get ended.write_fault n ≡ Some true → ⊥
    pub outcome : G.Tells old → IsOutcome p (capture_on G command old) (changes_of G command old new) input ended
    -- the log of each meter is legal, whatever the capture holds
    pub meters : AreLegalLogs p ended.meters
    pub note : ended.note ≡ Nothing
    -- no file changes but the outputs
    pub files : ChangesAmong G (output_names command.prefix (length p.ports)) old new

  -- What is left where memory was refused: each output is as it was, or begins as some first records would have made it.
  pub record IsRefused : Type 0 where
    pub records : List Record
    pub stop : Stop
    pub reads : Reads (capture_on G command old) MAX_RECORDS records stop
    -- the records that can have been given: none where no head was read
    pub seen : List Record
    pub origin : ℕ
    pub seen_is : ((seen ≡ records) × (origin ≡ origin_of (first_stamp (capture_on G command old) MAX_RECORDS ∷ []))) ⊎ (seen ≡ [])
    pub left : AreLeft p origin 0 seen (changes_of G command old new)

  -- memory was refused in the run of a command
  pub record HasRefused : Type 0 where
    pub left : G.Tells old → IsRefused
    pub files : ChangesAmong G (output_names command.prefix (length p.ports)) old new
