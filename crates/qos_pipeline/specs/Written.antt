-- How the output of a port ended.
use Rattle.std.specs.Prelude.{◌≡◌, ◌⊎◌, ℕ, Bool, true, false, List, [], ◌++◌, take, Some}
use Rattle.qos_base.specs.declared.packet.Pkt.{Pkt}
use Rattle.qos_base.specs.declared.packet.Departure.{Departure}
use Rattle.qos_pcap.specs.Format.{Record}
use Rattle.pkt_receive.specs.Colours.{Colours}
use Rattle.pkt_receive.specs.Fate.{admitted, to_port}
use Rattle.port_egress.specs.Output.{Target, output_text, IsWhole, IsCut}
use Rattle.port_egress.specs.Run.{Setup, paced_journal, sends_by}
use Rattle.port_files.specs.Change.{FileChange, Rose, IsClosed}
use Rattle.qos_pipeline.specs.Ports.{bodies_of}

-- How the output of these sends ended, of which `sent` are counted as sent, and whether it has a write fault.
pub data IsWritten (t : Target) (sends : List (Departure Pkt)) (sent : ℕ) (c : FileChange) (fault : Bool) : Type 0 where
  -- it is whole
  whole : fault ≡ false → (held : List ℕ) → IsWhole t sends sent held → IsClosed c held → c.after ≡ Some held → IsWritten t sends sent c fault
  -- it was not created: nothing was sent or closed, and the file is as it was, or empty
  not_created : fault ≡ true → Rose c → sent ≡ 0 → c.closed_after ≡ c.closed_before → (c.after ≡ c.before) ⊎ (c.after ≡ Some []) → IsWritten t sends sent c fault
  -- a put was refused after the records counted as sent: the sink held these and a first part of the next, and so does the file unless the shelf counted a fault
  put_refused : fault ≡ true → (held : List ℕ) → IsCut t sends sent held → IsClosed c held → ((Rose c → ⊥) → c.after ≡ Some held) → IsWritten t sends sent c fault
  -- every put was taken, and the closing failed
  closing_failed : fault ≡ true → Rose c → (held : List ℕ) → IsWhole t sends sent held → IsClosed c held → IsWritten t sends sent c fault

-- how the sends of a port are written, where its input has these records
abbrev pub target : Setup → List Record → Target
target s records = record { origin = s.origin; line = s.plan.line; body = bodies_of records }

-- the file is as it was, or could not be created and is empty; nothing was closed
pub record IsUntouched (c : FileChange) : Type 0 where
  pub file : (c.after ≡ c.before) ⊎ (Rose c × (c.after ≡ Some []))
  pub closed : c.closed_after ≡ c.closed_before

-- the file was created, and its sink held a first part of what some first of the input's records would have made of it, and was closed
pub record IsBegun (s : Setup) (n input : ℕ) (records : List Record) (c : FileChange) : Type 0 where
  pub given : List Record
  pub rest : List Record
  pub parts : records ≡ given ++ rest
  pub colours : Colours
  pub count : ℕ
  pub held : List ℕ
  pub is : held ≡ take count (output_text (target s records) (sends_by s (paced_journal s (to_port n (admitted s.profile colours input given)))))
  pub closed : IsClosed c held

-- what is left of the output of a port where memory was refused
abbrev pub IsLeft : Setup → ℕ → ℕ → List Record → FileChange → Type 0
IsLeft s n input records c = IsUntouched c ⊎ IsBegun s n input records c
