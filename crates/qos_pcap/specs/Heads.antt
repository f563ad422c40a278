-- What a head tells of a record.
use Rattle.std.specs.Prelude.{◌≡◌, ℕ, List}
use Rattle.qos_pcap.specs.declared.form.Form.{Form}
use Rattle.qos_pcap.specs.declared.head.Head.{Head}
use Rattle.qos_pcap.specs.Format.{Record, stamp_in, cap_in, wire_in}

-- this head says what the head at the front of these bytes says
pub record IsHeadIn (form : Form) (bytes : List ℕ) (head : Head) : Type 0 where
  pub stamp : head.stamp ≡ stamp_in form bytes
  pub cap : head.cap ≡ cap_in form bytes
  pub wire : head.wire ≡ wire_in form bytes

-- the record of a head and its body
abbrev pub recorded : Head → List ℕ → Record
recorded head body = record { stamp = head.stamp; cap = head.cap; wire = head.wire; body = body }
