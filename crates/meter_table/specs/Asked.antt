-- What a meter is asked about a packet.
use Rattle.std.specs.Prelude.{ℕ}
use Rattle.qos_base.specs.declared.packet.Colour.{Colour}
use Rattle.meter_table.specs.declared.mark.Mark.{Mark}
use Rattle.meter_table.specs.declared.words.Ask.{Ask}

-- the packet of an input and an index, its moment in nanoseconds since the origin, its length in bytes and the colour that it had
pub record Request : Type 0 where
  pub meter : ℕ
  pub input : ℕ
  pub index : ℕ
  pub at : ℕ
  pub len : ℕ
  pub pre : Colour

-- the question that a mark answers
abbrev pub request_in : Mark → Request
request_in mark = record {
  meter = mark.meter;
  input = mark.input;
  index = mark.index;
  at = mark.at;
  len = mark.len;
  pre = mark.pre;
}

-- the question, as the code puts it
abbrev pub request_of : Ask → Request
request_of ask = record {
  meter = ask.meter;
  input = ask.input;
  index = ask.index;
  at = ask.at;
  len = ask.len;
  pre = ask.pre;
}
