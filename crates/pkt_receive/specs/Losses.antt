-- How many records were lost when they were received.
use Rattle.std.specs.Prelude.{ℕ, ◌+◌, if◌then◌else◌, List}
use Rattle.profile_plan.specs.Profile.{Plan}
use Rattle.qos_pcap.specs.Format.{Record}
use Rattle.pkt_receive.specs.declared.fate.Fate.{Fate}
use Rattle.pkt_receive.specs.declared.losses.Losses.{Losses}
use Rattle.pkt_receive.specs.Colours.{Colours}
use Rattle.pkt_receive.specs.Fate.{is_lost, lost_for}

-- none
abbrev pub no_losses : Losses
no_losses = record { unparsed = 0; unmatched = 0; oversize = 0; too_long = 0; policed = 0 }

-- all of them
abbrev pub lost_total : Losses → ℕ
lost_total losses = losses.unparsed + losses.unmatched + losses.oversize + losses.too_long + losses.policed

abbrev pub one_if : ℕ → Fate → ℕ
one_if number fate = if is_lost number fate then 1 else 0

-- these, and the record of that fate if it is lost
abbrev pub counted : Losses → Fate → Losses
counted losses fate = record {
  unparsed = losses.unparsed + one_if 1 fate;
  unmatched = losses.unmatched + one_if 2 fate;
  oversize = losses.oversize + one_if 3 fate;
  too_long = losses.too_long + one_if 4 fate;
  policed = losses.policed + one_if 6 fate;
}

-- those of the records of an input
abbrev pub losses_of : Plan → Colours → ℕ → List Record → Losses
losses_of p colours input records = record {
  unparsed = lost_for p colours input 1 records;
  unmatched = lost_for p colours input 2 records;
  oversize = lost_for p colours input 3 records;
  too_long = lost_for p colours input 4 records;
  policed = lost_for p colours input 6 records;
}
