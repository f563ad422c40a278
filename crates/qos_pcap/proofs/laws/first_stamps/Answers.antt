use Rattle.qos_pcap.proofs.Firsts.{first_stamps}
use Rattle.qos_pcap.proofs.laws.first_stamps.Goals as goal

pub returns : goal.returns
returns c = first_stamps
