use Rattle.qos_pcap.proofs.ReadBack.{reads_back}
use Rattle.qos_pcap.proofs.laws.reads_back.Goals as goal

pub returns : goal.returns
returns c = reads_back
