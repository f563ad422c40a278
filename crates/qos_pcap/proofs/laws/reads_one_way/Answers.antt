use Rattle.qos_pcap.proofs.OneWay.{reads_one_way}
use Rattle.qos_pcap.proofs.laws.reads_one_way.Goals as goal

pub returns : goal.returns
returns c = reads_one_way
