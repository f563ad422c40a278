use Rattle.std.proofs.Common.{refl, sym, ◌∙◌}
use Rattle.qos_pcap.proofs.Opened.{header_fault, header_of-filled}
use Rattle.qos_pcap.proofs.opening.open_capture.Goals as goal

pub returns-in-Err-clause-fault : goal.returns-in-Err-clause-fault
returns-in-Err-clause-fault g c = λ other bytes records stop told reads.
    let filled = c.in-Ok.ensures.bytes bytes told in
    header_fault bytes _ _ records stop (sym (header_of-filled _ _ _ bytes refl filled) ∙ sym c.in-Err.ensures.form) reads
