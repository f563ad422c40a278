use Rattle.std.proofs.Common.{◌≡◌, ◌<◌, ◌-◌, ℕ, length, drop, Some, refl, sym, ap, ◌∙◌, arith}
use Rattle.qos_pcap.specs.declared.fault.PcapFault.TheVariants.{HugeRecord}
use Rattle.qos_pcap.specs.declared.fault.Stop.TheVariants.{Fault}
use Rattle.qos_pcap.proofs.Filling.{left_at}
use Rattle.qos_pcap.proofs.Giving.{end_from, head_filled, huge_from, keeps_head, reads_from, short_from, stamp_at-full, stamp_at-huge, stamp_at-short, stamp_at-there, stamp_from, stopped_place, told, too_many_from}
use Rattle.qos_pcap.proofs.capture.Capture.next_head.Goals as goal

pub returns-then-n-eq0-clause-stopped : goal.returns-then-n-eq0-clause-stopped
returns-then-n-eq0-clause-stopped g c = λ s. absurd (c.in_default.not-Stopped (stopped_place _ s))

pub returns-then-n-eq0-clause-end : goal.returns-then-n-eq0-clause-end
returns-then-n-eq0-clause-end g c = λ records stop gives.
    let h = reads_from _ _ _ _ _ records stop c.requires gives in
    let filled = c.in-Ok.ensures.bytes h.0 h.1 in
    let none : length h.0 ≡ 0 = omega (arith, filled.count, c.if-n-eq0.true) in
    end_from _ _ _ h.0 records stop none h.2

pub returns-then-n-eq0-clause-stamp : goal.returns-then-n-eq0-clause-stamp
returns-then-n-eq0-clause-stamp g c = λ stamp next.
    let h = stamp_from _ _ _ _ stamp c.requires c.in_default.not-Stopped next in
    let filled = c.in-Ok.ensures.bytes h.0 h.1 in
    let short : length h.0 < 16 = omega (arith, filled.count, c.if-n-eq0.true) in
    h.2 ∙ stamp_at-short _ _ h.0 short

pub returns-then-self-clause-stopped : goal.returns-then-self-clause-stopped
returns-then-self-clause-stopped g c = λ s. absurd (c.in_default.not-Stopped (stopped_place _ s))

pub returns-then-self-clause-fault : goal.returns-then-self-clause-fault
returns-then-self-clause-fault g c = λ other records stop gives.
    let h = reads_from _ _ _ _ _ records stop c.requires gives in
    let filled = c.in-Ok.ensures.bytes h.0 h.1 in
    let some : 0 < length h.0 = omega (arith, filled.count, c.if-n-eq0.false) in
    too_many_from _ _ _ h.0 records stop (omega (arith, c.if-self.true)) some h.2

pub returns-then-self-clause-stamp : goal.returns-then-self-clause-stamp
returns-then-self-clause-stamp g c = λ stamp next other.
    let h = stamp_from _ _ _ _ stamp c.requires c.in_default.not-Stopped next in
    h.2 ∙ stamp_at-full _ _ h.0 (omega (arith, c.if-self.true))

pub returns-then-n-lt16-clause-stopped : goal.returns-then-n-lt16-clause-stopped
returns-then-n-lt16-clause-stopped g c = λ s. absurd (c.in_default.not-Stopped (stopped_place _ s))

pub returns-then-n-lt16-clause-fault : goal.returns-then-n-lt16-clause-fault
returns-then-n-lt16-clause-fault g c = λ other records stop gives.
    let h = reads_from _ _ _ _ _ records stop c.requires gives in
    let filled = c.in-Ok.ensures.bytes h.0 h.1 in
    let self = c.args.self.now in
    let more : 0 < self.limit - self.given = omega (arith, self.counted, c.if-self.false) in
    let some : 0 < length h.0 = omega (arith, filled.count, c.if-n-eq0.false) in
    short_from _ _ _ h.0 records stop more some (omega (arith, filled.count, c.if-n-lt16.true)) h.2

pub returns-then-n-lt16-clause-stamp : goal.returns-then-n-lt16-clause-stamp
returns-then-n-lt16-clause-stamp g c = λ stamp next other.
    let h = stamp_from _ _ _ _ stamp c.requires c.in_default.not-Stopped next in
    let filled = c.in-Ok.ensures.bytes h.0 h.1 in
    h.2 ∙ stamp_at-short _ _ h.0 (omega (arith, filled.count, c.if-n-lt16.true))

pub returns-then-head-gt-MAX_CAP-clause-stopped : goal.returns-then-head-gt-MAX_CAP-clause-stopped
returns-then-head-gt-MAX_CAP-clause-stopped g c = λ s. absurd (c.in_default.not-Stopped (stopped_place _ s))

pub returns-then-head-gt-MAX_CAP-clause-fault : goal.returns-then-head-gt-MAX_CAP-clause-fault
returns-then-head-gt-MAX_CAP-clause-fault g c = λ other records stop gives.
    let h = reads_from _ _ _ _ _ records stop c.requires gives in
    let filled = c.in-Ok.ensures.bytes h.0 h.1 in
    let there = head_filled _ _ _ _ h.0 _ refl c.if-n-lt16.false filled c.head_in-head.ensures.numbers in
    let self = c.args.self.now in
    let more : 0 < self.limit - self.given = omega (arith, self.counted, c.if-self.false) in
    let found = huge_from _ _ _ h.0 records stop more there.1 (rw there.2.cap at c.if-head-gt-MAX_CAP.true) h.2 in
    (found.0, found.1 ∙ ap (λ (cap : ℕ). Fault (HugeRecord self.offset cap)) (sym there.2.cap))

pub returns-then-head-gt-MAX_CAP-clause-stamp : goal.returns-then-head-gt-MAX_CAP-clause-stamp
returns-then-head-gt-MAX_CAP-clause-stamp g c = λ stamp next other.
    let h = stamp_from _ _ _ _ stamp c.requires c.in_default.not-Stopped next in
    let filled = c.in-Ok.ensures.bytes h.0 h.1 in
    let there = head_filled _ _ _ _ h.0 _ refl c.if-n-lt16.false filled c.head_in-head.ensures.numbers in
    h.2 ∙ stamp_at-huge _ _ h.0 (rw there.2.cap at c.if-head-gt-MAX_CAP.true)

pub returns-clause-stopped : goal.returns-clause-stopped
returns-clause-stopped g c = λ s. absurd (c.in_default.not-Stopped (stopped_place _ s))

pub returns-clause-numbers : goal.returns-clause-numbers
returns-clause-numbers g c = λ bytes e.
    let there = head_filled _ _ _ _ bytes _ refl c.if-n-lt16.false (c.in-Ok.ensures.bytes bytes e) c.head_in-head.ensures.numbers in
    (there.1, there.2)

pub returns-clause-keeps : goal.returns-clause-keeps
returns-clause-keeps g c = λ records stop gives.
    let h = reads_from _ _ _ _ _ records stop c.requires gives in
    let there = head_filled _ _ _ _ h.0 _ refl c.if-n-lt16.false (c.in-Ok.ensures.bytes h.0 h.1) c.head_in-head.ensures.numbers in
    let self = c.args.self.now in
    let more : self.given < self.limit = omega (arith, self.counted, c.if-self.false) in
    let after = left_at _ h.0 c.in-Ok.ensures.left h.1 ∙ ap (λ (x : ℕ). Some (drop x h.0)) there.0 in
    told _ _ (drop 16 h.0) after (keeps_head self.form self.offset _ self.limit self.given h.0 c.head_in-head.result records stop more there.1 there.2 c.if-head-gt-MAX_CAP.false c.head_in-head.ensures.offset (omega (arith, c.from.ensures)) h.2)

pub returns-clause-stamp : goal.returns-clause-stamp
returns-clause-stamp g c = λ stamp next.
    let h = stamp_from _ _ _ _ stamp c.requires c.in_default.not-Stopped next in
    let there = head_filled _ _ _ _ h.0 _ refl c.if-n-lt16.false (c.in-Ok.ensures.bytes h.0 h.1) c.head_in-head.ensures.numbers in
    let self = c.args.self.now in
    let more : 0 < self.limit - self.given = omega (arith, self.counted, c.if-self.false) in
    h.2 ∙ stamp_at-there _ _ h.0 more there.1 (rw there.2.cap at c.if-head-gt-MAX_CAP.false) ∙ ap Some (sym there.2.stamp)
