-- The numbers of the reasons.
use Rattle.std.specs.Prelude.{ℕ}
use Rattle.qos_base.specs.declared.reason.Reason.{Reason}
use Rattle.qos_base.specs.declared.reason.Reason.TheVariants.{Unparsed, Unmatched, Oversize, TooLong, NoSlot, Policed, TailFull}

-- the number under which a reason is counted
abbrev pub reason_number : Reason → ℕ
reason_number Unparsed = 1
reason_number Unmatched = 2
reason_number Oversize = 3
reason_number TooLong = 4
reason_number NoSlot = 5
reason_number Policed = 6
reason_number TailFull = 7
