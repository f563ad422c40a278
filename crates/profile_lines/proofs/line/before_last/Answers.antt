use Rattle.std.proofs.Common.{◌-◌, sym, arith}
use Rattle.profile_lines.proofs.Parts.{before_last-is, before_last-none}
use Rattle.profile_lines.proofs.line.before_last.Goals as goal

pub returns-then-bytes-end : goal.returns-then-bytes-end
returns-then-bytes-end c =
    sym (before_last-is c.args.bytes.now c.args.wanted (c.loop-end.end - 1) (omega (arith, c.loop-end.invariant.within)) (omega arith) (λ k above within. c.loop-end.invariant.none k (omega arith) within))

pub returns : goal.returns
returns c = sym (before_last-none c.args.bytes.now c.args.wanted (λ k within. c.loop-end.invariant.none k (omega arith) within))
