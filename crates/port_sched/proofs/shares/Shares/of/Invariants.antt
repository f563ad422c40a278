use Rattle.std.proofs.Common.{◌≡◌, ◌*◌, ◌^◌, ◌≤◌, max, sum, fold}
use Rattle.port_sched.proofs.Starts.{shares_first}
use Rattle.port_sched.proofs.shares.Shares.of.Given as goal

abbrev pub invariant-loop-number : goal.invariant-loop-number
invariant-loop-number l =
    let shares = shares_first l.p.pipe_kinds l.line l.plan l.numbers l.number-index in
    record {
      total : l.total ≡ sum shares;
      greatest : l.greatest ≡ fold max 0 shares;
      limit : l.total ≤ 2 ^ 80 * l.number-index;
    }
