use Rattle.std.proofs.Common.{◌≡◌, ◌≤◌, length}
use Rattle.mbuf_pool.specs.Passes.{IsPassOf, parts_of, given_by}
use Rattle.thread_tests.proofs.pools.work.Given as goal

abbrev pub invariant-loop : goal.invariant-loop
invariant-loop g l = record {
  pass : IsPassOf l.pool l.pass;
  parts : parts_of l.pass ≡ parts_of l.fn.pass;
  gave : length (given_by l.pass) ≤ l.counter;
  count : l.given ≤ l.counter;
}
