use Rattle.std.proofs.Common.{◌≡◌, ◌+◌, ◌≤◌, vec_len, vec_capacity}
use Rattle.std.specs.List.{sum_by, All}
use Rattle.mbuf_pool.specs.Passes.{IsFresh, parts_of}
use Rattle.mbuf_pool.proofs.pool.Pool.deal.Given as goal

abbrev pub invariant-loop : goal.invariant-loop
invariant-loop l = record {
  fresh : All (IsFresh l.self) l.dealt.items;
  first : IsFresh l.self l.first;
  parts : sum_by parts_of l.dealt.items + parts_of l.first ≡ 48;
  one_each : vec_len l.dealt + parts_of l.first ≡ 48;
  count : vec_len l.dealt + 1 ≡ l.counter;
  room : l.passes ≤ vec_capacity l.dealt;
}
