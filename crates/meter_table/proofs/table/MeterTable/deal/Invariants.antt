use Rattle.std.proofs.Common.{◌≡◌, ℕ, ◌+◌, ◌<◌, ◌≤◌, length, vec_len, vec_capacity}
use Rattle.std.specs.List.{sum_by, All}
use Rattle.meter_table.specs.Seats.{IsFresh, parts_at}
use Rattle.meter_table.proofs.table.MeterTable.deal.Given as goal

abbrev pub invariant-loop : goal.invariant-loop
invariant-loop l = record {
  fresh : All (IsFresh l.self) l.dealt.items;
  first : IsFresh l.self l.first;
  parts : (n : ℕ) → n < length l.self.cells.items → sum_by (parts_at n) l.dealt.items + parts_at n l.first ≡ 48;
  one_each : (n : ℕ) → n < length l.self.cells.items → vec_len l.dealt + parts_at n l.first ≡ 48;
  count : vec_len l.dealt + 1 ≡ l.counter;
  room : l.seats ≤ vec_capacity l.dealt;
}
