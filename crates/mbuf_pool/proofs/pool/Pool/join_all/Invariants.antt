use Rattle.std.proofs.Common.{◌≡◌, ℕ, ◌+◌, Bool, true, length}
use Rattle.std.specs.List.{sum_by, All}
use Rattle.mbuf_pool.specs.FreeList.{weigh}
use Rattle.mbuf_pool.specs.Passes.{IsPassOf, parts_of, taken_by, given_by, has_met_zero}
use Rattle.mbuf_pool.proofs.pool.Pool.join_all.Given as goal

abbrev pub invariant-loop-pass : goal.invariant-loop-pass
invariant-loop-pass l = record {
  mine : All (IsPassOf l.self) l.passes.items;
  pass : IsPassOf l.self l.all;
  parts : sum_by parts_of l.passes.items + parts_of l.all ≡ sum_by parts_of l.fn.passes.items;
  taken : (h : ℕ → ℕ) → sum_by (λ p. weigh h (taken_by p)) l.passes.items + weigh h (taken_by l.all) ≡ sum_by (λ p. weigh h (taken_by p)) l.fn.passes.items;
  given : (h : ℕ → ℕ) → sum_by (λ p. weigh h (given_by p)) l.passes.items + weigh h (given_by l.all) ≡ sum_by (λ p. weigh h (given_by p)) l.fn.passes.items;
  count : sum_by (λ p. length (taken_by p)) l.passes.items + length (taken_by l.all) ≡ sum_by (λ p. length (taken_by p)) l.fn.passes.items;
  met_zero : (b : Bool) → (has_met_zero l.all ≡ true → b ≡ true) → All (λ p. has_met_zero p ≡ true → b ≡ true) l.passes.items → All (λ p. has_met_zero p ≡ true → b ≡ true) l.fn.passes.items;
}

abbrev pub decreases-loop-pass : goal.decreases-loop-pass
decreases-loop-pass l = goal.left-loop-pass l
