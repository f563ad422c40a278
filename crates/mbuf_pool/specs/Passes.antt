-- What contracts see of a pool and of its passes.
use Rattle.std.specs.Prelude.{◌≡◌, ℕ, ◌+◌, List, [], false, Bool, length}
use Rattle.std.specs.List.{sum_by}
use Rattle.crossbeam_queue.specs.Passes.{view}
use Rattle.mbuf_pool.specs.declared.pass.PoolPass.{PoolPass}
use Rattle.mbuf_pool.specs.declared.pool.Pool.{Pool}
use Rattle.mbuf_pool.specs.FreeList.{weigh, first_slots}

-- how many slots the pool has, and how many bytes each of them
abbrev pub slots_of : Pool → ℕ
slots_of p = p.slots

abbrev pub bytes_of : Pool → ℕ
bytes_of p = p.bytes

-- it is a pass of this pool
pub record IsPassOf (pool : Pool) (p : PoolPass) : Type 0 where
  pub list : p.pass.table_id ≡ pool.list.table.shared.table_id
  pub count : p.seat.table_id ≡ pool.count.shared.table_id
  pub slots : (view p.pass).slots ≡ slots_of pool
  pub bytes : (view p.pass).bytes ≡ bytes_of pool

-- a pass's parts of its pool
abbrev pub parts_of : PoolPass → ℕ
parts_of p = (view p.pass).parts

-- the slots that a pass took, and those that it gave, oldest first
abbrev pub taken_by : PoolPass → List ℕ
taken_by p = (view p.pass).taken

abbrev pub given_by : PoolPass → List ℕ
given_by p = (view p.pass).given

-- how often a pass lowered the count, and how often it raised it
abbrev pub lowered_by : PoolPass → ℕ
lowered_by p = p.seat.me.0.lowered

abbrev pub raised_by : PoolPass → ℕ
raised_by p = p.seat.me.0.raised

-- the pass has met a count of 0
abbrev pub has_met_zero : PoolPass → Bool
has_met_zero p = p.seat.me.0.met_zero

-- of each of a pass's calls of `take`, in order, whether it gave a slot
abbrev pub answers_of : PoolPass → List Bool
answers_of p = p.seat.me.0.answers

-- a pass of this pool that has done nothing
pub record IsFresh (pool : Pool) (p : PoolPass) : Type 0 where
  pub pass : IsPassOf pool p
  pub taken : taken_by p ≡ []
  pub given : given_by p ≡ []
  pub met_zero : has_met_zero p ≡ false
  pub answers : answers_of p ≡ []

-- as bags: these free slots with all slots that the passes took are the pool's first slots with all slots that the passes gave
abbrev pub IsAllOf : Pool → List PoolPass → List ℕ → Type 0
IsAllOf pool passes free =
    (h : ℕ → ℕ) → weigh h free + sum_by (λ p. weigh h (taken_by p)) passes ≡ weigh h (first_slots (slots_of pool)) + sum_by (λ p. weigh h (given_by p)) passes

-- how many slots the passes took, in all
abbrev pub takes_in_all : List PoolPass → ℕ
takes_in_all passes = sum_by (λ p. length (taken_by p)) passes
