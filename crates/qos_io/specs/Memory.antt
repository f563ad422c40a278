-- What a contract sees of the objects in memory.
use Rattle.std.specs.Prelude.{ℕ, ◌+◌, ◌-◌, ◌^◌, min, List, Option, Contains, refl}
use Rattle.std.specs.Ordering.{nat_cmp}
use Rattle.std.specs.Coded.{Coded, coded×, coded_ℕ, coded_list, code_by}
use Rattle.std.specs.Cmp.Lexicographic.{slice_cmp}
use Rattle.std.specs.FinMap as map
use Rattle.qos_io.specs.Kept.{Closing, closing_code}

-- one more; at the last number of 64 bits a count stays
abbrev pub one_more : ℕ → ℕ
one_more n = min (n + 1) (2 ^ 64 - 1)

-- the calls of an object: the numbers of those that fail, how many were made, and how many of them failed
pub record Calls : Type 0 where
  pub fails : List ℕ
  pub made : ℕ
  pub faults : ℕ

-- no call was made yet
abbrev pub no_calls : List ℕ → Calls
no_calls fails = record { fails = fails; made = 0; faults = 0 }

-- the next call fails: its number is listed
abbrev pub FailsNext : Calls → Type 0
FailsNext c = Contains c.fails c.made

-- one more call was made, which did not fail
abbrev pub after_success : Calls → Calls
after_success c = record { fails = c.fails; made = one_more c.made; faults = c.faults }

-- one more call was made, which failed
abbrev pub after_failure : Calls → Calls
after_failure c = record { fails = c.fails; made = one_more c.made; faults = one_more c.faults }

-- a source: the bytes that are left to read, and its calls
pub record SourceState : Type 0 where
  pub left : List ℕ
  pub calls : Calls

-- a sink: the bytes that it holds, the name of its file if a shelf created it, and its calls
pub record SinkState : Type 0 where
  pub held : List ℕ
  pub name : Option (List ℕ)
  pub calls : Calls

-- a sink that never fails: the bytes that it holds, and the name of its file if a shelf created it
pub record WholeSinkState : Type 0 where
  pub held : List ℕ
  pub name : Option (List ℕ)

-- files: what each name's file holds
abbrev pub Files : Type 0
Files = map.FinMap (slice_cmp nat_cmp) (List ℕ)

-- files are stored as the list of their names and bytes
abbrev pub files_code : Coded Files
files_code = map.code (coded_list coded_ℕ) (coded_list coded_ℕ)

-- a shelf that never fails: its files, and what was closed, the oldest first
pub record WholeShelfState : Type 0 where
  pub files : Files
  pub closed : List Closing

-- it is stored as the pair of the two
abbrev pub whole_shelf_code : Coded WholeShelfState
whole_shelf_code =
    code_by (Files × List Closing) (coded× files_code (coded_list closing_code)) (λ s. (s.files, s.closed)) (λ p. record { files = p.0; closed = p.1 }) (λ _. refl)

-- a shelf: its files, what was closed, the oldest first, and how many of its calls failed
pub record ShelfState : Type 0 where
  pub files : Files
  pub closed : List Closing
  pub faults : ℕ

-- it is stored as the tuple of the three
abbrev pub shelf_state_code : Coded ShelfState
shelf_state_code =
    code_by (Files × (List Closing × ℕ)) (coded× files_code (coded× (coded_list closing_code) coded_ℕ)) (λ s. (s.files, (s.closed, s.faults)))
    (λ p. record { files = p.0; closed = p.1.0; faults = p.1.1 }) (λ _. refl)
