-- Sinks of outputs, by the places of their names: how they were created, and how they were closed.
use Rattle.std.specs.Prelude.{◌≡◌, ◌⊎◌, ℕ, Bool, true, false, List, [], Option, Some, MatchOption, IsSome, IfSome, slice_get}
use Rattle.qos_io.specs.declared.sink.Sink.{Ghosts as Sinks}
use Rattle.port_files.specs.Change.{FileChange, Rose, IsKept, IsClosed}

module _ {Out : Type 0} (K : Sinks Out) where
  -- a sink of the name was created and is empty; or it could not be, which the shelf counted, and the file is as it was, or empty
  abbrev pub IsCreated : FileChange → Option Out → Type 0
  IsCreated c out =
      (c.closed_after ≡ c.closed_before)
      × MatchOption out (Rose c × ((c.after ≡ c.before) ⊎ (c.after ≡ Some [])))
      (λ k. (K.name k ≡ Some c.name) × (K.contents k ≡ Some []))

  -- where it was tried
  abbrev pub IsCreatedIf : FileChange → Option (Option Out) → Type 0
  IsCreatedIf c tried = MatchOption tried (IsKept c) (IsCreated c)

  -- each sink has the name at its place
  abbrev pub AreNamed : List (List ℕ) → List (Option Out) → Type 0
  AreNamed names outs =
      (n : ℕ) (k : Out) → slice_get outs n ≡ Some (Some k) → (name : List ℕ) × (slice_get names n ≡ Some name) × (K.name k ≡ Some name)

  -- each sink tells what it holds
  abbrev pub AllTell : List (Option Out) → Type 0
  AllTell outs = (n : ℕ) (k : Out) → slice_get outs n ≡ Some (Some k) → IsSome (K.contents k)

  -- the sink was closed, if there is one
  abbrev pub IsShut : FileChange → Option Out → Type 0
  IsShut c out = MatchOption out (IsKept c) (λ k. (held : List ℕ) → K.contents k ≡ Some held → IsClosed c held)

  -- and the closing failed, or it did not
  abbrev pub IsTold : FileChange → Option Out → Bool → Type 0
  IsTold c out true = Rose c
  IsTold c out false = IfSome out (λ k. (held : List ℕ) → K.contents k ≡ Some held → c.after ≡ Some held)
