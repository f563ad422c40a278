-- The sinks of egresses were closed, and their outputs have faults or none.
use Rattle.std.proofs.Common.{◌≡◌, ℕ, Bool, true, List, length, Option, None, Some, IfSome, refl, sym, ap, ◌∙◌, arith}
use Rattle.std.specs.List.{slice_get}
use Rattle.std.proofs.lemmas.List.{length-map}
use Rattle.std.proofs.lemmas.Option.{slice_get_within}
use Rattle.qos_io.specs.declared.shelf.Shelf.{Ghosts as Shelves}
use Rattle.qos_io.specs.declared.sink.PutFault.{PutFault}
use Rattle.qos_io.specs.declared.sink.PutFault.TheVariants.{Failed, NoMemory}
use Rattle.qos_io.specs.declared.sink.Sink.{Ghosts as Sinks}
use Rattle.port_egress.specs.declared.egress.Egress.{Egress}
use Rattle.port_egress.specs.Sender.{IsFine}
use Rattle.port_files.specs.Among.{AreApart}
use Rattle.port_files.specs.Change.{change_of}
use Rattle.port_files.specs.Outs.{AreNamed, IsShut, IsTold}
use Rattle.qos_pipeline.specs.Outputs.{AreEndings, AreShut, IsSettled, faults_of, sinks_of}
use Rattle.qos_pipeline.proofs.Places.{from-some, map-there, there}

-- an output without a fault of its puts whose closing did not fail has none
never-settled : (put : Option PutFault) (failed : Bool) → IsSettled put failed true → (put ≡ Some Failed → ⊥) → (failed ≡ true → ⊥) → ⊥
never-settled None failed so put close = close (sym so)
never-settled (Some Failed) failed so put close = put refl
never-settled (Some NoMemory) failed so put close = so

module _ {K : Type 0} {G : Sinks K} (es : List (Egress K G)) where
  sink-at : (n : ℕ) (e : Egress K G) → slice_get es n ≡ Some e → slice_get (sinks_of es) n ≡ Some e.sender.sink
  sink-at = map-there (λ (e : Egress K G). e.sender.sink) es

  fault-at : (n : ℕ) (e : Egress K G) → slice_get es n ≡ Some e → slice_get (faults_of es) n ≡ Some e.sender.fault
  fault-at = map-there (λ (e : Egress K G). e.sender.fault) es

  module _ (failed : List Bool) (count : length failed ≡ length (sinks_of es)) where
    failed-there : (n : ℕ) (e : Egress K G) → slice_get es n ≡ Some e → (fails : Bool) × (slice_get failed n ≡ Some fails)
    failed-there n e is =
        there failed n (omega (arith, count, length-map es (λ (e : Egress K G). e.sender.sink), slice_get_within es n e is))

    module _ (faults : List Bool) (settled : (n : ℕ) (put : Option PutFault) (fails fault : Bool) → slice_get (faults_of es) n ≡ Some put
        → slice_get failed n ≡ Some fails → slice_get faults n ≡ Some fault → IsSettled put fails fault) where
      pub fine-sure : ((n : ℕ) → IfSome (slice_get (sinks_of es) n) (λ out. IfSome out G.IsSure → slice_get failed n ≡ Some true → ⊥))
          → (n : ℕ) (e : Egress K G) → slice_get es n ≡ Some e → IsFine G e.sender → slice_get faults n ≡ Some true → ⊥
      fine-sure sure n e is fine wrong =
          let fails = failed-there n e is in
          let closed = from-some (λ out. IfSome out G.IsSure → slice_get failed n ≡ Some true → ⊥) (slice_get (sinks_of es) n) e.sender.sink
          (sink-at n e is) (sure n) in
          never-settled e.sender.fault fails.0 (settled n e.sender.fault fails.0 true (fault-at n e is) fails.1 wrong) fine.none_failed
          (λ yes. closed fine.sure (fails.1 ∙ ap Some yes))

      pub endings-of : {H In : Type 0} (F : Shelves H In K) (old new : H)
          → ((names : List (List ℕ)) → AreNamed G names (sinks_of es) → AreApart names → (n : ℕ) (name : List ℕ) → slice_get names n ≡ Some name
          → IfSome (slice_get (sinks_of es) n) (λ out. IfSome (slice_get failed n) (IsTold G (change_of F name old new) out)))
          → AreEndings G F old new es faults
      endings-of F old new told names named differ n name e fault at is wrong =
          let fails = failed-there n e is in
          let closed = from-some (λ out. IfSome (slice_get failed n) (IsTold G (change_of F name old new) out)) (slice_get (sinks_of es) n)
          e.sender.sink (sink-at n e is) (told names named differ n name at) in
          record {
            failed = fails.0;
            told = from-some (IsTold G (change_of F name old new) e.sender.sink) (slice_get failed n) fails.0 fails.1 closed;
            settled = settled n e.sender.fault fails.0 fault (fault-at n e is) fails.1 wrong;
          }

  pub shut-of : {H In : Type 0} (F : Shelves H In K) (old new : H)
      → ((names : List (List ℕ)) → AreNamed G names (sinks_of es) → AreApart names → (n : ℕ) (name : List ℕ) → slice_get names n ≡ Some name
      → IfSome (slice_get (sinks_of es) n) (λ out. IsShut G (change_of F name old new) out)) → AreShut G F old new es
  shut-of F old new shut names named differ n name e at is =
      from-some (λ out. IsShut G (change_of F name old new) out) (slice_get (sinks_of es) n) e.sender.sink (sink-at n e is)
      (shut names named differ n name at)
