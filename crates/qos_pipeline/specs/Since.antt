-- What became of outputs, said from an earlier shelf on, from which nothing of the files has changed.
use Rattle.std.specs.Prelude.{◌≤◌, ℕ, Bool, List, [], ◌∷◌, ◌++◌}
use Rattle.std.specs.List.{Contains}
use Rattle.std.proofs.Common.{ap, ◌∙◌, inl, inr, arith}
use Rattle.qos_base.specs.declared.packet.Pkt.{Pkt}
use Rattle.qos_base.specs.declared.packet.Departure.{Departure}
use Rattle.qos_io.specs.declared.shelf.Shelf.{Ghosts}
use Rattle.qos_io.specs.Fault.{HasRisen-late}
use Rattle.qos_pcap.specs.Format.{Record}
use Rattle.profile_plan.specs.Profile.{Plan}
use Rattle.port_egress.specs.Output.{Target}
use Rattle.port_egress.specs.Run.{Setup}
use Rattle.port_files.specs.Among.{ChangesAmong}
use Rattle.port_files.specs.Change.{Rose, IsClosed, change_of}
use Rattle.run_journal.specs.declared.ended.PortEnd.{PortEnd}
use Rattle.qos_pipeline.specs.PortEnds.{AreLeft, AreWritten}
use Rattle.qos_pipeline.specs.Written.{IsLeft, IsUntouched, IsWritten}
use Rattle.qos_pipeline.specs.Written.IsWritten.{whole, not_created, put_refused, closing_failed}

module _ {H In Out : Type 0} {G : Ghosts H In Out} {first old new : H} (tells : G.Tells first) (kept : ChangesAmong G [] first old)
    (on : G.faults old ≤ G.faults new) (name : List ℕ) where
  none-named : Contains [] name → ⊥
  none-named among = absurd (omega (arith, among.1))

  rose-since : Rose (change_of G name old new) → Rose (change_of G name first new)
  rose-since rose = HasRisen-late (G.faults first) (G.faults old) (G.faults new) kept.never_falls on rose

  closed-since : {held : List ℕ} → IsClosed (change_of G name old new) held → IsClosed (change_of G name first new) held
  closed-since {held = held} is = record { closed = is.closed ∙ ap (λ (before : List (List ℕ)). before ++ held ∷ []) (kept.closed tells name none-named); file = is.file }

  pub IsWritten-since : {t : Target} {sends : List (Departure Pkt)} {sent : ℕ} {fault : Bool}
      → IsWritten t sends sent (change_of G name old new) fault → IsWritten t sends sent (change_of G name first new) fault
  IsWritten-since (whole fine held is closed after) = whole fine held is (closed-since closed) after
  IsWritten-since (not_created failed rose none closed (inl same)) =
      not_created failed (rose-since rose) none (closed ∙ kept.closed tells name none-named) (inl (same ∙ kept.files name none-named))
  IsWritten-since (not_created failed rose none closed (inr empty)) =
      not_created failed (rose-since rose) none (closed ∙ kept.closed tells name none-named) (inr empty)
  IsWritten-since (put_refused failed held is closed after) =
      put_refused failed held is (closed-since closed) (λ not_risen. after (λ rose. not_risen (rose-since rose)))
  IsWritten-since (closing_failed failed rose held is closed) = closing_failed failed (rose-since rose) held is (closed-since closed)

  untouched-since : IsUntouched (change_of G name old new) → IsUntouched (change_of G name first new)
  untouched-since is = record {
    file = elim is.file [ inl same ↦ inl (same ∙ kept.files name none-named) | inr empty ↦ inr (rose-since empty.0, empty.1) ];
    closed = is.closed ∙ kept.closed tells name none-named;
  }

  pub IsLeft-since : {s : Setup} {n input : ℕ} {records : List Record}
      → IsLeft s n input records (change_of G name old new) → IsLeft s n input records (change_of G name first new)
  IsLeft-since (inl is) = inl (untouched-since is)
  IsLeft-since (inr begun) = inr (record {
    given = begun.given;
    rest = begun.rest;
    parts = begun.parts;
    colours = begun.colours;
    count = begun.count;
    held = begun.held;
    is = begun.is;
    closed = closed-since begun.closed;
  })

module _ {H In Out : Type 0} {G : Ghosts H In Out} {first old new : H} (tells : G.Tells first) (kept : ChangesAmong G [] first old)
    (on : G.faults old ≤ G.faults new) (name_of : ℕ → List ℕ) where
  pub AreWritten-since : (p : Plan) (origin : ℕ) (records : List Record) (ends : List PortEnd) (faults : List Bool)
      → AreWritten p origin records (λ n. change_of G (name_of n) old new) ends faults
      → AreWritten p origin records (λ n. change_of G (name_of n) first new) ends faults
  AreWritten-since p origin records ends faults are n plan end fault p_is end_is fault_is =
      IsWritten-since tells kept on (name_of n) (are n plan end fault p_is end_is fault_is)

  pub AreLeft-since : (p : Plan) (origin input : ℕ) (records : List Record)
      → AreLeft p origin input records (λ n. change_of G (name_of n) old new)
      → AreLeft p origin input records (λ n. change_of G (name_of n) first new)
  AreLeft-since p origin input records are n plan p_is = IsLeft-since tells kept on (name_of n) (are n plan p_is)
