-- How the output of one port ended, from its creation to its closing.
use Rattle.std.proofs.Common.{◌≡◌, ◌≤◌, ◌⊎◌, ◌∙◌, ◌++◌, ◌∷◌, [], ℕ, Bool, true, false, List, length, take, Option, None, Some, IsSome}
use Rattle.std.proofs.Common.{inl, inr, refl, sym, ap, subst}
use Rattle.qos_base.specs.declared.packet.Pkt.{Pkt}
use Rattle.qos_base.specs.declared.packet.Departure.{Departure}
use Rattle.qos_io.specs.declared.shelf.Shelf.{Ghosts as Shelves}
use Rattle.qos_io.specs.declared.sink.PutFault.{PutFault}
use Rattle.qos_io.specs.declared.sink.PutFault.TheVariants.{Failed, NoMemory}
use Rattle.qos_io.specs.declared.sink.Sink.{Ghosts as Sinks}
use Rattle.qos_io.specs.Fault.{HasRisen-late}
use Rattle.qos_pcap.specs.Format.{Record}
use Rattle.pkt_receive.specs.Colours.{Colours}
use Rattle.pkt_receive.specs.Fate.{admitted, to_port}
use Rattle.run_journal.specs.declared.ended.PortEnd.{PortEnd}
use Rattle.run_journal.specs.declared.entry.Entry.{Entry}
use Rattle.run_journal.specs.Laws.{Begins}
use Rattle.run_journal.specs.PortRun.{started}
use Rattle.run_journal.specs.Schedule.{schedule_from}
use Rattle.port_sched.specs.Port.{Port}
use Rattle.port_egress.specs.declared.egress.Egress.{Egress}
use Rattle.port_egress.specs.declared.send.Sender.{Sender}
use Rattle.port_egress.specs.declared.stamps.Stamps.{Stamps}
use Rattle.port_egress.specs.Egress.{Carries, Serves}
use Rattle.port_egress.specs.Output.{Target, output_text}
use Rattle.port_egress.specs.Run.{Setup, paced_journal, sends_by}
use Rattle.port_egress.specs.Sender.{HasWritten, StaysSender, target_of, unbegun}
use Rattle.port_files.specs.Change.{FileChange, IsClosed, IsKept, Rose, change_of}
use Rattle.port_files.specs.Outs.{IsCreated, IsShut, IsTold}
use Rattle.qos_pipeline.specs.Outputs.{IsEndOf, IsEnding, IsSettled}
use Rattle.qos_pipeline.specs.Ports.{bodies_of}
use Rattle.qos_pipeline.specs.Written.{IsLeft, IsWritten, target}
use Rattle.qos_pipeline.specs.Written.IsWritten.{whole, not_created, put_refused, closing_failed}
use Rattle.qos_pipeline.proofs.Dropped.{rose-early}
use Rattle.qos_pipeline.proofs.Places.{some-there}
use Rattle.qos_pipeline.proofs.Sends.{held-first, sends-begin}

module _ {K : Type 0} (G : Sinks K) where
  -- an output that was not created, or whose sink was closed when it held these bytes
  pub data HasEnded (c : FileChange) (s : Sender K) : Type 0 where
    absent : s.sink ≡ None → Rose c → c.closed_after ≡ c.closed_before → (c.after ≡ c.before) ⊎ (c.after ≡ Some []) → HasEnded c s
    present : (k : K) (held : List ℕ) → s.sink ≡ Some k → G.contents k ≡ Some held → IsClosed c held → HasEnded c s

module _ {H In Out : Type 0} (F : Shelves H In Out) (G : Sinks Out) (name : List ℕ) (old mid new : H) (made : F.faults old ≤ F.faults mid)
    (on : F.faults mid ≤ F.faults new) where
  -- an output from its creation to its closing
  pub has-ended : (out : Option Out) (stamps : Stamps) (last : Sender Out) → IsCreated G (change_of F name old mid) out
      → StaysSender G (unbegun out stamps) last → IsShut G (change_of F name mid new) last.sink → HasEnded G (change_of F name old new) last
  has-ended None stamps last created stays shut =
      let gone = stays.none refl in
      let kept : IsKept (change_of F name mid new) = rw gone at shut in
      absent gone (rose-early (F.faults old) (F.faults mid) (F.faults new) on created.1.0) (kept.closed ∙ created.0)
      (elim created.1.1 [ inl same ↦ inl (kept.file ∙ same) | inr empty ↦ inr (kept.file ∙ empty) ])
  has-ended (Some sink) stamps last created stays shut =
      let there = some-there last.sink (stays.there refl) in
      let k = there.0 in
      let holds : IsSome (G.contents sink) = subst IsSome (sym created.1.1) refl in
      let text = some-there (G.contents k) (rw there.1 at (stays.told holds)) in
      let is = (rw there.1 at shut) text.0 text.1 in
      present k text.0 there.1 text.1 (record { closed = is.closed ∙ ap (λ cs. cs ++ text.0 ∷ []) created.0; file = is.file })

  rose-late : Rose (change_of F name mid new) → Rose (change_of F name old new)
  rose-late rose = HasRisen-late (F.faults old) (F.faults mid) (F.faults new) made on rose

  -- an output and its fault, by the first fault of its puts and whether its closing failed
  module _ (body : Pkt → List ℕ) (sends : List (Departure Pkt)) (s : Sender Out) (wrote : HasWritten G body sends s) where
    written-by : (put : Option PutFault) (failed fault : Bool) → s.fault ≡ put → HasEnded G (change_of F name old new) s
        → IsTold G (change_of F name mid new) s.sink failed → IsSettled put failed fault
        → IsWritten (target_of s body) sends s.sent (change_of F name old new) fault
    written-by None failed fault is (absent none rose same file) told so =
        absurd (let there = rw is at (wrote.none none).1 in let not : ⊥ = cc in not)
    written-by None false fault is (present k held there holds shut) told so =
        whole so held (rw is at (wrote.told k held there holds)) shut ((rw there at told) held holds)
    written-by None true fault is (present k held there holds shut) told so =
        closing_failed so (rose-late told) held (rw is at (wrote.told k held there holds)) shut
    written-by (Some Failed) failed fault is (absent none rose same file) told so = not_created so rose (wrote.none none).0 same file
    written-by (Some Failed) false fault is (present k held there holds shut) told so =
        put_refused so held (rw is at (wrote.told k held there holds)) shut (λ quiet. (rw there at told) held holds)
    written-by (Some Failed) true fault is (present k held there holds shut) told so =
        put_refused so held (rw is at (wrote.told k held there holds)) shut (λ quiet. absurd (quiet (rose-late told)))
    written-by (Some NoMemory) failed fault is ended told so = absurd so

  module _ (s : Setup) (records : List Record) (e : Egress Out G) (serves : Serves s e) (carries : Carries G (bodies_of records) e)
      (ended : HasEnded G (change_of F name old new) e.sender) where
    target-is : target_of e.sender (bodies_of records) ≡ target s records
    target-is = rw (serves.origin, serves.line) refl

    wrote-is : HasWritten G (bodies_of records) (sends_by s e.port.journal) e.sender
    wrote-is =
        subst (λ (start : Port Pkt). HasWritten G (bodies_of records) (schedule_from start e.port.journal).sends e.sender) serves.start carries.output

    -- the output of a port that was run to its end
    pub written-end : (end : PortEnd) (fault : Bool) → IsEndOf e end → IsEnding G (change_of F name mid new) e.sender fault
        → IsWritten (target s records) (sends_by s end.journal) end.counts.sent (change_of F name old new) fault
    written-end end fault is ending =
        rw (is.journal, is.sent) (subst (λ (t : Target). IsWritten t (sends_by s e.port.journal) e.sender.sent (change_of F name old new) fault) target-is
        (written-by (bodies_of records) (sends_by s e.port.journal) e.sender wrote-is e.sender.fault ending.failed fault refl ended
        ending.told ending.settled))

    -- what is left of it where memory was refused, by the records whose paced journal its own begins
    pub left-halted : (colours : Colours) (n input : ℕ) (given rest : List Record) → records ≡ given ++ rest
        → Begins e.port.journal (paced_journal s (to_port n (admitted s.profile colours input given)))
        → IsLeft s n input records (change_of F name old new)
    left-halted colours n input given rest parts begins = left ended where
      left : HasEnded G (change_of F name old new) e.sender → IsLeft s n input records (change_of F name old new)
      left (absent none rose same file) = inl (record { file = elim file [ inl is ↦ inl is | inr is ↦ inr (rose, is) ]; closed = same })
      left (present k held there holds shut) =
          let paced : List Entry = paced_journal s (to_port n (admitted s.profile colours input given)) in
          let later = sends-begin (started s.profile s.plan) e.port.journal paced begins in
          let first = held-first (target_of e.sender (bodies_of records)) (sends_by s e.port.journal) later.0
          (sends_by s paced) e.sender.fault e.sender.sent held later.1
          (wrote-is.told k held there holds) in
          inr (record {
            given = given;
            rest = rest;
            parts = parts;
            colours = colours;
            count = length held;
            held = held;
            is = subst (λ (t : Target). held ≡ take (length held) (output_text t (sends_by s paced))) target-is first;
            closed = shut;
          })
