-- An egress at which memory was refused.
use Rattle.std.proofs.Common.{ℕ, ◌+◌, List, [], false, Result, Ok, Err, OnOk, OnErr, refl, sym, ap, ◌∙◌, subst}
use Rattle.std.proofs.lemmas.List.{append-nil}
use Rattle.qos_base.specs.declared.packet.Pkt.{Pkt}
use Rattle.qos_io.specs.declared.sink.Sink.{Ghosts as Sinks}
use Rattle.port_sched.specs.Port.{Port}
use Rattle.pkt_slots.specs.declared.mbuf.Mbuf.{Mbuf}
use Rattle.run_journal.specs.declared.pace.Pace.{Pace}
use Rattle.run_journal.specs.declared.entry.Entry.{Entry}
use Rattle.run_journal.specs.Advancing.{AdvanceSteps}
use Rattle.run_journal.specs.Laws.{Begins}
use Rattle.run_journal.specs.Pace.{pace_of}
use Rattle.run_journal.specs.Pacer.{after_aim}
use Rattle.run_journal.specs.Paced.{Course, advance}
use Rattle.run_journal.specs.PortRun.{RunState, started}
use Rattle.run_journal.specs.Schedule.{arrivals_of}
use Rattle.port_egress.specs.declared.egress.Egress.{Egress}
use Rattle.port_egress.specs.Egress.{HasHalted, IsDrained, IsOpen}
use Rattle.port_egress.specs.Run.{Setup, open_run, paced_journal}

-- what `advances_go_by_steps` says
abbrev pub Steps : Type 0
Steps = (from : RunState Mbuf) (to : ℕ) → AdvanceSteps from to

-- an advance only adds to a journal
advance-grows : Steps → (pace : Pace) (start : Port Pkt) (port : Port Mbuf) (c : Course) (to : ℕ)
    → Begins c.journal (advance pace start to c).journal
advance-grows steps pace start port c to =
    let from : RunState Mbuf = record {
      pace = pace;
      start = start;
      journal = c.journal;
      pacer = record { quantum = pace.quantum; clock = c.clock; aim = 0; step = 0; went = false };
      port = port;
    } in
    let go = steps from to in
    go.so_far (record from { pacer = after_aim to from.pacer }) (go.begins refl)

module _ {K : Type 0} {G : Sinks K} (s : Setup) (e : Egress K G) where
  -- one whose packets have all arrived has halted, at whatever it is refused
  pub halted-open : Steps → IsOpen s e → HasHalted s (arrivals_of e.port.journal) e
  halted-open steps opened =
      let pace = pace_of s.plan in
      let c = open_run s (arrivals_of e.port.journal) in
      let grows = advance-grows steps pace (started s.profile s.plan) e.port.port c (c.clock + pace.drain) in
      record {
        serves = opened.serves;
        begins = subst (λ (js : List Entry). Begins js (paced_journal s (arrivals_of e.port.journal)))
            (sym (ap (λ (x : Course). x.journal) opened.course)) grows;
      }

  -- one that was drained has its whole journal
  pub halted-drained : IsDrained s e → HasHalted s (arrivals_of e.port.journal) e
  halted-drained drained = record {
    serves = drained.serves;
    begins = ([], sym drained.journal ∙ sym (append-nil e.port.journal));
  }

-- what holds anyway holds of a failure
pub on_err : {A E P : Type 0} (r : Result A E) → P → OnErr r P
on_err (Ok x) p = tt
on_err (Err e) p = p

-- and of a success
pub on_ok : {A E P : Type 0} (r : Result A E) → P → OnOk r P
on_ok (Ok x) p = p
on_ok (Err e) p = tt
