-- A visit of a pipe: where it begins and ends, and what stays sound.
use Rattle.std.proofs.Common.{◌≡◌, ◌<◌, ◌≤◌, ℕ, ◌*◌, ◌/◌, List, [], Some, length, map, drop, get_or, length-set, refl, sym, ap, ◌∙◌, subst, arith}
use Rattle.std.proofs.Math.Nat.{mul-div-le}
use Rattle.std.specs.Prelude.{slice_get, slice_set, option_map, All}
use Rattle.std.proofs.lemmas.Option.{slice_get-map, slice_get_read}
use Rattle.qos_base.specs.declared.packet.Pkt.{Pkt}
use Rattle.std.proofs.lemmas.List.Elements.{All-set, All-drop}
use Rattle.queue_store.specs.Queues.{Queues, list_of, without_front}
use Rattle.profile_plan.specs.declared.limits.TheConstants.{MAX_MTU}
use Rattle.port_sched.specs.declared.pipe.PipeBooks.{PipeBooks}
use Rattle.port_sched.specs.declared.level.LevelBooks.{LevelBooks}
use Rattle.port_sched.specs.Pipe.{Pipe}
use Rattle.port_sched.specs.Subport.{Subport}
use Rattle.port_sched.specs.Renewal.{subport_renewed}
use Rattle.port_sched.specs.Classes.{Visit, classes_turn}
use Rattle.port_sched.specs.Visit.{Service, cursor_after, visit_start, visit_end, visit_pipe}
use Rattle.port_sched.specs.Books.{pipe_up_to, IsLevelBooks, IsBrought, IsPipeBooks}
use Rattle.port_sched.specs.Standing.{IsSameLevel, AreQueues}

module _ {T : Type 0} where
  pub visit_pipe-at : (cost : T → ℕ) (q : ℕ) (g : Service T) (p : Pipe T) → slice_get g.subport.pipes q ≡ Some p → visit_pipe cost q g ≡ visit_end q g (classes_turn cost (visit_start g p))
  visit_pipe-at cost q g p there = rw (there, visit_pipe) refl

  pub visit_end-is : (q : ℕ) (g : Service T) (v : Visit T) (renewed : Subport T) (cursor : ℕ) (pipes : List (Pipe T)) → renewed ≡ subport_renewed g.time g.subport → cursor ≡ cursor_after q (length g.subport.pipes) v.room → pipes ≡ slice_set g.subport.pipes q v.pipe → record { subport = record renewed { level = v.subport; cursor = cursor; pipes = pipes }; time = v.time; room = v.room; sends = v.sends } ≡ visit_end q g v
  visit_end-is q g v renewed cursor pipes renewed_is cursor_is pipes_are =
      λ i. record {
        subport = record (renewed_is i) { level = v.subport; cursor = cursor_is i; pipes = pipes_are i };
        time = v.time;
        room = v.room;
        sends = v.sends;
      }

module _ (ticked : ℕ) (from to : LevelBooks) where
  pub IsBrought-same : IsSameLevel from to → IsBrought ticked from → IsBrought ticked to
  IsBrought-same same was =
      let period = ap (λ p. p.tb_period) same.plan in
      let time = same.time in
      let some = was.some_period in
      record {
        some_period = omega arith;
        brought = time ∙ was.brought ∙ ap (λ n. n * (ticked / n)) (sym period);
      }

  pub IsBrought-bucket : to.bucket ≡ from.bucket → IsBrought ticked from → IsBrought ticked to
  IsBrought-bucket same was =
      let period = ap (λ b. b.period) same in
      let some = was.some_period in
      record {
        some_period = omega arith;
        brought = ap (λ b. b.time) same ∙ was.brought ∙ ap (λ n. n * (ticked / n)) (sym period);
      }

-- what is brought up to a moment is not ahead of it
pub IsLevelBooks-brought : (moment : ℕ) (l : LevelBooks) → IsBrought moment l → IsLevelBooks moment l
IsLevelBooks-brought moment l sound = record {
  some_period = sound.some_period;
  not_ahead = omega (arith, sound.brought, mul-div-le moment l.bucket.period);
}

module _ {T : Type 0} (pipes : List (PipeBooks T)) (q : ℕ) (p : PipeBooks T) (here : p ≡ get_or pipes q p) (within : q < length pipes) where
  -- the pipe of this number, as the definitions see it
  pub pipe-there : (moment : ℕ) → slice_get (map (pipe_up_to moment) pipes) q ≡ Some (pipe_up_to moment p)
  pipe-there moment =
      slice_get-map (pipe_up_to moment) pipes q ∙ ap (option_map (pipe_up_to moment)) (slice_get_read pipes (length pipes) q p refl within here)

  pub pipe-sound : (packet : T → Pkt) (ticked : ℕ) → All (IsPipeBooks packet ticked) pipes → IsPipeBooks packet ticked p
  pipe-sound packet ticked all = subst (IsPipeBooks packet ticked) (sym here) (all q p within)

module _ {T : Type 0} (packet : T → Pkt) where
  -- the front of a queue has left
  pub AreQueues-without_front : (queue : ℕ) (queues : Queues T) → queue < 16 → AreQueues packet queues → AreQueues packet (without_front queue queues)
  AreQueues-without_front queue queues within are =
      let count = length-set queues.lists queue (drop 1 (list_of queue queues)) in
      let was = are.lists in
      let P : T → Type 0 = λ t. (packet t).wire ≤ MAX_MTU in
      record {
        lists = omega arith;
        sizes = are.sizes;
        short = All-set (All P) queues.lists queue (drop 1 (list_of queue queues)) (All-drop P 1 (list_of queue queues) (are.short queue [] (omega arith))) are.short;
      }

  pub queues-kept : (ticked : ℕ) (p : PipeBooks T) (queues : Queues T) → queues ≡ p.queues → IsPipeBooks packet ticked p → AreQueues packet queues
  queues-kept ticked p queues same sound = subst (AreQueues packet) (sym same) (record { lists = sound.lists; sizes = sound.sizes; short = sound.short })

  -- the pipe is visited: it is renewed, and then its classes send
  pub pipe-visited : (ticked : ℕ) (to : PipeBooks T) → IsBrought ticked to.level → AreQueues packet to.queues → IsPipeBooks packet ticked to
  pipe-visited ticked to brought queues = record {
    level = IsLevelBooks-brought ticked to.level brought;
    lists = queues.lists;
    sizes = queues.sizes;
    short = queues.short;
  }
