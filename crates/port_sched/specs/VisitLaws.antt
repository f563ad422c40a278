-- What holds of one visit of a pipe, by its definition alone.
use Rattle.std.specs.Prelude.{◌≡◌, ℕ, ◌+◌, ◌<◌, List, true, fold, sum, slice_get, Some}
use Rattle.std.specs.List.{range_with_len}
use Rattle.queue_store.specs.Queues.{list_of}
use Rattle.port_sched.specs.Classes.{Visit, four_allow, with_sent, strict_turn, classes_turn}

module _ {T : Type 0} (cost : T → ℕ) where
  -- the visit when the turn of a class comes: those before it have had theirs
  abbrev pub turns_before : ℕ → Visit T → Visit T
  turns_before class v = fold (strict_turn cost) v (range_with_len 0 class)

  -- the class's queue is empty, or its first packet costs more than one of its four numbers
  abbrev pub IsHeldBack : ℕ → Visit T → Type 0
  IsHeldBack class v = (t : T) → slice_get (list_of class v.pipe.queues) 0 ≡ Some t → four_allow class v < cost t

  -- Credits are paid for each byte time by which port time moves, to the full: no payment ends at 0 because there was too little.
  pub record PaysInFull (v w : Visit T) : Type 0 where
    pub subport : w.time + w.subport.credits ≡ v.time + v.subport.credits
    pub pipe : w.time + w.pipe.level.credits ≡ v.time + v.pipe.level.credits
    pub subport_classes : w.time + sum w.subport.classes ≡ v.time + sum v.subport.classes
    pub pipe_classes : w.time + sum w.pipe.level.classes ≡ v.time + sum v.pipe.level.classes

  pub record VisitLaws (v : Visit T) : Type 0 where
    pub pays : PaysInFull v (classes_turn cost v)
    -- best effort pays from the pipe's share too where credits are shared out, and no other class does
    pub share : v.oversub ≡ true
        → (classes_turn cost v).time + (classes_turn cost v).pipe.share ≡ (turns_before 12 v).time + v.pipe.share
    -- When a class's turn comes and room is left, each class before it is empty or has too few credits for its first packet,
    -- and so it stays whatever packets of the class are sent. Best effort is class 12 here.
    pub priority : (class before : ℕ) (sent : List T) → before < class → 0 < (turns_before class v).room
        → IsHeldBack before (with_sent cost class sent (turns_before class v))
