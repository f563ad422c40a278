use Rattle.std.proofs.Common.{◌≡◌, ◌∙◌, ◌++◌, ◌∷◌, [], Bool, List, length, length-append, slice_get, refl, sym, ap, arith, append_assoc}
use Rattle.std.proofs.lemmas.List.{append-nil}
use Rattle.std.specs.Vec.Iter.{into_iter_items, into_iter_len}
use Rattle.port_files.proofs.Shuts.{IsClosing, IsFailure, closing-others, closing-shut, closing-told}
use Rattle.port_files.proofs.Shuts.{failure-by, failure-none, failure-some}
use Rattle.port_files.proofs.Shuts.{fine-more, none-more, of-sinks, tell-front}
use Rattle.port_files.proofs.close.close_all.Goals as goal

nothing_left : {X : Type 0} (xs : List X) → length xs ≡ 0 → xs ≡ []
nothing_left [] e = refl
nothing_left (x ∷ xs) e = absurd (omega arith)

-- one more has come
part_came : {X : Type 0} (came : List X) (x : X) (later left all : List X) → came ++ left ≡ all → left ≡ x ∷ later
    → (came ++ x ∷ []) ++ later ≡ all
part_came came x later left all parts step = append_assoc came (x ∷ []) later ∙ ap (λ ys. came ++ ys) (sym step) ∙ parts

-- and so one more place of the other list
as-long : {X Y : Type 0} (ys : List Y) (y : Y) (more : List Y) (xs : List X) (x : X) → more ≡ ys ++ y ∷ [] → length ys ≡ length xs
    → length more ≡ length (xs ++ x ∷ [])
as-long ys y more xs x is same = omega (arith, same, ap length is, length-append ys (y ∷ []), length-append xs (x ∷ []))

-- all that a vector had has come
all_came : {X : Type 0} (came left all : List X) → came ++ left ≡ all → length left ≡ 0 → came ≡ all
all_came came left all parts none = sym (append-nil came) ∙ ap (λ ys. came ++ ys) (sym (nothing_left left none)) ∙ parts

pub loop-out-preserved : goal.loop-out-preserved
loop-out-preserved g c =
    let G = g.H.Shelf in
    let K = g.H.Out.Sink in
    let was = c.loop-out.invariant in
    let outs = c.loop-out.yielded in
    let out = c.in-Some.out in
    let failed = c.loop-out.failed.items in
    let a = c.args.shelf.now in
    let b = c.loop-out.shelf in
    let d = c.close-closed.new.shelf in
    let closed = c.close-closed.result in
    let fails : Bool = c.eq.result in
    let steps : into_iter_items c.loop-out.out-iterator ≡ out ∷ into_iter_items c.next.new.self = c.in-Some.ensures.steps.0 in
    let failure : IsFailure closed fails = failure-by _ closed fails c.eq.ensures in
    let one : IsClosing G K out closed b d = record {
      shut = c.close-closed.ensures.shut;
      told = c.close-closed.ensures.told;
      others = c.close-closed.ensures.others;
    } in
    record {
      parts = part_came outs out (into_iter_items c.next.new.self)
          (into_iter_items c.loop-out.out-iterator) c.args.outs.items was.parts steps;
      left = let gone = c.in-Some.ensures.steps.1 in
          let short = ap length steps in
          omega (arith, was.left);
      count = as-long failed fails c.push_reserved.new.self.items outs out c.push_reserved.ensures.items was.count;
      room = cc (c.push_reserved.ensures.capacity, was.room);
      shut = closing-shut G K a b d outs out closed one was.shut was.others;
      told = λ tells tell. rw (c.push_reserved.ensures.items, c.and-memory.ensures)
          (closing-told G K a b d outs out closed one was.shut was.others failed fails c.loop-out.memory was.count failure tells tell
          (was.told tells (tell-front K outs out tell)));
      none = rw c.push_reserved.ensures.items
          (none-more outs out failed fails was.count (λ e. failure-none closed fails failure (c.close-closed.ensures.none e)) was.none);
      sure = rw c.push_reserved.ensures.items
          (fine-more K outs out failed fails was.count (λ sure e. c.close-closed.ensures.sure sure
          (failure-some closed fails failure e)) was.sure);
      others = closing-others G K a b d outs out closed one was.shut was.others;
    }

pub returns-clause-shut : goal.returns-clause-shut
returns-clause-shut g c =
    let was = c.loop-out.invariant in
    let none : into_iter_len c.loop-out.out-iterator ≡ 0 = c.in-None.ensures.steps.0 in
    let all = all_came c.loop-out.yielded (into_iter_items c.loop-out.out-iterator) c.args.outs.items was.parts (sym was.left ∙ none) in
    rw (← all) (λ tells tell names named differ n name at. of-sinks (slice_get c.loop-out.yielded n) _ _
    (was.shut tells tell names named differ n name at))

pub returns-clause-told : goal.returns-clause-told
returns-clause-told g c =
    let was = c.loop-out.invariant in
    let none : into_iter_len c.loop-out.out-iterator ≡ 0 = c.in-None.ensures.steps.0 in
    let all = all_came c.loop-out.yielded (into_iter_items c.loop-out.out-iterator) c.args.outs.items was.parts (sym was.left ∙ none) in
    rw (← all) was.told

pub returns-clause-others : goal.returns-clause-others
returns-clause-others g c =
    let was = c.loop-out.invariant in
    let none : into_iter_len c.loop-out.out-iterator ≡ 0 = c.in-None.ensures.steps.0 in
    let all = all_came c.loop-out.yielded (into_iter_items c.loop-out.out-iterator) c.args.outs.items was.parts (sym was.left ∙ none) in
    rw (← all) was.others
