-- A change of one pipe of a subport and of one subport of a port, in the code and in the model.
use Rattle.std.proofs.Common.{◌≡◌, ℕ, zero, suc, ◌<◌, ◌≤◌, Bool, false, List, [], ◌∷◌, length, map, drop, get_or, set, refl, sym, ap, subst, ◌∙◌, arith}
use Rattle.std.specs.Prelude.{All}
use Rattle.std.proofs.lemmas.List.{length-map, length-set, map-set, get_or-map as get_or-map-within}
use Rattle.std.proofs.Math.ListN.{get_or-map}
use Rattle.active_bitmap.specs.NextActive.{is_set}
use Rattle.std.proofs.lemmas.List.Elements.{All-set, All-drop, All-get_or}
use Rattle.std.proofs.Math.Seq.{map-set_same}
use Rattle.std.specs.Vec.{with_item}
use Rattle.qos_base.specs.declared.packet.Pkt.{Pkt}
use Rattle.queue_store.specs.Queues.{list_of, without_front}
use Rattle.profile_plan.specs.declared.limits.TheConstants.{MAX_MTU}
use Rattle.port_sched.specs.declared.pipe.PipeBooks.{PipeBooks}
use Rattle.port_sched.specs.declared.subport.SubportBooks.{SubportBooks}
use Rattle.port_sched.specs.Pipe.{Pipe, has_packet}
use Rattle.port_sched.specs.Port.{at, in_subport, with_arrival, pipe_emptied, subport_emptied}
use Rattle.port_sched.specs.Books.{level_up_to, pipe_of, pipe_up_to, subport_up_to, IsPipeBooks, IsSubportBooks}

-- A pipe whose level stays stands at each moment for what it stood for, but for what was changed.
module _ {T : Type 0} (moment : ℕ) (old new : PipeBooks T) (level : new.level ≡ old.level) where
  pub up_to-joined : (queue : ℕ) (t : T) → pipe_of new ≡ with_arrival queue t (pipe_of old) → pipe_up_to moment new ≡ with_arrival queue t (pipe_up_to moment old)
  up_to-joined queue t is = λ i. record (is i) { level = level_up_to moment (level i) }

  pub up_to-same : pipe_of new ≡ pipe_of old → pipe_up_to moment new ≡ pipe_up_to moment old
  up_to-same is = λ i. record (is i) { level = level_up_to moment (level i) }

  pub up_to-emptied : pipe_emptied (pipe_of new) ≡ pipe_emptied (pipe_of old) → pipe_emptied (pipe_up_to moment new) ≡ pipe_emptied (pipe_up_to moment old)
  up_to-emptied is = λ i. record (is i) { level = level_up_to moment (level i) }

-- an item that was written stands for a step on what the old one stood for
pub at-set :
    {X Y : Type 0} (of : X → Y) (step : Y → Y) (xs : List X) (k : ℕ) (old new : X) → old ≡ get_or xs k old →
    of new ≡ step (of old) → map of (set xs k new) ≡ at k step (map of xs)
at-set of step [] k old new here is = refl
at-set of step (x ∷ xs) zero old new here is = ap (λ y. y ∷ map of xs) (is ∙ ap (λ z. step (of z)) here)
at-set of step (x ∷ xs) (suc k) old new here is = ap (λ ys. of x ∷ ys) (at-set of step xs k old new here is)

module _ {T : Type 0} (moment : ℕ) (s : SubportBooks T) (k : ℕ) (old new : PipeBooks T) (here : old ≡ get_or s.pipes.items k old) where
  pub subport-set : (step : Pipe T → Pipe T) → pipe_up_to moment new ≡ step (pipe_up_to moment old) → subport_up_to moment (record s { pipes = with_item s.pipes k new }) ≡ in_subport k step (subport_up_to moment s)
  subport-set step is = ap (λ pipes. record (subport_up_to moment s) { pipes = pipes }) (at-set (pipe_up_to moment) step s.pipes.items k old new here is)

  pub subport-same : pipe_up_to moment new ≡ pipe_up_to moment old → subport_up_to moment (record s { pipes = with_item s.pipes k new }) ≡ subport_up_to moment s
  subport-same is =
      ap (λ pipes. record (subport_up_to moment s) { pipes = pipes }) (map-set_same (pipe_up_to moment) s.pipes.items k new old (is ∙ ap (pipe_up_to moment) here))

-- ---- what is as it was but for the packets that wait

emptied-set :
    {X Y : Type 0} (of : X → Y) (empty : Y → Y) (xs : List X) (k : ℕ) (old new : X) → old ≡ get_or xs k old →
    empty (of new) ≡ empty (of old) → map empty (map of (set xs k new)) ≡ map empty (map of xs)
emptied-set of empty xs k old new here same =
    ap (map empty) (map-set of xs k new)
    ∙ map-set_same empty (map of xs) k (of new) (of old) (same ∙ ap (λ x. empty (of x)) here ∙ ap empty (sym (get_or-map of xs k old)))

pub pipe-same : {T : Type 0} (p : PipeBooks T) (queue : ℕ) → pipe_emptied (pipe_of (record p { queues = without_front queue p.queues })) ≡ pipe_emptied (pipe_of p)
pipe-same p queue =
    ap (λ lists. record (pipe_of p) { queues = record p.queues { lists = lists } }) (map-set_same (λ _. []) p.queues.lists queue (drop 1 (list_of queue p.queues)) [] refl)

module _ {T : Type 0} (moment : ℕ) where
  pub subport-emptied : (s : SubportBooks T) (k : ℕ) (old new : PipeBooks T) → old ≡ get_or s.pipes.items k old → pipe_emptied (pipe_up_to moment new) ≡ pipe_emptied (pipe_up_to moment old) → subport_emptied (subport_up_to moment (record s { pipes = with_item s.pipes k new })) ≡ subport_emptied (subport_up_to moment s)
  subport-emptied s k old new here same =
      ap (λ pipes. record (subport_up_to moment s) { pipes = pipes }) (emptied-set (pipe_up_to moment) pipe_emptied s.pipes.items k old new here same)

  pub subports-emptied :
      (subports : List (SubportBooks T)) (k : ℕ) (old new : SubportBooks T) → old ≡ get_or subports k old →
      subport_emptied (subport_up_to moment new) ≡ subport_emptied (subport_up_to moment old) →
      map subport_emptied (map (subport_up_to moment) (set subports k new)) ≡ map subport_emptied (map (subport_up_to moment) subports)
  subports-emptied = emptied-set (subport_up_to moment) subport_emptied

-- ---- the bits of the pipes with a packet

module _ {T : Type 0} where
  abbrev pub its_bit : PipeBooks T → Bool
  its_bit p = has_packet (pipe_of p)

  -- the bit of a pipe that is written follows it
  pub knows-set : (pipes : List (PipeBooks T)) (bits : List Bool) (k : ℕ) (p : PipeBooks T) → bits ≡ map its_bit pipes
      → set bits k (its_bit p) ≡ map its_bit (set pipes k p)
  knows-set pipes bits k p knows = ap (λ xs. set xs k (its_bit p)) knows ∙ sym (map-set its_bit pipes k p)

  pub knows-within : (pipes : List (PipeBooks T)) (bits : List Bool) (k : ℕ) → bits ≡ map its_bit pipes → k < length pipes → k < length bits
  knows-within pipes bits k knows within = omega (arith, ap length knows, length-map pipes its_bit)

  pub knows-bit : (pipes : List (PipeBooks T)) (bits : List Bool) (k : ℕ) (p : PipeBooks T) → bits ≡ map its_bit pipes → p ≡ get_or pipes k p
      → k < length pipes → is_set bits k ≡ its_bit p
  knows-bit pipes bits k p knows here within =
      ap (λ xs. is_set xs k) knows ∙ get_or-map-within its_bit pipes k p false within ∙ ap its_bit (sym here)

  -- they are those of what the pipes stand for
  pub knows-active : (moment : ℕ) (pipes : List (PipeBooks T)) → map has_packet (map (pipe_up_to moment) pipes) ≡ map its_bit pipes
  knows-active moment [] = refl
  knows-active moment (p ∷ pipes) = ap (λ xs. its_bit p ∷ xs) (knows-active moment pipes)

-- ---- what is kept where a pipe is changed

module _ {T : Type 0} (packet : T → Pkt) (ticked : ℕ) where
  pub subport-keeps : (s : SubportBooks T) (k : ℕ) (p : PipeBooks T) (bits : List Bool) → bits ≡ set s.active k (has_packet (pipe_of p))
      → IsSubportBooks packet ticked s → IsPipeBooks packet ticked p → IsSubportBooks packet ticked (record s { pipes = with_item s.pipes k p; active = bits })
  subport-keeps s k p bits told was sound =
      let count = length-set s.pipes.items k p in
      record {
        level = was.level;
        cursor = omega (arith, count, was.cursor);
        few = omega (arith, count, was.few);
        periods = was.periods;
        pipes = All-set (IsPipeBooks packet ticked) s.pipes.items k p sound was.pipes;
        active = told ∙ knows-set s.pipes.items s.active k p was.active;
      }

  pub read-keeps :
      (s : SubportBooks T) (k : ℕ) (p : PipeBooks T) → IsSubportBooks packet ticked s → k < length s.pipes.items →
      p ≡ get_or s.pipes.items k p → IsPipeBooks packet ticked p
  read-keeps s k p was inside here =
      subst (IsPipeBooks packet ticked) (sym here) (All-get_or (IsPipeBooks packet ticked) s.pipes.items k p inside was.pipes)

  pub pipe-drained : (p : PipeBooks T) (queue : ℕ) → queue < length p.queues.lists → IsPipeBooks packet ticked p → IsPipeBooks packet ticked (record p { queues = without_front queue p.queues })
  pipe-drained p queue inside was =
      let lists = p.queues.lists in
      let short = λ (ts : List T). All (λ t. (packet t).wire ≤ MAX_MTU) ts in
      record {
        level = was.level;
        lists = length-set lists queue (drop 1 (list_of queue p.queues)) ∙ was.lists;
        sizes = was.sizes;
        short = All-set short lists queue (drop 1 (list_of queue p.queues))
            (All-drop (λ t. (packet t).wire ≤ MAX_MTU) 1 (list_of queue p.queues) (All-get_or short lists queue [] inside was.short)) was.short;
      }
