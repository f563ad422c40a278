-- What the parts of a port that were made so far stand for.
use Rattle.std.proofs.Common.{◌≡◌, ℕ, false, ◌+◌, ◌<◌, ◌≤◌, List, [], ◌∷◌, ◌++◌, length, map, take, get_or, Option, Some, refl, sym, ap, subst, ◌∙◌, arith}
use Rattle.std.specs.Prelude.{All, replicate}
use Rattle.std.specs.List.{filter_map}
use Rattle.std.proofs.lemmas.List.{take_more, map_push, length-map}
use Rattle.std.proofs.lemmas.List.Elements.{filter_map-append, All-map, All-push}
use Rattle.qos_base.specs.declared.packet.Pkt.{Pkt}
use Rattle.queue_store.specs.Queues.{Queues, empty_queues, has_packet as some_filled}
use Rattle.profile_plan.specs.declared.limits.TheConstants.{MAX_MTU}
use Rattle.profile_plan.specs.declared.shaping.PipeKind.{PipeKind}
use Rattle.profile_plan.specs.declared.shaping.Whole.{Whole}
use Rattle.profile_plan.specs.Profile.{pipe_kind_of}
use Rattle.profile_plan.specs.Whole.{whole_of}
use Rattle.port_sched.specs.declared.pipe.PipeBooks.{PipeBooks}
use Rattle.port_sched.specs.Pipe.{has_packet, queue_sizes, pipe_start}
use Rattle.port_sched.specs.Books.{pipe_up_to}
use Rattle.port_sched.proofs.Places.{its_bit, knows-active}
use Rattle.port_sched.specs.Shares.{share_of, shares_of}

module _ {X Y : Type 0} (f : X → Option Y) where
  filter_map-one : (x : X) (y : Y) → f x ≡ Some y → filter_map f (x ∷ []) ≡ y ∷ []
  filter_map-one x y is = rw is refl

  -- one more item, of which f gives something
  pub filter_map-more :
      (xs : List X) (i : ℕ) (d : X) (y : Y) → i < length xs → f (get_or xs i d) ≡ Some y →
      filter_map f (take (i + 1) xs) ≡ filter_map f (take i xs) ++ y ∷ []
  filter_map-more xs i d y inside is =
      ap (filter_map f) (take_more xs i d inside) ∙ filter_map-append f (take i xs) (get_or xs i d ∷ [])
      ∙ ap (λ ys. filter_map f (take i xs) ++ ys) (filter_map-one (get_or xs i d) y is)

  pub map-filter_map-more :
      {Z : Type 0} (g : Y → Z) (xs : List X) (i : ℕ) (d : X) (y : Y) → i < length xs → f (get_or xs i d) ≡ Some y →
      map g (filter_map f (take (i + 1) xs)) ≡ map g (filter_map f (take i xs)) ++ g y ∷ []
  map-filter_map-more g xs i d y inside is = ap (map g) (filter_map-more xs i d y inside is) ∙ map_push g (filter_map f (take i xs)) y

-- one more part was made, which stands for one more item
pub map-pushed :
    {B Y : Type 0} (of : B → Y) (items grown : List B) (b : B) (had more : List Y) (y : Y) → grown ≡ items ++ b ∷ [] →
    map of items ≡ had → of b ≡ y → more ≡ had ++ y ∷ [] → map of grown ≡ more
map-pushed of items grown b had more y pushed so_far is longer =
    ap (map of) pushed ∙ map_push of items b ∙ ap (λ ys. ys ++ of b ∷ []) so_far ∙ ap (λ z. had ++ z ∷ []) is ∙ sym longer

pub All-pushed : {B : Type 0} (P : B → Type 0) (items grown : List B) (b : B) → grown ≡ items ++ b ∷ [] → All P items → P b → All P grown
All-pushed P items grown b pushed so_far holds = subst (All P) (sym pushed) (All-push P items b so_far holds)

-- what new queues keep
pub record AreNewQueues {T : Type 0} (packet : T → Pkt) (q : Queues T) : Type 0 where
  pub lists : length q.lists ≡ 16
  pub sizes : length q.sizes ≡ 16
  pub short : All (λ ts. All (λ t. (packet t).wire ≤ MAX_MTU) ts) q.lists

pub new-queues :
    {T : Type 0} (packet : T → Pkt) (sizes : List ℕ) (q : Queues T) → q ≡ empty_queues sizes → length sizes ≡ 16 →
    AreNewQueues packet q
new-queues {T} packet sizes q is sixteen =
    let lists : q.lists ≡ map (λ _. []) sizes = ap (λ (s : Queues T). s.lists) is in
    record {
      lists = ap length lists ∙ length-map sizes (λ _. []) ∙ sixteen;
      sizes = ap (λ (s : Queues T). length s.sizes) is ∙ sixteen;
      short = subst (All (λ ts. All (λ t. (packet t).wire ≤ MAX_MTU) ts)) (sym lists)
          (All-map (λ ts. All (λ t. (packet t).wire ≤ MAX_MTU) ts) (λ _. []) sizes (λ k d inside j e none. absurd (omega arith)));
    }

module _ (kinds : List PipeKind) (line : ℕ) (plan : Whole) (numbers : List ℕ) where
  -- the shares of the first pipes
  abbrev pub shares_first : ℕ → List ℕ
  shares_first i = shares_of plan (map (λ kind. whole_of kind.shaping line) (filter_map (pipe_kind_of kinds) (take i numbers)))

  pub shares_first-more :
      (i d : ℕ) (kind : PipeKind) → i < length numbers → pipe_kind_of kinds (get_or numbers i d) ≡ Some kind →
      shares_first (i + 1) ≡ shares_first i ++ share_of plan (whole_of kind.shaping line) ∷ []
  shares_first-more i d kind inside is =
      ap (map (share_of plan)) (map-filter_map-more (pipe_kind_of kinds) (λ k. whole_of k.shaping line) numbers i d kind inside is)
      ∙ map_push (share_of plan) (map (λ k. whole_of k.shaping line) (filter_map (pipe_kind_of kinds) (take i numbers))) (whole_of kind.shaping line)

module _ (T : Type 0) where
  none-filled : (sizes : List ℕ) → some_filled (empty_queues {T = T} sizes) ≡ false
  none-filled [] = refl
  none-filled (n ∷ sizes) = none-filled sizes

  -- no pipe has a packet at the start
  none-active : (line : ℕ) (sizes : List ℕ) (kinds : List PipeKind) → map has_packet (map (pipe_start {T = T} line sizes) kinds) ≡ replicate (length kinds) false
  none-active line sizes [] = refl
  none-active line sizes (kind ∷ kinds) = λ i. none-filled (queue_sizes sizes) i ∷ none-active line sizes kinds i

pub knows-start : {T : Type 0} (line : ℕ) (sizes : List ℕ) (kinds : List PipeKind) (pipes : List (PipeBooks T)) → map (pipe_up_to 0) pipes ≡ map (pipe_start line sizes) kinds
    → replicate (length pipes) false ≡ map its_bit pipes
knows-start {T} line sizes kinds pipes start =
    let count : length pipes ≡ length kinds = sym (length-map pipes (pipe_up_to 0)) ∙ ap length start ∙ length-map kinds (pipe_start line sizes) in
    ap (λ n. replicate n false) count ∙ sym (none-active T line sizes kinds) ∙ ap (map has_packet) (sym start) ∙ knows-active 0 pipes
