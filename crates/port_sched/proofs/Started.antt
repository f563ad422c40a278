-- A port at its start: nothing waits, and all bounds are kept.
use Rattle.std.proofs.Common.{◌≡◌, ◌≤◌, ℕ, zero, suc, ◌+◌, ◌^◌, List, [], ◌∷◌, ◌++◌, Option, Some, None, length, map, refl, sym, ap, ◌∙◌, subst, get_or, length-append, arith}
use Rattle.std.specs.Prelude.{IsSome}
use Rattle.std.specs.List.{All, flat_map, filter_map, cons_option}
use Rattle.std.specs.Option.{option_map}
use Rattle.std.proofs.Math.ListN.{get_or-map}
use Rattle.std.proofs.lemmas.List.{length-map}
use Rattle.std.proofs.lemmas.List.Elements.{All-nil, All-cons, All-head, All-tail, All-map, All-weaker}
use Rattle.qos_base.specs.declared.packet.Pkt.{Pkt}
use Rattle.profile_plan.specs.declared.port.PortPlan.{PortPlan}
use Rattle.profile_plan.specs.declared.port.SubportPlan.{SubportPlan}
use Rattle.profile_plan.specs.declared.shaping.Shaping.{Shaping}
use Rattle.profile_plan.specs.declared.shaping.PipeKind.{PipeKind}
use Rattle.profile_plan.specs.declared.shaping.Whole.{Whole}
use Rattle.profile_plan.specs.Whole.{whole_of}
use Rattle.profile_plan.specs.Profile.{Plan, IsPort, IsSubport, subport_kind_of, pipe_kind_of}
use Rattle.port_sched.specs.Level.{level_start}
use Rattle.port_sched.specs.Pipe.{pipe_start, queue_sizes}
use Rattle.port_sched.specs.Subport.{Subport}
use Rattle.port_sched.specs.Port.{left_in, left_in_subport, left_of}
use Rattle.port_sched.specs.Start.{kinds_of, subport_with, subport_start, start_at}
use Rattle.port_sched.specs.PortLaws.{seen_pipe, seen_subport, seen_port}
use Rattle.port_sched.specs.Settings.{IsLevelWithin, AreTokensWithin, HasTokensWithin, IsPipeWithin, IsSubportWithin, IsPortWithin}
use Rattle.port_sched.specs.StartLaws.{HasAllSizes, StartLaws}

-- what is there for each item is made for each
made-one : {Y : Type 0} (found : Option Y) (ys : List Y) → IsSome found → length (cons_option found ys) ≡ suc (length ys)
made-one (Some y) ys there = refl
made-one None ys there = absurd (cc)

made-length : {X Y : Type 0} (f : X → Option Y) (xs : List X) → All (λ x. IsSome (f x)) xs → length (filter_map f xs) ≡ length xs
made-length f [] there = refl
made-length f (x ∷ xs) there =
    made-one (f x) (filter_map f xs) (All-head (λ y. IsSome (f y)) x xs there) ∙ ap suc (made-length f xs (All-tail (λ y. IsSome (f y)) x xs there))

-- and each that is made holds
made-first : {Y : Type 0} (Q : Y → Type 0) (found : Option Y) (ys : List Y) → ((y : Y) → found ≡ Some y → Q y) → All Q ys
    → All Q (cons_option found ys)
made-first Q (Some y) ys one all = All-cons Q y ys (one y refl) all
made-first Q None ys one all = all

made-all : {X Y : Type 0} (f : X → Option Y) (P : X → Type 0) (Q : Y → Type 0) → ((x : X) (y : Y) → P x → f x ≡ Some y → Q y)
    → (xs : List X) → All P xs → All Q (filter_map f xs)
made-all f P Q one [] all = All-nil Q
made-all f P Q one (x ∷ xs) all =
    made-first Q (f x) (filter_map f xs) (λ y is. one x y (All-head P x xs all) is) (made-all f P Q one xs (All-tail P x xs all))

first-none : {Y Z : Type 0} (g : Y → List Z) (found : Option Y) (ys : List Y) → ((y : Y) → found ≡ Some y → g y ≡ [])
    → flat_map g ys ≡ [] → flat_map g (cons_option found ys) ≡ []
first-none g (Some y) ys one none = ap (λ zs. zs ++ flat_map g ys) (one y refl) ∙ none
first-none g None ys one none = none

made-none : {X Y Z : Type 0} (f : X → Option Y) (g : Y → List Z) → ((x : X) (y : Y) → f x ≡ Some y → g y ≡ []) → (xs : List X)
    → flat_map g (filter_map f xs) ≡ []
made-none f g one [] = refl
made-none f g one (x ∷ xs) = first-none g (f x) (filter_map f xs) (λ y is. one x y is) (made-none f g one xs)

-- what is made of what is made
made-map : {X Y Z : Type 0} (f : X → Option Y) (h : X → Option Z) (g : Y → Z) → ((x : X) → option_map g (f x) ≡ h x) → (xs : List X)
    → map g (filter_map f xs) ≡ filter_map h xs
made-map f h g same [] = refl
made-map {X} {Y} {Z} f h g same (x ∷ xs) = first (f x) ∙ (λ i. cons_option (same x i) (made-map f h g same xs i))
  where
    first : (found : Option Y) → map g (cons_option found (filter_map f xs)) ≡ cons_option (option_map g found) (map g (filter_map f xs))
    first (Some y) = refl
    first None = refl

level-within : (plan : Whole) → IsLevelWithin (level_start plan)
level-within plan = record { credits = omega arith; classes = λ k. omega arith }

-- what a subport of a profile that keeps its limits has
record IsMade (profile : Plan) (s : SubportPlan) : Type 0 where
  limits : IsSubport profile.subport_kinds profile.pipe_kinds s
  thirteen : length s.sizes ≡ 13

there-is : {X Y : Type 0} (f : X → Y) (found : Option X) → IsSome found → IsSome (option_map f found)
there-is f (Some x) there = there
there-is f None there = there

no-tokens : (queue : ℕ) → get_or {A = ℕ} (0 ∷ 0 ∷ 0 ∷ 0 ∷ []) queue 0 ≡ 0
no-tokens zero = refl
no-tokens (suc zero) = refl
no-tokens (suc (suc zero)) = refl
no-tokens (suc (suc (suc zero))) = refl
no-tokens (suc (suc (suc (suc queue)))) = refl

-- an empty queue
abbrev empty : (T : Type 0) → ℕ → List T
empty T n = []

module _ {T : Type 0} where
  none-left : (sizes : List ℕ) → flat_map (λ (ts : List T). ts) (map (λ _. []) sizes) ≡ []
  none-left [] = refl
  none-left (n ∷ sizes) = none-left sizes

  pipe-within : (line : ℕ) (sizes : List ℕ) (kind : PipeKind) → length sizes ≡ 13 → IsPipeWithin (pipe_start {T = T} line sizes kind)
  pipe-within line sizes kind thirteen =
      let all = queue_sizes sizes in
      let sixteen = length-append sizes (get_or sizes 12 0 ∷ get_or sizes 12 0 ∷ get_or sizes 12 0 ∷ []) in
      let count = length-map all (empty T) in
      record {
        level = level-within (whole_of kind.shaping line);
        lists = omega (arith, count, sixteen, thirteen);
        queues = λ queue. let none = ap length (get_or-map (empty T) all queue 0) in omega (arith, none);
      }

  subport-within : (profile : Plan) (port : PortPlan) (s : SubportPlan) (shaping : Shaping) → port.mtu + port.overhead ≤ 2 ^ 48
      → length s.sizes ≡ 13 → 1 ≤ length (kinds_of profile s) → IsSubportWithin (subport_with {T = T} profile port s shaping)
  subport-within profile port s shaping few thirteen some =
      let plan = whole_of shaping port.line in
      let count = length-map (kinds_of profile s) (pipe_start {T = T} port.line s.sizes) in
      record {
        level = level-within plan;
        at_least = omega arith;
        at_most = omega arith;
        cursor = omega (arith, count, some);
        pipes = All-map IsPipeWithin (pipe_start port.line s.sizes) (kinds_of profile s) (λ k d inside. pipe-within port.line s.sizes (get_or (kinds_of profile s) k d) thirteen);
      }

  under-none : (profile : Plan) (port : PortPlan) (s : SubportPlan) (found : Option Shaping) (sub : Subport T)
      → option_map (subport_with profile port s) found ≡ Some sub → left_in_subport sub ≡ []
  under-none profile port s (Some shaping) sub is =
      let same : subport_with profile port s shaping ≡ sub = cc in
      ap left_in_subport (sym same) ∙ pipes-none (kinds_of profile s)
    where
      pipes-none : (kinds : List PipeKind) → flat_map left_in (map (pipe_start {T = T} port.line s.sizes) kinds) ≡ []
      pipes-none [] = refl
      pipes-none (kind ∷ kinds) = ap (λ ts. ts ++ flat_map left_in (map (pipe_start {T = T} port.line s.sizes) kinds)) (none-left (queue_sizes s.sizes)) ∙ pipes-none kinds
  under-none profile port s None sub is = absurd (cc)

  start-none : (profile : Plan) (port : PortPlan) → left_of (start_at {T = T} profile port) ≡ []
  start-none profile port =
      made-none (subport_start profile port) left_in_subport (λ s sub is. under-none profile port s (subport_kind_of profile.subport_kinds s.kind) sub is) port.subports

  under-within : (profile : Plan) (port : PortPlan) → port.mtu + port.overhead ≤ 2 ^ 48
      → (s : SubportPlan) (found : Option Shaping) (sub : Subport T) → IsMade profile s
      → option_map (subport_with profile port s) found ≡ Some sub → IsSubportWithin sub
  under-within profile port few s (Some shaping) sub made is =
      let same : subport_with profile port s shaping ≡ sub = cc in
      let count = made-length (pipe_kind_of profile.pipe_kinds) s.pipes made.limits.each_pipe in
      let some = made.limits.pipes in
      subst IsSubportWithin same (subport-within profile port s shaping few made.thirteen (omega (arith, count, some)))
  under-within profile port few s None sub made is = absurd (cc)

  start-within : (profile : Plan) (port : PortPlan) → IsPort profile.subport_kinds profile.pipe_kinds port → HasAllSizes port
      → IsPortWithin (start_at {T = T} profile port)
  start-within profile port limits sizes =
      let count = made-length (subport_start {T = T} profile port) port.subports
      (All-weaker (IsSubport profile.subport_kinds profile.pipe_kinds) (λ s. IsSome (subport_start {T = T} profile port s))
      (λ s own. there-is (subport_with {T = T} profile port s) (subport_kind_of profile.subport_kinds s.kind) own.kind) port.subports limits.each) in
      let some = limits.subports in
      let mtu = limits.mtu in
      let overhead = limits.overhead in
      record {
        not_ahead = omega arith;
        cursor = omega (arith, count, some);
        subports = made-all (subport_start profile port) (IsMade profile) IsSubportWithin
            (λ s sub made is. under-within profile port (omega (arith, mtu, overhead)) s (subport_kind_of profile.subport_kinds s.kind) sub made is)
            port.subports (λ k d inside. record { limits = limits.each k d inside; thirteen = sizes k d inside });
      }

  under-tokens : (profile : Plan) (port : PortPlan) (dearest : ℕ) (s : SubportPlan) (found : Option Shaping) (sub : Subport T)
      → option_map (subport_with profile port s) found ≡ Some sub → All (AreTokensWithin dearest) sub.pipes
  under-tokens profile port dearest s (Some shaping) sub is =
      let same : subport_with profile port s shaping ≡ sub = cc in
      subst (λ (x : Subport T). All (AreTokensWithin dearest) x.pipes) same
      (All-map (AreTokensWithin dearest) (pipe_start port.line s.sizes) (kinds_of profile s)
      (λ k d inside. record { four = refl; each = λ queue. let none = no-tokens queue in omega (arith, none) }))
  under-tokens profile port dearest s None sub is = absurd (cc)

  start-tokens : (profile : Plan) (port : PortPlan) (dearest : ℕ) → HasTokensWithin dearest (start_at {T = T} profile port)
  start-tokens profile port dearest =
      made-all (subport_start profile port) (λ s. Unit {0}) (λ (sub : Subport T). All (AreTokensWithin dearest) sub.pipes)
      (λ s sub _ is. under-tokens profile port dearest s (subport_kind_of profile.subport_kinds s.kind) sub is) port.subports (λ k d inside. tt)

module _ {T : Type 0} (packet : T → Pkt) where
  queues-seen : (sizes : List ℕ) → map (map packet) (map (empty T) sizes) ≡ map (empty Pkt) sizes
  queues-seen [] = refl
  queues-seen (n ∷ sizes) = ap (λ lists. [] ∷ lists) (queues-seen sizes)

  pipes-seen : (line : ℕ) (sizes : List ℕ) (kinds : List PipeKind)
      → map (seen_pipe packet) (map (pipe_start line sizes) kinds) ≡ map (pipe_start line sizes) kinds
  pipes-seen line sizes [] = refl
  pipes-seen line sizes (kind ∷ kinds) =
      λ i. record (pipe_start {T = Pkt} line sizes kind) { queues = record { sizes = queue_sizes sizes; lists = queues-seen (queue_sizes sizes) i } } ∷ pipes-seen line sizes kinds i

  subport-seen : (profile : Plan) (port : PortPlan) (s : SubportPlan) (found : Option Shaping)
      → option_map (seen_subport packet) (option_map (subport_with profile port s) found) ≡ option_map (subport_with profile port s) found
  subport-seen profile port s (Some shaping) = λ i. Some (record (subport_with {T = Pkt} profile port s shaping) { pipes = pipes-seen port.line s.sizes (kinds_of profile s) i })
  subport-seen profile port s None = refl

  start-seen : (profile : Plan) (port : PortPlan) → seen_port packet (start_at profile port) ≡ start_at profile port
  start-seen profile port =
      ap (λ subports. record (start_at {T = Pkt} profile port) { subports = subports })
      (made-map (subport_start profile port) (subport_start profile port) (seen_subport packet) (λ s. subport-seen profile port s (subport_kind_of profile.subport_kinds s.kind)) port.subports)

  pub start-laws : (profile : Plan) (port : PortPlan) → StartLaws packet profile port
  start-laws profile port = record { none = start-none profile port; seen = start-seen profile port; within = start-within profile port; tokens = start-tokens profile port }
