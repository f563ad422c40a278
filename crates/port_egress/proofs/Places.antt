-- A packet that has a place in a profile has one at the start of its port.
use Rattle.std.proofs.Common.{◌≡◌, ◌<◌, ℕ, zero, suc, List, [], ◌∷◌, Option, Some, None, length, refl, ap, ◌∙◌, subst, slice_get}
use Rattle.std.proofs.Common.{arith}
use Rattle.std.specs.Prelude.{IsSome, IfSome, option_and_then}
use Rattle.std.specs.List.{All, filter_map, cons_option}
use Rattle.std.specs.Option.{option_map}
use Rattle.std.proofs.lemmas.Bool.Decides.{nat_tests}
use Rattle.std.proofs.lemmas.List.Elements.{All-head, All-tail, All-weaker}
use Rattle.std.proofs.lemmas.Option.{same_Some, slice_get-map}
use Rattle.qos_base.specs.declared.packet.Pkt.{Pkt}
use Rattle.profile_plan.specs.declared.port.PortPlan.{PortPlan}
use Rattle.profile_plan.specs.declared.port.SubportPlan.{SubportPlan}
use Rattle.profile_plan.specs.declared.shaping.Shaping.{Shaping}
use Rattle.profile_plan.specs.Profile.{Plan, IsPort, IsSubport, pipe_kind_of, subport_kind_of}
use Rattle.port_sched.specs.Pipe.{pipe_start}
use Rattle.port_sched.specs.Port.{pipe_of}
use Rattle.port_sched.specs.Start.{kinds_of, subport_start, subport_with}
use Rattle.port_sched.specs.Subport.{Subport}
unfoldable use Rattle.run_journal.specs.PortRun.{started}
use Rattle.port_egress.specs.Run.{PlacesAreThere}

-- what is there for each item is made for each, in order
made-head : {Y : Type 0} (found : Option Y) (ys : List Y) → IsSome found → slice_get (cons_option found ys) zero ≡ found
made-head (Some y) ys there = refl
made-head None ys there = absurd (cc)

made-later : {Y : Type 0} (found : Option Y) (ys : List Y) (i : ℕ) → IsSome found
    → slice_get (cons_option found ys) (suc i) ≡ slice_get ys i
made-later (Some y) ys i there = refl
made-later None ys i there = absurd (cc)

made-at : {X Y : Type 0} (f : X → Option Y) (xs : List X) (i : ℕ) (x : X) → All (λ x. IsSome (f x)) xs → slice_get xs i ≡ Some x
    → slice_get (filter_map f xs) i ≡ f x
made-at f [] i x there is = absurd (cc)
made-at f (y ∷ ys) zero x there is =
    made-head (f y) (filter_map f ys) (All-head (λ z. IsSome (f z)) y ys there) ∙ ap f (same_Some y x is)
made-at f (y ∷ ys) (suc i) x there is =
    made-later (f y) (filter_map f ys) i (All-head (λ z. IsSome (f z)) y ys there)
    ∙ made-at f ys i x (All-tail (λ z. IsSome (f z)) y ys there) is

all-at : {X : Type 0} (P : X → Type 0) (xs : List X) (i : ℕ) (x : X) → All P xs → slice_get xs i ≡ Some x → P x
all-at P [] i x all is = absurd (cc)
all-at P (y ∷ ys) zero x all is = subst P (same_Some y x is) (All-head P y ys all)
all-at P (y ∷ ys) (suc i) x all is = all-at P ys i x (All-tail P y ys all) is

some-map : {X Y : Type 0} (f : X → Y) (o : Option X) → IsSome o → IsSome (option_map f o)
some-map f (Some x) there = refl
some-map f None there = absurd (cc)

some-at : {X : Type 0} (xs : List X) (i : ℕ) → i < length xs → (x : X) × (slice_get xs i ≡ Some x)
some-at [] i below = absurd (omega arith)
some-at (x ∷ xs) zero below = (x, refl)
some-at (x ∷ xs) (suc i) below = some-at xs i (omega arith)

module _ (p : Plan) (plan : PortPlan) (port : IsPort p.subport_kinds p.pipe_kinds plan) where
  -- the pipes of a subport are all there
  pipe-there : (s : SubportPlan) (shaping : Shaping) (pipe : ℕ) → IsSubport p.subport_kinds p.pipe_kinds s → pipe < length s.pipes
      → IsSome (slice_get (subport_with {T = Pkt} p plan s shaping).pipes pipe)
  pipe-there s shaping pipe is below =
      let start = pipe_start {T = Pkt} plan.line s.sizes in
      let number = some-at s.pipes pipe below in
      let found = made-at (pipe_kind_of p.pipe_kinds) s.pipes pipe number.0 is.each_pipe number.1 in
      let kind = all-at (λ n. IsSome (pipe_kind_of p.pipe_kinds n)) s.pipes pipe number.0 is.each_pipe number.1 in
      rw (slice_get-map start (kinds_of p s) pipe ∙ ap (option_map start) found)
      (some-map start (pipe_kind_of p.pipe_kinds number.0) kind)

  subports-there : All (λ s. IsSome (subport_start {T = Pkt} p plan s)) plan.subports
  subports-there = All-weaker (IsSubport p.subport_kinds p.pipe_kinds) (λ s. IsSome (subport_start {T = Pkt} p plan s))
      (λ s is. some-map (subport_with {T = Pkt} p plan s) (subport_kind_of p.subport_kinds s.kind) is.kind) plan.subports port.each

  pipe-with : (s : SubportPlan) (found : Option Shaping) (pipe : ℕ) → IsSome found → IsSubport p.subport_kinds p.pipe_kinds s
      → pipe < length s.pipes
      → IsSome (option_and_then (λ (t : Subport Pkt). slice_get t.pipes pipe) (option_map (subport_with p plan s) found))
  pipe-with s (Some shaping) pipe there is below = pipe-there s shaping pipe is below
  pipe-with s None pipe there is below = absurd (cc)

  -- and with them the pipe of a packet's numbers
  pipe-of : (packet : Pkt) (found : Option SubportPlan) → slice_get plan.subports packet.subport ≡ found → IsSome found
      → IfSome found (λ s. packet.pipe < length s.pipes) → IsSome (pipe_of (started p plan) packet.subport packet.pipe)
  unfolding started
  pipe-of packet None is there below = absurd (cc)
  pipe-of packet (Some s) is there below =
      let kept = all-at (IsSubport p.subport_kinds p.pipe_kinds) plan.subports packet.subport s port.each is in
      rw (made-at (subport_start {T = Pkt} p plan) plan.subports packet.subport s subports-there is)
      (pipe-with s (subport_kind_of p.subport_kinds s.kind) packet.pipe kept.kind kept below)

  mtu-is : (started p plan).mtu ≡ plan.mtu
  unfolding started
  mtu-is = refl

pub places-there : (p : Plan) → PlacesAreThere p
places-there p packet plan keeps placed at =
    let port = all-at (IsPort p.subport_kinds p.pipe_kinds) p.ports packet.port plan keeps.each_port at in
    let there = rw at at placed.subport in
    let below = rw at at placed.pipe in
    let short = rw at at placed.short in
    let pipe = pipe-of p plan port packet (slice_get plan.subports packet.subport) refl there below in
    let queue = placed.queue in
    let mtu = mtu-is p plan port in
    rw (mtu, pipe) (grind (arith, nat_tests))
