-- The meters that records ask are those of their profile.
use Rattle.std.proofs.Common.{◌<◌, ℕ, ◌+◌, ◌-◌, List, [], ◌∷◌, length, Option, None, Some, IfSome, Result, Ok, Err, IfOk, All, Bool, true, false, cond}
use Rattle.std.specs.Prelude.{nat_lt, find, if◌then◌else◌}
use Rattle.std.specs.Option.{option_and_then, option_map, option_map_or}
use Rattle.std.proofs.lemmas.List.Elements.{All-append, All-cons, All-head, All-nil, All-tail}
use Rattle.qos_base.specs.declared.reason.Reason.{Reason}
use Rattle.qos_base.specs.declared.reason.Reason.TheVariants.{Unmatched, Oversize, TooLong, Unparsed}
use Rattle.qos_pcap.specs.Format.{Record}
use Rattle.profile_plan.specs.declared.rule.RulePlan.{RulePlan}
use Rattle.profile_plan.specs.Profile.{IsRule, KeepsLimits, Plan}
use Rattle.port_classify.specs.declared.destination.Place.{Place}
use Rattle.port_classify.specs.declared.frame.Frame.{Frame}
use Rattle.port_classify.specs.Frame.{frame_of}
use Rattle.port_classify.specs.Place.{entry_by, matches, pipe_by, pipes_of, place_by, place_of, place_with}
use Rattle.pkt_slots.specs.Placed.{mtu_at}
use Rattle.pkt_receive.specs.declared.classify.Classified.{Classified}
use Rattle.pkt_receive.specs.Classes.{class_at, class_of, class_with}
use Rattle.pkt_receive.specs.Marks.{asked_by, asked_from, asked_of, request_of, requests_by}
use Rattle.meter_table.specs.Asked.{Request}

module _ {X : Type 0} (P : X → Type 0) where
  first-of : (b : Bool) (x : X) (o : Option X) → P x → IfSome o P → IfSome (cond b (Some x) o) P
  first-of true x o first other = first
  first-of false x o first other = other

  -- what holds of each element holds of the one that is found
  found : (test : X → Bool) (xs : List X) → All P xs → IfSome (find test xs) P
  found test [] all = tt
  found test (x ∷ xs) all = first-of (test x) x (find test xs) (All-head P x xs all) (found test xs (All-tail P x xs all))

  any-some : (o : Option X) → IfSome o (λ _. Unit {0})
  any-some None = tt
  any-some (Some x) = tt

  some-then : {Y : Type 0} (Q : Y → Type 0) (o : Option X) (k : X → Option Y) → IfSome o P → ((x : X) → P x → IfSome (k x) Q)
      → IfSome (option_and_then k o) Q
  some-then Q None k p each = tt
  some-then Q (Some x) k p each = each x p

  some-map : {Y : Type 0} (f : Y → X) (o : Option Y) → ((y : Y) → P (f y)) → IfSome (option_map f o) P
  some-map f None each = tt
  some-map f (Some y) each = each y

  ok-or : {Y E : Type 0} (Q : Y → Type 0) (o : Option X) (f : X → Result Y E) (d : Result Y E) → IfSome o P
      → ((x : X) → P x → IfOk (f x) Q) → IfOk d Q → IfOk (option_map_or f o d) Q
  ok-or Q None f d p each other = other
  ok-or Q (Some x) f d p each other = each x p

  ok-if : {E : Type 0} (b : Bool) (x y : Result X E) → IfOk x P → IfOk y P → IfOk (if b then x else y) P
  ok-if true x y first second = first
  ok-if false x y first second = second

module _ (p : Plan) (limits : KeepsLimits p) where
  -- its meter, if it has one, is one of the profile's
  abbrev IsMetered : Place → Type 0
  IsMetered place = IfSome place.meter (λ m. m < length p.meters)

  abbrev HasMeter : Classified → Type 0
  HasMeter class = IsMetered class.place

  rule-metered : (f : Frame) (r : RulePlan) → IsRule p.ports p.meters r → IfSome (place_by p f r) IsMetered
  rule-metered f r is =
      let pipe : Option ℕ = pipe_by r.pipe (pipes_of p r) f in
      some-then (λ _. Unit {0}) IsMetered pipe (λ pipe. option_map (place_with r pipe) (entry_by r.code p.codes f.dscp))
      (any-some (λ _. Unit {0}) pipe)
      (λ pipe _. some-map IsMetered (place_with r pipe) (entry_by r.code p.codes f.dscp) (λ entry. is.meter))

  place-metered : (input : ℕ) (f : Frame) → IfSome (place_of p input f) IsMetered
  place-metered input f =
      some-then (IsRule p.ports p.meters) IsMetered (find (matches p input f) p.rules) (place_by p f)
      (found (IsRule p.ports p.meters) (matches p input f) p.rules limits.rules) (rule-metered f)

  frame-metered : (input : ℕ) (r : Record) (f : Frame) → IfOk (class_with p input r f) HasMeter
  frame-metered input r f =
      ok-or IsMetered HasMeter (place_of p input f) (class_at p r f) (Err Unmatched) (place-metered input f)
      (λ place is.
      ok-if HasMeter (nat_lt (mtu_at p place.port) r.wire) (Err Oversize) (Ok (record { place = place; len = r.wire - f.header })) tt is)
      tt

  class-metered : (input : ℕ) (r : Record) → IfOk (class_of p input r) HasMeter
  class-metered input r =
      let frame : Option Frame = frame_of r.body in
      ok-if HasMeter (nat_lt p.pool.slot_bytes r.cap) (Err TooLong) (option_map_or (class_with p input r) frame (Err Unparsed)) tt
      (ok-or (λ _. Unit {0}) HasMeter frame (class_with p input r) (Err Unparsed) (any-some (λ _. Unit {0}) frame)
      (λ f _. frame-metered input r f) tt)

  abbrev AsksMeter : Request → Type 0
  AsksMeter request = request.meter < length p.meters

  module _ (origin input : ℕ) where
    class-asks : (index : ℕ) (r : Record) (class : Result Classified Reason) → IfOk class HasMeter
        → All AsksMeter (requests_by origin input index r class)
    class-asks index r (Err reason) is = All-nil AsksMeter
    class-asks index r (Ok class) is = asks class.place.meter is where
      asks : (meter : Option ℕ) → IfSome meter (λ m. m < length p.meters)
          → All AsksMeter (option_map_or (λ meter. request_of origin input index r.stamp class meter ∷ []) meter [])
      asks None is = All-nil AsksMeter
      asks (Some m) is = All-cons AsksMeter (request_of origin input index r.stamp class m) [] is (All-nil AsksMeter)

    from-asks : (index : ℕ) (rs : List Record) → All AsksMeter (asked_from p origin input index rs)
    from-asks index [] = All-nil AsksMeter
    from-asks index (r ∷ rs) =
        All-append AsksMeter (asked_by p origin input index r) (asked_from p origin input (index + 1) rs)
        (class-asks index r (class_of p input r) (class-metered input r)) (from-asks (index + 1) rs)

    pub asked-metered : (rs : List Record) → All (λ request. request.meter < length p.meters) (asked_of p origin input rs)
    asked-metered rs = from-asks 0 rs
