-- What no step of a dequeue changes.
use Rattle.std.proofs.Common.{◌≡◌, ℕ, zero, suc, ◌+◌, ◌*◌, min, Bool, true, false, cond, ltb, ◌&&◌, List, [], ◌∷◌, Some, drop, length, map, refl, sym, ap, ◌∙◌, set, length-set}
use Rattle.std.specs.List.{slice_get}
use Rattle.std.proofs.Math.Seq.{map-set_same}
use Rattle.std.proofs.lemmas.Bool.{cond_both}
use Rattle.std.proofs.lemmas.Option.{get_or_from_slice_get}
use Rattle.qos_base.specs.declared.packet.Pkt.{Pkt}
use Rattle.credit_book.specs.Watermark.{stepped}
use Rattle.queue_store.specs.Queues.{list_of}
use Rattle.profile_plan.specs.declared.shaping.Whole.{Whole}
use Rattle.port_sched.specs.Level.{Level, is_due, level_renewed, used}
use Rattle.port_sched.specs.Pipe.{Pipe}
use Rattle.port_sched.specs.Subport.{Subport}
use Rattle.port_sched.specs.Port.{Port, pipe_tick, subport_tick}
use Rattle.port_sched.specs.Renewal.{has_seen, used_above, watermark_renewed, subport_renewed, share_renewed, pipe_renewed}
use Rattle.port_sched.specs.Classes.{Visit, four_allow, best_effort_allows, best_effort_waits, after_pick, picked, draw, draws, after_draws, strict_turn, best_effort_turn, classes_turn}
use Rattle.port_sched.specs.Sends.{longest_front}
use Rattle.port_sched.specs.Visit.{visit_start, cursor_after}
use Rattle.port_sched.specs.PortDequeue.{Course, cost_with, service_start, dequeue_port}
use Rattle.port_sched.specs.Settings.{PipeSetting, pipe_setting, subport_setting, setting_of}
use Rattle.port_sched.proofs.Along.{Joins, HoldsOfSteps, classes-along, visited, dequeue-along}

-- what stays the same goes along
pub same-along : {X Y : Type 0} (f : X → Y) → Joins (λ a b. f b ≡ f a)
same-along f = record { none = λ a. refl; joined = λ a b c one two. two ∙ one }

pub map-same : {X Y : Type 0} (f : X → Y) (g : X → X) → ((x : X) → f (g x) ≡ f x) → (xs : List X) → map f (map g xs) ≡ map f xs
map-same f g same [] = refl
map-same f g same (x ∷ xs) = λ i. same x i ∷ map-same f g same xs i

level-setting : (moment : ℕ) (l : Level) → (level_renewed moment l).plan ≡ l.plan
level-setting moment l = cond_both (is_due moment l) (record l { classes = l.plan.tc_credits; due = moment + l.plan.tc_period }) l (λ m. m.plan ≡ l.plan) (λ _. refl) (λ _. refl)

module _ {T : Type 0} where
  -- a pipe with another list in one of its queues
  pub list-setting : (p : Pipe T) (queue : ℕ) (ts : List T)
      → pipe_setting (record p { queues = record p.queues { lists = set p.queues.lists queue ts } }) ≡ pipe_setting p
  list-setting p queue ts = ap (λ n. record (pipe_setting p) { queues = n }) (length-set p.queues.lists queue ts)

  cond-setting : (b : Bool) (p q : Pipe T) → pipe_setting p ≡ pipe_setting q → pipe_setting (cond b p q) ≡ pipe_setting q
  cond-setting true p q same = same
  cond-setting false p q same = refl

  -- a step of the watermark leaves its bounds
  watermark-setting : (s : Subport T)
      → record (subport_setting s) { be_credits = (watermark_renewed s).be_credits; least = (watermark_renewed s).mtu_cost; most = (watermark_renewed s).max } ≡ subport_setting s
  watermark-setting s =
      cond_both (s.oversub && s.oversubscribed) (stepped (used_above s.level) (used 12 s.level) s.watermark) s.watermark
      (λ w. record (subport_setting s) { be_credits = w.be_credits; least = w.mtu_cost; most = w.max } ≡ subport_setting s) (λ _. refl) (λ _. refl)

  renewed-setting : (moment : ℕ) (s : Subport T) → subport_setting (subport_renewed moment s) ≡ subport_setting s
  renewed-setting moment s =
      cond_both (is_due moment s.level) (record s { level = level_renewed moment s.level; watermark = watermark_renewed s; period = s.period + 1 }) s
      (λ t. subport_setting t ≡ subport_setting s)
      (λ _. (λ i. record (subport_setting s) {
        plan = level-setting moment s.level i;
        be_credits = (watermark_renewed s).be_credits;
        least = (watermark_renewed s).mtu_cost;
        most = (watermark_renewed s).max;
      }) ∙ watermark-setting s)
      (λ _. refl)

  share-setting : (s : Subport T) (p : Pipe T) → pipe_setting (share_renewed s p) ≡ pipe_setting p
  share-setting s p =
      let granted : Pipe T = record p { share = s.watermark.value * p.weight; seen = Some s.period } in
      cond_both s.oversub (cond (has_seen s.period p.seen) p granted) p (λ q. pipe_setting q ≡ pipe_setting p)
      (λ _. cond_both (has_seen s.period p.seen) p granted (λ q. pipe_setting q ≡ pipe_setting p) (λ _. refl) (λ _. refl))
      (λ _. refl)

  pipe-setting : (moment : ℕ) (s : Subport T) (p : Pipe T) → pipe_setting (pipe_renewed moment s p) ≡ pipe_setting p
  pipe-setting moment s p =
      share-setting s (record p { level = level_renewed moment p.level })
      ∙ ap (λ plan. record (pipe_setting p) { plan = plan }) (level-setting moment p.level)

-- the plan of a visit's subport, and the setting of its pipe
record VisitSetting : Type 0 where
  subport : Whole
  pipe : PipeSetting

module _ {T : Type 0} (cost : T → ℕ) where
  abbrev visit_setting : Visit T → VisitSetting
  visit_setting v = record { subport = v.subport.plan; pipe = pipe_setting v.pipe }

  draws-setting : (n : ℕ) (p : Pipe T) → pipe_setting (after_draws cost n p) ≡ pipe_setting p
  unfolding after_draws
  draws-setting zero p = refl
  draws-setting (suc n) p = draws-setting n (draw cost p) ∙ list-setting p (12 + picked p) (drop 1 (list_of (12 + picked p) p.queues))

  strict-setting : (v : Visit T) (class : ℕ) → visit_setting (strict_turn cost v class) ≡ visit_setting v
  strict-setting v class =
      let waits = list_of class v.pipe.queues in
      let n = longest_front cost (four_allow class v) (min v.room (length waits)) waits in
      ap (λ p. record { subport = v.subport.plan; pipe = p }) (list-setting v.pipe class (drop n waits))

  best_effort-setting : (v : Visit T) → visit_setting (best_effort_turn cost v) ≡ visit_setting v
  best_effort-setting v =
      let front = draws cost v.room v.pipe in
      let n = longest_front cost (best_effort_allows v) (length front) front in
      let drawn = after_draws cost n v.pipe in
      ap (λ p. record { subport = v.subport.plan; pipe = p })
      (cond-setting (ltb n v.room && best_effort_waits drawn) (after_pick drawn) drawn refl ∙ draws-setting n v.pipe)

  classes-setting : (v : Visit T) → visit_setting (classes_turn cost v) ≡ visit_setting v
  classes-setting v = classes-along cost (λ a b. visit_setting b ≡ visit_setting a) (same-along visit_setting) strict-setting best_effort-setting v

module _ {T : Type 0} (packet : T → Pkt) where
  visited-setting : (k q : ℕ) (c : Course T) (s : Subport T) (p : Pipe T) → slice_get c.port.subports k ≡ Some s
      → slice_get s.pipes q ≡ Some p → setting_of (visited packet k q c s p).port ≡ setting_of c.port
  visited-setting k q c s p subport pipe =
      let start = visit_start (service_start packet c s) p in
      let end = classes_turn (cost_with packet c.port.overhead) start in
      let turn = classes-setting (cost_with packet c.port.overhead) start in
      let renewed = subport_renewed c.port.time s in
      let was = renewed-setting c.port.time s in
      let plan : end.subport.plan ≡ s.level.plan = ap (λ v. v.subport) turn ∙ ap (λ t. t.plan) was in
      let own : pipe_setting end.pipe ≡ pipe_setting p = ap (λ v. v.pipe) turn ∙ pipe-setting c.port.time renewed p in
      let pipes = map-set_same pipe_setting s.pipes q end.pipe p (own ∙ ap pipe_setting (sym (get_or_from_slice_get s.pipes q p p pipe))) in
      let after : Subport T = record renewed { level = end.subport; cursor = cursor_after q (length s.pipes) end.room; pipes = set s.pipes q end.pipe } in
      let same : subport_setting after ≡ subport_setting s = λ i. record (was i) { plan = plan i; pipes = pipes i } in
      ap (λ subports. record (setting_of c.port) { subports = subports })
      (map-set_same subport_setting c.port.subports k after s (same ∙ ap subport_setting (sym (get_or_from_slice_get c.port.subports k s s subport))))

  setting-holds : HoldsOfSteps packet (λ c d. setting_of d.port ≡ setting_of c.port)
  setting-holds = record {
    along = same-along (λ c. setting_of c.port);
    ticked = λ c. ap (λ subports. record (setting_of c.port) { subports = subports })
        (map-same subport_setting (subport_tick c.port.ticked c.port.time) (λ s. ap (λ pipes. record (subport_setting s) { pipes = pipes })
        (map-same pipe_setting (pipe_tick c.port.ticked c.port.time) (λ p. refl) s.pipes)) c.port.subports);
    moved = λ c k. refl;
    served = λ k q c s p subport next pipe. visited-setting k q c s p subport pipe;
  }

  pub setting-stays : (now room : ℕ) (s : Port T) → setting_of (dequeue_port packet now room s).port ≡ setting_of s
  setting-stays now room s = dequeue-along packet (λ c d. setting_of d.port ≡ setting_of c.port) setting-holds now room s
