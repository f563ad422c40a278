-- A schedule stays steady, entry by entry.
use Rattle.std.proofs.Common.{◌≡◌, ◌≤◌, ◌^◌, ℕ, ◌+◌, false, IsTrue, [], ◌∷◌, ◌++◌, length, leb, refl, sym, ap, ◌∙◌, subst, length-append, arith}
use Rattle.std.specs.List.{Contains}
use Rattle.std.proofs.lemmas.Bool.Decides.{nat_tests}
use Rattle.std.proofs.lemmas.List.Elements.{All-nil, All-cons, All-weaker, All-contains, All-same}
use Rattle.std.proofs.lemmas.List.Sorted.{length_permutation}
use Rattle.qos_base.specs.declared.packet.Pkt.{Pkt}
use Rattle.profile_plan.specs.declared.limits.TheConstants.{MAX_MTU}
use Rattle.port_sched.specs.Parcels.{itself}
use Rattle.port_sched.specs.Port.{Port, left_of, has_place, is_full, after_arrival}
use Rattle.port_sched.specs.PortDequeue.{cost_with, dequeue_port}
use Rattle.port_sched.specs.PortLaws.{AllWaiting, DequeueServes, ArrivalJoins}
use Rattle.port_sched.specs.Settings.{PortSetting, IsPortWithin, DequeueKeeps, ArrivalKeeps}
use Rattle.port_sched.specs.Stage.{max_cost}
use Rattle.run_journal.specs.declared.entry.Entry.TheVariants.{Dequeue}
use Rattle.run_journal.specs.Schedule.{Schedule, at_start, after_entry}
use Rattle.run_journal.specs.PortRun.{IsSteady}
use Rattle.run_journal.proofs.Placed.{place-same, short-placed}

true_le : (m n : ℕ) → IsTrue (leb m n) → m ≤ n
true_le m n is = grind (arith, nat_tests)

module _ (start : Port Pkt) (arrived : ℕ) (s : Schedule) where
  abbrev IsShort : Pkt → Type 0
  IsShort p = p.wire ≤ start.mtu

  dear : IsSteady start arrived s → AllWaiting (λ p. cost_with itself s.port.overhead p ≤ max_cost) s.port
  dear steady =
      let same : s.port.overhead ≡ start.overhead = ap (λ (g : PortSetting). g.overhead) steady.setting in
      let mtu = steady.mtu in
      let bytes = steady.overhead in
      All-weaker IsShort (λ p. cost_with itself s.port.overhead p ≤ max_cost) (λ p short. omega (arith, short, same, mtu, bytes)) (left_of s.port) steady.short

  pub steady-dequeued : (now room : ℕ) → IsSteady start arrived s → DequeueServes itself now room s.port → DequeueKeeps itself now room s.port → now ≤ 2 ^ 57 → IsSteady start arrived (after_entry s (Dequeue now room))
  steady-dequeued now room steady serves keeps in_time =
      let made = dequeue_port itself now room s.port in
      let all = length-append s.sends made.sends in
      let counted = serves.counts.counted in
      let later = serves.counts.no_later max_cost (dear steady) in
      let total = steady.account in
      let time = steady.time in
      record {
        overhead = steady.overhead;
        mtu = steady.mtu;
        setting = keeps.setting ∙ steady.setting;
        within = keeps.within steady.within;
        account = omega (arith, all, counted, total);
        short = All-weaker (Contains (left_of s.port)) IsShort (λ p there. All-contains IsShort (left_of s.port) p steady.short there) (left_of made.port) serves.counts.waiting;
        time = omega (arith, all, later, time, in_time);
      }

  module _ (p : Pkt) where
    pub place-now : IsSteady start arrived s → IsTrue (has_place p start) → IsTrue (has_place p s.port)
    place-now steady placed = subst IsTrue (sym (place-same p s.port start steady.setting)) placed

    pub steady-joined : IsSteady start arrived s → ArrivalJoins itself p s.port → ArrivalKeeps itself p s.port → IsTrue (has_place p start) → is_full p s.port ≡ false → IsSteady start (arrived + 1) (record s { port = after_arrival itself p s.port })
    steady-joined steady joins keeps placed open_there =
        let after = after_arrival itself p s.port in
        let one_more = length_permutation (left_of after) (p ∷ left_of s.port) (joins.each_once steady.within (place-now steady placed)) in
        let short_one : p.wire ≤ start.mtu = true_le p.wire start.mtu (short-placed p start placed) in
        let all_short = All-cons IsShort p (left_of s.port) short_one steady.short in
        let total = steady.account in
        record {
          overhead = steady.overhead;
          mtu = steady.mtu;
          setting = keeps.setting ∙ steady.setting;
          within = keeps.within open_there steady.within;
          account = omega (arith, one_more, total);
          short = All-weaker (Contains (p ∷ left_of s.port)) IsShort (λ q there. All-contains IsShort (p ∷ left_of s.port) q all_short there) (left_of after) joins.waiting;
          time = steady.time;
        }

    pub steady-turned_away : IsSteady start arrived s → IsSteady start (arrived + 1) (record s { drops = s.drops ++ p ∷ [] })
    steady-turned_away steady =
        let dropped = length-append s.drops (p ∷ []) in
        let total = steady.account in
        record {
          overhead = steady.overhead;
          mtu = steady.mtu;
          setting = steady.setting;
          within = steady.within;
          account = omega (arith, dropped, total);
          short = steady.short;
          time = steady.time;
        }

-- a port at its start, where nothing waits
pub steady-new : (start : Port Pkt) → left_of start ≡ [] → IsPortWithin start → start.overhead ≤ 255 → start.mtu ≤ MAX_MTU → start.time ≡ 0 → IsSteady start 0 (at_start start)
steady-new start none within overhead mtu time =
    let nothing = ap length none in
    record {
      overhead = overhead;
      mtu = mtu;
      setting = refl;
      within = within;
      account = omega (arith, nothing);
      short = All-same (λ (p : Pkt). p.wire ≤ start.mtu) (left_of start) [] none (All-nil (λ (p : Pkt). p.wire ≤ start.mtu));
      time = omega (arith, time);
    }
