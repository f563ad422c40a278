use Rattle.std.proofs.Common.{◌<◌, ℕ, List, sym, subst, length, get_or, rules}
use Rattle.stage_ring.specs.declared.outlet.Outlet.{Outlet}
use Rattle.stage_ring.specs.Ends.{IsNew}
use Rattle.stage_ring.proofs.Rings.{begins, each_push}
use Rattle.stage_ring.proofs.make.ring.Goals as goal

pub ruled-requires-clause-rule : goal.ruled-requires-clause-rule
ruled-requires-clause-rule g c = begins

pub loop-number-preserved : goal.loop-number-preserved
loop-number-preserved g c =
    let before = c.loop-number.invariant in
    let made = c.in_ok-next_outlet.ensures.outlet in
    let same = c.in_ok-next_outlet.ensures.own.0 in
    let pushed = c.push_reserved.ensures.items in
    let P : ℕ → Outlet → Type 0 = λ k o. IsNew c.next_outlet.new.pass.table_id c.args.capacity c.args.senders k o in
    let as_new : (k : ℕ) (o : Outlet) → IsNew c.loop-number.pass.table_id c.args.capacity c.args.senders k o → P k o = λ k o h. subst (λ t. IsNew t c.args.capacity c.args.senders k o) (sym same) h in
    let old = c.loop-number.outlets.items in
    let next : IsNew c.loop-number.pass.table_id c.args.capacity c.args.senders c.loop-number.number c.in_ok-next_outlet.field-0 =
    subst (λ a. IsNew c.loop-number.pass.table_id a c.args.senders c.loop-number.number c.in_ok-next_outlet.field-0) before.holds made in
    let last : P (length old) c.in_ok-next_outlet.field-0 = subst (λ k. P k c.in_ok-next_outlet.field-0) (sym before.count) (as_new _ _ next) in
    let all = each_push P old c.in_ok-next_outlet.field-0 (λ k d lt. as_new k (get_or old k d) (before.fresh k d lt)) last in
    record {
      own = search rules;
      knows = search rules;
      holds = before.holds;
      count = search rules;
      fresh = subst (λ (l : List Outlet). (k : ℕ) (d : Outlet) → k < length l → P k (get_or l k d)) (sym pushed) all;
      room = search rules;
    }
