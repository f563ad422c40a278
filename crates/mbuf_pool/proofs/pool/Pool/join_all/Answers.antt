use Rattle.std.proofs.Common.{◌≡◌, ◌∙◌, ◌||◌, ℕ, Bool, true, false, length, refl, arith, ap, length-append}
use Rattle.std.specs.List.{sum_by}
use Rattle.std.proofs.lemmas.List.Sums.{sum_by_push, sum_by-append}
use Rattle.std.proofs.lemmas.List.Elements.{All-pop, All-push, All-same}
use Rattle.mbuf_pool.specs.declared.pass.PoolPass.{PoolPass}
use Rattle.mbuf_pool.specs.FreeList.{weigh}
use Rattle.mbuf_pool.specs.Passes.{IsPassOf, parts_of, taken_by, given_by, has_met_zero}
use Rattle.mbuf_pool.proofs.pool.Pool.join_all.Goals as goal

left_met : (a b : Bool) → a ≡ true → (a || b) ≡ true
left_met true b e = refl
left_met false b e = elim b as (λ (x : Bool). (false || x) ≡ true) [ true ↦ refl | false ↦ e ]

right_met : (a b : Bool) → b ≡ true → (a || b) ≡ true
right_met true b e = refl
right_met false b e = e

pub loop-pass-preserved : goal.loop-pass-preserved
loop-pass-preserved c =
    let rest = c.pop-in-loop-pass.new.self.items in
    let pass = c.in-Some-pop.pass in
    let was = c.in-Some-pop.ensures.items in
    let before = c.loop-pass.invariant in
    record {
      mine = λ k d lt. (All-pop (IsPassOf c.args.self.now) _ _ _ c.pop-in-loop-pass.ensures.items before.mine).0 k d lt;
      pass = c.join.ensures.pass;
      parts = omega (arith, before.parts, c.join.ensures.parts, ap (sum_by parts_of) was, sum_by_push parts_of rest pass);
      taken = λ h.
          let of : PoolPass → ℕ = λ p. weigh h (taken_by p) in
          omega (arith, before.taken h, ap (weigh h) c.join.ensures.taken, sum_by-append h (taken_by c.loop-pass.all) (taken_by pass), ap (sum_by of) was, sum_by_push of rest pass);
      given = λ h.
          let of : PoolPass → ℕ = λ p. weigh h (given_by p) in
          omega (arith, before.given h, ap (weigh h) c.join.ensures.given, sum_by-append h (given_by c.loop-pass.all) (given_by pass), ap (sum_by of) was, sum_by_push of rest pass);
      count =
          let of : PoolPass → ℕ = λ p. length (taken_by p) in
          omega (arith, before.count, ap length c.join.ensures.taken, length-append (taken_by c.loop-pass.all) (taken_by pass), ap (sum_by of) was, sum_by_push of rest pass);
      met_zero = λ b all others.
          let both = c.join.ensures.met_zero in
          before.met_zero b (λ e. all (both ∙ left_met _ _ e))
          (All-same (λ p. has_met_zero p ≡ true → b ≡ true) _ _ was (All-push (λ p. has_met_zero p ≡ true → b ≡ true) rest pass others (λ e. all (both ∙ right_met _ _ e))));
    }

pub returns-clause-met_zero : goal.returns-clause-met_zero
returns-clause-met_zero c k d lt = c.loop-pass.invariant.met_zero (has_met_zero c.loop-pass.all) (λ e. e) (λ j e more. absurd (omega (arith, c.in_default-pop.ensures.cases.0, c.loop-pass.passes.ok))) k d lt
