use Rattle.std.proofs.Common.{◌*◌, ◌/◌, get_or, ap, ◌∙◌}
use Rattle.std.proofs.lemmas.List.{get_or-map}
use Rattle.std.proofs.Math.Nat.{div-mul_cancel}
use Rattle.wrr_pick.specs.Multiple.{least_common_multiple}
use Rattle.wrr_pick.proofs.Multiples.{least_common_multiple-is_least}
use Rattle.wrr_pick.proofs.laws.factors_are_shares.Goals as goal

pub returns : goal.returns
returns c = λ weights k all below.
    let m = least_common_multiple weights in
    ap (λ f. f * get_or weights k 0) (get_or-map (λ w. m / w) weights k 0 0 below) ∙ div-mul_cancel (get_or weights k 0) ((least_common_multiple-is_least weights all).multiple k 0 below)
