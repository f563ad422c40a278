use Rattle.std.proofs.Common.{◌≤◌, length, Result, Ok, Err, ap, subst, ◌∙◌}
use Rattle.std.specs.Prelude.{IfOk}
use Rattle.qos_profile.specs.Faults.{fault_of_text}
use Rattle.qos_profile.specs.Planned.{profile_of}
use Rattle.qos_profile.proofs.printing.profile_text.Goals as goal

weaker : {X E : Type 0} (P Q : X → Type 0) (r : Result X E) → ((x : X) → P x → Q x) → IfOk r P → IfOk r Q
weaker P Q (Ok x) f h = f x h
weaker P Q (Err e) f h = h

pub returns-clause-fault : goal.returns-clause-fault
returns-clause-fault c =
    weaker _ _ c.profile_text.result (λ text is short. ap fault_of_text is ∙ c.texts_are_read_back.ensures.fault c.args.p.now c.limits.ensures c.forms.ensures (subst (λ t. length t ≤ 1048576) is short)) c.profile_text.ensures

pub returns-clause-profile : goal.returns-clause-profile
returns-clause-profile c =
    weaker _ _ c.profile_text.result (λ text is. ap profile_of is ∙ c.texts_are_read_back.ensures.profile c.args.p.now c.limits.ensures c.forms.ensures) c.profile_text.ensures
