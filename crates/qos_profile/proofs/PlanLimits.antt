-- All limits of the profile that sections without a fault say.
use Rattle.std.proofs.Common.{List, refl, sym, subst}
use Rattle.profile_plan.specs.Limits.{Within}
use Rattle.profile_plan.specs.Profile.{KeepsLimits}
use Rattle.qos_profile.specs.declared.head.Head.TheVariants as heads
use Rattle.qos_profile.specs.declared.section.Section.{Section}
use Rattle.qos_profile.specs.Lookups.{facts_at}
use Rattle.qos_profile.specs.Planned.{shaping_of, pipe_kind_of, rule_of, plan_of}
use Rattle.qos_profile.specs.Fits.{FitSections}
use Rattle.qos_profile.proofs.Sound.{IsSound}
use Rattle.qos_profile.proofs.PartLimits.{pool-limits}
use Rattle.qos_profile.proofs.KindLimits.{keys-increase, subport-kinds-limits, pipe-kind-number, pipe-kinds-limits, kinds-fit}
use Rattle.qos_profile.proofs.PortLimits.{ports-limits, ports-length, port-count-limits, ports-fit}
use Rattle.qos_profile.proofs.TotalLimits.{pipe-total-limits, queue-total-limits}
use Rattle.qos_profile.proofs.MeterLimits.{meters-limits, meters-few}
use Rattle.qos_profile.proofs.MeterNames.{names-apart}
use Rattle.qos_profile.proofs.RuleLimits.{rules-limits, rule-number, rules-fit, codes-limits, codes-fit}

pub plan-limits : (ss : List Section) → IsSound ss → KeepsLimits (plan_of ss)
unfolding plan_of
plan-limits ss sound =
    let codes = codes-limits ss sound in
    record {
      pool = pool-limits ss sound;
      ports = subst (Within 1 16) (sym (ports-length ss)) (port-count-limits ss sound);
      each_port = ports-limits ss sound;
      pipes = pipe-total-limits ss sound;
      queues = queue-total-limits ss sound;
      subport_kinds = subport-kinds-limits ss sound;
      subport_kinds_order = keys-increase ss heads.SubportKind 64 (λ n. (n, shaping_of (facts_at ss (heads.SubportKind n)))) (λ kind. kind.0) (λ n. refl);
      pipe_kinds = pipe-kinds-limits ss sound;
      pipe_kinds_order = keys-increase ss heads.PipeKind 256 (λ n. pipe_kind_of n (facts_at ss (heads.PipeKind n))) (λ kind. kind.number) (λ n. pipe-kind-number n (facts_at ss (heads.PipeKind n)));
      codes = codes.0;
      code_count = codes.1;
      meters = meters-limits ss sound;
      meter_count = meters-few ss sound;
      meter_names = names-apart ss ss sound.each sound.apart;
      rules = rules-limits ss sound;
      rules_order = keys-increase ss heads.Rule 256 (λ n. rule_of ss n (facts_at ss (heads.Rule n))) (λ rule. rule.number) (λ n. rule-number ss n (facts_at ss (heads.Rule n)));
    }

pub parts-fit : (ss : List Section) → IsSound ss → FitSections ss
parts-fit ss sound =
    record { pool = pool-limits ss sound; ports = ports-fit ss sound; pipe_kinds = kinds-fit ss sound; codes = codes-fit ss sound; rules = rules-fit ss sound }
