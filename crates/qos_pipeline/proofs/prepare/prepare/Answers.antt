use Rattle.std.proofs.Common.{◌≡◌, ◌≤◌, ◌∙◌, List, length, map, string_bytes, vec_capacity, ap, subst}
use Rattle.profile_plan.specs.declared.port.PortPlan.{PortPlan}
use Rattle.profile_plan.specs.Profile.{Plan}
use Rattle.qos_words.specs.Names.{output_names}
use Rattle.qos_pipeline.specs.Prepared.{HasRoom}
use Rattle.qos_pipeline.proofs.prepare.prepare.Goals as goal

pub returns : goal.returns
returns g c =
    let same : c.as_slice-count.result.now ≡ c.args.p.now.ports = c.as_slice-count.ensures ∙ ap (λ (p : Plan). p.ports) c.p.view_is in
    record {
      egresses = c.in_ok-open_ports.ensures;
      names = subst (λ (ps : List PortPlan). map string_bytes c.in_ok-output_names.field-0.items ≡ output_names c.args.prefix.now (length ps)) same
          c.in_ok-output_names.ensures;
      outs = (
        c.in_ok-with_capacity.ensures.items,
        subst (λ (ps : List PortPlan). length ps ≤ vec_capacity c.in_ok-with_capacity.field-0) same c.in_ok-with_capacity.ensures.capacity,
      );
      rooms = subst (λ (ps : List PortPlan). HasRoom (length ps) c.in_ok-reserve.field-0) same c.in_ok-reserve.ensures;
    }
