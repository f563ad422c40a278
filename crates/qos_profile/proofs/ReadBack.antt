-- The text of a plan has no fault, and it says the plan.
use Rattle.std.proofs.Common.{◌≡◌, ◌≤◌, cond, [], length, None, Some, refl, ap, ◌∙◌}
use Rattle.std.specs.List.{flat_map}
use Rattle.std.proofs.lemmas.Bool.{le-ltb}
use Rattle.profile_plan.specs.Profile.{Plan, KeepsLimits}
use Rattle.profile_print.specs.Text.{text_of, blocks_of}
use Rattle.profile_print.specs.Plain.{block_lines}
use Rattle.qos_profile.specs.Sections.{first_fault, sections_of}
use Rattle.qos_profile.specs.Steps.{lines_of}
use Rattle.qos_profile.specs.Naming.{unnamed_line}
use Rattle.qos_profile.specs.Across.{across_line}
use Rattle.qos_profile.specs.Large.{too_large}
use Rattle.qos_profile.specs.Faults.{with_total, first_of, fault_of_sections, or_of_sections, fault_of_text}
use Rattle.qos_profile.specs.Planned.{plan_of, profile_of}
use Rattle.qos_profile.specs.Printed.{parts_of, printed_sections}
use Rattle.qos_profile.specs.Forms.{KeepsForms}
use Rattle.qos_profile.proofs.Blocks.{blocks-clean}
use Rattle.qos_profile.proofs.Heads.{heads-apart}
use Rattle.qos_profile.proofs.PlanParts.{plan-read}
use Rattle.qos_profile.proofs.Owing.{nothing-missing}
use Rattle.qos_profile.proofs.Named.{nothing-unnamed}
use Rattle.qos_profile.proofs.Lawful.{nothing-across, nothing-large}
use Rattle.qos_profile.proofs.PlanBack.{plan-same}

module _ (p : Plan) (lim : KeepsLimits p) (form : KeepsForms p) (same : lines_of (text_of p) ≡ flat_map block_lines (blocks_of p)) where
  pub clear-lines : first_fault [] (lines_of (text_of p)) ≡ None
  unfolding sections_of
  clear-lines =
      ap (first_fault []) same ∙ (blocks-clean [] 1 [] (blocks_of p) (parts_of p) refl refl (plan-read p lim form) refl (heads-apart p lim)).0

  pub same-sections : sections_of 1 (lines_of (text_of p)) ≡ printed_sections p
  unfolding sections_of
  same-sections =
      ap (sections_of 1) same ∙ (blocks-clean [] 1 [] (blocks_of p) (parts_of p) refl refl (plan-read p lim form) refl (heads-apart p lim)).1

  -- nothing is at fault in the whole
  pub clear-whole : fault_of_sections (printed_sections p) ≡ None
  clear-whole =
      ap (λ o. first_of o (unnamed_line (printed_sections p)) (across_line (printed_sections p)) (too_large (printed_sections p))) (nothing-missing p lim form)
      ∙ ap (λ o. first_of None o (across_line (printed_sections p)) (too_large (printed_sections p))) (nothing-unnamed p lim form)
      ∙ ap (λ o. first_of None None o (too_large (printed_sections p))) (nothing-across p lim)
      ∙ ap (first_of None None None) (nothing-large p lim form)

  pub clear-text : length (text_of p) ≤ 1048576 → fault_of_text (text_of p) ≡ None
  unfolding fault_of_text
  clear-text short =
      ap (λ t. cond t (Some (with_total (length (text_of p)))) (or_of_sections (first_fault [] (lines_of (text_of p))) (sections_of 1 (lines_of (text_of p))))) (le-ltb 1048576 (length (text_of p)) short)
      ∙ ap (λ o. or_of_sections o (sections_of 1 (lines_of (text_of p)))) clear-lines
      ∙ ap fault_of_sections same-sections
      ∙ clear-whole

  -- and the text says the plan
  pub same-plan : profile_of (text_of p) ≡ record p { skipped = [] }
  unfolding profile_of
  same-plan = ap plan_of same-sections ∙ plan-same p lim form
