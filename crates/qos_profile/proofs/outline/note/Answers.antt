-- qos_profile/proofs/outline/note/Answers.antt
use Rattle.std.proofs.Common.{sym, ◌∙◌}
use Rattle.qos_profile.proofs.Knowing.{notes-added, notes-red}
use Rattle.qos_profile.proofs.outline.note.Goals as goal

pub returns-then-is_red : goal.returns-then-is_red
returns-then-is_red c = notes-red c.args.heads.now c.args.head (sym c.is_red.ensures ∙ c.if-is_red.true)

pub returns-in-Ok : goal.returns-in-Ok
returns-in-Ok c =
    notes-added c.args.heads.now c.insert.new.self c.args.head c.in-Ok.added (sym c.is_red.ensures ∙ c.if-is_red.false) c.in-Ok.ensures.added c.in-Ok.ensures.updates.0 c.in-Ok.ensures.unchanged
