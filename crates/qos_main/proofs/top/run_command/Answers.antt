use Rattle.std.proofs.Common.{ap, ◌∙◌, Err, [], refl}
use Rattle.port_files.specs.Among.{ChangesAmong-unchanged}
use Rattle.qos_words.specs.Words.{Asked}
use Rattle.qos_main.specs.Command.CommandEnds.{faulty, ran, refused}
use Rattle.qos_main.proofs.Earlier.{IsRun-since, HasRefused-since}
use Rattle.qos_main.proofs.Loads.{fault-on, is-nothing, profile-on, still-empty}
use Rattle.qos_main.proofs.top.run_command.Goals as goal

pub returns-in-Err-Fault-clause-ends : goal.returns-in-Err-Fault-clause-ends
returns-in-Err-Fault-clause-ends g c number =
    let loaded = c.load_profile.ensures in
    let none = c.nothing-in-Err-Fault.ensures in
    faulty none.profile none.status c.in-Err-Fault.fault
    (is-nothing c.nothing-in-Err-Fault.result.ended number none.empty none.note
    (ChangesAmong-unchanged [] loaded.others loaded.closed loaded.never_falls))
    (fault-on g.H.Shelf c.args.command.now c.args.shelf.now c.command.inside.profile.now
    (ap (λ (a : Asked). a.profile) c.command.view_is) c.load_profile.result c.in-Err-Fault.fault
    (c.in-Err-Fault.is ∙ ap Err c.in-Err-Fault.field-0-is) loaded.loaded)

pub returns-in-Ok-run-clause-ends : goal.returns-in-Ok-run-clause-ends
returns-in-Ok-run-clause-ends g c number =
    let loaded = c.load_profile.ensures in
    ran c.in-Ok.p refl
    (profile-on g.H.Shelf c.args.command.now c.args.shelf.now c.command.inside.profile.now
    (ap (λ (a : Asked). a.profile) c.command.view_is) c.in-Ok.p (rw c.p.view_is at c.p.invariant)
    c.in-Ok.ensures.loaded)
    (IsRun-since c.args.command.now c.in-Ok.p c.args.shelf.now c.load_profile.new.shelf c.run.new.shelf
    (ChangesAmong-unchanged [] loaded.others loaded.closed loaded.never_falls)
    c.in-Ok-run.status c.in-Ok-run.ended number c.in-Ok-run.ensures.ran)

pub returns-in-Err-clause-ends : goal.returns-in-Err-clause-ends
returns-in-Err-clause-ends g c number =
    let loaded = c.load_profile.ensures in
    let none = c.nothing-in-Err.ensures in
    refused none.profile none.status (still-empty c.nothing-in-Err.result.ended number none.empty) none.note c.in-Ok.p
    (profile-on g.H.Shelf c.args.command.now c.args.shelf.now c.command.inside.profile.now
    (ap (λ (a : Asked). a.profile) c.command.view_is) c.in-Ok.p (rw c.p.view_is at c.p.invariant)
    c.in-Ok.ensures.loaded)
    (HasRefused-since c.args.command.now c.in-Ok.p c.args.shelf.now c.load_profile.new.shelf c.run.new.shelf
    (ChangesAmong-unchanged [] loaded.others loaded.closed loaded.never_falls) c.in-Err.ensures.refused)
