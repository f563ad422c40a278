use Rattle.qos_words.specs.Words.{Asked}
use Rattle.qos_main.specs.Ended.{IsEndOf, sums_over}
use Rattle.qos_main.proofs.Accounts.{ended-within}
use Rattle.qos_main.proofs.Runs.{HasOpened, HasRun, is-run, kept-of, on_err, refused-early, refused-late}
use Rattle.qos_main.proofs.run.run.Goals as goal

pub returns-in_err-input-clause-refused : goal.returns-in_err-input-clause-refused
returns-in_err-input-clause-refused g c =
    let opened = c.open_input.ensures in
    on_err c.from_residual.result
    (refused-early g.H.Shelf c.args.command.now c.args.p.now c.args.shelf.now c.open_input.new.shelf
    c.reads_one_way.ensures (kept-of g.H.Shelf opened.others opened.closed opened.never_falls))

pub returns-in_err-inputs-clause-refused : goal.returns-in_err-inputs-clause-refused
returns-in_err-inputs-clause-refused g c =
    let opened = c.open_input.ensures in
    on_err c.from_residual-in_err-inputs.result
    (refused-early g.H.Shelf c.args.command.now c.args.p.now c.args.shelf.now c.open_input.new.shelf
    c.reads_one_way.ensures (kept-of g.H.Shelf opened.others opened.closed opened.never_falls))

pub returns-in_err-ports-clause-refused : goal.returns-in_err-ports-clause-refused
returns-in_err-ports-clause-refused g c =
    let inside = c.command.inside in
    let seen : Asked = record {
      profile = inside.profile.now;
      prefix = inside.prefix.now;
      capture = inside.capture.now;
    } in
    let was = c.in_ok-input.ensures in
    let first = c.in_ok-input.input in
    let opened : HasOpened g.H.Shelf g.H.In.Source seen.capture c.args.shelf.now c.open_input.new.shelf first = record {
      told = was.told;
      origin = was.origin;
      absent = was.absent;
      fresh = was.numbers;
      fine = was.fine;
      kept = kept-of g.H.Shelf was.others was.closed was.never_falls;
    } in
    rw (← c.command.view_is)
    (on_err c.from_residual-in_err-ports.result
    (refused-late g.H.Shelf g.H.In.Source seen c.args.p.now c.args.shelf.now c.open_input.new.shelf
    c.run_outputs.new.shelf c.reads_one_way.ensures first opened c.in_err-ports.ensures.others
    c.in_err-ports.ensures.left))

pub input_end-requires : goal.input_end-requires
input_end-requires g c =
    let ran = c.in_ok-ports.ensures in
    rw c.deref-2.ensures.value
    (ended-within c.args.p.now c.in_ok-input.input.origin c.run_outputs.new.input c.in_ok-ports.field-0.ports.items
    ran.count.0 ran.ports ran.summed)

pub returns-clause-ran : goal.returns-clause-ran
returns-clause-ran g c =
    let inside = c.command.inside in
    let seen : Asked = record {
      profile = inside.profile.now;
      prefix = inside.prefix.now;
      capture = inside.capture.now;
    } in
    let was = c.in_ok-input.ensures in
    let ran = c.in_ok-ports.ensures in
    let ports = c.in_ok-ports.field-0.ports.items in
    let logs = c.in_ok-ports.field-0.meters.items in
    let faults = c.in_ok-ports.field-0.write_fault.items in
    let first = c.in_ok-input.input in
    let opened : HasOpened g.H.Shelf g.H.In.Source seen.capture c.args.shelf.now c.open_input.new.shelf first = record {
      told = was.told;
      origin = was.origin;
      absent = was.absent;
      fresh = was.numbers;
      fine = was.fine;
      kept = kept-of g.H.Shelf was.others was.closed was.never_falls;
    } in
    let run : HasRun c.args.p.now first c.run_outputs.new.input ports logs = record {
      count = ran.count.0;
      ends = ran.ports;
      summed = ran.summed;
      stays = ran.input;
      legal = ran.meters;
    } in
    let numbers : IsEndOf c.run_outputs.new.input (sums_over ports) c.input_end.result =
    rw c.deref-2.ensures.value at c.input_end.ensures in
    rw (
      ← c.command.view_is,
      c.of.ensures,
      c.of-2.ensures,
      c.of-3.ensures,
      c.of-4.ensures,
      c.push_reserved.ensures.items,
      c.in_ok-inputs.ensures.items,
    )
    (is-run g.H.Shelf g.H.In.Source seen c.args.p.now c.args.shelf.now c.open_input.new.shelf c.run_outputs.new.shelf
    c.reads_one_way.ensures first c.run_outputs.new.input opened ports logs faults run c.input_end.result numbers
    ran.others c.of_run-status.result c.number.result ran.count.1 (rw c.deref.ensures.value at c.of_run-status.ensures)
    ran.sure ran.took ran.written)
