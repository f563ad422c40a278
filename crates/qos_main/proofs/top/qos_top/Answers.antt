use Rattle.qos_main.proofs.Earlier.{numbered}
use Rattle.qos_main.proofs.Loads.{is-nothing}
use Rattle.qos_main.proofs.Reasons.{has-causes, is-complete, reports-stay}
use Rattle.qos_main.proofs.top.qos_top.Goals as goal

pub returns-clause-usage : goal.returns-clause-usage
returns-clause-usage g c none =
    let done = c.run_words-ended.result in
    let usage = c.run_words-ended.ensures.usage none in (
      (
        c.put_report.result,
        c.number.ensures,
        rw (usage.0, usage.1) at (reports-stay c.number.result c.put_report.ensures.reports),
      ),
      is-nothing done.ended c.number.result usage.2.empty usage.2.note_is usage.2.files,
    )

pub returns-clause-causes : goal.returns-clause-causes
returns-clause-causes g c command asks =
    let done = c.run_words-ended.result in
    has-causes g.H.Shelf g.K.Sink command c.args.shelf.now c.run_words-ended.new.shelf c.args.said.now
    c.put_report.new.said (numbered done.ended c.number.result) c.number.ensures
    (reports-stay c.number.result c.put_report.ensures.reports)
    c.reads_one_way.ensures (c.run_words-ended.ensures.ends command asks c.number.result)

pub returns-clause-complete : goal.returns-clause-complete
returns-clause-complete g c command asks =
    let done = c.run_words-ended.result in
    is-complete g.H.Shelf g.K.Sink command c.args.shelf.now c.run_words-ended.new.shelf c.args.said.now
    c.put_report.new.said (numbered done.ended c.number.result) c.number.ensures
    (reports-stay c.number.result c.put_report.ensures.reports)
    c.reads_one_way.ensures (c.run_words-ended.ensures.ends command asks c.number.result)

pub returns-clause-ends : goal.returns-clause-ends
returns-clause-ends g c command asks = (
  c.run_words-ended.result.profile,
  c.run_words-ended.result.status,
  c.run_words-ended.ensures.ends command asks c.number.result,
  (c.put_report.result, c.number.ensures, reports-stay c.number.result c.put_report.ensures.reports),
)
