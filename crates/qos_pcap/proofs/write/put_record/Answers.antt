use Rattle.std.proofs.Common.{Result, Ok, Err, OnErr}
use Rattle.std.proofs.lemmas.Result.{on_err_weaker, on_ok_weaker}
use Rattle.qos_io.specs.Bytes.{PutSome-first, PutSome-second, put_both}
use Rattle.qos_pcap.proofs.write.put_record.Goals as goal

-- what holds anyway holds at an `Err`
on_err_always : {T E P : Type 0} (r : Result T E) → P → OnErr r P
on_err_always (Ok x) p = tt
on_err_always (Err e) p = p

pub returns-in_err-put-clause-refused : goal.returns-in_err-put-clause-refused
returns-in_err-put-clause-refused g c =
    let some = rw c.record_head.ensures at c.in_err-put.ensures.refused in
    on_err_always c.from_residual.result (PutSome-first c.args.body.now some)

pub returns-clause-added : goal.returns-clause-added
returns-clause-added g c =
    let first = rw c.record_head.ensures at c.in_ok-put.ensures.added in
    on_ok_weaker c.put-2.result (put_both _ c.args.body.now _ _ _ first) c.put-2.ensures.added

pub returns-clause-refused : goal.returns-clause-refused
returns-clause-refused g c =
    let first = rw c.record_head.ensures at c.in_ok-put.ensures.added in
    on_err_weaker c.put-2.result (PutSome-second _ first) c.put-2.ensures.refused
