use Rattle.std.proofs.Common.{◌≡◌, ◌∙◌, All, [], map, length, string_bytes, slice_get, sym, ap, subst, arith}
use Rattle.qos_words.specs.Names.{output_name, output_names}
use Rattle.qos_pipeline.specs.Ports.{bodies_of, setup_of}
use Rattle.qos_pipeline.specs.Took.{Took}
use Rattle.port_files.specs.Among.{AreApart}
use Rattle.qos_pipeline.specs.Outputs.{sinks_of}
use Rattle.qos_pipeline.proofs.Dropped.{all-named}
use Rattle.qos_pipeline.proofs.Lives.{all-begun, sinks-named}
use Rattle.qos_pipeline.proofs.Places.{there}
use Rattle.qos_pipeline.proofs.Wholes.{all-left, all-others, all-sure, all-tell, all-written, begun-carry, drained-left, dropped-left}
use Rattle.qos_pipeline.proofs.Wholes.{name-at, names-apart, names-count, on-err, port-ends, run-is}
use Rattle.qos_pipeline.proofs.Logged.{legal-logs, one-popped, still-all, took-logs}
use Rattle.meter_table.specs.declared.table.MeterTable.{MeterTable}
use Rattle.meter_table.specs.Seats.{AreAllSeats, IsFresh, IsSeatOf, parts_at}
use Rattle.std.proofs.lemmas.List.Elements.{All-head}
use Rattle.std.proofs.lemmas.Option.{slice_get_within}
use Rattle.qos_pipeline.proofs.outputs.run_outputs.Goals as goal

pub create_outputs-requires-clause-apart : goal.create_outputs-requires-clause-apart
create_outputs-requires-clause-apart g c κs within =
    let count = length c.args.p.now.ports in
    let is : map string_bytes c.deref.result.now ≡ output_names c.args.prefix.now count =
    ap (map string_bytes) c.deref.ensures.value ∙ c.in_ok-egresses.ensures.names in
    subst AreApart (sym is)
    (names-apart c.args.prefix.now count (c.names_are_apart.ensures c.args.prefix.now count c.limits.ensures.ports.1))

pub create_outputs-requires-clause-outs : goal.create_outputs-requires-clause-outs
create_outputs-requires-clause-outs g c κs within =
    let count = length c.args.p.now.ports in
    let is : length c.deref.result.now ≡ count =
    names-count c.args.prefix.now count c.deref.result.now (ap (map string_bytes) c.deref.ensures.value ∙ c.in_ok-egresses.ensures.names) in
    rw is c.in_ok-egresses.ensures.outs

pub create_outputs-requires-clause-failed : goal.create_outputs-requires-clause-failed
create_outputs-requires-clause-failed g c κs within =
    let count = length c.args.p.now.ports in
    let is : length c.deref.result.now ≡ count =
    names-count c.args.prefix.now count c.deref.result.now (ap (map string_bytes) c.deref.ensures.value ∙ c.in_ok-egresses.ensures.names) in
    rw is c.in_ok-egresses.ensures.rooms.failed

pub returns-in_err-outs-clause-left : goal.returns-in_err-outs-clause-left
returns-in_err-outs-clause-left g c tells =
    let count = length c.args.p.now.ports in
    let is : map string_bytes c.deref.result.now ≡ output_names c.args.prefix.now count =
    ap (map string_bytes) c.deref.ensures.value ∙ c.in_ok-egresses.ensures.names in
    on-err c.from_residual-in_err-outs.result (λ records stop come n plan at.
    dropped-left (setup_of c.args.p.now c.args.input.now.origin plan) n 0 records _
    ((rw is at c.in_err-outs.ensures.dropped) tells n (output_name c.args.prefix.now n)
    (name-at c.args.prefix.now count n (slice_get_within c.args.p.now.ports n plan at))))

pub begin_all-requires-clause-count : goal.begin_all-requires-clause-count
begin_all-requires-clause-count g c =
    let count = length c.args.p.now.ports in
    let is : length c.deref.result.now ≡ count =
    names-count c.args.prefix.now count c.deref.result.now (ap (map string_bytes) c.deref.ensures.value ∙ c.in_ok-egresses.ensures.names) in
    c.in_ok-outs.ensures.count ∙ is ∙ sym c.in_ok-egresses.ensures.egresses.count

pub begin_all-requires-clause-unbegun : goal.begin_all-requires-clause-unbegun
begin_all-requires-clause-unbegun g c n e is =
    let all = c.in_ok-egresses.ensures.egresses in
    let plan = there c.args.p.now.ports n (omega (arith, all.count, slice_get_within c.in_ok-egresses.field-0.egresses.items n e is)) in
    (all.each n plan.0 e plan.1 is).sender

pub run_ports-ran-requires-clause-begun : goal.run_ports-ran-requires-clause-begun
run_ports-ran-requires-clause-begun g c =
    let count = length c.args.p.now.ports in
    let is : length c.deref.result.now ≡ count =
    names-count c.args.prefix.now count c.deref.result.now (ap (map string_bytes) c.deref.ensures.value ∙ c.in_ok-egresses.ensures.names) in
    all-begun g.H.Out.Sink c.args.p.now c.args.input.now.origin c.in_ok-outs.outs.items c.in_ok-egresses.field-0.egresses.items
    c.begin_all.new.egresses.items c.begin_all.new.egresses.items c.in_ok-egresses.ensures.egresses c.begin_all.ensures
    (c.in_ok-outs.ensures.count ∙ is)

pub end_all-ended-requires-clause-named : goal.end_all-ended-requires-clause-named
end_all-ended-requires-clause-named g c κs within =
    let count = length c.args.p.now.ports in
    let is = ap (map string_bytes) c.deref.ensures.value ∙ c.in_ok-egresses.ensures.names in
    let ran = c.run_ports-ran.new.egresses.items in
    let names = map string_bytes c.deref.result.now in
    let all = c.in_ok-outs.ensures.count ∙ names-count c.args.prefix.now count c.deref.result.now is in
    all-named g.H.Out.Sink names (sinks_of ran)
    (sinks-named g.H.Out.Sink c.args.p.now c.args.input.now.origin c.in_ok-outs.outs.items c.in_ok-egresses.field-0.egresses.items
    c.begin_all.new.egresses.items ran c.in_ok-egresses.ensures.egresses c.begin_all.ensures all c.run_ports-ran.ensures.senders
    names c.in_ok-outs.ensures.named)

pub returns-in_err-ran-clause-left : goal.returns-in_err-ran-clause-left
returns-in_err-ran-clause-left g c tells =
    let p = c.args.p.now in
    let is = ap (map string_bytes) c.deref.ensures.value ∙ c.in_ok-egresses.ensures.names in
    let made = c.in_ok-outs.ensures in
    let end = c.end_all-ended.ensures in
    let run = run-is c.deref.result.now is (c.names_are_apart.ensures c.args.prefix.now (length p.ports) c.limits.ensures.ports.1)
    c.in_ok-egresses.ensures.egresses made.count made.named made.created made.others c.begin_all.ensures c.run_ports-ran.ensures.senders
    end.shut end.others in
    on-err c.from_residual-in_err-ran.result (λ records stop come.
    all-left run tells records (c.run_ports-ran.ensures.carries records stop come (begun-carry run tells (bodies_of records)))
    (c.in_err-ran.ensures.halted records stop come))

pub returns-in_err-ran-clause-others : goal.returns-in_err-ran-clause-others
returns-in_err-ran-clause-others g c =
    let p = c.args.p.now in
    let is = ap (map string_bytes) c.deref.ensures.value ∙ c.in_ok-egresses.ensures.names in
    let made = c.in_ok-outs.ensures in
    let end = c.end_all-ended.ensures in
    let run = run-is c.deref.result.now is (c.names_are_apart.ensures c.args.prefix.now (length p.ports) c.limits.ensures.ports.1)
    c.in_ok-egresses.ensures.egresses made.count made.named made.created made.others c.begin_all.ensures c.run_ports-ran.ensures.senders
    end.shut end.others in
    all-others run

pub new-marker-requires : goal.new-marker-requires
new-marker-requires g c =
    let t = c.in_ok-table.table in
    let seat = c.in-Some.seat in
    let one =
    one-popped c.in_ok-table.seats.items c.pop.new.self.items seat c.in-Some.ensures.items c.in_ok-table.ensures.seats in
    record { fresh = All-head (IsFresh t) seat [] (subst (All (IsFresh t)) one c.in_ok-table.ensures.fresh) }

pub gather_one-requires-clause-all : goal.gather_one-requires-clause-all
gather_one-requires-clause-all g c =
    let t = c.in_ok-table.table in
    let seat = c.in-Some.seat in
    let one =
    one-popped c.in_ok-table.seats.items c.pop.new.self.items seat c.in-Some.ensures.items c.in_ok-table.ensures.seats in
    let last = c.run_ports-ran.new.marker in
    let stays = c.in_ok-ran.ensures.marker in
    let made = c.new-marker.ensures in
    still-all t seat last.seat (subst (AreAllSeats t) one c.in_ok-table.ensures.all)
    (subst (λ (t : MeterTable). IsSeatOf t last.seat) (stays.table ∙ made.0) last.seat_is)
    (λ meter. stays.parts meter ∙ ap (parts_at meter) made.1)

pub returns-in_err-meters-clause-left : goal.returns-in_err-meters-clause-left
returns-in_err-meters-clause-left g c tells =
    let p = c.args.p.now in
    let is = ap (map string_bytes) c.deref.ensures.value ∙ c.in_ok-egresses.ensures.names in
    let made = c.in_ok-outs.ensures in
    let end = c.end_all-ended.ensures in
    let run = run-is c.deref.result.now is (c.names_are_apart.ensures c.args.prefix.now (length p.ports) c.limits.ensures.ports.1)
    c.in_ok-egresses.ensures.egresses made.count made.named made.created made.others c.begin_all.ensures c.run_ports-ran.ensures.senders
    end.shut end.others in
    on-err c.from_residual-in_err-meters.result (λ records stop come.
    drained-left run tells c.marks_agree.ensures c.in_ok-ran.ensures.drained records stop c.run_ports-ran.new.input
    c.run_ports-ran.new.marker.marks.items (c.in_ok-ran.ensures.input.input ∙ c.requires.fresh.input_is)
    (c.in_ok-ran.ensures.took records stop come)
    (c.run_ports-ran.ensures.carries records stop come (begun-carry run tells (bodies_of records))))

pub returns-in_err-meters-clause-others : goal.returns-in_err-meters-clause-others
returns-in_err-meters-clause-others g c =
    let p = c.args.p.now in
    let is = ap (map string_bytes) c.deref.ensures.value ∙ c.in_ok-egresses.ensures.names in
    let made = c.in_ok-outs.ensures in
    let end = c.end_all-ended.ensures in
    let run = run-is c.deref.result.now is (c.names_are_apart.ensures c.args.prefix.now (length p.ports) c.limits.ensures.ports.1)
    c.in_ok-egresses.ensures.egresses made.count made.named made.created made.others c.begin_all.ensures c.run_ports-ran.ensures.senders
    end.shut end.others in
    all-others run

pub returns-in_err-ports-clause-left : goal.returns-in_err-ports-clause-left
returns-in_err-ports-clause-left g c tells =
    let p = c.args.p.now in
    let is = ap (map string_bytes) c.deref.ensures.value ∙ c.in_ok-egresses.ensures.names in
    let made = c.in_ok-outs.ensures in
    let end = c.end_all-ended.ensures in
    let run = run-is c.deref.result.now is (c.names_are_apart.ensures c.args.prefix.now (length p.ports) c.limits.ensures.ports.1)
    c.in_ok-egresses.ensures.egresses made.count made.named made.created made.others c.begin_all.ensures c.run_ports-ran.ensures.senders
    end.shut end.others in
    on-err c.from_residual-in_err-ports.result (λ records stop come.
    drained-left run tells c.marks_agree.ensures c.in_ok-ran.ensures.drained records stop c.run_ports-ran.new.input
    c.run_ports-ran.new.marker.marks.items (c.in_ok-ran.ensures.input.input ∙ c.requires.fresh.input_is)
    (c.in_ok-ran.ensures.took records stop come)
    (c.run_ports-ran.ensures.carries records stop come (begun-carry run tells (bodies_of records))))

pub returns-in_err-ports-clause-others : goal.returns-in_err-ports-clause-others
returns-in_err-ports-clause-others g c =
    let p = c.args.p.now in
    let is = ap (map string_bytes) c.deref.ensures.value ∙ c.in_ok-egresses.ensures.names in
    let made = c.in_ok-outs.ensures in
    let end = c.end_all-ended.ensures in
    let run = run-is c.deref.result.now is (c.names_are_apart.ensures c.args.prefix.now (length p.ports) c.limits.ensures.ports.1)
    c.in_ok-egresses.ensures.egresses made.count made.named made.created made.others c.begin_all.ensures c.run_ports-ran.ensures.senders
    end.shut end.others in
    all-others run

pub returns-clause-ports : goal.returns-clause-ports
returns-clause-ports g c =
    port-ends c.args.p.now c.args.input.now.origin c.run_ports-ran.new.egresses.items c.in_ok-ran.ensures.drained
    c.in_ok-ports.ports.items c.in_ok-ports.ensures.ended

pub returns-clause-took : goal.returns-clause-took
returns-clause-took g c tells records stop come =
    subst (λ journals. Took c.args.p.now records stop c.run_ports-ran.new.input journals c.in_ok-meters.meters.items)
    (sym c.in_ok-ports.ensures.journals)
    (took-logs c.args.p.now c.in_ok-table.ensures.settings c.in_ok-meters.ensures (c.in_ok-ran.ensures.took records stop come)
    c.marks_agree.ensures c.logs_agree.ensures c.limits.ensures)

pub returns-clause-meters : goal.returns-clause-meters
returns-clause-meters g c = legal-logs c.args.p.now c.in_ok-table.ensures.settings c.in_ok-meters.ensures

pub returns-clause-written : goal.returns-clause-written
returns-clause-written g c tells records stop come =
    let p = c.args.p.now in
    let is = ap (map string_bytes) c.deref.ensures.value ∙ c.in_ok-egresses.ensures.names in
    let made = c.in_ok-outs.ensures in
    let end = c.end_all-ended.ensures in
    let run = run-is c.deref.result.now is (c.names_are_apart.ensures c.args.prefix.now (length p.ports) c.limits.ensures.ports.1)
    c.in_ok-egresses.ensures.egresses made.count made.named made.created made.others c.begin_all.ensures c.run_ports-ran.ensures.senders
    end.shut end.others in
    let done = c.in_ok-ports.ensures in
    all-written run tells records (c.run_ports-ran.ensures.carries records stop come (begun-carry run tells (bodies_of records)))
    c.in_ok-ran.ensures.drained c.in_ok-ports.ports.items c.in_ok-ports.write_fault.items done.ended
    (done.endings (made.others.tells.1 tells) (all-tell run tells))

pub returns-clause-sure : goal.returns-clause-sure
returns-clause-sure g c =
    let p = c.args.p.now in
    let is = ap (map string_bytes) c.deref.ensures.value ∙ c.in_ok-egresses.ensures.names in
    let made = c.in_ok-outs.ensures in
    let end = c.end_all-ended.ensures in
    let run = run-is c.deref.result.now is (c.names_are_apart.ensures c.args.prefix.now (length p.ports) c.limits.ensures.ports.1)
    c.in_ok-egresses.ensures.egresses made.count made.named made.created made.others c.begin_all.ensures c.run_ports-ran.ensures.senders
    end.shut end.others in
    all-sure run c.in_ok-ports.write_fault.items (λ n name at. made.sure n name (ap (λ ns. slice_get ns n) is ∙ at))
    c.in_ok-ports.ensures.count c.in_ok-ports.ensures.sure

pub returns-clause-others : goal.returns-clause-others
returns-clause-others g c =
    let p = c.args.p.now in
    let is = ap (map string_bytes) c.deref.ensures.value ∙ c.in_ok-egresses.ensures.names in
    let made = c.in_ok-outs.ensures in
    let end = c.end_all-ended.ensures in
    let run = run-is c.deref.result.now is (c.names_are_apart.ensures c.args.prefix.now (length p.ports) c.limits.ensures.ports.1)
    c.in_ok-egresses.ensures.egresses made.count made.named made.created made.others c.begin_all.ensures c.run_ports-ran.ensures.senders
    end.shut end.others in
    all-others run
