use Rattle.std.proofs.Common.{◌≡◌, length, slice_get, rules, arith, refl, ap, sym, ◌∙◌, subst, ⊎_elim, ◌∷◌, []}
use Rattle.std.proofs.lemmas.List.Elements.{All-same, All-weaker}
use Rattle.std.proofs.lemmas.Option.{none-some, same_Some}
use Rattle.meter_table.specs.declared.seat.MeterSeat.{MeterSeat}
use Rattle.meter_table.specs.Kept.{IsSeen}
use Rattle.meter_table.specs.Logs.{AreAllMarks, IsLogOf}
use Rattle.meter_table.specs.Seats.{settings_of, HasPasses, IsSeatOf}
use Rattle.meter_table.proofs.Logs.{all_left, at_push}
use Rattle.meter_table.proofs.Passes.{APass, read, alike_at, view_is}
use Rattle.meter_table.proofs.Tables.{count_is, passes_count, pass_read, pass_meter, setting_at}
use Rattle.meter_table.proofs.Ended.{none_left, whole_of, look_whole, fills, log_is}
use Rattle.meter_table.proofs.table.MeterTable.gather.Goals as goal

pub loop-n-init : goal.loop-n-init
loop-n-init g c =
    let all = c.join_all-all.ensures in
    record {
      whole = whole_of c.args.self c.args.seats.items c.pop.new.self.items c.in-Some.first c.join_all-all.result c.requires.seats c.in-Some.ensures.items all.seat all.parts all.made all.stand;
      count = search rules;
      logs = λ k setting log at at'. absurd (none-some log (sym (ap (λ l. slice_get l k) c.in_ok-logs.ensures.items) ∙ at'));
      room = search rules;
    }

pub look-seen-requires : goal.look-seen-requires
look-seen-requires g c =
    let t = c.args.self in
    let all : MeterSeat = c.loop-n.all in
    let n = c.loop-n.n in
    let p : APass = c.index_mut.result.now in
    let has = c.loop-n.invariant.whole.has in
    let pass = pass_read t all has n p (omega arith) c.index_mut.ensures.value in
    let cell = read t.cells.items n c.index.result.now (omega arith) c.index.ensures in
    alike_at (λ (q : APass). q.table_id) (λ x. x.table.shared.table_id) all.passes.items t.cells.items n p c.index.result.now has.cells pass cell

pub log_of-requires : goal.log_of-requires
log_of-requires g c =
    let t = c.args.self in
    let all : MeterSeat = c.loop-n.all in
    let n = c.loop-n.n in
    let p : APass = c.index_mut.result.now in
    let whole = c.loop-n.invariant.whole in
    let pass = pass_read t all whole.has n p (omega arith) c.index_mut.ensures.value in
    let known = pass_meter t all whole.has n p (omega arith) pass in
    let setting = known.0.setting in
    let words = c.look-seen.result in
    let seen = subst (λ v. IsSeen n setting v words) (sym (view_is n all p pass)) (c.look-seen.ensures.seen n setting known.2) in
    let marks = c.as_slice.result.now in
    let are = subst (AreAllMarks c.args.seats.items) (sym c.as_slice.ensures.value) c.requires.marks in
    (seen.log, fills t c.args.seats.items marks all c.requires.seats are whole n setting words (setting_at t n known.0 known.1) seen, sym seen.cell.count)

pub loop-n-preserved : goal.loop-n-preserved
loop-n-preserved g c =
    let t = c.args.self in
    let seats = c.args.seats.items in
    let all : MeterSeat = c.loop-n.all in
    let n = c.loop-n.n in
    let p : APass = c.index_mut.result.now in
    let was = c.loop-n.invariant in
    let pass = pass_read t all was.whole.has n p (omega arith) c.index_mut.ensures.value in
    let known = pass_meter t all was.whole.has n p (omega arith) pass in
    let words = c.look-seen.result in
    let made = c.in_ok-log_of.ensures in
    let marks = c.as_slice.result.now in
    let are = subst (AreAllMarks seats) (sym c.as_slice.ensures.value) c.requires.marks in
    let new : IsLogOf n known.0.setting seats c.in_ok-log_of.field-0 =
    let setting = known.0.setting in
    let seen = subst (λ v. IsSeen n setting v words) (sym (view_is n all p pass)) (c.look-seen.ensures.seen n setting known.2) in
    let at = setting_at t n known.0 known.1 in
    let filled = fills t seats marks all c.requires.seats are was.whole n setting words at seen in
    log_is t seats marks all c.requires.seats are was.whole n setting words at seen _ made.meter (made.marks seen.log filled (sym seen.cell.count)) in
    record {
      whole = look_whole t seats all _ n p c.look-seen.new.pass was.whole (record { items = refl; was = pass; cell = c.look-seen.ensures.cell }) c.look-seen.ensures.view;
      count = search rules;
      logs = λ k setting log at_k at_log.
          ⊎_elim
          (λ old. was.logs k setting log at_k old)
          (λ last.
          let number : n ≡ k = omega (arith, last.0, was.count) in
          let same : known.0.setting ≡ setting = same_Some _ _ (sym (setting_at t n known.0 known.1) ∙ ap (slice_get (settings_of t)) number ∙ at_k) in
          subst (λ j. IsLogOf j setting seats log) number (subst (λ s. IsLogOf n s seats log) same (subst (λ l. IsLogOf n known.0.setting seats l) last.1 new)))
          (at_push c.loop-n.logs.items c.in_ok-log_of.field-0 log k (ap (λ l. slice_get l k) (sym c.push_reserved.ensures.items) ∙ at_log));
      room = search rules;
    }

pub returns-in_default : goal.returns-in_default
returns-in_default g c =
    let none : length c.args.seats.items ≡ 0 = omega (arith, c.in_default.ensures.cases.0, c.args.seats.ok) in
    none_left c.args.self c.args.seats.items c.in_ok-logs.logs.items c.requires.seats none c.in_ok-logs.ensures.items

pub join_all-all-requires-clause-seats : goal.join_all-all-requires-clause-seats
join_all-all-requires-clause-seats g c =
    let Has : MeterSeat → Type 0 = HasPasses c.args.self in
    let each = All-weaker (IsSeatOf c.args.self) Has (λ s is. is.passes) c.args.seats.items c.requires.seats.each in
    all_left Has c.pop.new.self.items (c.in-Some.first ∷ []) (All-same Has _ _ (sym c.in-Some.ensures.items) each)

pub index_mut-requires : goal.index_mut-requires
index_mut-requires g c = let counts = passes_count c.args.self c.loop-n.all c.loop-n.invariant.whole.has in omega arith

pub returns : goal.returns
returns g c =
    let was = c.loop-n.invariant in
    let counts = count_is c.args.self in
    record { count = omega arith; each = was.logs }
