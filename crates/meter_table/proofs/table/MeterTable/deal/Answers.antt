use Rattle.std.proofs.Common.{rules, arith, ap}
use Rattle.std.specs.List.{sum_by}
use Rattle.std.proofs.lemmas.List.Sums.{sum_by_push}
use Rattle.std.proofs.lemmas.List.Elements.{All-push, All-same, All-weaker}
use Rattle.meter_table.specs.Seats.{IsFresh, IsSeatOf, parts_at}
use Rattle.meter_table.proofs.table.MeterTable.deal.Goals as goal

pub loop-preserved : goal.loop-preserved
loop-preserved c =
    let t = c.args.self.now in
    let was = c.loop.invariant in
    let new = c.in_ok-seat.ensures in
    let items = c.push_reserved.ensures.items in
    record {
      fresh = All-same (IsFresh t) _ _ items (All-push (IsFresh t) c.loop.dealt.items c.in_ok-seat.seat was.fresh new.fresh);
      first = new.kept;
      parts = λ n lt. omega (arith, was.parts n lt, new.fewer n lt, new.parts n lt, ap (sum_by (parts_at n)) items, sum_by_push (parts_at n) c.loop.dealt.items c.in_ok-seat.seat);
      one_each = λ n lt. omega (arith, was.one_each n lt, new.fewer n lt, c.push_reserved.ensures.len);
      count = search rules;
      room = search rules;
    }

pub returns : goal.returns
returns c =
    let t = c.args.self.now in
    let was = c.loop.invariant in
    let items = c.push_reserved-2.ensures.items in
    let fresh = All-same (IsFresh t) _ _ items (All-push (IsFresh t) c.loop.dealt.items c.loop.first was.fresh was.first) in
    record {
      seats = search rules;
      fresh = fresh;
      all = record {
        each = All-weaker (IsFresh t) (IsSeatOf t) (λ s is. is.seat_is) _ fresh;
        parts = λ n lt. omega (arith, was.parts n lt, ap (sum_by (parts_at n)) items, sum_by_push (parts_at n) c.loop.dealt.items c.loop.first);
      };
    }
