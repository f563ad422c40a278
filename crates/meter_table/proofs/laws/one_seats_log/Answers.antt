use Rattle.std.proofs.Common.{refl, arith}
use Rattle.meter_table.proofs.OneSeat.{one_seat}
use Rattle.meter_table.specs.Seats.{marks_by}
use Rattle.meter_table.proofs.laws.one_seats_log.Goals as goal

pub returns : goal.returns
returns c meter setting seat log is =
    one_seat log.marks (marks_by meter seat) (is.stands 0 seat refl) (is.order 0 seat refl) (λ turn lt. let one = is.once turn lt in omega arith)
