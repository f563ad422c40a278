use Rattle.std.proofs.Common.{◌≡◌, map, take, vec_len}
use Rattle.std.specs.Prelude.{All}
use Rattle.std.specs.List.{filter_map}
use Rattle.port_sched.specs.Start.{subport_start}
use Rattle.port_sched.specs.Books.{subport_up_to, IsSubportBooks}
use Rattle.port_sched.proofs.start.subports_at.Given as goal

abbrev pub invariant-loop-plan : goal.invariant-loop-plan
invariant-loop-plan g l = record {
  start : map (subport_up_to 0) l.subports.items ≡ filter_map (subport_start l.p l.port) (take l.plan-index l.plans);
  sound : All (IsSubportBooks g.T.Parcel.packet 0) l.subports.items;
  count : vec_len l.subports ≡ l.plan-index;
}
