use Rattle.std.proofs.Common.{◌≡◌, length, map, take, []}
use Rattle.std.specs.List.{flat_map}
use Rattle.port_sched.specs.Port.{left_in_subport, left_of, emptied}
use Rattle.port_sched.specs.Books.{subport_up_to}
use Rattle.port_sched.specs.Sound.{IsPortSched}
use Rattle.port_sched.proofs.port.PortSched.drain_out.Given as goal

abbrev pub invariant-loop-subport : goal.invariant-loop-subport
invariant-loop-subport g l =
    let s = l.self-inside in
    record {
      before : flat_map left_in_subport (take l.subport (map (subport_up_to s.ticked) s.subports.items)) ≡ [];
      left : flat_map left_in_subport (map (subport_up_to s.ticked) s.subports.items) ≡ left_of l.fn.self;
      count : length s.subports.items ≡ l.subport-end;
      same : emptied (record { overhead = s.overhead; mtu = s.mtu; time = s.time; ticked = s.ticked; cursor = s.cursor; subports = map (subport_up_to s.ticked) s.subports.items }) ≡ emptied l.fn.self;
      sound : IsPortSched g.T.Parcel.packet s.overhead s.mtu s.time s.ticked s.cursor s.subports.items;
    }
