use Rattle.std.proofs.Common.{◌≡◌, map, take, vec_len}
use Rattle.std.specs.Prelude.{All}
use Rattle.std.specs.List.{filter_map}
use Rattle.profile_plan.specs.Profile.{pipe_kind_of}
use Rattle.port_sched.specs.Pipe.{pipe_start}
use Rattle.port_sched.specs.Books.{pipe_up_to, IsPipeBooks}
use Rattle.port_sched.proofs.start.pipes_at.Given as goal

abbrev pub invariant-loop-number : goal.invariant-loop-number
invariant-loop-number g l = record {
  start : map (pipe_up_to 0) l.pipes.items ≡ map (pipe_start l.line l.s.sizes) (filter_map (pipe_kind_of l.p.pipe_kinds) (take l.number-index l.numbers));
  sound : All (IsPipeBooks g.T.Parcel.packet 0) l.pipes.items;
  count : vec_len l.pipes ≡ l.number-index;
}
