use Rattle.std.proofs.Common.{arith}
use Rattle.profile_plan.specs.Profile.{pipe_kind_of}
use Rattle.port_sched.specs.Pipe.{pipe_start}
use Rattle.port_sched.specs.Books.{pipe_up_to, IsPipeBooks}
use Rattle.port_sched.proofs.Starts.{map-filter_map-more, map-pushed, All-pushed}
use Rattle.port_sched.proofs.start.pipes_at.Goals as goal

pub loop-number-preserved : goal.loop-number-preserved
loop-number-preserved g c =
    let numbers = c.as_slice-numbers.result.now in
    let i = c.loop-number.number-index in
    let kind_of = pipe_kind_of c.args.p.now.pipe_kinds in
    let start = pipe_start {T = g.row.T.Denot} c.args.line c.args.s.now.sizes in
    let kind = c.pipe_kind.result.now in
    let more = map-filter_map-more kind_of start numbers i 0 kind (omega arith) c.pipe_kind.ensures.value in
    record {
      start = map-pushed (pipe_up_to 0) c.loop-number.pipes.items c.push.new.self.items c.in_ok-pipe_at.field-0 _ _ (start kind) c.in_ok-push.ensures.items c.loop-number.invariant.start c.in_ok-pipe_at.ensures.start more;
      sound = All-pushed (IsPipeBooks g.T.Parcel.packet 0) c.loop-number.pipes.items c.push.new.self.items c.in_ok-pipe_at.field-0 c.in_ok-push.ensures.items c.loop-number.invariant.sound c.in_ok-pipe_at.ensures.sound;
      count = omega (arith, c.in_ok-push.ensures.len, c.loop-number.invariant.count);
    }
