use Rattle.std.proofs.Common.{◌≡◌, ◌<◌, length, map, get_or, set, sym, ap, ◌∙◌, subst, arith, length-set}
use Rattle.std.specs.Prelude.{All, slice_set}
use Rattle.std.proofs.lemmas.List.{length-map, map-set}
use Rattle.std.proofs.lemmas.List.Elements.{All-set}
use Rattle.port_sched.specs.declared.level.LevelBooks.{LevelBooks}
use Rattle.port_sched.specs.declared.pipe.PipeBooks.{PipeBooks}
use Rattle.port_sched.specs.Level.{Level}
use Rattle.port_sched.specs.Pipe.{Pipe}
use Rattle.port_sched.specs.Subport.{Subport}
use Rattle.port_sched.specs.Renewal.{subport_renewed, pipe_renewed}
use Rattle.port_sched.specs.Classes.{classes_turn}
use Rattle.port_sched.specs.Visit.{Service, cursor_after, visit_start, visit_end}
use Rattle.port_sched.specs.PortDequeue.{cost_with}
use Rattle.port_sched.specs.Books.{level_of, level_up_to, pipe_of, pipe_up_to, subport_up_to, visit_of, service_up_to, KnowsActive, IsBrought, IsPipeBooks}
use Rattle.port_sched.proofs.Buckets.{up_to-brought, up_to-bring, IsBrought-bring}
use Rattle.port_sched.proofs.Places.{its_bit, knows-set, knows-within, knows-bit}
use Rattle.port_sched.proofs.Visited.{visit_pipe-at, visit_end-is, pipe-there, pipe-sound, queues-kept, pipe-visited, IsBrought-same, IsBrought-bucket, IsLevelBooks-brought}
use Rattle.port_sched.proofs.subport.SubportBooks.visit.Goals as goal
use Rattle.port_sched.proofs.subport.SubportBooks.visit.Goals.{After-classes}
use Rattle.port_sched.proofs.subport.SubportBooks.visit.Given.{Over}

pub classes-requires : goal.classes-requires
classes-requires g c =
    let pipes = c.args.self.now.pipes.items in
    let visited = c.index_mut-visited.result.now in
    let here = c.index_mut-visited.ensures.value ∙ ap (λ v. get_or v.items c.args.pipe visited) c.renew.ensures.pipes in
    let sound = pipe-sound pipes c.args.pipe visited here c.requires.pipe g.T.Parcel.packet c.args.serving.now.time c.requires.sound.pipes in
    record {
      overhead = c.requires.overhead;
      time = omega (arith, c.requires.time, c.requires.room);
      first = c.requires.first;
      space = c.requires.space;
      queues = queues-kept g.T.Parcel.packet c.args.serving.now.time visited c.renew-2.new.self.queues c.renew-2.ensures.queues sound;
    }

-- the subport's bucket and the pipe's are brought up to port time, and stay so
level-is : (g : Over) (c : After-classes g) → IsBrought c.args.serving.now.time c.renew.new.self.level
level-is g c =
    let moment = c.args.serving.now.time in
    IsBrought-bucket moment c.bring.new.self c.renew.new.self.level c.renew.ensures.bucket
    (IsBrought-bring moment c.args.self.now.level c.bring.new.self c.requires.sound.level.some_period c.bring.ensures.exact)

level-stays : (g : Over) (c : After-classes g) → IsBrought c.args.serving.now.time c.classes.new.level
level-stays g c = IsBrought-same c.args.serving.now.time c.renew.new.self.level c.classes.new.level c.classes.ensures.onward.level (level-is g c)

pipe-stays : (g : Over) (c : After-classes g) → IsBrought c.args.serving.now.time c.classes.new.pipe.level
pipe-stays g c =
    let moment = c.args.serving.now.time in
    let pipes = c.args.self.now.pipes.items in
    let visited = c.index_mut-visited.result.now in
    let here = c.index_mut-visited.ensures.value ∙ ap (λ v. get_or v.items c.args.pipe visited) c.renew.ensures.pipes in
    let sound = pipe-sound pipes c.args.pipe visited here c.requires.pipe g.T.Parcel.packet moment c.requires.sound.pipes in
    let brought = IsBrought-bring moment visited.level c.bring-2.new.self sound.level.some_period c.bring-2.ensures.exact in
    IsBrought-same moment c.renew-2.new.self.level c.classes.new.pipe.level c.classes.ensures.onward.pipe
    (IsBrought-bucket moment c.bring-2.new.self c.renew-2.new.self.level c.renew-2.ensures.bucket brought)

-- the bits are still those of the pipes
knows : (g : Over) (c : After-classes g) → KnowsActive c.renew.new.self
knows g c = c.renew.ensures.active ∙ c.requires.sound.active ∙ ap (λ v. map its_bit v.items) (sym c.renew.ensures.pipes)

pub change-requires-clause-within : goal.change-requires-clause-within
change-requires-clause-within g c =
    let at = (goal.at.change-requires-clause-within g c).After-classes in
    let within : c.args.pipe < length c.renew.new.self.pipes.items = omega (arith, c.requires.pipe, ap (λ v. length v.items) c.renew.ensures.pipes) in
    knows-within c.renew.new.self.pipes.items c.renew.new.self.active c.args.pipe (knows g at) within

pub change-requires-clause-had : goal.change-requires-clause-had
change-requires-clause-had g c =
    let at = (goal.at.change-requires-clause-had g c).After-classes in
    let within : c.args.pipe < length c.renew.new.self.pipes.items = omega (arith, c.requires.pipe, ap (λ v. length v.items) c.renew.ensures.pipes) in
    knows-bit c.renew.new.self.pipes.items c.renew.new.self.active c.args.pipe c.index_mut-visited.result.now (knows g at) c.index_mut-visited.ensures.value within
    ∙ sym c.has_packet-had.ensures

pub returns-clause-exact : goal.returns-clause-exact
returns-clause-exact g c =
    let at = (goal.at.returns-clause-exact g c).After-classes in
    let cost = cost_with g.T.Parcel.packet c.args.serving.now.overhead in
    let moment = c.args.serving.now.time in
    let old = c.args.self.now in
    let pipes = old.pipes.items in
    let visited = c.index_mut-visited.result.now in
    let here = c.index_mut-visited.ensures.value ∙ ap (λ v. get_or v.items c.args.pipe visited) c.renew.ensures.pipes in
    let before = service_up_to moment c.args.serving.now old c.args.out.now.items in
    let with_level : Level → Subport g.row.T.Denot = λ l. record before.subport { level = l } in
    let exact : subport_up_to moment c.renew.new.self ≡ subport_renewed moment before.subport =
    c.renew.ensures.exact moment ∙ ap (λ l. subport_renewed moment (with_level (level_up_to moment l))) c.bring.ensures.exact
    ∙ ap (λ l. subport_renewed moment (with_level l)) (up_to-bring moment old.level c.requires.sound.level.some_period) in
    let renewed = subport_renewed moment before.subport in
    let level : level_of c.renew.new.self.level ≡ renewed.level =
    sym (up_to-brought moment c.renew.new.self.level (level-is g at)) ∙ ap (λ (s : Subport g.row.T.Denot). s.level) exact in
    let brought : PipeBooks g.row.T.Denot = record visited { level = c.bring-2.new.self } in
    let counts : pipe_of brought ≡ pipe_up_to moment visited =
    ap (λ (l : LevelBooks). let p : Pipe g.row.T.Denot = record (pipe_of visited) { level = level_of l } in p) c.bring-2.ensures.exact in
    let pipe = c.renew-2.ensures.exact renewed (sym (ap (λ (s : Subport g.row.T.Denot). s.oversub) exact)) (sym (c.value.ensures.exact ∙ ap (λ (s : Subport g.row.T.Denot). s.watermark.value) exact)) (sym (ap (λ (s : Subport g.row.T.Denot). s.period) exact))
    ∙ ap (pipe_renewed moment renewed) counts in
    let start : visit_of c.args.serving.now c.renew.new.self.level c.renew-2.new.self c.args.out.now.items ≡ visit_start before (pipe_up_to moment visited) =
    λ i. record {
      oversub = c.requires.oversub i;
      subport = level i;
      pipe = pipe i;
      time = c.args.serving.now.time;
      room = c.args.serving.now.room;
      sends = before.sends;
    } in
    let after = visit_of c.classes.new.self c.classes.new.level c.classes.new.pipe c.classes.new.out.items in
    let count : c.len-pipes.result ≡ length before.subport.pipes = c.len-pipes.ensures ∙ c.renew.new.self.pipes.ok.0 ∙ ap (λ v. length v.items) c.renew.ensures.pipes ∙ sym (length-map pipes (pipe_up_to moment)) in
    let cursor : c.moved_cursor-self.result ≡ cursor_after c.args.pipe (length before.subport.pipes) c.classes.new.self.room = c.moved_cursor-self.ensures.exact ∙ ap (λ n. cursor_after c.args.pipe n c.classes.new.self.room) count in
    let own : pipe_up_to moment c.classes.new.pipe ≡ pipe_of c.classes.new.pipe =
    ap (λ l. let p : Pipe g.row.T.Denot = record (pipe_of c.classes.new.pipe) { level = l } in p) (up_to-brought moment c.classes.new.pipe.level (pipe-stays g at)) in
    let left = map-set (pipe_up_to moment) c.renew.new.self.pipes.items c.args.pipe c.classes.new.pipe
    ∙ ap (λ v. set (map (pipe_up_to moment) v.items) c.args.pipe (pipe_up_to moment c.classes.new.pipe)) c.renew.ensures.pipes
    ∙ ap (set before.subport.pipes c.args.pipe) own in
    let ended : Level → Service g.row.T.Denot = λ l. record {
      subport = record (subport_up_to moment c.renew.new.self) {
        level = l;
        cursor = c.moved_cursor-self.result;
        pipes = map (pipe_up_to moment) (set c.renew.new.self.pipes.items c.args.pipe c.classes.new.pipe);
      };
      time = after.time;
      room = after.room;
      sends = after.sends;
    } in
    ap ended (up_to-brought moment c.classes.new.level (level-stays g at))
    ∙ visit_end-is c.args.pipe before after (subport_up_to moment c.renew.new.self) c.moved_cursor-self.result _ exact cursor left
    ∙ ap (visit_end c.args.pipe before) (c.classes.ensures.exact ∙ ap (classes_turn cost) start)
    ∙ sym (visit_pipe-at cost c.args.pipe before (pipe_up_to moment visited) (pipe-there pipes c.args.pipe visited here c.requires.pipe moment))

pub returns-clause-sound : goal.returns-clause-sound
returns-clause-sound g c =
    let at = (goal.at.returns-clause-sound g c).After-classes in
    let packet = g.T.Parcel.packet in
    let ticked = c.args.serving.now.time in
    let pipe = pipe-visited packet ticked c.classes.new.pipe (pipe-stays g at) c.classes.ensures.onward.ready.queues in
    let count = ap (λ v. length v.items) c.renew.ensures.pipes in
    let same = length-set c.renew.new.self.pipes.items c.args.pipe c.classes.new.pipe in
    record {
      level = IsLevelBooks-brought ticked c.classes.new.level (level-stays g at);
      cursor = omega (arith, same, c.moved_cursor-self.ensures.within, c.len-pipes.ensures, c.renew.new.self.pipes.ok.0);
      few = omega (arith, count, same, c.requires.sound.few);
      periods = omega (arith, c.renew.ensures.periods, c.classes.ensures.onward.level.due);
      pipes = All-set (IsPipeBooks packet ticked) c.renew.new.self.pipes.items c.args.pipe c.classes.new.pipe pipe (subst (λ v. All (IsPipeBooks packet ticked) v.items) (sym c.renew.ensures.pipes) c.requires.sound.pipes);
      active = c.change.ensures ∙ ap (slice_set c.renew.new.self.active c.args.pipe) c.has_packet-has.ensures
          ∙ knows-set c.renew.new.self.pipes.items c.renew.new.self.active c.args.pipe c.classes.new.pipe (knows g at);
    }
