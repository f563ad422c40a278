use Rattle.std.proofs.Common.{◌≡◌, ℕ, length, take, []}
use Rattle.std.specs.List.{flat_map}
use Rattle.port_sched.specs.Port.{left_in, pipe_emptied}
use Rattle.port_sched.specs.Books.{pipe_of, IsPipeBooks}
use Rattle.port_sched.proofs.pipe.PipeBooks.drain_out.Given as goal

abbrev pub invariant-loop-queue : goal.invariant-loop-queue
invariant-loop-queue g l = record {
  before : flat_map (λ ts. ts) (take l.queue l.self.queues.lists) ≡ [];
  same : pipe_emptied (pipe_of l.self) ≡ pipe_emptied (pipe_of l.initial.self);
  left : left_in (pipe_of l.self) ≡ left_in (pipe_of l.initial.self);
  level : l.self.level ≡ l.initial.self.level;
  queues : length l.self.queues.lists ≡ 16;
  sound : (ticked : ℕ) → IsPipeBooks g.T.Parcel.packet ticked l.initial.self → IsPipeBooks g.T.Parcel.packet ticked l.self;
}
