use Rattle.std.proofs.Common.{◌≡◌, ℕ, length, take, []}
use Rattle.std.specs.List.{flat_map}
use Rattle.std.specs.Prelude.{All}
use Rattle.port_sched.specs.Port.{left_in, left_in_subport, subport_emptied}
use Rattle.port_sched.specs.Books.{subport_up_to, KnowsActive, IsSubportBooks}
use Rattle.port_sched.proofs.subport.SubportBooks.drain_out.Given as goal

abbrev pub invariant-loop-pipe : goal.invariant-loop-pipe
invariant-loop-pipe g l = record {
  before : (moment : ℕ) → flat_map left_in (take l.pipe (subport_up_to moment l.self).pipes) ≡ [];
  same : (moment : ℕ) → subport_emptied (subport_up_to moment l.self) ≡ subport_emptied (subport_up_to moment l.initial.self);
  left : (moment : ℕ) → left_in_subport (subport_up_to moment l.self) ≡ left_in_subport (subport_up_to moment l.initial.self);
  count : length l.self.pipes.items ≡ l.pipe-end;
  queues : All (λ p. length p.queues.lists ≡ 16) l.self.pipes.items;
  active : KnowsActive l.self;
  sound : (ticked : ℕ) → IsSubportBooks g.T.Parcel.packet ticked l.initial.self → IsSubportBooks g.T.Parcel.packet ticked l.self;
}
