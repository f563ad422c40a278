use Rattle.std.proofs.Common.{inl}
use Rattle.stage_ring.proofs.Rings.{ends_as, learns}
use Rattle.stage_ring.proofs.outlet.Outlet.finish.Goals as goal

pub push_as-requires-clause-rule : goal.push_as-requires-clause-rule
push_as-requires-clause-rule g c = (ends_as _ _ _ _ c.args.self.numbered c.args.self.sends, learns _ _ (inl c.args.self.sends))
