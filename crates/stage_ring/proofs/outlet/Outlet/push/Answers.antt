use Rattle.std.proofs.Common.{inl, ap}
use Rattle.stage_ring.specs.declared.msg.Posted.{Posted}
use Rattle.stage_ring.proofs.Rings.{posts_as, learns}
use Rattle.stage_ring.proofs.outlet.Outlet.push.Goals as goal

pub push_as-requires-clause-rule : goal.push_as-requires-clause-rule
push_as-requires-clause-rule g c = (posts_as _ _ _ _ _ c.args.self.now.numbered c.args.self.now.sends, learns _ _ (inl c.args.self.now.sends))

pub parcel_of-parcel-requires : goal.parcel_of-parcel-requires
parcel_of-parcel-requires g c = (c.args.m, ap (λ (x : Posted). x.msg) c.in-Err.ensures.rule.0)
