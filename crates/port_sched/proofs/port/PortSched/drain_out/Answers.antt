use Rattle.std.proofs.Common.{◌≡◌, drop, sym, ap, subst, ◌∙◌, arith, List, map, set}
use Rattle.std.specs.List.{slice_get}
use Rattle.std.proofs.lemmas.List.{length-set}
use Rattle.std.proofs.lemmas.List.Elements.{All-set, All-get_or}
use Rattle.port_sched.specs.Port.{Port, left_in_subport, emptied}
use Rattle.port_sched.specs.Subport.{Subport}
use Rattle.port_sched.proofs.Places.{subports-emptied}
use Rattle.port_sched.specs.Books.{subport_up_to, IsSubportBooks}
use Rattle.port_sched.proofs.Pieces.{DrainsAt, first-at, rest-at, same-at, empty-at}
use Rattle.port_sched.specs.Sound.{IsPortSched}
use Rattle.port_sched.proofs.Buckets.{IsPortSched-with}
use Rattle.port_sched.proofs.port.PortSched.drain_out.Goals as goal
use Rattle.port_sched.proofs.port.PortSched.drain_out.Goals.{After-drain_out}
use Rattle.port_sched.proofs.port.PortSched.drain_out.Given.{Over}

drains :
    (g : Over) (c : After-drain_out g) →
    DrainsAt (subport_up_to c.loop-subport.self-inside.ticked) left_in_subport c.loop-subport.self-inside.subports.items c.loop-subport.subport c.index_mut.result.now c.drain_out.new.self c.drain_out.result
drains g c = record {
  inside = omega arith;
  here = c.index_mut.ensures.value;
  before = c.loop-subport.invariant.before;
  first = c.drain_out.ensures.first c.loop-subport.self-inside.ticked;
  rest = c.drain_out.ensures.rest c.loop-subport.self-inside.ticked;
}

pub returns-in-Some-clause-first : goal.returns-in-Some-clause-first
returns-in-Some-clause-first g c =
    let d = drains g (goal.at.returns-in-Some-clause-first g c).After-drain_out in
    sym c.in-Some.is ∙ first-at (subport_up_to c.loop-subport.self-inside.ticked) left_in_subport _ _ _ _ _ d c.in-Some.t c.in-Some.is ∙ ap (λ ts. slice_get ts 0) c.loop-subport.invariant.left

pub returns-in-Some-clause-rest : goal.returns-in-Some-clause-rest
returns-in-Some-clause-rest g c =
    let d = drains g (goal.at.returns-in-Some-clause-rest g c).After-drain_out in
    rest-at (subport_up_to c.loop-subport.self-inside.ticked) left_in_subport _ _ _ _ _ d c.in-Some.t c.in-Some.is ∙ ap (drop 1) c.loop-subport.invariant.left

abbrev with_subports : (g : Over) (c : After-drain_out g) → List (Subport g.row.T.Denot) → Port g.row.T.Denot
with_subports g c subports =
    let s = c.loop-subport.self-inside in
    record { overhead = s.overhead; mtu = s.mtu; time = s.time; ticked = s.ticked; cursor = s.cursor; subports = subports }

same-emptied :
    (g : Over) (c : After-drain_out g) →
    emptied (with_subports g c (map (subport_up_to c.loop-subport.self-inside.ticked) (set c.loop-subport.self-inside.subports.items c.loop-subport.subport c.drain_out.new.self))) ≡ emptied c.args.self.now
same-emptied g c =
    ap (with_subports g c) (subports-emptied c.loop-subport.self-inside.ticked c.loop-subport.self-inside.subports.items c.loop-subport.subport c.index_mut.result.now c.drain_out.new.self c.index_mut.ensures.value (c.drain_out.ensures.same c.loop-subport.self-inside.ticked))
    ∙ c.loop-subport.invariant.same

keeps :
    (g : Over) (c : After-drain_out g) →
    let s = c.loop-subport.self-inside in
    IsPortSched g.T.Parcel.packet s.overhead s.mtu s.time s.ticked s.cursor (set s.subports.items c.loop-subport.subport c.drain_out.new.self)
keeps g c =
    let s = c.loop-subport.self-inside in
    let items = s.subports.items in
    let k = c.loop-subport.subport in
    let new = c.drain_out.new.self in
    let was = c.loop-subport.invariant.sound in
    let sound = IsSubportBooks g.T.Parcel.packet s.ticked in
    let old : sound c.index_mut.result.now = subst sound (sym c.index_mut.ensures.value) (All-get_or sound items k c.index_mut.result.now (omega arith) was.each) in
    IsPortSched-with g.T.Parcel.packet s.ticked s.overhead s.mtu s.time s.cursor s.time items _ was (length-set items k new) was.not_ahead
    (All-set sound items k new (c.drain_out.ensures.sound s.ticked old) was.each)

pub returns-in-Some-clause-same : goal.returns-in-Some-clause-same
returns-in-Some-clause-same g c = same-emptied g (goal.at.returns-in-Some-clause-same g c).After-drain_out

pub loop-subport-preserved : goal.loop-subport-preserved
loop-subport-preserved g c =
    let d = drains g (goal.at.loop-subport-preserved g c).After-drain_out in
    let s = c.loop-subport.self-inside in
    let count = length-set s.subports.items c.loop-subport.subport c.drain_out.new.self in
    record {
      before = empty-at (subport_up_to c.loop-subport.self-inside.ticked) left_in_subport _ _ _ _ _ d c.in_default.is;
      left = same-at (subport_up_to c.loop-subport.self-inside.ticked) left_in_subport _ _ _ _ _ d c.in_default.is ∙ c.loop-subport.invariant.left;
      count = count ∙ c.loop-subport.invariant.count;
      same = same-emptied g (goal.at.loop-subport-preserved g c).After-drain_out;
      sound = keeps g (goal.at.loop-subport-preserved g c).After-drain_out;
    }

pub invariant_of-self-in-Some : goal.invariant_of-self-in-Some
invariant_of-self-in-Some g c = keeps g (goal.at.invariant_of-self-in-Some g c).After-drain_out
