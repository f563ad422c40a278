use Rattle.run_journal.specs.PortRun.{started}
use Rattle.run_journal.proofs.port_run.PortRun.stands.Goals as goal

pub returns : goal.returns
returns g c =
    let i = c.self.inside in
    let s = c.self.invariant in
    let start = started i.profile.now i.plan.now in
    rw (← c.self.view_is) (record {
      port = s.port_is;
      went = s.went_is;
      quantum = s.quantum_is;
      setting = s.steady.setting;
      within = s.steady.within;
      account = c.every_arrival_ends.ensures start i.journal.items s.none s.start_within s.placed;
      few = rw (← s.tally_is.arrived) s.few;
    })
