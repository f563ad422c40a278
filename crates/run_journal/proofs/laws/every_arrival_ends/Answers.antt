use Rattle.run_journal.proofs.Ends.{arrivals_end}
use Rattle.run_journal.proofs.laws.every_arrival_ends.Goals as goal

pub returns : goal.returns
returns c start journal =
    arrivals_end (record { serves = c.dequeues_serve.ensures; keeps = c.dequeues_keep_setting.ensures; joins = c.arrivals_join.ensures.joins; stays = c.arrivals_join.ensures.keeps }) start journal
