use Rattle.run_journal.proofs.Arrivals.{open-courses}
use Rattle.run_journal.proofs.laws.open_courses_go_on.Goals as goal

pub returns : goal.returns
returns c pace start byte_time = open-courses pace start byte_time
