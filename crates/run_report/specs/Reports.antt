-- How the putting of a report may end, and the status that the program then ends with.
use Rattle.std.specs.Prelude.{◌≡◌, Option}
use Rattle.qos_io.specs.declared.sink.Sink.{Ghosts}
use Rattle.qos_io.specs.Bytes.{held_after, PutSome}
use Rattle.qos_io.specs.Fault.{HasRisen}
use Rattle.profile_plan.specs.Profile.{Plan}
use Rattle.run_report.specs.declared.ended.Ended.{Ended}
use Rattle.run_report.specs.declared.status.Status.{Status}
use Rattle.run_report.specs.declared.status.Status.TheVariants.{Memory}
use Rattle.run_report.specs.Report.{report_of}
use Rattle.run_report.specs.Status.{after_fault}

-- How the report of what a command ended with was put into a sink, which was `before` and is `after`, and the status
-- `answer` that the program then ends with.
pub data Reports {K : Type 0} (G : Ghosts K) (status : Status) (profile : Option Plan) (ended : Ended)
    (before after : K) (answer : Status) : Type 0 where
  -- the sink took it whole, and the status stays
  told : G.contents after ≡ held_after (report_of status profile ended) (G.contents before)
      → answer ≡ status
      → Reports G status profile ended before after answer
  -- the sink failed and counted it: it took a first part
  failed : PutSome (report_of status profile ended) (G.contents before) (G.contents after)
      → HasRisen (G.faults before) (G.faults after)
      → answer ≡ after_fault status
      → Reports G status profile ended before after answer
  -- the sink was refused memory: it took a first part
  sink_memory : PutSome (report_of status profile ended) (G.contents before) (G.contents after)
      → answer ≡ Memory
      → Reports G status profile ended before after answer
  -- the report was refused memory: want of memory was reported, whole or a first part of it
  text_memory : PutSome (report_of Memory profile ended) (G.contents before) (G.contents after)
      → answer ≡ Memory
      → Reports G status profile ended before after answer
