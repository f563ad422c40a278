use Rattle.std.proofs.Common.{◌≡◌, List, ℕ, Option, length, refl, sym, ap, ◌∙◌}
use Rattle.std.specs.Fmt.{digits}
use Rattle.std.proofs.Math.Nat.{le_refl}
use Rattle.std.proofs.Math.Seq.{take-length}
use Rattle.qos_io.specs.declared.sink.Sink.{Ghosts}
use Rattle.qos_io.specs.Bytes.{held_after, PutSome}
use Rattle.profile_plan.specs.Profile.{Plan}
use Rattle.run_report.specs.declared.ended.Ended.{Ended}
use Rattle.run_report.specs.declared.status.Status.{Status}
use Rattle.run_report.specs.declared.status.Status.TheVariants.{Memory}
use Rattle.run_report.specs.Report.{report_of, told_lines}
use Rattle.run_report.specs.Reports.{Reports, told, failed, sink_memory, text_memory}
use Rattle.run_report.proofs.report.put_memory.Goals as goal

-- a text that was put whole
PutSome-whole : (text : List ℕ) (before after : Option (List ℕ)) → after ≡ held_after text before → PutSome text before after
PutSome-whole text before after whole = record {
  count = length text;
  within = le_refl (length text);
  added = whole ∙ ap (λ (bytes : List ℕ). held_after bytes before) (sym (take-length text));
}

-- want of memory may be reported at every status
instead : {K : Type 0} {G : Ghosts K} {p : Option Plan} {e : Ended} {before after : K} {answer : Status}
    → (status : Status)
    → Reports G Memory p e before after answer → Reports G status p e before after answer
instead {G = G} {p = p} {e = e} {before = before} {after = after} status (told whole is) =
    text_memory (PutSome-whole (report_of Memory p e) (G.contents before) (G.contents after) whole) is
instead status (failed some rise is) = text_memory some is
instead status (sink_memory some is) = text_memory some is
instead status (text_memory some is) = text_memory some is

pub returns-clause-reports : goal.returns-clause-reports
unfolding report_of told_lines digits
returns-clause-reports g c = λ status p e. instead status (c.put_text.ensures.reports p e refl)
