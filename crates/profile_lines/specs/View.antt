-- A line as the program has it, seen as its words.
use Rattle.std.specs.Prelude.{map}
use Rattle.profile_lines.specs.Lines.{Line}
use Rattle.profile_lines.specs.Lines as lines
use Rattle.profile_lines.specs.declared.line.Line as declared
use Rattle.profile_lines.specs.declared.line.Line.TheVariants.{NotText, Blank, Head, Entry, Neither}

abbrev pub line_view : declared.Line → Line
line_view NotText = lines.NotText
line_view Blank = lines.Blank
line_view (Head words) = lines.Head (map (λ w. w.now) words.items)
line_view (Entry key value) = lines.Entry (map (λ w. w.now) key.items) (map (λ w. w.now) value.items)
line_view Neither = lines.Neither
