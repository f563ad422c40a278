-- A word as the program has it, seen as its bytes.
use Rattle.std.specs.Prelude.{ℕ, List}
use Rattle.std.specs.Fmt.{decimal}
use Rattle.profile_print.specs.Text.{prefix_word}
use Rattle.profile_print.specs.declared.text.Word.{Word}
use Rattle.profile_print.specs.declared.text.Word.TheVariants.{Is, Name, Number, Address}

abbrev pub word_of : Word → List ℕ
word_of (Is text) = text.now
word_of (Name bytes) = bytes.now
word_of (Number n) = decimal n
word_of (Address p) = prefix_word p
