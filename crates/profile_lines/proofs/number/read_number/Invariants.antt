use Rattle.std.proofs.Common.{◌≡◌, ◌<◌, ◌^◌, drop, take, true}
use Rattle.std.specs.List.{list_all}
use Rattle.std.specs.Char.{is_ascii_digit}
use Rattle.profile_lines.specs.Numbers.{value_after}
use Rattle.profile_lines.proofs.number.read_number.Given as goal

abbrev pub invariant-loop-byte : goal.invariant-loop-byte
invariant-loop-byte l = record {
  digits : list_all is_ascii_digit (take l.byte-index l.word) ≡ true;
  fits : l.value < 2 ^ 64;
  value : value_after l.value (drop l.byte-index l.word) ≡ value_after 0 l.word;
}
