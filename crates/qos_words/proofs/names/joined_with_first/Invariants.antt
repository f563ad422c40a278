use Rattle.qos_words.proofs.Terms.{◌≡◌, ◌++◌, map, string_bytes, take}
use Rattle.qos_words.proofs.names.joined_with_first.Given as goal

abbrev pub invariant-loop-ending : goal.invariant-loop-ending
invariant-loop-ending l = map string_bytes l.names.items ≡ map (λ ending. l.prefix ++ ending.now) (take l.ending-index l.endings)
