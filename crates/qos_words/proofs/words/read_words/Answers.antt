use Rattle.qos_words.proofs.Terms.{◌≡◌, refl, sym, arith, string_bytes, are_options, true, false}
use Rattle.qos_words.proofs.Six.{other_count, six}
use Rattle.qos_words.proofs.words.read_words.Goals as goal

pub returns-then-words-ne6 : goal.returns-then-words-ne6
returns-then-words-ne6 c = record { exact = sym (other_count string_bytes c.args.words.now (omega arith)) }

pub returns-then-are_options : goal.returns-then-are_options
returns-then-are_options c =
    let words = six string_bytes c.args.words.now _ _ _ _ _ _ (omega arith) c.index-words-0.is c.index-words-1.is c.index-words-2.is
    c.index-words-3.is c.index-words-4.is c.index-words-5.is in
    let yes : are_options (string_bytes c.index-words-0.result) (string_bytes c.index-words-1.result) (string_bytes c.index-words-3.result)
    ≡ true = cc in
    record { exact = rw (words, yes) cc }

pub returns-then-are_options-2 : goal.returns-then-are_options-2
returns-then-are_options-2 c =
    let words = six string_bytes c.args.words.now _ _ _ _ _ _ (omega arith) c.index-words-0.is c.index-words-1.is c.index-words-2.is
    c.index-words-3.is c.index-words-4.is c.index-words-5.is in
    let no : are_options (string_bytes c.index-words-0.result) (string_bytes c.index-words-1.result) (string_bytes c.index-words-3.result)
    ≡ false = cc in
    let yes : are_options (string_bytes c.index-words-0.result) (string_bytes c.index-words-3.result) (string_bytes c.index-words-1.result)
    ≡ true = cc in
    record { exact = rw (words, no, yes) cc }

pub returns-else-are_options-2 : goal.returns-else-are_options-2
returns-else-are_options-2 c =
    let words = six string_bytes c.args.words.now _ _ _ _ _ _ (omega arith) c.index-words-0.is c.index-words-1.is c.index-words-2.is
    c.index-words-3.is c.index-words-4.is c.index-words-5.is in
    let no : are_options (string_bytes c.index-words-0.result) (string_bytes c.index-words-1.result) (string_bytes c.index-words-3.result)
    ≡ false = cc in
    let none : are_options (string_bytes c.index-words-0.result) (string_bytes c.index-words-3.result) (string_bytes c.index-words-1.result)
    ≡ false = cc in
    record { exact = rw (words, no, none) refl }
