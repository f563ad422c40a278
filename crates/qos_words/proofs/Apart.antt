-- The outputs of different ports have different names.
use Rattle.qos_words.proofs.Terms.{◌≡◌, ◌≤◌, ◌<◌, List, ℕ, sym, ap, ◌∙◌, arith, ◌^◌, NamesApart}
use Rattle.std.specs.Prelude.{codes}
use Rattle.std.specs.Fmt.{decimal}
use Rattle.std.specs.Str.Parse.{digits_value}
use Rattle.std.proofs.lemmas.List.{append_cancel_left, append_cancel_right}
use Rattle.std.proofs.lemmas.Fmt.{decimal_is_IsNumeral}

same_port : (i j : ℕ) → i < 2 ^ 64 → j < 2 ^ 64 → decimal i ≡ decimal j → i ≡ j
same_port i j a b e = sym ((decimal_is_IsNumeral i a).1) ∙ ap (digits_value 10) e ∙ (decimal_is_IsNumeral j b).1

pub names_apart : (prefix : List ℕ) (count : ℕ) → count ≤ 16 → NamesApart prefix count
names_apart prefix count few = record {
  apart = λ i j first second same.
      let behind = append_cancel_left prefix _ _ same in
      let numbers = append_cancel_right (decimal i) (decimal j) (codes ".pcap") (append_cancel_left (codes ".") _ _ behind) in
      same_port i j (omega (arith, first, few)) (omega (arith, second, few)) numbers;
}
