-- The words of the definitions and the lemmas of the library that several of these proofs speak in.
pub use Rattle.std.proofs.Common.{List, None, [], ap, arith, drop, false, get_or, length}
pub use Rattle.std.proofs.Common.{map, refl, rules, string_bytes, sym, take, true, ℕ}
pub use Rattle.std.proofs.Common.{◌++◌, ◌<◌, ◌^◌, ◌∙◌, ◌∷◌, ◌≡◌, ◌≢◌, ◌≤◌, ◌&&◌}
pub use Rattle.std.specs.List.{range_with_len}
pub use Rattle.std.specs.Prelude.{if◌then◌else◌}
pub use Rattle.std.specs.Str.{bytes_eq}
pub use Rattle.qos_words.specs.Names.{ending_of, output_name, output_names, NamesApart}
pub use Rattle.qos_words.specs.Words.{are_options}
unfoldable pub use Rattle.qos_words.specs.Words.{is_output, asked_with, asked_of}
