-- The words of the definitions and the lemmas of the library that the proofs of a sender speak in.
pub use Rattle.std.proofs.Common.{Err, IsSome, List, MatchOption, None, Ok, OnErr, OnOk, Option, Result, Some, [], ap, append_assoc, arith}
pub use Rattle.std.proofs.Common.{length, length-append, map, refl, rules, slice_get, sym, take, ℕ}
pub use Rattle.std.proofs.Common.{◌%◌, ◌*◌, ◌++◌, ◌+◌, ◌-◌, ◌/◌, ◌<◌, ◌^◌, ◌∙◌, ◌∷◌, ◌≡◌, ◌≤◌}
pub use Rattle.std.proofs.lemmas.List.{append-nil, get_or_append_left, get_or_push, length_push, take-append-le, take_at}
pub use Rattle.std.proofs.lemmas.Option.{get_or_from_slice_get, slice_get_read, slice_get_within}
pub use Rattle.std.specs.List.{All, flat_map}
pub use Rattle.qos_base.specs.declared.packet.Departure.{Departure}
pub use Rattle.qos_base.specs.declared.packet.Pkt.{Pkt}
pub use Rattle.qos_io.specs.Bytes.{PutSome, held_after}
pub use Rattle.qos_io.specs.declared.sink.PutFault.{PutFault}
pub use Rattle.qos_io.specs.declared.sink.Sink.{Ghosts as Sinks}
pub use Rattle.qos_pcap.specs.Written.{header_text, record_text}
pub use Rattle.pkt_slots.specs.Mbuf.{IsBodyIn}
pub use Rattle.pkt_slots.specs.declared.mbuf.Mbuf.{Mbuf}
pub use Rattle.port_egress.specs.Output.{IsCut, IsWhole, Target, in_header, in_record}
unfoldable pub use Rattle.port_egress.specs.Output.{output_text, send_text}
pub use Rattle.port_egress.specs.Sender.{HasWritten, StaysSender, seen, target_by, target_of}
pub use Rattle.port_egress.specs.declared.send.Sender.{Sender}
pub use Rattle.port_egress.specs.declared.stamps.Stamps.{Stamps}
