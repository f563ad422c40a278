-- Whether a packet has a place is a matter of a port's setting alone.
use Rattle.std.proofs.Common.{◌≡◌, ℕ, Bool, true, false, ◌&&◌, leb, ltb, Option, None, Some, IsTrue, is_some, option_and_then, slice_get, refl, sym, ap, ◌∙◌}
use Rattle.std.specs.Option.{option_map}
use Rattle.std.proofs.lemmas.Option.{slice_get-map}
use Rattle.qos_base.specs.declared.packet.Pkt.{Pkt}
use Rattle.port_sched.specs.Subport.{Subport}
use Rattle.port_sched.specs.Port.{Port, has_place, pipe_of}
use Rattle.port_sched.specs.Settings.{PipeSetting, SubportSetting, PortSetting, pipe_setting, subport_setting, setting_of}

some_mapped : {X Y : Type 0} (f : X → Y) (o : Option X) → is_some (option_map f o) ≡ is_some o
some_mapped f None = refl
some_mapped f (Some x) = refl

abbrev pipe_in : ℕ → Option SubportSetting → Option PipeSetting
pipe_in pipe o = option_and_then (λ s. slice_get s.pipes pipe) o

abbrev place_in : Pkt → PortSetting → Bool
place_in p g = leb p.wire g.mtu && ltb p.queue 16 && is_some (pipe_in p.pipe (slice_get g.subports p.subport))

module _ {T : Type 0} where
  some_pipe : (pipe : ℕ) (o : Option (Subport T)) → is_some (option_and_then (λ s. slice_get s.pipes pipe) o) ≡ is_some (pipe_in pipe (option_map subport_setting o))
  some_pipe pipe None = refl
  some_pipe pipe (Some s) = sym (some_mapped pipe_setting (slice_get s.pipes pipe)) ∙ ap is_some (sym (slice_get-map pipe_setting s.pipes pipe))

  place-setting : (p : Pkt) (port : Port T) → has_place p port ≡ place_in p (setting_of port)
  place-setting p port =
      ap (λ b. leb p.wire port.mtu && ltb p.queue 16 && b)
      (some_pipe p.pipe (slice_get port.subports p.subport) ∙ ap (λ o. is_some (pipe_in p.pipe o)) (sym (slice_get-map subport_setting port.subports p.subport)))

pub place-same : {T U : Type 0} (p : Pkt) (a : Port T) (b : Port U) → setting_of a ≡ setting_of b → has_place p a ≡ has_place p b
place-same p a b same = place-setting p a ∙ ap (place_in p) same ∙ sym (place-setting p b)

first_of_both : (a b : Bool) → IsTrue (a && b) → IsTrue a
first_of_both true b is = refl
first_of_both false b is = is

-- a packet that has a place is no longer than the longest frame
pub short-placed : {T : Type 0} (p : Pkt) (port : Port T) → IsTrue (has_place p port) → IsTrue (leb p.wire port.mtu)
short-placed p port is =
    first_of_both (leb p.wire port.mtu) (ltb p.queue 16) (first_of_both (leb p.wire port.mtu && ltb p.queue 16) (is_some (pipe_of port p.subport p.pipe)) is)
