-- Ports are ended, one after another.
use Rattle.std.proofs.Common.{◌≡◌, ◌∙◌, ◌++◌, ◌∷◌, [], List, length-append, map, sym, ap, arith}
use Rattle.std.proofs.lemmas.List.{map-append}
use Rattle.qos_io.specs.declared.sink.Sink.{Ghosts as Sinks}
use Rattle.run_journal.specs.declared.ended.PortEnd.{PortEnd}
use Rattle.port_egress.specs.declared.egress.Egress.{Egress}
use Rattle.qos_pipeline.specs.Outputs.{HaveEnded, IsEndOf}
use Rattle.qos_pipeline.proofs.Places.{both-push}

-- one more, of what is seen of two lists
pub seen-more : {X Y Z : Type 0} (f : X → Z) (h : Y → Z) (xs : List X) (ys : List Y) (x : X) (y : Y) → map f xs ≡ map h ys → f x ≡ h y
    → map f (xs ++ x ∷ []) ≡ map h (ys ++ y ∷ [])
seen-more f h xs ys x y so last =
    map-append f xs (x ∷ []) ∙ ap (λ zs. zs ++ f x ∷ []) so ∙ ap (λ z. map h ys ++ z ∷ []) last ∙ sym (map-append h ys (y ∷ []))

pub pushed : {X Y : Type 0} (h : Y → X) (xs : List X) (ys : List Y) (x : X) (y : Y) → xs ≡ map h ys → x ≡ h y
    → xs ++ x ∷ [] ≡ map h (ys ++ y ∷ [])
pushed h xs ys x y so last =
    ap (λ zs. zs ++ x ∷ []) so ∙ ap (λ z. map h ys ++ z ∷ []) last ∙ sym (map-append h ys (y ∷ []))

module _ {K : Type 0} {G : Sinks K} where
  pub ended-more : (es : List (Egress K G)) (ends : List PortEnd) (e : Egress K G) (end : PortEnd) → HaveEnded es ends → IsEndOf e end
      → HaveEnded (es ++ e ∷ []) (ends ++ end ∷ [])
  ended-more es ends e end so is = record {
    count = omega (arith, so.count, length-append ends (end ∷ []), length-append es (e ∷ []));
    each = both-push (λ n e end. IsEndOf e end) es ends e end so.count so.each is;
  }
