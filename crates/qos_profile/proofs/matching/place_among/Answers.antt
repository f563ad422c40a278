use Rattle.std.proofs.Common.{map, length, [], sym, ap, ◌∙◌, arith, cond, Some, None}
use Rattle.std.specs.Str.{bytes_eq}
use Rattle.std.proofs.lemmas.List.{get_or-map, length-map}
use Rattle.std.proofs.lemmas.List.Sums.{position_or_len_is}
use Rattle.std.proofs.lemmas.Bool.{lt-ltb, le-ltb}
use Rattle.qos_profile.specs.Values.{found_at}
use borrow.Author.Count.{below_more}
use Rattle.qos_profile.proofs.matching.place_among.Goals as goal

pub returns-then-same_bytes : goal.returns-then-same_bytes
returns-then-same_bytes c =
    let choices = map (λ w. w.now) c.args.choices.now in
    let size = length-map c.args.choices.now (λ w. w.now) in
    let place = position_or_len_is (λ w. bytes_eq w c.args.word.now) choices c.loop-place.place [] (omega (arith, size)) c.loop-place.invariant (λ _. (ap (λ q. bytes_eq q c.args.word.now) (get_or-map (λ w. w.now) c.args.choices.now c.loop-place.place _ [] c.loop-place-test.true ∙ sym c.as_bytes.ensures.value) ∙ sym c.same_bytes.ensures ∙ c.if-same_bytes.true)) in
    sym (ap (λ n. found_at n (length choices)) place ∙ ap (λ t. cond t (Some c.loop-place.place) None) (lt-ltb c.loop-place.place (length choices) (omega (arith, size))))

pub loop-place-preserved : goal.loop-place-preserved
loop-place-preserved c =
    below_more _ _ c.loop-place.invariant (ap (λ q. bytes_eq q c.args.word.now) (get_or-map (λ w. w.now) c.args.choices.now c.loop-place.place _ [] c.loop-place-test.true ∙ sym c.as_bytes.ensures.value) ∙ sym c.same_bytes.ensures ∙ c.if-same_bytes.false)

pub returns : goal.returns
returns c =
    let choices = map (λ w. w.now) c.args.choices.now in
    let size = length-map c.args.choices.now (λ w. w.now) in
    let place = position_or_len_is (λ w. bytes_eq w c.args.word.now) choices (length choices) [] (omega arith) (λ k below. c.loop-place.invariant k (omega (arith, size))) (λ h. absurd (omega (arith, h))) in
    sym (ap (λ n. found_at n (length choices)) place ∙ ap (λ t. cond t (Some (length choices)) None) (le-ltb (length choices) (length choices) (omega arith)))
