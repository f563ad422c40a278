use Rattle.std.proofs.Common.{◌≡◌, ◌==◌, ◌+◌, ◌∙◌, sym, ap, arith, length, take, drop}
use Rattle.std.proofs.lemmas.List.{take_all, drop_all}
use Rattle.profile_lines.proofs.Parts.{split-there, rest-is}
use Rattle.profile_lines.proofs.split.cut.Goals as goal

pub returns-then-place-bytes-clause-front : goal.returns-then-place-bytes-clause-front
returns-then-place-bytes-clause-front c =
    sym (ap (λ n. take n c.args.bytes.now) (sym c.first_place-place.ensures.place) ∙ take_all _ c.args.bytes.now (omega arith))

pub returns-then-place-bytes-clause-rest : goal.returns-then-place-bytes-clause-rest
returns-then-place-bytes-clause-rest c =
    rest-is c.args.bytes.now _ ∙ drop_all _ c.args.bytes.now (omega arith) ∙ sym (drop_all _ c.args.bytes.now (omega (arith, c.first_place-place.ensures.place)))

pub returns-clause-front : goal.returns-clause-front
returns-clause-front c = (split-there c.args.bytes.now _ _ c.first_place-place.ensures.place).0

pub returns-clause-rest : goal.returns-clause-rest
returns-clause-rest c = (split-there c.args.bytes.now _ _ c.first_place-place.ensures.place).1
