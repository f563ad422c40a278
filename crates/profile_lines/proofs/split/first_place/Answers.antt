use Rattle.std.proofs.Common.{◌==◌, length, sym, arith}
use Rattle.std.proofs.lemmas.Bool.{ne_eqb, eq-eqb}
use Rattle.std.proofs.lemmas.List.Sums.{position_or_len_is}
use Rattle.profile_lines.proofs.split.first_place.Goals as goal

pub returns-then-byte-wanted-clause-place : goal.returns-then-byte-wanted-clause-place
returns-then-byte-wanted-clause-place c =
    sym (position_or_len_is (λ b. b == c.args.wanted) c.args.bytes.now c.loop-place.place 0 (omega arith) (λ k below. ne_eqb _ _ (c.loop-place.invariant k below)) (λ _. eq-eqb _ _ (omega arith)))

pub returns-clause-place : goal.returns-clause-place
returns-clause-place c =
    sym (position_or_len_is (λ b. b == c.args.wanted) c.args.bytes.now (length c.args.bytes.now) 0 (omega arith) (λ k below. ne_eqb _ _ (c.loop-place.invariant k (omega arith))) (λ same. absurd (omega (arith, same))))
