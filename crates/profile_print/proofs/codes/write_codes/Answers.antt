use Rattle.std.proofs.Common.{◌∙◌, ◌++◌, sym, ap, arith}
use Rattle.std.proofs.lemmas.List.{append_assoc}
use Rattle.profile_print.specs.Written.{key_text}
use Rattle.profile_print.specs.Text.{code_key, codes_block}
use Rattle.profile_print.proofs.Growing.{each_more, each_all, item_there}
use Rattle.profile_print.proofs.codes.write_codes.Goals as goal

pub loop-code-preserved : goal.loop-code-preserved
loop-code-preserved c =
    let table = c.args.table.now in
    let old = c.loop-code.text in
    let here = item_there table c.loop-code.code c.get.result c.get.ensures.value in
    each_more key_text code_key table c.loop-code.code c.get.result old c.write_code.new.text (omega arith) (c.in_ok-write_code.ensures ∙ ap (λ e. old ++ key_text (code_key c.loop-code.code e)) (sym here))
    ∙ c.loop-code.invariant

pub returns : goal.returns
unfolding codes_block
returns c =
    let table = c.args.table.now in
    sym (each_all key_text code_key table c.loop-code.code c.loop-code.text (omega arith)) ∙ c.loop-code.invariant ∙ rw c.in_ok-head.ensures (simp append_assoc)
