use Rattle.std.proofs.Common.{max, ◌∷◌, [], ◌++◌, fold, sum, sym, ap, ◌∙◌, arith}
use Rattle.std.proofs.lemmas.List.Sums.{sum_by_push, fold_push}
use Rattle.port_sched.specs.Shares.{share_of}
use Rattle.port_sched.proofs.Starts.{shares_first, shares_first-more}
use Rattle.port_sched.proofs.shares.Shares.of.Goals as goal

pub loop-number-preserved : goal.loop-number-preserved
loop-number-preserved c =
    let plan = c.args.plan.now in
    let numbers = c.as_slice-numbers.result.now in
    let kinds = c.args.p.now.pipe_kinds in
    let i = c.loop-number.number-index in
    let first = shares_first kinds c.args.line plan numbers i in
    let now = share_of plan c.whole-pipe.result in
    let more = shares_first-more kinds c.args.line plan numbers i 0 c.pipe_kind.result.now (omega arith) c.pipe_kind.ensures.value ∙ ap (λ w. first ++ share_of plan w ∷ []) (sym c.whole-pipe.ensures.value) in
    let total = ap sum more ∙ sum_by_push (λ n. n) first now in
    let greatest = ap (fold max 0) more ∙ fold_push max 0 first now in
    let limit = c.share-share.ensures.limit in
    let exact = c.share-share.ensures.exact in
    record {
      total = omega arith;
      greatest = c.greater-greatest.ensures ∙ ap (λ n. max n c.share-share.result) c.loop-number.invariant.greatest ∙ ap (max (fold max 0 first)) exact ∙ sym greatest;
      limit = omega arith;
    }
