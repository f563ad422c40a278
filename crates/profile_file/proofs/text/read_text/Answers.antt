use Rattle.std.proofs.Common.{◌≡◌, ◌∙◌, ◌+◌, ap, arith, length, drop, take}
use Rattle.qos_profile.specs.declared.limits.TheConstants.{MAX_TEXT}
use Rattle.profile_file.proofs.Reading.{IsFront-more, IsFront-whole}
use Rattle.profile_file.proofs.text.read_text.Goals as goal

pub returns-then-branch-eq0-clause-text : goal.returns-then-branch-eq0-clause-text
returns-then-branch-eq0-clause-text g c = λ left is.
    let front = c.loop-source.invariant.front left is in
    let part = c.in_ok-read_part.ensures.bytes _ front.rest in
    let after = IsFront-more _ _ _ left _ _ front part c.in_ok-read_part.ensures.count c.in_ok-read_part.ensures.left in
    let same : length c.read_part.new.text.items ≡ length c.loop-source.text.items =
    omega (arith, c.in_ok-read_part.ensures.count, c.if-branch-eq0.true) in
    let none = ap (λ n. drop n left) same ∙ part.end c.if-branch-eq0.true in
    IsFront-whole (MAX_TEXT + 1) _ left _ after none c.in_ok-read_part.ensures.within

pub loop-source-preserved : goal.loop-source-preserved
loop-source-preserved g c = record {
  small = c.in_ok-read_part.ensures.within;
  front = λ left is.
      let front = c.loop-source.invariant.front left is in
      let part = c.in_ok-read_part.ensures.bytes _ front.rest in
      IsFront-more _ _ _ left _ _ front part c.in_ok-read_part.ensures.count c.in_ok-read_part.ensures.left;
  sure = λ is. (c.read_part.ensures.sure (c.loop-source.invariant.sure is)).1;
}

pub returns-clause-text : goal.returns-clause-text
returns-clause-text g c = λ left is.
    let front = c.loop-source.invariant.front left is in
    let full : length c.loop-source.text.items ≡ MAX_TEXT + 1 =
    omega (arith, c.loop-source.invariant.small, c.loop-source-test.false, c.len.ensures) in
    front.front ∙ ap (λ n. take n left) full
