use Rattle.std.proofs.Common.{lit<, None, rules}
use Rattle.std.proofs.lemmas.Bool.{false≢true}
use Rattle.std.proofs.lemmas.Str.Pattern.{split_parts}
use Rattle.pl_checks.proofs.Cutting.{step, lost, ending}
use Rattle.pl_checks.proofs.patterns.matches_end.Goals as goal

pub loop-piece-preserved : goal.loop-piece-preserved
loop-piece-preserved c =
    let same = step c.loop-piece.wanted.now c.loop-piece.left.now (c.in-Some.piece, c.in-Some.rest)
    (c.in-Some-split_once.field-0-0, c.in-Some-split_once.after) c.in-Some.ensures.cases
    c.in-Some-split_once.ensures.cases in
    let before = c.loop-piece.invariant.same in
    record {
      pattern_is_text = search rules;
      text_is_text = search rules;
      same = (λ m. same.0 (before.0 m), λ m. before.1 (same.1 m));
    }

pub returns-in-None : goal.returns-in-None
returns-in-None c = (
  λ h. absurd (false≢true h),
  λ m. absurd (lost c.loop-piece.wanted.now c.loop-piece.left.now (c.in-Some.piece, c.in-Some.rest)
      c.in-Some.ensures.cases c.in-None.ensures.cases (c.loop-piece.invariant.same.0 m)),
)

pub returns : goal.returns
returns c =
    let plain = split_parts 42 c.loop-piece.wanted.now None c.in_default.ensures.cases (lit< tt) in
    let same = ending c.ends_with.result c.loop-piece.wanted.now c.loop-piece.left.now plain
    c.ends_with.ensures.cases in
    let before = c.loop-piece.invariant.same in
    (λ h. before.1 (same.0 h), λ m. same.1 (before.0 m))
