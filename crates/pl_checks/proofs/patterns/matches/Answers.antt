use Rattle.std.proofs.Common.{◌≡◌, ◌↔◌, false, lit<, None, true, subst, rules}
use Rattle.std.proofs.lemmas.Bool.{false≢true}
use Rattle.std.proofs.lemmas.Str.Pattern.{split_parts}
use Rattle.pl_checks.specs.Patterns.{MatchesEnd}
use Rattle.pl_checks.proofs.Filling.{IsPlain, matches_plain, plain_matches}
use Rattle.pl_checks.proofs.Cutting.{begun, carried, not_begun}
use Rattle.pl_checks.proofs.patterns.matches.Goals as goal

pub returns-in-None : goal.returns-in-None
returns-in-None c =
    let pattern = c.args.pattern.now in
    let text = c.args.git_ref.now in
    let plain = subst IsPlain c.as_str.ensures (split_parts 42 c.as_str.result.now None
    c.in-None.ensures.cases (lit< tt)) in
    let same : (c.eq.result ≡ true) ↔ (text ≡ pattern) = search rules in (
      λ h. matches_plain pattern text plain (same.0 h),
      λ m. same.1 (plain_matches pattern text
          plain m),
    )

pub returns-in-Some-strip_prefix : goal.returns-in-Some-strip_prefix
returns-in-Some-strip_prefix c =
    let same = begun c.as_str.result.now c.as_str-text.result.now (
      c.in-Some.front,
      c.in-Some.rest,
    ) c.in-Some-strip_prefix.after.now
    c.in-Some.ensures.cases c.in-Some-strip_prefix.ensures.cases in
    carried (MatchesEnd c.in-Some.rest.now c.in-Some-strip_prefix.after.now) c.matches_end.result
    _ _ _ _
    c.as_str.ensures c.as_str-text.ensures same c.matches_end.ensures

pub returns-in-None-strip_prefix : goal.returns-in-None-strip_prefix
returns-in-None-strip_prefix c =
    let never = not_begun c.as_str.result.now c.as_str-text.result.now (
      c.in-Some.front,
      c.in-Some.rest,
    )
    c.in-Some.ensures.cases c.in-None-strip_prefix.ensures.cases in
    carried ⊥ false _ _ _ _ c.as_str.ensures c.as_str-text.ensures (never, λ h. absurd h)
    (false≢true, λ h. absurd h)
