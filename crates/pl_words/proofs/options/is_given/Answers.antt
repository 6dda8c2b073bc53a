use Rattle.std.proofs.Common.{◌∙◌, ◌||◌, false, true, refl, sym, ap}
use Rattle.pl_words.specs.Options.{is_given, options_of}
use Rattle.pl_words.specs.Parameters.{given}
use Rattle.pl_words.proofs.Fronts.{at_end, at_none, bytes_of, found, nothing, past}
use Rattle.pl_words.proofs.options.is_given.Goals as goal

pub returns-in_default : goal.returns-in_default
returns-in_default c =
    at_none (is_given c.args.name.now) (options_of (bytes_of c.args.words.now))
    (options_of (bytes_of c.loop-name.rest.now)) false c.loop-name.invariant
    c.in_default.ensures.front

pub returns-then-eq : goal.returns-then-eq
returns-then-eq c =
    found (is_given c.args.name.now) (given c.in-Some.front.option)
    (options_of (bytes_of c.args.words.now)) (options_of (bytes_of c.loop-name.rest.now))
    (options_of (bytes_of c.in-Some.front.behind.now)) true c.loop-name.invariant
    c.in-Some.ensures.front
    (λ others. ap (λ b. b || is_given c.args.name.now others) (sym (sym c.eq.ensures ∙ c.if-eq.true)))

pub loop-name-preserved : goal.loop-name-preserved
loop-name-preserved c =
    past (is_given c.args.name.now) (given c.in-Some.front.option)
    (options_of (bytes_of c.args.words.now)) (options_of (bytes_of c.loop-name.rest.now))
    (options_of (bytes_of c.in-Some.front.behind.now)) c.loop-name.invariant
    c.in-Some.ensures.front
    (λ others. ap (λ b. b || is_given c.args.name.now others) (sym c.eq.ensures ∙ c.if-eq.false))

pub returns : goal.returns
returns c =
    at_end (is_given c.args.name.now) (options_of (bytes_of c.args.words.now))
    (options_of (bytes_of c.loop-name.rest.now)) false c.loop-name.invariant
    (nothing c.loop-name.rest.now (sym c.is_empty.ensures ∙ c.loop-name-test.false)) refl
