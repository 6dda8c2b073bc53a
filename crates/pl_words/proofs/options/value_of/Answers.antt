use Rattle.std.proofs.Common.{◌∙◌, None, refl, sym}
use Rattle.pl_words.specs.Options.{options_of, value_of}
use Rattle.pl_words.specs.Parameters.{given}
use Rattle.pl_words.proofs.Fronts.{at_end, at_none, bytes_of, found, nothing, past, value_here}
use Rattle.pl_words.proofs.Fronts.{value_past}
use Rattle.pl_words.proofs.options.value_of.Goals as goal

pub returns-in_err-front : goal.returns-in_err-front
returns-in_err-front c =
    at_none (value_of c.args.name.now) (options_of (bytes_of c.args.words.now))
    (options_of (bytes_of c.loop-name.rest.now)) _ c.loop-name.invariant
    c.in_err-front.ensures.front

pub returns-then-eq : goal.returns-then-eq
returns-then-eq c =
    found (value_of c.args.name.now) (given c.in_ok-front.front.option)
    (options_of (bytes_of c.args.words.now)) (options_of (bytes_of c.loop-name.rest.now))
    (options_of (bytes_of c.in_ok-front.front.behind.now)) _ c.loop-name.invariant
    c.in_ok-front.ensures.front
    (λ others. value_here c.args.name.now (given c.in_ok-front.front.option) others
    (sym c.eq.ensures ∙ c.if-eq.true))

pub loop-name-preserved : goal.loop-name-preserved
loop-name-preserved c =
    past (value_of c.args.name.now) (given c.in_ok-front.front.option)
    (options_of (bytes_of c.args.words.now)) (options_of (bytes_of c.loop-name.rest.now))
    (options_of (bytes_of c.in_ok-front.front.behind.now)) c.loop-name.invariant
    c.in_ok-front.ensures.front
    (λ others. value_past c.args.name.now (given c.in_ok-front.front.option) others
    (sym c.eq.ensures ∙ c.if-eq.false))

pub returns : goal.returns
returns c =
    at_end (value_of c.args.name.now) (options_of (bytes_of c.args.words.now))
    (options_of (bytes_of c.loop-name.rest.now)) None c.loop-name.invariant
    (nothing c.loop-name.rest.now (sym c.is_empty.ensures ∙ c.loop-name-test.false)) refl
