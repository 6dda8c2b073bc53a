use Rattle.std.proofs.Common.{◌∙◌, false, sym}
use Rattle.pl_words.specs.Parameters.{argument_in}
use Rattle.pl_words.specs.Words.{arguments_of}
use Rattle.pl_words.proofs.Fronts.{bytes_of}
use Rattle.pl_words.proofs.Rests.{at_end, at_named, at_none, nothing, past}
use Rattle.pl_words.proofs.parameters.is_named.Goals as goal

pub returns-in_default : goal.returns-in_default
returns-in_default c =
    at_none c.args.name.now (arguments_of (bytes_of c.args.words.now))
    (arguments_of (bytes_of c.loop-name.rest.now)) false c.loop-name.invariant
    c.in_default.ensures.lead

pub returns-then-eq : goal.returns-then-eq
returns-then-eq c =
    at_named c.args.name.now (argument_in c.in-Some.lead.parameter)
    (arguments_of (bytes_of c.args.words.now)) (arguments_of (bytes_of c.loop-name.rest.now))
    (arguments_of (bytes_of c.in-Some.lead.behind.now)) c.loop-name.invariant
    c.in-Some.ensures.lead (sym c.eq.ensures ∙ c.if-eq.true)

pub loop-name-preserved : goal.loop-name-preserved
loop-name-preserved c =
    past c.args.name.now (argument_in c.in-Some.lead.parameter)
    (arguments_of (bytes_of c.args.words.now)) (arguments_of (bytes_of c.loop-name.rest.now))
    (arguments_of (bytes_of c.in-Some.lead.behind.now)) c.loop-name.invariant
    c.in-Some.ensures.lead (sym c.eq.ensures ∙ c.if-eq.false)

pub returns : goal.returns
returns c =
    at_end c.args.name.now (arguments_of (bytes_of c.args.words.now))
    (arguments_of (bytes_of c.loop-name.rest.now)) c.loop-name.invariant
    (nothing c.loop-name.rest.now (sym c.is_empty.ensures ∙ c.loop-name-test.false))
