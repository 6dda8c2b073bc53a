use Rattle.pl_words.specs.Parameters.{argument_in}
use Rattle.std.proofs.Common.{◌∙◌, subst, sym}
use Rattle.pl_words.specs.Words.{arguments_of}
use Rattle.pl_words.proofs.Fronts.{bytes_of}
use Rattle.pl_words.proofs.Rests.{Judges, again, once}
use Rattle.pl_words.proofs.parameters.are_parameters.Goals as goal

pub returns-then-is_named : goal.returns-then-is_named
returns-then-is_named c =
    let argument = argument_in c.in-Some.lead.parameter in
    let behind = arguments_of (bytes_of c.in-Some.lead.behind.now) in
    again argument (arguments_of (bytes_of c.loop-rest.rest.now)) behind c.in-Some.ensures.lead
    (subst (Judges argument.name behind) c.if-is_named.true c.is_named.ensures)
    ∙ sym c.loop-rest.invariant

pub loop-rest-preserved : goal.loop-rest-preserved
loop-rest-preserved c =
    let argument = argument_in c.in-Some.lead.parameter in
    let behind = arguments_of (bytes_of c.in-Some.lead.behind.now) in
    c.loop-rest.invariant
    ∙ once argument (arguments_of (bytes_of c.loop-rest.rest.now)) behind c.in-Some.ensures.lead
    (subst (Judges argument.name behind) c.if-is_named.false c.is_named.ensures)
