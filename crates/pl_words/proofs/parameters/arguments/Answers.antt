use Rattle.std.proofs.Common.{[], ◌∷◌, ◌++◌, ap, subst, sym, ◌∙◌}
use Rattle.pl_words.specs.Parameters.{argument_in}
use Rattle.pl_words.specs.Words.{arguments_of}
use Rattle.pl_words.proofs.Fronts.{bytes_of}
use Rattle.pl_words.proofs.Rests.{Gathers, none_yet, one_more}
use Rattle.pl_words.proofs.parameters.arguments.Goals as goal

pub loop-rest-init : goal.loop-rest-init
loop-rest-init c =
    let all = arguments_of (bytes_of c.args.words.now) in
    subst (λ none. Gathers all none all) (sym c.new-arguments.ensures) (none_yet all c.requires)

pub loop-rest-preserved : goal.loop-rest-preserved
loop-rest-preserved c =
    let all = arguments_of (bytes_of c.args.words.now) in
    let behind = arguments_of (bytes_of c.in-Some.lead.behind.now) in
    subst (λ gathered. Gathers all gathered behind)
    (sym (c.in_ok-push.ensures.ok
    ∙ ap (λ argument. c.loop-rest.arguments ++ argument ∷ []) c.in_ok-copied.ensures))
    (one_more (argument_in c.in-Some.lead.parameter) all c.loop-rest.arguments
    (arguments_of (bytes_of c.loop-rest.rest.now)) behind c.loop-rest.invariant
    c.in-Some.ensures.lead)
