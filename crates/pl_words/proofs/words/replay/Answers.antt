use Rattle.std.proofs.Common.{◌∙◌, sym}
use Rattle.pl_words.specs.Options.{options_of}
use Rattle.pl_words.proofs.Fronts.{bytes_of}
use Rattle.pl_words.proofs.Storing.{on_err, takes_path}
use Rattle.pl_words.proofs.words.replay.Goals as goal

pub returns-in_err-store-in-Some-clause-memory : goal.returns-in_err-store-in-Some-clause-memory
returns-in_err-store-in-Some-clause-memory c =
    on_err c.from_residual.result _
    (takes_path (options_of (bytes_of c.args.words.now)) c.in-Some.admin
    (sym c.are_once.ensures ∙ c.if-not-are_once.false) c.in-Some.ensures
    c.in_err-store-in-Some.ensures.given)
