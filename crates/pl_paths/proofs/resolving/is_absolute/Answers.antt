use Rattle.std.proofs.Common.{lit<, None, Some, sym}
use Rattle.std.proofs.lemmas.Str.Pattern.{strip_prefix_char}
use Rattle.pl_paths.proofs.Cuts.{absolute, relative}
use Rattle.pl_paths.proofs.resolving.is_absolute.Goals as goal

pub returns-in-None : goal.returns-in-None
returns-in-None c =
    sym (relative c.args.path.now
    (strip_prefix_char 47 c.args.path.now None c.in-None.ensures.cases (lit< tt)))

pub returns-in-Some : goal.returns-in-Some
returns-in-Some c =
    sym (absolute c.args.path.now _
    (strip_prefix_char 47 c.args.path.now (Some c.in-Some._rest) c.in-Some.ensures.cases
    (lit< tt)))
