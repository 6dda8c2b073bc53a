use Rattle.std.proofs.Common.{lit<, None, refl}
use Rattle.std.proofs.lemmas.Str.Pattern.{strip_prefix_char}
use Rattle.pl_paths.proofs.Cuts.{relative}
use Rattle.pl_paths.proofs.resolving.inner.Goals as goal

pub returns-in-None : goal.returns-in-None
returns-in-None c =
    rw (relative c.args.path.now
    (strip_prefix_char 47 c.args.path.now None c.in-None.ensures.cases (lit< tt))) refl
