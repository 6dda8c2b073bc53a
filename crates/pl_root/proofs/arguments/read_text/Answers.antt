use Rattle.std.proofs.Common.{subst}
use Rattle.pl_base.specs.declared.place.FileKey.{FileKey}
use Rattle.pl_yaml.specs.Spells as yaml
use Rattle.pl_directives.specs.Gives.{Gives}
use Rattle.pl_root.specs.Arguments.{read_told}
use Rattle.pl_root.proofs.arguments.read_text.Goals as goal

pub returns : goal.returns
returns c =
    let text = c.args.argument.now.text in
    subst (λ (file : FileKey). Gives c.read_in.result (read_told (yaml.spells file text)))
    c.in_ok-file.ensures c.read_in.ensures
