use Rattle.std.proofs.Common.{List, ap, map, subst, ◌∙◌}
use Rattle.std.specs.FinMap as finite
use Rattle.std.specs.Prelude.{IfOk}
use Rattle.pl_sources.specs.Below.pl_compile.specs.Reading.{Texts}
use Rattle.pl_keeper.specs.declared.records.KeptFile.{KeptFile}
use Rattle.pl_seeing.specs.Seeing.{pair_of}
use Rattle.pl_seeing.specs.Sharing.{Comes}
use Rattle.pl_seeing.proofs.making.made_from.Goals as goal

pub returns : goal.returns
returns c = subst (λ (texts : Texts). IfOk c.compiled_from.result
    (Comes texts c.args.told.now.root c.args.told.now.arguments))
    (c.in_ok-files.ensures ∙ ap (λ (files : List KeptFile). finite.from_entries (map pair_of files))
    c.as_slice.ensures) c.compiled_from.ensures
