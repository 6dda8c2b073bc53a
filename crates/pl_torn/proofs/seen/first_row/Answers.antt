use Rattle.std.proofs.Common.{[], sym, ap, ◌∙◌}
use Rattle.std.specs.Option.{option_and_then}
use Rattle.std.specs.Prelude.{Option}
use Rattle.pl_torn.specs.Finding.{if_there}
use Rattle.pl_torn.specs.declared.seen.Seen.{Seen}
use Rattle.pl_torn.proofs.Finding.{cut_first, cut_found}
use Rattle.pl_torn.proofs.seen.first_row.Goals as goal

pub returns : goal.returns
returns c =
    c.if_there.ensures ∙
    (ap (λ (o : Option Seen). option_and_then (if_there (0, [])) o) c.first.ensures.value ∙
    sym (cut_found (0, []) c.args.all.now c.requires.order 0 (cut_first c.args.all.now)))
