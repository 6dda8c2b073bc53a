use Rattle.std.proofs.Common.{ℕ, List, sym, ap, ◌∙◌}
use Rattle.std.specs.Option.{option_and_then}
use Rattle.std.specs.Prelude.{Option}
use Rattle.pl_torn.specs.Finding.{if_there}
use Rattle.pl_torn.specs.declared.seen.Seen.{Seen}
use Rattle.pl_torn.proofs.Finding.{cut_found}
use Rattle.pl_torn.proofs.seen.seen_at.Goals as goal

pub returns : goal.returns
returns c =
    let at : ℕ × List ℕ = (c.args.table, c.args.key.now) in
    c.if_there.ensures ∙
    (ap (λ (o : Option Seen). option_and_then (if_there at) o) c.row_of-found.ensures ∙
    sym (cut_found at c.args.all.now c.requires.order c.count_before.result c.count_before.ensures))
