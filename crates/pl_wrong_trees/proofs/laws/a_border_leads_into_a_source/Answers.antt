use Rattle.pl_wrong_trees.proofs.Borders.{into_sources}
use Rattle.pl_wrong_trees.proofs.laws.a_border_leads_into_a_source.Goals as goal

pub returns : goal.returns
returns c = into_sources
