use Rattle.pl_graph.proofs.Common.{IsFromIterResult, edge_cmp, rules}
use Rattle.std.proofs.lemmas.Iterator.{YieldsList-from_slice}
use Rattle.std.proofs.lemmas.Iterator.Adapters.{fact_from_collect}
use Rattle.std.proofs.lemmas.Iterator.Consumers.{YieldsList-from_copied}
use Rattle.pl_graph.proofs.edges.edge_set.Goals as goal

pub returns : goal.returns
returns c =
    fact_from_collect (IsFromIterResult edge_cmp) c.collect.result c.collect.ensures.ran
    (YieldsList-from_copied (YieldsList-from_slice c.args.edges.now (search rules)))
