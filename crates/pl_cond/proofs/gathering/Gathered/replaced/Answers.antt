use Rattle.std.proofs.Common.{◌∙◌}
use Rattle.pl_cond.proofs.Standing.{there, replaced_at, replaced_places}
use Rattle.pl_cond.proofs.gathering.Gathered.replaced.Goals as goal

pub set-requires : goal.set-requires
set-requires c = there c.args.self.variables c.args.later _ c.requires

pub invariant_of-result : goal.invariant_of-result
invariant_of-result c = record {
  indexed = λ upper. c.args.self.indexed upper
      ∙ replaced_places upper c.args.self.variables _ c.args.later _ c.requires c.set.ensures;
}

pub returns : goal.returns
returns c = replaced_at c.args.self.variables _ c.args.later _ c.requires c.set.ensures
