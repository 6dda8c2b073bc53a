use Rattle.pl_service.proofs.Keeping.{kept_begun}
use Rattle.pl_service.proofs.service.Service.open.Goals as goal
use Rattle.pl_service.specs.Past.{past_at}

pub invariant_of-result : goal.invariant_of-result
invariant_of-result g c = record {
  kept = kept_begun c.args.admin (past_at c.in-Ok.core) (g.K.Keeper.held c.begun.new.keeper)
      c.in-Ok.ensures.begun;
}
