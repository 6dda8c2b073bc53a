use Rattle.pl_service.proofs.Answering.{past_back, wants_by}
use Rattle.pl_service.proofs.Keeping.{kept_same, none_where}
use Rattle.pl_service.specs.Past.{past_at, past_of}
use Rattle.pl_service.proofs.service.Service.wanted.Goals as goal

pub returns-clause-wants : goal.returns-clause-wants
returns-clause-wants g c =
    wants_by c.args.self.now.core c.back.new.self c.back.ensures c.args.call.now c.wanted.result
    c.wanted.ensures

pub returns-clause-same : goal.returns-clause-same
returns-clause-same g c = past_back c.args.self.now.core c.back.new.self c.back.ensures

pub invariant_of-self : goal.invariant_of-self
invariant_of-self g c = record {
  kept = kept_same (past_of c.args.self.now) (past_at c.back.new.self)
      (g.K.Keeper.held c.args.self.now.keeper) (g.K.Keeper.held c.args.self.now.keeper)
      (past_back c.args.self.now.core c.back.new.self c.back.ensures)
      (none_where (g.K.Keeper.held c.args.self.now.keeper)) c.args.self.now.kept;
}
