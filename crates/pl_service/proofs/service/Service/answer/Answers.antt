use Rattle.std.proofs.Common.{◌∙◌, ap, refl}
use Rattle.pl_opening.specs.Below.pl_core.specs.State.{State}
use Rattle.pl_service.proofs.Answering.{ahead_by, answered_by, past_back, same_by}
use Rattle.pl_service.proofs.Keeping.{kept_same, none_where}
use Rattle.pl_service.specs.Past.{past_at, past_of}
use Rattle.pl_service.proofs.service.Service.answer.Goals as goal

pub reply-reply-requires-clause-ahead : goal.reply-reply-requires-clause-ahead
reply-reply-requires-clause-ahead g c =
    ahead_by c.args.self.now.core c.back.new.self c.back.ensures c.args.call _ c.args.ahead refl
    refl c.requires.ahead

pub returns-clause-answers : goal.returns-clause-answers
returns-clause-answers g c =
    answered_by c.args.self.now.core c.back.new.self c.back.ensures c.args.seat c.args.call
    c.later.result c.moment.result c.reply-reply.result _ c.later.ensures
    c.moment.ensures.moment c.reply-reply.ensures.answers

pub returns-clause-same : goal.returns-clause-same
returns-clause-same g c =
    same_by c.args.self.now.core c.back.new.self c.back.ensures c.reply-reply.result _
    c.reply-reply.ensures.same

pub returns-clause-opening : goal.returns-clause-opening
returns-clause-opening g c =
    c.reply-reply.ensures.opening ∙ ap (λ (state : State). state.opening) c.back.ensures

pub invariant_of-self : goal.invariant_of-self
invariant_of-self g c = record {
  kept = kept_same (past_of c.args.self.now) (past_at c.back.new.self)
      (g.K.Keeper.held c.args.self.now.keeper) (g.K.Keeper.held c.args.self.now.keeper)
      (past_back c.args.self.now.core c.back.new.self c.back.ensures)
      (none_where (g.K.Keeper.held c.args.self.now.keeper)) c.args.self.now.kept;
}
