use Rattle.std.proofs.Common.{◌∙◌, ap}
use Rattle.pl_opening.specs.Below.pl_core.specs.State.{State}
use Rattle.pl_service.proofs.Answering.{answers, past_back}
use Rattle.pl_service.proofs.Keeping.{kept_behind, kept_same, none_where, past_by, stays_where}
use Rattle.pl_service.specs.Past.{past_at, past_of}
use Rattle.pl_service.proofs.service.Service.reply.Goals as goal

pub returns-in-Ok-clause-answers : goal.returns-in-Ok-clause-answers
returns-in-Ok-clause-answers g c =
    let prepared = c.in_ok-prepared.prepared in
    answers c.args.self.now.core c.prepare.new.self c.install.new.self c.args.seat
    c.args.call.now c.in_ok-made.made prepared.entry c.install.result prepared.reply
    c.in_ok-prepared.ensures.opening c.in_ok-prepared.ensures.entries c.install.ensures.state
    c.in_ok-made.ensures c.in_ok-prepared.ensures.steps c.in_ok-prepared.ensures.entry
    c.install.ensures.reply c.install.ensures.guarded c.in_ok-prepared.ensures.answered

pub returns-in-Ok-clause-rows : goal.returns-in-Ok-clause-rows
returns-in-Ok-clause-rows g c =
    let prepared = c.in_ok-prepared.prepared in
    stays_where c.args.self.now.core c.prepare.new.self c.install.new.self prepared.changes
    c.in_ok-prepared.ensures.opening c.in_ok-prepared.ensures.entries c.kept_laws.ensures.kept
    prepared.entry c.install.ensures.state c.requires.legal c.in_ok-prepared.ensures.prepared
    c.in_ok-prepared.ensures.changes _ _ c.in-Ok.ensures.applied

pub invariant_of-self : goal.invariant_of-self
invariant_of-self g c = record {
  kept = kept_same (past_of c.args.self.now) (past_at c.prepare.new.self)
      (g.K.Keeper.held c.args.self.now.keeper) (g.K.Keeper.held c.args.self.now.keeper)
      (past_by c.prepare.new.self c.args.self.now.core c.prepare.ensures.opening
      c.prepare.ensures.entries) (none_where (g.K.Keeper.held c.args.self.now.keeper))
      c.args.self.now.kept;
}

pub invariant_of-self-in-Ok : goal.invariant_of-self-in-Ok
invariant_of-self-in-Ok g c =
    let prepared = c.in_ok-prepared.prepared in
    record {
      kept = kept_behind (past_of c.args.self.now) (past_at c.install.new.self)
          (g.K.Keeper.held c.args.self.now.keeper) (g.K.Keeper.held c.keep.new.keeper)
          (stays_where c.args.self.now.core c.prepare.new.self c.install.new.self prepared.changes
          c.in_ok-prepared.ensures.opening c.in_ok-prepared.ensures.entries
          c.kept_laws.ensures.kept prepared.entry c.install.ensures.state c.requires.legal
          c.in_ok-prepared.ensures.prepared c.in_ok-prepared.ensures.changes _ _
          c.in-Ok.ensures.applied)
          (ap (λ (state : State). state.opening) c.install.ensures.state
          ∙ c.in_ok-prepared.ensures.opening) c.args.self.now.kept;
    }

pub invariant_of-self-in-Err : goal.invariant_of-self-in-Err
invariant_of-self-in-Err g c = record {
  kept = kept_same (past_of c.args.self.now) (past_at c.back.new.self)
      (g.K.Keeper.held c.args.self.now.keeper) (g.K.Keeper.held c.keep.new.keeper)
      (past_back c.prepare.new.self c.back.new.self c.back.ensures
      ∙ past_by c.prepare.new.self c.args.self.now.core c.prepare.ensures.opening
      c.prepare.ensures.entries) c.in-Err.ensures.same c.args.self.now.kept;
}
