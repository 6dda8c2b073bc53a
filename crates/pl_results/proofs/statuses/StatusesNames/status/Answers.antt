use Rattle.pl_results.proofs.ByName.{failed_is, succeeded_is, succeeded_or_failed_is}
use Rattle.pl_results.proofs.statuses.StatusesNames.status.Goals as goal

pub returns-then-not-self : goal.returns-then-not-self
returns-then-not-self c =
    succeeded_is c.args.self.now.canceled c.all_went_well.result c.args.self.now.members
    c.as_slice-members.result.now c.args.names.now c.as_slice-names.result.now c.args.function
    c.in-Succeeded.is c.if-not-self.true c.as_slice-members.ensures c.as_slice-names.ensures
    c.all_went_well.ensures

pub returns-in-Failed : goal.returns-in-Failed
returns-in-Failed c =
    failed_is c.args.self.now.canceled c.any_went_wrong.result c.args.self.now.members
    c.as_slice-members.result.now c.args.names.now c.as_slice-names.result.now c.args.function
    c.in-Failed.is c.as_slice-members.ensures c.as_slice-names.ensures c.any_went_wrong.ensures

pub returns-then-not-self-2 : goal.returns-then-not-self-2
returns-then-not-self-2 c =
    succeeded_or_failed_is c.args.self.now.canceled c.any_was_run.result c.args.self.now.members
    c.as_slice-members.result.now c.args.names.now c.as_slice-names.result.now c.args.function
    c.in-SucceededOrFailed.is c.if-not-self-2.true c.as_slice-members.ensures
    c.as_slice-names.ensures c.any_was_run.ensures
