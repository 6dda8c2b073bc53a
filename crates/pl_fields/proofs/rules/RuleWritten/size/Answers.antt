use Rattle.pl_fields.proofs.Ending.{rule_size}
use Rattle.pl_fields.proofs.rules.RuleWritten.size.Goals as goal

pub returns-in_default : goal.returns-in_default
returns-in_default c =
    rule_size c.args.self.now c.in_default.not-TemplateArgument c.in_default.not-BranchRefused
    c.in_default.not-ApprovalRejected
    c.in_default.not-LockSuperseded
