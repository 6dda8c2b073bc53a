use Rattle.pl_frame.proofs.Refusing.{refused}
use Rattle.pl_frame.proofs.expressions.value_at.Goals as goal

pub returns-in-Err-Refused : goal.returns-in-Err-Refused
returns-in-Err-Refused c =
    refused _ _ _ _ _ _ c.in-Err-Refused.field-0-is c.in-Err-Refused.ensures c.in_ok-here.ensures
