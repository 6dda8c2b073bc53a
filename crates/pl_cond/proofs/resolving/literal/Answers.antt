use Rattle.pl_cond.proofs.Resolved.{literal_text}
use Rattle.pl_cond.proofs.resolving.literal.Goals as goal

pub returns-in-Lit : goal.returns-in-Lit
returns-in-Lit c = literal_text c.args.expr.now c.in-Lit.value _ c.in-Lit.is c.text_in.ensures
