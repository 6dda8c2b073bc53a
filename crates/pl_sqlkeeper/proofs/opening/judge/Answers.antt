use Rattle.sqlite.specs.Held.{state}
use Rattle.pl_sqlkeeper.proofs.Surviving.{survives_none}
use Rattle.pl_sqlkeeper.proofs.Told.{told_same}
use Rattle.pl_sqlkeeper.proofs.opening.judge.Goals as goal

pub returns-in_err-judged-clause-survives : goal.returns-in_err-judged-clause-survives
returns-in_err-judged-clause-survives g c = survives_none (state g.S.Store c.args.conn.now) (λ _. ⊥)

pub returns-in_err-judged-clause-kept : goal.returns-in_err-judged-clause-kept
returns-in_err-judged-clause-kept g c = told_same (state g.S.Store c.args.conn.now)

pub returns-clause-untouched : goal.returns-clause-untouched
returns-clause-untouched g c = λ other. absurd (other c.in_ok-judged.ensures.schema)
