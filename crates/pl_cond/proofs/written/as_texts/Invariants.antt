use Rattle.std.proofs.Common.{◌≡◌, map, take}
use Rattle.pl_cond.specs.Variables.{as_text}
use Rattle.pl_cond.proofs.written.as_texts.Given as goal

abbrev pub invariant-loop-variable : goal.invariant-loop-variable
invariant-loop-variable l = l.texts ≡ map as_text (take l.variable-index l.variables)
