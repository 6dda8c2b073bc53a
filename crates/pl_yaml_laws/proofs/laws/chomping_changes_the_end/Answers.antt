use Rattle.pl_yaml_laws.proofs.Chomping.{chomping_changes_the_end, keeping_keeps_all}
use Rattle.pl_yaml_laws.proofs.Lines.{rows_are_lines}
use Rattle.pl_yaml_laws.proofs.laws.chomping_changes_the_end.Goals as goal

pub returns-clause-ends : goal.returns-clause-ends
returns-clause-ends c = chomping_changes_the_end

pub returns-clause-keeps : goal.returns-clause-keeps
returns-clause-keeps c = keeping_keeps_all

pub returns-clause-rows : goal.returns-clause-rows
returns-clause-rows c = rows_are_lines
