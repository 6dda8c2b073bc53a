use Rattle.pl_yaml_laws.proofs.Faults.{faults_are_first, faults_stand_in_the_text}
use Rattle.pl_yaml_laws.proofs.laws.faults_are_first.Goals as goal

pub returns-clause-first : goal.returns-clause-first
returns-clause-first c = faults_are_first

pub returns-clause-line : goal.returns-clause-line
returns-clause-line c = faults_stand_in_the_text
