use Rattle.pl_yaml_laws.proofs.EmptyLines.{in_documents, in_texts, before_nodes, before_items}
use Rattle.pl_yaml_laws.proofs.EmptyLines.{before_pairs}
use Rattle.pl_yaml_laws.proofs.Between.{passed_over_between, passed_over_inside}
use Rattle.pl_yaml_laws.proofs.laws.empty_lines_are_passed_over.Goals as goal

pub returns-clause-rows : goal.returns-clause-rows
returns-clause-rows c = in_documents

pub returns-clause-text : goal.returns-clause-text
returns-clause-text c = in_texts

pub returns-clause-value : goal.returns-clause-value
returns-clause-value c = before_nodes

pub returns-clause-items : goal.returns-clause-items
returns-clause-items c = before_items

pub returns-clause-pairs : goal.returns-clause-pairs
returns-clause-pairs c = before_pairs

pub returns-clause-between : goal.returns-clause-between
returns-clause-between c = passed_over_between

pub returns-clause-inside : goal.returns-clause-inside
returns-clause-inside c = passed_over_inside
