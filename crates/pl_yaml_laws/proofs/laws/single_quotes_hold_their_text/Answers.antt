use Rattle.pl_yaml_laws.proofs.SingleQuotes.{quoted_reads, value_is, key_is, text_is}
use Rattle.pl_yaml_laws.proofs.laws.single_quotes_hold_their_text.Goals as goal

pub returns-clause-scalar : goal.returns-clause-scalar
returns-clause-scalar c = quoted_reads

pub returns-clause-value : goal.returns-clause-value
returns-clause-value c = value_is

pub returns-clause-key : goal.returns-clause-key
returns-clause-key c = key_is

pub returns-clause-text : goal.returns-clause-text
returns-clause-text c = text_is
