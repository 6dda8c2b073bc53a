use Rattle.pl_sending.proofs.Sending.{entry_send, indexed_journal_send}
use Rattle.pl_sending.proofs.laws.sending_laws.Goals as goal

pub returns-clause-entry : goal.returns-clause-entry
returns-clause-entry c = entry_send

pub returns-clause-journal : goal.returns-clause-journal
returns-clause-journal c = indexed_journal_send
