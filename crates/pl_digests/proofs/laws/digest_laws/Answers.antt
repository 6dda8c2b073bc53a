use Rattle.pl_digests.proofs.Texts.{read_is_digest, read_is_text, text_is_read}
use Rattle.pl_digests.proofs.laws.digest_laws.Goals as goal

pub returns-clause-read : goal.returns-clause-read
returns-clause-read c = text_is_read

pub returns-clause-text : goal.returns-clause-text
returns-clause-text c = read_is_text

pub returns-clause-is : goal.returns-clause-is
returns-clause-is c = read_is_digest
