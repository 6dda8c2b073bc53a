use Rattle.pl_provenance.proofs.Closure.{closure}
use Rattle.pl_provenance.proofs.laws.written_jobs_come_from_the_template_and_its_calls.Goals as goal

pub returns : goal.returns
returns c = closure
