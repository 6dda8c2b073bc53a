use Rattle.pl_views.proofs.Readiness.{job_ready_or_awaits, ready_by_latest, ready_or_awaits}
use Rattle.pl_views.proofs.Readiness.{ready_within}
use Rattle.pl_views.proofs.laws.readiness_laws.Goals as goal

pub returns : goal.returns
returns c = record {
  stage = ready_or_awaits;
  job = job_ready_or_awaits;
  latest = ready_by_latest;
  within = ready_within;
}
