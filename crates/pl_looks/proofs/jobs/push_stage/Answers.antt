use Rattle.std.proofs.Common.{◌≡◌, ◌++◌, ap, arith, length, sym, ◌∙◌}
use Rattle.std.specs.List.{filter_map, range_with_len}
use Rattle.std.proofs.lemmas.List.{append-nil}
use Rattle.pl_due.proofs.Fits.{few_jobs_at}
use Rattle.pl_due.specs.Asked.{facts_of}
use Rattle.pl_looks.specs.Jobs.{ready_job, taken_job}
use Rattle.pl_looks.proofs.Telling.{told_more}
use Rattle.pl_looks.proofs.jobs.push_stage.Goals as goal

pub overflow_cast-job-end : goal.overflow_cast-job-end
overflow_cast-job-end c = omega (arith, c.len-job-end.ensures, few_jobs_at c.args.at.now c.requires)

pub loop-job-init : goal.loop-job-init
loop-job-init c = record {
  ready = sym (append-nil c.args.ready.now);
  taken = sym (append-nil c.args.taken.now);
}

pub loop-job-preserved : goal.loop-job-preserved
loop-job-preserved c =
    let at = c.args.at.now in
    record {
      ready = told_more (ready_job (facts_of at) at.planned.now at.run at.stage) c.loop-job.job
          c.args.ready.now c.loop-job.ready c.push_job.new.ready c.loop-job.invariant.ready
          c.in_ok-push_job.ensures.ready;
      taken = told_more (taken_job (facts_of at) at.planned.now at.run at.stage) c.loop-job.job
          c.args.taken.now c.loop-job.taken c.push_job.new.taken c.loop-job.invariant.taken
          c.in_ok-push_job.ensures.taken;
    }

pub returns-clause-ready : goal.returns-clause-ready
returns-clause-ready c =
    let at = c.args.at.now in
    let all : c.loop-job.job ≡ length at.planned.now.jobs =
    omega (arith, c.len-job-end.ensures, c.loop-job-test.false) in
    c.loop-job.invariant.ready ∙ ap (λ n. c.args.ready.now ++ filter_map
    (ready_job (facts_of at) at.planned.now at.run at.stage) (range_with_len 0 n)) all

pub returns-clause-taken : goal.returns-clause-taken
returns-clause-taken c =
    let at = c.args.at.now in
    let all : c.loop-job.job ≡ length at.planned.now.jobs =
    omega (arith, c.len-job-end.ensures, c.loop-job-test.false) in
    c.loop-job.invariant.taken ∙ ap (λ n. c.args.taken.now ++ filter_map
    (taken_job (facts_of at) at.planned.now at.run at.stage) (range_with_len 0 n)) all
