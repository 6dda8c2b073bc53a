use Rattle.std.proofs.Common.{sym, ap, ◌∙◌, subst}
use Rattle.pl_answers.specs.Answers.{without_fact}
use Rattle.pl_decisions.specs.Below.pl_due.specs.Fit.{AreFit}
use Rattle.pl_journal.specs.Log.{Log}
use Rattle.pl_requests.specs.declared.request.Request.TheVariants as request
use Rattle.pl_step.specs.Answering.{Answers}
use Rattle.pl_step.proofs.Asked.{as_seen, as_told}
use Rattle.pl_step.proofs.answering.answer.Goals as goal

pub report-requires : goal.report-requires
report-requires c = record {
  fit = subst (λ (log : Log). AreFit log.facts) (sym c.journal-journal.ensures) c.requires.fit;
}

pub returns-in-PutFile : goal.returns-in-PutFile
returns-in-PutFile c =
    as_seen c.args.moment c.args.who.now c.args.made c.put_file.result
    c.journal-journal.result.now c.args.indexed.now c.args.request.now
    (request.PutFile c.in-PutFile.file) c.journal-journal.ensures
    c.in-PutFile.is c.put_file.ensures

pub returns-in-RemoveFile : goal.returns-in-RemoveFile
returns-in-RemoveFile c =
    as_seen c.args.moment c.args.who.now c.args.made c.remove_file.result
    c.journal-journal.result.now c.args.indexed.now c.args.request.now
    (request.RemoveFile c.in-RemoveFile.key) c.journal-journal.ensures
    c.in-RemoveFile.is c.remove_file.ensures

pub returns-in-GetFile : goal.returns-in-GetFile
returns-in-GetFile c =
    as_seen c.args.moment c.args.who.now c.args.made c.get_file.result
    c.journal-journal.result.now c.args.indexed.now c.args.request.now
    (request.GetFile c.deref.result.now) c.journal-journal.ensures
    (c.in-GetFile.is ∙ ap request.GetFile (sym c.deref.ensures)) c.get_file.ensures

pub returns-in-SetPipeline : goal.returns-in-SetPipeline
returns-in-SetPipeline c =
    as_told c.args.moment c.args.who.now c.args.made c.set_pipeline.result c.args.indexed.now
    c.args.request.now (request.SetPipeline c.in-SetPipeline.told) c.in-SetPipeline.is
    c.set_pipeline.ensures

pub returns-in-SetResource : goal.returns-in-SetResource
returns-in-SetResource c =
    as_told c.args.moment c.args.who.now c.args.made c.set_resource.result c.args.indexed.now
    c.args.request.now (request.SetResource c.in-SetResource.told) c.in-SetResource.is
    c.set_resource.ensures

pub returns-in-SetPrincipal : goal.returns-in-SetPrincipal
returns-in-SetPrincipal c =
    as_seen c.args.moment c.args.who.now c.args.made c.set_principal.result
    c.journal-journal.result.now c.args.indexed.now c.args.request.now
    (request.SetPrincipal c.in-SetPrincipal.told) c.journal-journal.ensures
    c.in-SetPrincipal.is c.set_principal.ensures

pub returns-in-SetAgent : goal.returns-in-SetAgent
returns-in-SetAgent c =
    as_told c.args.moment c.args.who.now c.args.made c.set_agent.result c.args.indexed.now
    c.args.request.now (request.SetAgent c.in-SetAgent.told) c.in-SetAgent.is
    c.set_agent.ensures

pub returns-in-QueueText : goal.returns-in-QueueText
returns-in-QueueText c =
    as_seen c.args.moment c.args.who.now c.args.made c.queue_text.result
    c.journal-journal.result.now c.args.indexed.now c.args.request.now
    (request.QueueText c.in-QueueText.field-0) c.journal-journal.ensures
    c.in-QueueText.is c.queue_text.ensures

pub returns-in-Queue : goal.returns-in-Queue
returns-in-Queue c =
    as_seen c.args.moment c.args.who.now c.args.made c.queue.result
    c.journal-journal.result.now c.args.indexed.now c.args.request.now
    (request.Queue c.deref-in-Queue.result.now) c.journal-journal.ensures
    (c.in-Queue.is ∙ ap request.Queue (sym c.deref-in-Queue.ensures)) c.queue.ensures

pub returns-in-ReadRun : goal.returns-in-ReadRun
returns-in-ReadRun c =
    as_seen c.args.moment c.args.who.now c.args.made c.read_run.result
    c.journal-journal.result.now c.args.indexed.now c.args.request.now
    (request.ReadRun c.in-ReadRun.run') c.journal-journal.ensures
    c.in-ReadRun.is c.read_run.ensures

pub returns-in-Cancel : goal.returns-in-Cancel
returns-in-Cancel c =
    as_told c.args.moment c.args.who.now c.args.made c.cancel.result c.args.indexed.now
    c.args.request.now (request.Cancel c.in-Cancel.run') c.in-Cancel.is
    c.cancel.ensures

pub returns-in-Decide : goal.returns-in-Decide
returns-in-Decide c =
    as_seen c.args.moment c.args.who.now c.args.made c.decide.result
    c.journal-journal.result.now c.args.indexed.now c.args.request.now
    (request.Decide c.in-Decide.run' c.in-Decide.stage c.in-Decide.approve)
    c.journal-journal.ensures c.in-Decide.is c.decide.ensures

pub returns-in-Draw : goal.returns-in-Draw
returns-in-Draw c =
    as_told c.args.moment c.args.who.now c.args.made c.draw.result c.args.indexed.now
    c.args.request.now request.Draw c.in-Draw.is
    c.draw.ensures

pub returns-in-Claim : goal.returns-in-Claim
returns-in-Claim c =
    as_told c.args.moment c.args.who.now c.args.made c.claim.result c.args.indexed.now
    c.args.request.now (request.Claim c.in-Claim.job) c.in-Claim.is
    c.claim.ensures

pub returns-in-Why : goal.returns-in-Why
returns-in-Why c =
    as_told c.args.moment c.args.who.now c.args.made c.why.result c.args.indexed.now
    c.args.request.now (request.Why c.in-Why.job c.in-Why.agent) c.in-Why.is
    c.why.ensures

pub returns-in-Report : goal.returns-in-Report
returns-in-Report c =
    as_seen c.args.moment c.args.who.now c.args.made c.report.result
    c.journal-journal.result.now c.args.indexed.now c.args.request.now
    (request.Report c.in-Report.job c.deref-in-Report.result.now) c.journal-journal.ensures
    (c.in-Report.is ∙ ap (request.Report c.in-Report.job) (sym c.deref-in-Report.ensures))
    c.report.ensures

pub returns-in-Shutdown : goal.returns-in-Shutdown
returns-in-Shutdown c =
    subst (λ asked. Answers c.args.indexed.now c.args.moment c.args.who.now c.args.made asked
    c.without_fact.result) (sym c.in-Shutdown.is)
    (c.without_fact.ensures ∙ ap without_fact c.empty_object.ensures)
