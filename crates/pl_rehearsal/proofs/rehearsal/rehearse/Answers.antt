use Rattle.std.proofs.Common.{List, Some, ap, ◌∙◌}
use Rattle.pl_alone.specs.Below.pl_history.specs.History.{facts_of}
use Rattle.pl_alone.specs.Desk.{parts}
use Rattle.pl_facts.specs.declared.entry.Entry.{Entry}
use Rattle.pl_rehearsal.proofs.Begun.{started, summed_up}
use Rattle.pl_rehearsal.specs.Summary.{superseded_among}
use Rattle.pl_rehearsal.proofs.rehearsal.rehearse.Goals as goal

pub returns : goal.returns
returns c =
    summed_up c.in_ok-desk.desk c.rehearse_on.new.desk (parts _) c.args.admin c.args.runs
    c.in_ok-jobs.jobs c.in_ok-superseded.superseded
    (started c.args.admin _ c.in_ok-desk.ensures.opening c.in_ok-desk.ensures.entries
    (ap Some c.in_ok-desk.ensures.rows) c.in_ok-desk.ensures.quiet) c.in_ok-jobs.ensures.0
    c.in_ok-jobs.ensures.1 (c.in_ok-superseded.ensures
    ∙ ap (λ (entries : List Entry). superseded_among (facts_of entries)) c.entries.ensures.entries)
