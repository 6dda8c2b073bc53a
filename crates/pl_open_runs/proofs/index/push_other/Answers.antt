use Rattle.pl_open_runs.proofs.Keeping.{after_other}
use Rattle.pl_open_runs.proofs.index.push_other.Goals as goal

pub returns-clause-index : goal.returns-clause-index
returns-clause-index c = after_other c.args.journal.now c.push.new.self c.args.fact c.args.known.now
    c.args.runs.now c.push.result c.requires.index c.requires.queued c.requires.ended
    c.push.ensures.ok c.push.ensures.err
