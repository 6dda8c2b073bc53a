use Rattle.pl_open_runs.proofs.Keeping.{after_back}
use Rattle.pl_open_runs.proofs.index.back_to_installed.Goals as goal

pub returns-then-len-before-clause-index : goal.returns-then-len-before-clause-index
returns-then-len-before-clause-index c = after_back c.args.journal.now
    c.back_to_installed.new.self c.args.known.now c.args.runs.now.items c.look_at_all.new.runs.items
    c.requires.index c.back_to_installed.ensures c.look_at_all.ensures.items
