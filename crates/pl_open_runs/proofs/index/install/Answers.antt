use Rattle.std.proofs.Common.{arith}
use Rattle.pl_open_runs.proofs.Keeping.{after_installed, fewer_open}
use Rattle.pl_open_runs.proofs.index.install.Goals as goal

pub forget-requires : goal.forget-requires
forget-requires c = omega (
  arith,
  fewer_open c.args.journal.now c.args.known.now.items c.args.runs.now c.requires.index,
  c.args.known.now.ok.0,
  c.args.known.now.ok.1,
)

pub returns-clause-index : goal.returns-clause-index
returns-clause-index c = after_installed c.args.journal.now c.install.new.self
    c.args.journal.now.opening
    c.args.known.now.items c.forget.new.known.items c.args.runs.now c.requires.index
    c.install.ensures c.forget.ensures
