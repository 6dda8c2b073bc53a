use Rattle.std.proofs.Common.{length, arith}
use Rattle.pl_open_runs.proofs.Keeping.{after_installed, fewer_open}
use Rattle.pl_open_runs.proofs.index.begin.Goals as goal

pub forget-requires : goal.forget-requires
forget-requires c = omega (
  arith,
  fewer_open c.args.journal.now c.args.known.now.items c.args.runs.now c.requires.index,
  c.args.known.now.ok.0,
  c.args.known.now.ok.1,
)

pub returns-clause-index : goal.returns-clause-index
returns-clause-index c = after_installed c.args.journal.now c.begin.new.self
    (record {
      moment = c.args.numbers.moment;
      run = c.args.numbers.run;
      version = c.args.numbers.version;
      facts = length c.args.journal.now.facts;
    })
    c.args.known.now.items c.forget.new.known.items c.args.runs.now c.requires.index
    c.begin.ensures c.forget.ensures
