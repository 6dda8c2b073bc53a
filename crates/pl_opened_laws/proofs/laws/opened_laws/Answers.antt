use Rattle.pl_seeing.specs.Below.pl_sources.specs.Again.{files_of}
use Rattle.pl_opened_laws.proofs.Fitting.{facts_fit}
use Rattle.pl_opened_laws.proofs.Opening.{moment_fits, rows_stay}
use Rattle.pl_opened_laws.proofs.laws.opened_laws.Goals as goal

pub returns-clause-fit : goal.returns-clause-fit
returns-clause-fit c = λ admin rows all facts order seen none are. facts_fit (record {
  order = c.seeing_laws.ensures.order rows all order seen;
  seen = seen;
  none = none;
  are = are;
  run = λ sources compiled is. c.compilations_can_run.ensures (record {
    files = files_of sources;
    version = 0;
    root = sources.root;
    arguments = sources.arguments;
  }) compiled is.is;
})

pub returns-clause-moment : goal.returns-clause-moment
returns-clause-moment c = moment_fits

pub returns-clause-rows : goal.returns-clause-rows
returns-clause-rows c = λ admin rows all moment run version change facts order seen is.
    rows_stay admin rows all moment run version change facts (record {
      order = c.seeing_laws.ensures.order rows all order seen;
      seen = seen;
      none = is.whole;
      are = is.are;
      run = λ sources compiled made. c.compilations_can_run.ensures (record {
        files = files_of sources;
        version = 0;
        root = sources.root;
        arguments = sources.arguments;
      }) compiled made.is;
    }) is
