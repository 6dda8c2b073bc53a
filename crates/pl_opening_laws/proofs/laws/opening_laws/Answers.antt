use Rattle.std.proofs.Common.{subst, sym}
use Rattle.pl_base.specs.declared.digest.Digest.{Digest}
use Rattle.pl_opening.specs.Below.pl_seeing.specs.Below.pl_sources.specs.Again.{files_of}
use Rattle.pl_opening.specs.Below.pl_opened_laws.specs.Laws.{begun, AreRowsOf}
use Rattle.pl_opening_laws.proofs.Kept.{empty_by, orderly, rows_kept, sound}
use Rattle.pl_opening_laws.proofs.laws.opening_laws.Goals as goal

pub returns-clause-kept : goal.returns-clause-kept
returns-clause-kept c = λ admin rows opening order is. rows_kept rows opening
    (subst (λ (who : Digest). AreRowsOf opening.change
    (begun who opening.moment opening.run opening.version opening.facts) rows)
    (sym is.admin_is) (c.opened_laws.ensures.rows admin rows is.all opening.moment opening.run
    opening.version opening.change opening.facts order is.seen is.opened))

pub returns-clause-orderly : goal.returns-clause-orderly
returns-clause-orderly c = λ admin rows opening order is. orderly admin rows is.all opening
    (record {
      order = c.seeing_laws.ensures.order rows is.all order is.seen;
      seen = is.seen;
      none = is.opened.whole;
      are = is.opened.are;
      run = λ sources compiled made. c.compilations_can_run.ensures (record {
        files = files_of sources;
        version = 0;
        root = sources.root;
        arguments = sources.arguments;
      }) compiled made.is;
    }) is.opened

pub returns-clause-sound : goal.returns-clause-sound
returns-clause-sound c = λ admin rows opening order is. sound admin rows is.all opening
    (record {
      order = c.seeing_laws.ensures.order rows is.all order is.seen;
      seen = is.seen;
      none = is.opened.whole;
      are = is.opened.are;
      run = λ sources compiled made. c.compilations_can_run.ensures (record {
        files = files_of sources;
        version = 0;
        root = sources.root;
        arguments = sources.arguments;
      }) compiled made.is;
    }) is.opened

pub returns-clause-empty : goal.returns-clause-empty
returns-clause-empty c = λ admin opening is.
    empty_by admin opening is.all is.seen is.opened is.admin_is
