use Rattle.pl_never_torn.proofs.Staying.{Laws}
use Rattle.pl_same_past.proofs.OfRows.{are_same}
use Rattle.pl_same_past.proofs.opened.same_opened_laws.Goals as goal
use Rattle.pl_never_torn.specs.Below.pl_sources.specs.Again.{files_of}

pub returns : goal.returns
returns c = λ opening entries is rows change numbers theirs told order again from.
    let laws : Laws = record {
      settling = c.history_laws.ensures.settling;
      coming = c.history_laws.ensures.next;
      exactly = c.granting_laws.ensures.exactly;
      one = c.granting_laws.ensures.one;
    } in
    are_same laws c.sources_compile_again.ensures.again c.sources_compile_again.ensures.one
    c.leg_laws.ensures.alike opening entries is again rows from.all (record {
      order = c.seeing_laws.ensures.order rows from.all order from.seen;
      seen = from.seen;
      none = from.opened.whole;
      are = from.opened.are;
      run = λ sources compiled made. c.compilations_can_run.ensures (record {
        files = files_of sources;
        version = 0;
        root = sources.root;
        arguments = sources.arguments;
      }) compiled made.is;
    }) from.opened from.admin_is (c.opening_laws.ensures.sound opening.admin rows again order from)
    (c.opening_laws.ensures.orderly opening.admin rows again order from) c.same_laws.ensures
    change numbers theirs told
    (c.opening_laws.ensures.kept opening.admin rows again order from)
