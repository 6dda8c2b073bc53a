use Rattle.pl_history.specs.History.{log_of}
use Rattle.pl_never_torn.proofs.Late.{none_late}
use Rattle.pl_never_torn.proofs.Rising.{rising}
use Rattle.pl_never_torn.proofs.Staying.{Laws}
use Rattle.pl_never_torn.proofs.Standing.{leaves, made, new_stood}
use Rattle.pl_never_torn.proofs.laws.never_torn_laws.Goals as goal

pub returns-clause-rising : goal.returns-clause-rising
returns-clause-rising c = rising

pub returns-clause-late : goal.returns-clause-late
returns-clause-late c = none_late

pub returns-clause-new : goal.returns-clause-new
returns-clause-new c = new_stood c.history_laws.ensures.first

pub returns-clause-whole : goal.returns-clause-whole
returns-clause-whole c = λ opening entries change numbers all stood legal is compiled counted.
    let log = log_of opening entries in
    let told = c.reread_laws.ensures.told change log all is in
    let laws : Laws = record {
      settling = c.history_laws.ensures.settling;
      coming = c.history_laws.ensures.next;
      exactly = c.granting_laws.ensures.exactly;
      one = c.granting_laws.ensures.one;
    } in
    let again = c.sources_compile_again.ensures.again in
    let one = c.sources_compile_again.ensures.one in
    let made = made opening laws stood entries legal change numbers all told is again one compiled
    counted in
    c.reread_laws.ensures.torn log.admin change log numbers all is counted
    (c.reread_laws.ensures.said log.admin change log all is made
    (leaves opening laws stood entries legal change numbers all told is again one compiled counted
    c.leg_laws.ensures.alike))
