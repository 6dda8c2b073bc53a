use Rattle.pl_never_torn.specs.Below.pl_history.specs.History.{log_of}
use Rattle.pl_never_torn.proofs.Staying.{Laws}
use Rattle.pl_same_step.specs.Below.pl_same_lookups.proofs.More.{alike_behind}
use Rattle.pl_same_past.proofs.Again.{kept_again}
use Rattle.pl_same_past.proofs.Pasts.{logs_alike, made_same, new_past, stay_alike}
use Rattle.pl_same_past.proofs.laws.same_past_laws.Goals as goal

pub returns-clause-new : goal.returns-clause-new
returns-clause-new c = λ admin. new_past admin (c.never_torn_laws.ensures.new admin)

pub returns-clause-found : goal.returns-clause-found
returns-clause-found c = λ opening entries other others are.
    let laws : Laws = record {
      settling = c.history_laws.ensures.settling;
      coming = c.history_laws.ensures.next;
      exactly = c.granting_laws.ensures.exactly;
      one = c.granting_laws.ensures.one;
    } in
    logs_alike laws c.sources_compile_again.ensures.again c.sources_compile_again.ensures.one
    opening entries other others are

pub returns-clause-made : goal.returns-clause-made
returns-clause-made c = λ opening entries other others are call made is.
    let laws : Laws = record {
      settling = c.history_laws.ensures.settling;
      coming = c.history_laws.ensures.next;
      exactly = c.granting_laws.ensures.exactly;
      one = c.granting_laws.ensures.one;
    } in
    made_same (log_of opening entries) (log_of other others) (logs_alike laws
    c.sources_compile_again.ensures.again c.sources_compile_again.ensures.one opening entries other
    others are) call made is

pub returns-clause-answers : goal.returns-clause-answers
returns-clause-answers c = λ opening entries other others are held its call late made stepped also
    room rooms is is_also.
    let laws : Laws = record {
      settling = c.history_laws.ensures.settling;
      coming = c.history_laws.ensures.next;
      exactly = c.granting_laws.ensures.exactly;
      one = c.granting_laws.ensures.one;
    } in
    c.same_step_laws.ensures.steps held its (log_of opening entries) (log_of other others) call
    (stay_alike laws c.sources_compile_again.ensures.again c.sources_compile_again.ensures.one
    opening entries other others are call.moment late) made stepped also room rooms is is_also

pub returns-clause-behind : goal.returns-clause-behind
returns-clause-behind c = λ opening entries other others are added here.
    let laws : Laws = record {
      settling = c.history_laws.ensures.settling;
      coming = c.history_laws.ensures.next;
      exactly = c.granting_laws.ensures.exactly;
      one = c.granting_laws.ensures.one;
    } in
    kept_again (log_of opening entries).facts (log_of other others).facts added
    (logs_alike laws c.sources_compile_again.ensures.again c.sources_compile_again.ensures.one
    opening entries other others are).look here
