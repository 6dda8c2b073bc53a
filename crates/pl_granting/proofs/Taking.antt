-- A job may be given where the tests of it pass.
use Rattle.std.proofs.Common.{◌≡◌, ◌<◌, ◌&&◌, ℕ, Bool, true, List, Option, Some, None, is_none}
use Rattle.std.proofs.Common.{refl, sym, ap, ◌∙◌, arith}
use Rattle.std.specs.Prelude.{nat_lt}
use Rattle.std.specs.List.{list_all}
use Rattle.std.specs.Option.{option_map_or}
use Rattle.std.proofs.lemmas.Bool.Decides.{nat_tests}
use Rattle.pl_base.specs.Texts.{is}
use Rattle.pl_facts.specs.declared.fact.Fact.{Fact}
use Rattle.pl_journal.specs.Runs.{job_ending}
use Rattle.pl_requests.specs.declared.settings.AgentSetting.{AgentSetting}
use Rattle.pl_due.specs.Nodes.{is_running}
use Rattle.pl_due.proofs.Standing.{both, first_of_two, is_nothing, second_of_two}
use Rattle.pl_granting.specs.Grantable.{IsFree}
use Rattle.pl_granting.specs.Named.{JobOf}
use Rattle.pl_granting.specs.Rules.{held_job, holder, legs_taken, meets}
use Rattle.pl_granting.specs.Tests.{is_at_work, is_untaken, may_take}
use Rattle.pl_granting.proofs.Look.{itself, same}
use Rattle.pl_views.specs.Ready.{is_ready, job_is_ready}

no_other : (agent : List ℕ) (o : Option (List ℕ)) →
    option_map_or (λ other. is other agent) o true ≡ true → (other : List ℕ) → o ≡ Some other →
    other ≡ agent
no_other agent o passes other told = same other agent
    (sym (ap (λ (k : Option (List ℕ)). option_map_or (λ one. is one agent) k true) told) ∙ passes)

no_taker : (agent : List ℕ) (o : Option (List ℕ)) →
    ((other : List ℕ) → o ≡ Some other → other ≡ agent) →
    option_map_or (λ other. is other agent) o true ≡ true
no_taker agent None only = refl
no_taker agent (Some other) only = itself other agent (only other refl)

less : (taken most : ℕ) → nat_lt taken most ≡ true → taken < most
less taken most h = grind (arith, nat_tests, h)

is_less : (taken most : ℕ) → taken < most → nat_lt taken most ≡ true
is_less taken most h = grind (arith, nat_tests, h)

module _ (facts : List Fact) (agent : AgentSetting) (at : JobOf) where
  abbrev pool : Bool
  pool = is agent.pool at.planned.pool

  abbrev able : Bool
  able = list_all (meets agent) at.planned.demands

  abbrev ends : Bool
  ends = is_none (job_ending at.run at.stage at.job facts)

  abbrev untaken : Bool
  untaken = is_untaken facts agent.name at

  abbrev job_ready : Bool
  job_ready = job_is_ready at.planned at.run at.stage facts

  abbrev in_room : Bool
  in_room = nat_lt (legs_taken facts at) at.planned.max_parallel

  abbrev runs : Bool
  runs = is_running at.run at.stage facts

  abbrev ready : Bool
  ready = is_ready at.staged at.run facts

  pub free_of : held_job facts agent.name ≡ None →
      is_at_work facts at.run at.stage at.staged ≡ true → may_take facts agent at ≡ true →
      IsFree facts agent at
  free_of idle works takes =
      let is_able_so = first_of_two (pool && able) _ takes in
      let behind = second_of_two (pool && able) _ takes in
      let is_left_so = first_of_two (untaken && ends) (job_ready && in_room) behind in
      let is_in_turn_so = second_of_two (untaken && ends) (job_ready && in_room) behind in
      record {
        unended = is_nothing (job_ending at.run at.stage at.job facts)
            (second_of_two untaken ends is_left_so);
        untaken = no_other agent.name (holder facts at) (first_of_two untaken ends is_left_so);
        idle = idle;
        pool = same agent.pool at.planned.pool (first_of_two pool able is_able_so);
        able = second_of_two pool able is_able_so;
        ready = second_of_two runs ready works;
        runs = first_of_two runs ready works;
        job_ready = first_of_two job_ready in_room is_in_turn_so;
        room = less (legs_taken facts at) at.planned.max_parallel
            (second_of_two job_ready in_room is_in_turn_so);
      }

  pub takes_of : IsFree facts agent at → may_take facts agent at ≡ true
  takes_of free =
      both (pool && able) ((untaken && ends) && (job_ready && in_room))
      (both pool able (itself agent.pool at.planned.pool free.pool) free.able)
      (both (untaken && ends) (job_ready && in_room)
      (both untaken ends (no_taker agent.name (holder facts at) free.untaken)
      (ap is_none free.unended))
      (both job_ready in_room free.job_ready
      (is_less (legs_taken facts at) at.planned.max_parallel free.room)))

  pub works_of : IsFree facts agent at → is_at_work facts at.run at.stage at.staged ≡ true
  works_of free = both runs ready free.runs free.ready
