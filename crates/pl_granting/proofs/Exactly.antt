-- Where nothing is due, no rule is broken exactly where the agent holds the job or may be given it.
use Rattle.std.proofs.Common.{◌≡◌, ℕ, Bool, true, false, List, [], ◌∷◌, Option, Some}
use Rattle.std.proofs.Common.{None, drop, is_none, is_some, if◌then◌else◌, refl, sym, ap, ◌∙◌}
use Rattle.std.proofs.Common.{subst, inl, inr, ⊎_elim, arith}
use Rattle.std.specs.Prelude.{nat_le}
use Rattle.std.specs.List.{All, Contains}
use Rattle.std.specs.Option.{option_and_then, option_map, option_map_or}
use Rattle.std.proofs.lemmas.Bool.{true≢false}
use Rattle.pl_base.specs.Texts.{is}
use Rattle.pl_base.specs.declared.resource.ResourceKey.{ResourceKey}
use Rattle.pl_facts.specs.declared.fact.Fact.{Fact}
use Rattle.pl_journal.specs.Runs.{job_ending, stage_end, stage_start}
use Rattle.pl_locks.specs.Locks.{ComesFirst, IsBehind, IsHeld, Locks}
use Rattle.pl_locks.specs.declared.contender.Contender.{Contender}
use Rattle.pl_requests.specs.declared.settings.AgentSetting.{AgentSetting}
use Rattle.pl_rules.specs.declared.rule.Rule.TheVariants as rules
use Rattle.pl_due.specs.Checked.{exclusive_uses, permits}
use Rattle.pl_due.specs.Contention.{IsContention}
use Rattle.pl_due.specs.Nodes.{is_running}
use Rattle.pl_due.proofs.Members.{cons_cases, of_member}
use Rattle.pl_due.proofs.OneDue.{one_contention}
use Rattle.pl_due.proofs.Standing.{both, first_of_two}
use Rattle.pl_settling.specs.Laws.{Gap}
use Rattle.pl_views.specs.Ready.{has_ended, job_has_ended}
use Rattle.pl_granting.specs.Broken.{Broken, Telling, Tells, asked_rules}
use Rattle.pl_granting.specs.Grantable.{AreDone, IsFree, IsGrantable}
use Rattle.pl_granting.specs.Locked.{Awaits, FirstHeld, HasIt, IsBehindRule, IsHeldRule, LeastFirst}
use Rattle.pl_granting.specs.Locked.{as_contender, behind_rule, held_rule}
use Rattle.pl_granting.specs.Named.{IsJobOf, JobOf}
use Rattle.pl_granting.specs.Rules.{busy_with, ended_as, held_job, holder, is_same_job}
use Rattle.pl_granting.specs.Rules.{is_started, legs_taken, meets, unpermitted}
use Rattle.pl_granting.proofs.InOrder.{AllNone, all_none, if_started, none_of_all, waiting}
use Rattle.pl_granting.proofs.Look.{all_found, failed, itself, no_more, none_found}
use Rattle.pl_granting.proofs.Look.{nothing_mapped, passed, room, same, unended_job}
use Rattle.pl_granting.proofs.Look.{unended_stage}
use Rattle.pl_granting.proofs.Places.{its_stage}

-- ---- no stage holds, and none comes first

none_held : (holders : List Contender) (keys : List ResourceKey) → FirstHeld holders keys None →
    (key : ResourceKey) → Contains keys key → (stage : Contender) → HasIt holders key stage → ⊥
none_held holders [] none key (k, below, is) stage has = absurd (omega arith)
none_held holders (first ∷ keys) (inl (s, is, h)) key among stage has = absurd (cc)
none_held holders (first ∷ keys) (inr (none, later)) key among stage has =
    ⊎_elim (λ here. none stage (subst (λ k. HasIt holders k stage) (sym here) has))
    (λ behind. none_held holders keys later key behind stage has)
    (cons_cases key first keys among)

no_held_rule : (stage : Option Contender) → None ≡ held_rule stage → stage ≡ None
no_held_rule None e = refl
no_held_rule (Some stage) e = absurd (cc)

no_behind_rule : (stage : Option Contender) → None ≡ behind_rule stage → stage ≡ None
no_behind_rule None e = refl
no_behind_rule (Some stage) e = absurd (cc)

module _ (facts : List Fact) (moment : ℕ) (at : JobOf) where
  abbrev wanting : Contender
  wanting = as_contender facts at

  not_held : (h : IsHeldRule facts moment at None) → IsHeld h.locks.holders wanting → ⊥
  not_held h (k, stage, below, at_k, (j, key, within, at_j, contains)) =
      none_held h.locks.holders (exclusive_uses facts at.staged)
      (subst (FirstHeld h.locks.holders (exclusive_uses facts at.staged))
      (no_held_rule h.stage h.gets) h.held)
      key (j, within, at_j) stage ((k, below, at_k), contains)

  not_behind : (h : IsBehindRule facts moment at None) (locks : Locks) →
      IsContention facts moment locks → IsBehind locks.eligible wanting → ⊥
  not_behind h locks contention (k, other, below, at_k, comes) =
      let moved = one_contention facts moment h.locks locks h.contention contention in
      let none : LeastFirst h.locks.eligible wanting None =
      subst (LeastFirst h.locks.eligible wanting) (no_behind_rule h.stage h.gets) h.first in
      let all = subst (λ (l : Locks). All (λ one. ComesFirst l.eligible one wanting → ⊥) l.eligible)
      moved none in
      of_member (λ one. ComesFirst locks.eligible one wanting → ⊥) locks.eligible other all
      (k, below, at_k) comes

-- ---- where no rule is broken

no_other : (agent : List ℕ) (o : Option (List ℕ)) →
    None ≡ option_and_then
    (λ (other : List ℕ). if is other agent then None else Some (rules.JobTaken other)) o →
    (other : List ℕ) → o ≡ Some other → other ≡ agent
no_other agent o none other told =
    same other agent (passed (is other agent) (rules.JobTaken other) (none ∙ ap (option_and_then
    (λ (one : List ℕ). if is one agent then None else Some (rules.JobTaken one))) told))

some_of : {X : Type 0} (o : Option X) → is_some o ≡ true → o ≡ None → ⊥
some_of o there none = true≢false (sym there ∙ ap is_some none)

module _ (facts : List Fact) (moment : ℕ) (agent : AgentSetting) (at : JobOf)
    (there : IsJobOf facts at) where
  abbrev AreUnbroken : Type 0
  AreUnbroken = AllNone (asked_rules facts moment agent at)

  unended : AreUnbroken → job_ending at.run at.stage at.job facts ≡ None
  unended h = unended_job at.run at.stage at.job facts
      (nothing_mapped _ _ h.0)

  -- a stage that wasn't started is kept waiting by something
  gap : (h : AreUnbroken) → is_started facts at ≡ false → Gap facts moment at.run at.stage
  gap h waits =
      let held = waiting facts at (IsHeldRule facts moment at) None waits h.1.1.1.1.1.1.1.1.0 in
      let behind = waiting facts at (IsBehindRule facts moment at) None waits
      h.1.1.1.1.1.1.1.1.1.0 in
      let (verdicts, are, says) = waiting facts at (Awaits facts moment at) None waits
      h.1.1.1.1.1.1.1.0 in
      let unstarted : stage_start at.run at.stage facts ≡ None = unstarted_by
      (stage_start at.run at.stage facts) waits in
      record {
        told = at.queued;
        one = at.staged;
        there = its_stage facts at there;
        unstarted = unstarted;
        unended = unended_stage at.run at.stage at.job facts (unended h) unstarted;
        ready = none_found (has_ended at.run facts) _ at.staged.depends h.1.1.1.1.1.0;
        permitted = none_found (permits facts at.queued.pipeline) _ at.staged.uses
            (waiting facts at (Tells (unpermitted facts at)) None waits h.1.1.1.1.1.1.0);
        verdicts = verdicts;
        are = are;
        waits = sym says;
        locks = held.locks;
        contention = held.contention;
        unheld = not_held facts moment at held;
        first = not_behind facts moment at behind held.locks held.contention;
      }
    where
      unstarted_by : {X : Type 0} (o : Option X) → is_some o ≡ false → o ≡ None
      unstarted_by None e = refl
      unstarted_by (Some x) e = absurd (true≢false e)

  started : AreUnbroken → (Gap facts moment at.run at.stage → ⊥) → is_started facts at ≡ true
  started h no_gap = go (is_started facts at) refl
    where
      go : (b : Bool) → is_started facts at ≡ b → is_started facts at ≡ true
      go true is = is
      go false is = absurd (no_gap (gap h is))

  runs : AreUnbroken → AreDone facts → is_started facts at ≡ true →
      is_running at.run at.stage facts ≡ true
  runs h done start = both (is_started facts at) (is_none (stage_end at.run at.stage facts)) start
      (go (stage_end at.run at.stage facts) refl)
    where
      go : (o : Option Fact) → stage_end at.run at.stage facts ≡ o →
          is_none (stage_end at.run at.stage facts) ≡ true
      go None is = ap is_none is
      go (Some fact) is = absurd (done at there
          (some_of (stage_start at.run at.stage facts) start)
          (λ none. let e : Some fact ≡ None = sym is ∙ none in absurd (cc)) (unended h))

  free : AreUnbroken → AreDone facts → (Gap facts moment at.run at.stage → ⊥) →
      IsFree facts agent at
  free h done no_gap = record {
    unended = unended h;
    untaken = no_other agent.name (holder facts at) h.1.0;
    idle = nothing_mapped busy_with (held_job facts agent.name) h.1.1.0;
    pool = same agent.pool at.planned.pool (passed (is agent.pool at.planned.pool)
        (rules.PoolMismatch agent.pool at.planned.pool) h.1.1.1.0);
    able = none_found (meets agent) _ at.planned.demands h.1.1.1.1.0;
    ready = none_found (has_ended at.run facts) _ at.staged.depends h.1.1.1.1.1.0;
    runs = runs h done (started h no_gap);
    job_ready = none_found (job_has_ended at.run at.stage facts) _ at.planned.depends
        h.1.1.1.1.1.1.1.1.1.1.0;
    room = room at.planned.max_parallel (legs_taken facts at)
        (failed (nat_le at.planned.max_parallel (legs_taken facts at))
        (rules.ParallelFull at.planned.max_parallel) h.1.1.1.1.1.1.1.1.1.1.1.0);
  }

  pub grantable : AreDone facts → (Gap facts moment at.run at.stage → ⊥) →
      Broken facts moment agent at None → IsGrantable facts agent at
  grantable done no_gap (inl (held, none)) = inl held
  grantable done no_gap (inr (other, first)) =
      inr (free (all_none (asked_rules facts moment agent at) first) done no_gap)

-- ---- where it may be given

no_taker : (agent : List ℕ) (o : Option (List ℕ)) →
    ((other : List ℕ) → o ≡ Some other → other ≡ agent) → None ≡ option_and_then
    (λ (other : List ℕ). if is other agent then None else Some (rules.JobTaken other)) o
no_taker agent None only = refl
no_taker agent (Some other) only =
    sym (ap (λ (b : Bool). if b then None else Some (rules.JobTaken other))
    (itself other agent (only other refl)))

module _ (facts : List Fact) (moment : ℕ) (agent : AgentSetting) (at : JobOf) where
  runs_started : is_running at.run at.stage facts ≡ true → is_started facts at ≡ true
  runs_started is =
      first_of_two (is_started facts at) (is_none (stage_end at.run at.stage facts)) is

  abbrev asked : List Telling
  asked = asked_rules facts moment agent at

  turn_none : IsFree facts agent at → AllNone (drop 10 asked)
  turn_none may =
      let most = at.planned.max_parallel in
      let none = ap (λ (b : Bool). if b then Some (rules.ParallelFull most) else None)
      (no_more most (legs_taken facts at) may.room) in
      let full : AllNone (drop 11 asked) = (sym none, tt) in
      (all_found (job_has_ended at.run at.stage facts) _ at.planned.depends may.job_ready, full)

  start_none : IsFree facts agent at → AllNone (drop 6 asked)
  start_none may =
      let start = runs_started may.runs in
      let behind : AllNone (drop 9 asked) =
      (if_started facts at (IsBehindRule facts moment at) start, turn_none may) in
      let held : AllNone (drop 8 asked) =
      (if_started facts at (IsHeldRule facts moment at) start, behind) in
      let awaits : AllNone (drop 7 asked) =
      (if_started facts at (Awaits facts moment at) start, held) in
      (if_started facts at (Tells (unpermitted facts at)) start, awaits)

  agent_none : IsFree facts agent at → AllNone (drop 2 asked)
  agent_none may =
      let stages : AllNone (drop 5 asked) =
      (all_found (has_ended at.run facts) _ at.staged.depends may.ready, start_none may) in
      let able : AllNone (drop 4 asked) =
      (all_found (meets agent) _ at.planned.demands may.able, stages) in
      let mismatch = rules.PoolMismatch agent.pool at.planned.pool in
      let none = ap (λ (b : Bool). if b then None else Some mismatch)
      (itself agent.pool at.planned.pool may.pool) in
      let pool : AllNone (drop 3 asked) = (sym none, able) in
      (sym (ap (option_map busy_with) may.idle), pool)

  no_rule : IsFree facts agent at → AllNone asked
  no_rule may =
      let taken : AllNone (drop 1 asked) =
      (no_taker agent.name (holder facts at) may.untaken, agent_none may) in
      (sym (ap ended_as may.unended), taken)

  pub not_broken : IsGrantable facts agent at → Broken facts moment agent at None
  not_broken (inl held) = inl (held, refl)
  not_broken (inr may) =
      inr (
        ap (λ (o : Option JobOf). option_map_or (is_same_job at) o false) may.idle,
        none_of_all (asked_rules facts moment agent at) (no_rule may),
      )
