-- A job that may be given is of an open run.
use Rattle.std.proofs.Common.{◌≡◌, ◌+◌, eqb, ℕ, true, false, List, Option, None, length, is_none}
use Rattle.std.proofs.Common.{ap, ◌∙◌, subst, arith}
use Rattle.std.specs.List.{Contains, list_any, range_with_len}
use Rattle.std.specs.Option.{option_map_or}
use Rattle.std.proofs.lemmas.List.Folds.{Any-from_list_any, list_any-from_Any}
use Rattle.std.proofs.lemmas.List.FromFn.{get_or-range_with_len, length-range_with_len}
use Rattle.std.proofs.lemmas.Option.{slice_get_within}
use Rattle.pl_facts.specs.declared.fact.Fact.{Fact}
use Rattle.pl_facts.specs.declared.fact.QueuedRun.{QueuedRun}
use Rattle.pl_journal.specs.Runs.{stage_end}
use Rattle.pl_due.specs.Below.pl_open_runs.specs.Open.{has_open_stage, is_open, open_runs}
use Rattle.pl_due.specs.Below.pl_open_runs.proofs.OpenRuns.{open_runs_hold}
use Rattle.pl_requests.specs.declared.settings.AgentSetting.{AgentSetting}
use Rattle.pl_due.proofs.Standing.{running_open}
use Rattle.pl_granting.specs.Named.{IsJobOf, JobOf}
use Rattle.pl_granting.specs.Tests.{IsOpenTo}

eqb_same : (a b : ℕ) → eqb a b ≡ true → a ≡ b
eqb_same a b h = grind arith

run_in : (runs : List ℕ) (run : ℕ) → list_any (λ one. eqb one run) runs ≡ true →
    Contains runs run
run_in runs run h =
    let (k, one, below, is, same) = Any-from_list_any (λ one. eqb one run) runs h in
    subst (Contains runs) (eqb_same one run same) (k, below, is)

open_run : (facts : List Fact) (at : JobOf) → IsJobOf facts at →
    stage_end at.run at.stage facts ≡ None → is_open at.run facts ≡ true
open_run facts at there unended =
    let count = length at.queued.compiled.plan.stages in
    let within = slice_get_within at.queued.compiled.plan.stages at.stage at.staged there.staged in
    let len : length (range_with_len 0 count) ≡ count = length-range_with_len 0 count in
    let same : 0 + at.stage ≡ at.stage = omega arith in
    let place = get_or-range_with_len 0 count at.stage at.stage within ∙ same in
    ap (λ (o : Option QueuedRun). option_map_or
    (λ (q : QueuedRun). has_open_stage at.run (length q.compiled.plan.stages) facts) o false)
    there.queued
    ∙ list_any-from_Any (λ s. is_none (stage_end at.run s facts)) (range_with_len 0 count)
    (at.stage, at.stage, omega (arith, len, within), place, ap is_none unended)

pub is_among : (facts : List Fact) (agent : AgentSetting) (at : JobOf) →
    IsOpenTo facts agent at → Contains (open_runs facts) at.run
is_among facts agent at (there, may) = run_in (open_runs facts) at.run
    (open_runs_hold facts at.run
    ∙ open_run facts at there (running_open at.run at.stage facts may.runs))
