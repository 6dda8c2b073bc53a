-- Open runs: those with a stage that hasn't ended.
use Rattle.std.specs.Prelude.{ℕ, Bool, false, List, [], ◌∷◌, length, filter}
use Rattle.std.specs.BTreeSet.{insert_key}
use Rattle.std.specs.List.{list_any, filter_map, range_with_len}
use Rattle.std.specs.Option.{is_none, option_map_or}
use Rattle.std.specs.Ordering.{nat_cmp}
use Rattle.pl_facts.specs.declared.fact.Fact.{Fact}
use Rattle.pl_facts.specs.declared.fact.QueuedRun.{QueuedRun}
use Rattle.pl_journal.specs.Runs.{number_told, queueing, run_told, stage_end}
use Rattle.pl_journal.specs.Settings.{by}

-- a stage, by its run and its place, is open until it has ended
abbrev pub is_open_stage : ℕ → ℕ → List Fact → Bool
is_open_stage run stage facts = is_none (stage_end run stage facts)

-- one of so many stages of a run, from the first on, is open
abbrev pub has_open_stage : ℕ → ℕ → List Fact → Bool
has_open_stage run stages facts =
    list_any (λ stage. is_open_stage run stage facts) (range_with_len 0 stages)

-- a run is open where it was queued and a stage of its plan is open
abbrev pub is_open : ℕ → List Fact → Bool
is_open run facts = option_map_or
    (λ queued. has_open_stage run (length queued.compiled.plan.stages) facts)
    (by run_told (queueing run facts)) false

-- numbers in order, each once
abbrev pub in_order : List ℕ → List ℕ
in_order [] = []
in_order (number ∷ numbers) = insert_key nat_cmp (in_order numbers) number

-- the numbers of all runs that were queued, in order
abbrev pub queued_runs : List Fact → List ℕ
queued_runs facts = in_order (filter_map (λ fact. number_told fact.event) facts)

-- those of them that are open
abbrev pub open_runs : List Fact → List ℕ
open_runs facts = filter (λ run. is_open run facts) (queued_runs facts)
