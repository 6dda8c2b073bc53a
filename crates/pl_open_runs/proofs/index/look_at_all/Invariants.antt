use Rattle.std.proofs.Common.{◌≡◌, ◌≤◌, filter, take, vec_capacity, vec_len}
use Rattle.pl_open_runs.specs.Open.{is_open}
use Rattle.pl_open_runs.proofs.index.look_at_all.Given as goal

abbrev pub invariant-loop-run : goal.invariant-loop-run
invariant-loop-run l = record {
  items : l.runs.items ≡
      filter (λ run. is_open run l.journal.facts) (take l.run-index l.known);
  fits : vec_len l.runs ≤ l.run-index;
  room : vec_capacity l.runs ≡ vec_capacity l.initial.runs;
}
