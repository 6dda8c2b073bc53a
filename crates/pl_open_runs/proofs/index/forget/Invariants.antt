use Rattle.std.proofs.Common.{◌≡◌, take, vec_capacity, vec_len}
use Rattle.pl_open_runs.proofs.index.forget.Given as goal

abbrev pub invariant-loop-run : goal.invariant-loop-run
invariant-loop-run l = record {
  items : l.known.items ≡ take l.run-index l.runs;
  fits : vec_len l.known ≡ l.run-index;
  room : vec_capacity l.known ≡ vec_capacity l.initial.known;
}
