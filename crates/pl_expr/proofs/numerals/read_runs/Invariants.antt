use Rattle.std.proofs.Common.{◌≡◌, ◌-◌, ◌^◌, ◌++◌, map, min}
use denote.Shadow.{shadow}
use denote.Text.{Utf8}
use Rattle.pl_expr.specs.Numerals.{more_runs, behind_more, runs_of, behind_runs}
use Rattle.pl_reading.specs.Bytes.{number_of}
use Rattle.pl_expr.proofs.numerals.read_runs.Given as goal

abbrev pub invariant-loop-turn : goal.invariant-loop-turn
invariant-loop-turn l = record {
  values : l.numbers ++ map (λ digits. min (number_of digits) (2 ^ 64 - 1))
      (more_runs (3 - l._turn) l.behind) ≡ map (λ digits. min (number_of digits) (2 ^ 64 - 1))
      (runs_of l.text);
  rest : behind_more (3 - l._turn) l.behind ≡ behind_runs l.text;
  text : shadow (Utf8 l.behind);
}
