use Rattle.std.proofs.Common.{◌≡◌, ◌-◌, []}
use denote.Shadow.{shadow}
use denote.Text.{Utf8}
use Rattle.pl_expr.specs.Grammar.{names_at}
use Rattle.pl_expr.proofs.parser.read_names.Given as goal

abbrev pub invariant-loop-turn : goal.invariant-loop-turn
invariant-loop-turn l = record {
  text : shadow (Utf8 l.rest);
  reading : names_at (l.turns - l._turn) l.names l.rest ≡ names_at l.turns [] l.text;
}
