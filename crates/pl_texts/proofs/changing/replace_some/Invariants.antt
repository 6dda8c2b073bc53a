use Rattle.std.proofs.Common.{◌≡◌, ◌≤◌, ◌++◌, length}
use denote.Text.{Utf8}
use denote.Shadow.{shadow}
use Rattle.pl_texts.specs.Changing.{replaced, replaced_behind}
use Rattle.pl_texts.proofs.changing.replace_some.Given as goal

abbrev pub invariant-loop-front : goal.invariant-loop-front
invariant-loop-front l = record {
  text : shadow (Utf8 l.rest);
  made : replaced l.text l.sought l.new ≡ l.made ++ replaced_behind 0 l.sought l.new l.rest;
  within : length l.made ≤ 65536;
}

abbrev pub decreases-loop-front : goal.decreases-loop-front
decreases-loop-front l = length l.rest
