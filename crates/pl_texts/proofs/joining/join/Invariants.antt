use Rattle.std.proofs.Common.{◌≡◌, ◌≤◌, ◌++◌, length, drop, flat_map}
use Rattle.pl_texts.specs.Pieces.{joined}
use Rattle.pl_texts.proofs.joining.join.Given as goal

abbrev pub invariant-loop-text : goal.invariant-loop-text
invariant-loop-text l = record {
  made : joined l.separator l.texts ≡ l.made ++ flat_map (λ next. l.separator ++ next)
      (drop l.text-index l.others);
  within : length l.made ≤ 65536;
}
