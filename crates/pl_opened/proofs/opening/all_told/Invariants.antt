use Rattle.std.proofs.Common.{◌≡◌, flat_map}
use Rattle.pl_opened.specs.Told.{dated_of, setting_of}
use Rattle.pl_opened.proofs.opening.all_told.Given as goal

abbrev pub invariant-loop-one : goal.invariant-loop-one
invariant-loop-one l = record {
  settings : l.settings.items ≡ flat_map setting_of l.yielded;
  dated : l.dated.items ≡ flat_map dated_of l.yielded;
}
