use Rattle.std.proofs.Common.{◌≡◌, ◌++◌, take}
use Rattle.pl_compile.specs.Compiling.{texts_of}
use Rattle.pl_compile.proofs.compiling.push_texts.Given as goal

abbrev pub invariant-loop-key : goal.invariant-loop-key
invariant-loop-key l = l.texts ≡ l.initial.texts ++ texts_of l.files (take l.key-index l.keys)
