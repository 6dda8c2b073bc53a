use Rattle.std.proofs.Common.{◌≡◌, [], drop}
use Rattle.pl_root.specs.Arguments.{arguments_given}
use Rattle.pl_root.proofs.arguments.arguments_given.Given as goal

abbrev pub invariant-loop-argument : goal.invariant-loop-argument
invariant-loop-argument l =
    arguments_given l.declared l.arguments []
    ≡ arguments_given l.declared (drop l.argument-index l.argument-items) l.given
