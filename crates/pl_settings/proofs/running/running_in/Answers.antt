use Rattle.std.proofs.Common.{flat_map, ap, ◌∙◌}
use Rattle.std.proofs.lemmas.List.{take_all}
use Rattle.pl_settings.specs.Running.{running_of}
use Rattle.pl_settings.proofs.running.running_in.Goals as goal

pub returns : goal.returns
returns c =
    c.loop-run.invariant
    ∙ ap (flat_map (running_of c.args.journal.now.facts c.args.key.now))
    (take_all c.loop-run.run-index c.args.runs.now c.loop-run-test.false)
