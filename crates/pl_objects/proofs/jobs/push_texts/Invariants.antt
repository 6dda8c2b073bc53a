use Rattle.std.proofs.Common.{◌≡◌, ◌++◌, map, take}
use Rattle.pl_json.specs.declared.json.Json.TheVariants as json
use Rattle.pl_objects.proofs.jobs.push_texts.Given as goal

abbrev pub invariant-loop-text : goal.invariant-loop-text
invariant-loop-text l =
    l.items ≡ l.initial.items ++ map json.Text (take l.text-index l.text-items)
