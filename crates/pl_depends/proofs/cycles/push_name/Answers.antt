use Rattle.std.proofs.Common.{◌++◌, sym, ap, ◌∙◌}
use Rattle.std.proofs.lemmas.List.{append-nil}
use Rattle.std.proofs.lemmas.Option.{slice_get_past}
use Rattle.pl_depends.specs.Cycles.{name_of}
use Rattle.pl_depends.proofs.cycles.push_name.Goals as goal

pub returns-in-None : goal.returns-in-None
returns-in-None c = sym (append-nil c.args.names.now)
    ∙ ap (λ found. c.args.names.now ++ name_of found)
    (sym (slice_get_past c.args.graph.now c.args.node c.in-None.ensures.lookup.3))
