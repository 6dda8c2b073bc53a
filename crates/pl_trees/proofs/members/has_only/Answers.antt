use Rattle.std.proofs.Common.{map, sym, ap, ◌∙◌}
use Rattle.pl_trees.specs.Trees.{seen}
use Rattle.pl_trees.specs.Views.{members_view}
use Rattle.pl_trees.proofs.Trees.{among_seen, judged, only_of}
use Rattle.pl_trees.proofs.members.has_only.Goals as goal

pub returns-in-Some : goal.returns-in-Some
returns-in-Some c =
    let names = map (λ name. name.now) c.args.names.now in
    c.are_among.ensures ∙ sym (among_seen names (members_view c.in-Some.members.now))
    ∙ ap (judged names) c.in-Some.ensures ∙ sym (only_of names (seen c.args.object.now))
