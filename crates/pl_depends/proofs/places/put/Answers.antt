use Rattle.std.proofs.Common.{sym, ◌∙◌}
use Rattle.pl_depends.proofs.Found.{put_new}
use Rattle.pl_depends.proofs.places.put.Goals as goal

pub returns : goal.returns
returns c = put_new c.args.places.now.by_name c.insert.new.self c.args.name.now
    c.from_string-name.result c.args.here c.in_ok-insert.ensures.updates.0
    (c.from_string-name.ensures ∙ c.in_ok-in_upper_case.ensures) (sym c.if-contains_key.ensures)
