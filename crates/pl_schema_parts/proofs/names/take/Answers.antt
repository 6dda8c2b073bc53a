use Rattle.std.proofs.Common.{◌∙◌}
use Rattle.pl_schema_parts.proofs.Taken.{one_more}
use Rattle.pl_schema_parts.proofs.names.take.Goals as goal

pub returns : goal.returns
returns c = one_more c.args.names.now.folded c.insert.new.self c.args.name.now
    c.from_string-name.result c.in_ok-insert.ensures.updates.0
    (c.from_string-name.ensures ∙ c.in_ok-in_upper_case.ensures)
