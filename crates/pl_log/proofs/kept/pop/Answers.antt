use Rattle.pl_log.proofs.Keeping.{kept_as, kept_pop, last_has_row, last_has_second_row}
use Rattle.pl_log.proofs.kept.pop.Goals as goal

pub replace-requires : goal.replace-requires
replace-requires g c = last_has_row g.T.Keyed.named g.T.Keyed.second c.args.rows.now
    c.args.second_rows.now c.pop.new.self.items c.in-Some.last
    (kept_as g.T.Keyed.named g.T.Keyed.second c.args.rows.now c.args.second_rows.now _ _
    c.in-Some.ensures.items c.requires)

pub replace_second-requires : goal.replace_second-requires
replace_second-requires g c = last_has_second_row g.T.Keyed.named g.T.Keyed.second c.args.rows.now
    c.args.second_rows.now c.pop.new.self.items c.in-Some.last
    (kept_as g.T.Keyed.named g.T.Keyed.second c.args.rows.now c.args.second_rows.now _ _
    c.in-Some.ensures.items c.requires)

pub returns-in-Some-clause-kept : goal.returns-in-Some-clause-kept
returns-in-Some-clause-kept g c = kept_pop g.T.Keyed.named g.T.Keyed.second c.args.rows.now
    c.replace.new.rows c.args.second_rows.now c.replace_second.new.rows c.pop.new.self.items
    c.in-Some.last
    (kept_as g.T.Keyed.named g.T.Keyed.second c.args.rows.now c.args.second_rows.now _ _
    c.in-Some.ensures.items c.requires)
    c.replace.ensures.after c.replace_second.ensures.after
