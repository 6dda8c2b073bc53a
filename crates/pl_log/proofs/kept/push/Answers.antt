use Rattle.std.proofs.Common.{arith, rules}
use Rattle.std.proofs.lemmas.Grind.{common_steps}
use Rattle.pl_log.proofs.Keeping.{kept_of, kept_push, kept_same}
use Rattle.pl_log.proofs.kept.push.Goals as goal

pub returns-clause-kept : goal.returns-clause-kept
returns-clause-kept g c =
    let named = g.T.Keyed.named in
    let second = g.T.Keyed.second in
    let old = c.reserve.new.self.items in
    kept_of named second c.replace-before.new.rows c.replace_second-second_before.new.rows _ _
    c.push_reserved.ensures.items
    (kept_push named second c.make_rows.new.rows c.replace-before.new.rows
    c.make_rows.new.second_rows c.replace_second-second_before.new.rows old
    (record {
      item = c.args.item;
      before = c.replace-before.result;
      second_before = c.replace_second-second_before.result;
    })
    c.in-Ok.number
    (kept_same named second c.args.rows.now c.make_rows.new.rows c.args.second_rows.now
    c.make_rows.new.second_rows old
    (kept_of named second c.args.rows.now c.args.second_rows.now _ _ c.reserve.ensures.items
    c.requires)
    c.make_rows.ensures.same c.make_rows.ensures.second_same)
    (first_of (
      omega (arith, c.in-Ok.ensures, c.len.ensures),
      search rules,
      grind (arith, common_steps, c.in-Ok.ensures, c.len.ensures),
    ))
    (first_of (search rules, omega (arith, c.in-Ok.ensures)))
    c.replace-before.ensures.before c.replace_second-second_before.ensures.before
    c.replace-before.ensures.after c.replace_second-second_before.ensures.after)
