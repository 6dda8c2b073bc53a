use Rattle.std.proofs.Common.{◌≡◌, ◌==◌, [], ap, sym, ◌∙◌}
use Rattle.std.specs.Prelude.{chars}
use Rattle.std.specs.List.{slice_split}
use Rattle.std.specs.Option.{option_map_or}
use Rattle.pl_line.specs.Characters.{all_of}
use Rattle.pl_line.specs.Rows.{rows_from}
use Rattle.pl_line.proofs.Laws.Lines.{at_cut, at_last}
use Rattle.pl_line.proofs.rows.Rows.next.Goals as goal

pub returns-in-Broken : goal.returns-in-Broken
returns-in-Broken c =
    let rows : rows_from c.self.inside.number
    (slice_split (λ x. x == 10) (chars c.in_ok-rest.rest.now)) ≡ c.args.self.now =
    ap (λ rest. option_map_or (λ r. rows_from c.self.inside.number
    (slice_split (λ x. x == 10) (chars r.now))) rest []) (sym c.in_ok-rest.was) ∙ c.self.view_is
    in
    let first = c.in-Broken.ensures in
    at_cut _ _ (chars c.in_ok-rest.rest.now) first.0 (chars c.in-Broken.behind.now)
    (all_of c.in-Broken.front) c.in-Broken.whole _ rows first.1 first.2 c.line_at.ensures

pub returns-in-Last : goal.returns-in-Last
returns-in-Last c =
    let rows : rows_from c.self.inside.number
    (slice_split (λ x. x == 10) (chars c.in_ok-rest.rest.now)) ≡ c.args.self.now =
    ap (λ rest. option_map_or (λ r. rows_from c.self.inside.number
    (slice_split (λ x. x == 10) (chars r.now))) rest []) (sym c.in_ok-rest.was) ∙ c.self.view_is
    in
    let first = c.in-Last.ensures in
    at_last _ _ (chars c.in_ok-rest.rest.now) first.0 (all_of c.in-Last.front) c.in-Last.whole _
    rows first.1 first.2 c.line_at-in-Last.ensures
