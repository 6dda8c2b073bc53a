use Rattle.std.proofs.Common.{◌≡◌, ◌==◌, [], length, ap, sym, ◌∙◌}
use Rattle.std.specs.Prelude.{chars}
use Rattle.std.specs.List.{slice_split}
use Rattle.std.specs.Option.{option_map_or}
use Rattle.pl_line.specs.Rows.{rows_from}
use Rattle.pl_line.proofs.Laws.Cuts.{slice_split-some}
use Rattle.pl_line.proofs.Laws.Lines.{rows_left}
use Rattle.pl_line.proofs.rows.Rows.is_done.Goals as goal

pub returns-in-Some : goal.returns-in-Some
returns-in-Some c =
    let rows : rows_from c.self.inside.number
    (slice_split (λ x. x == 10) (chars c.in-Some.field-0.now)) ≡ c.args.self.now =
    ap (λ rest. option_map_or (λ r. rows_from c.self.inside.number
    (slice_split (λ x. x == 10) (chars r.now))) rest []) (sym c.in-Some.is) ∙ c.self.view_is
    in
    rows_left c.self.inside.number (slice_split (λ x. x == 10) (chars c.in-Some.field-0.now))
    (slice_split-some (λ x. x == 10) (chars c.in-Some.field-0.now))
    ∙ ap (λ rs. length rs == 0) rows
