-- A row is read in one way.
use Rattle.std.proofs.Common.{◌≡◌, List, [], ◌∷◌, Option, Some, None, refl, sym, ap, ◌∙◌}
use Rattle.std.specs.List.{AllZip}
use Rattle.pl_base.specs.declared.row.Row.{Row}
use Rattle.pl_keeper.specs.declared.records.Record.{Record}
use Rattle.pl_keeper.proofs.OneRow.{one_record}
use Rattle.pl_read.specs.Reading.{IsRead}

one_way : (row : Row) (one other : Option Record) → IsRead row one → IsRead row other →
    one ≡ other
one_way row None None left right = refl
one_way row None (Some kept) left right = absurd (left kept right)
one_way row (Some kept) None left right = absurd (right kept left)
one_way row (Some kept) (Some other) left right =
    ap Some (one_record kept other left.fits right.fits (sym left.same ∙ right.same))

pub all_one_way : (rows : List Row) (one other : List (Option Record)) →
    AllZip IsRead rows one → AllZip IsRead rows other → one ≡ other
all_one_way [] [] [] left right = refl
all_one_way [] [] (x ∷ other) left right = absurd right
all_one_way [] (x ∷ one) other left right = absurd left
all_one_way (row ∷ rows) [] other left right = absurd left
all_one_way (row ∷ rows) (x ∷ one) [] left right = absurd right
all_one_way (row ∷ rows) (x ∷ one) (y ∷ other) left right =
    λ i. one_way row x y left.0 right.0 i ∷ all_one_way rows one other left.1 right.1 i
