-- Which of several stands first.
use Rattle.std.specs.Prelude.{Bool, ◌&&◌, ◌||◌, ◌==◌, nat_lt, Option, Some, None, if◌then◌else◌}
use Rattle.pl_base.specs.declared.place.Place.{Place}

-- a place is before another one of its file
abbrev pub is_before : Place → Place → Bool
is_before left right = nat_lt left.line right.line ||
    ((left.line == right.line) && nat_lt left.col right.col)

-- of two, where they are, the one at the earlier place; at one place the first
abbrev pub earlier : {X : Type 0} → (X → Place) → Option X → Option X → Option X
earlier place None next = next
earlier place (Some first) None = Some first
earlier place (Some first) (Some next) =
    if is_before (place next) (place first) then Some next else Some first
