-- Days of the week by number.
use Rattle.std.specs.Prelude.{ℕ}
use Rattle.pl_rules.specs.declared.day.Day.{Day}
use Rattle.pl_rules.specs.declared.day.Day.TheVariants.{Mon, Tue, Wed, Thu, Fri, Sat, Sun}

-- 0 Mon, 1 Tue, 2 Wed, 3 Thu, 4 Fri, 5 Sat, 6 Sun
abbrev pub day_number : Day → ℕ
day_number Mon = 0
day_number Tue = 1
day_number Wed = 2
day_number Thu = 3
day_number Fri = 4
day_number Sat = 5
day_number Sun = 6
