-- Counts up to the limit.
use Rattle.std.proofs.Common.{◌≡◌, ℕ, ◌+◌, ◌-◌, Bool, true, false, Some, None, Option, refl, arith}
use Rattle.std.specs.Prelude.{nat_le, Result, Err, cond, if◌then◌else◌}
use Rattle.std.proofs.lemmas.Bool.Decides.{nat_tests}
use Rattle.pl_base.specs.declared.place.Place.{Place}
use Rattle.pl_frame.specs.Trees.{at_most}
use Rattle.pl_directives.specs.declared.fault.ExpandProblem.TheVariants.{TooManyNodes}
use Rattle.pl_directives.specs.Complaints.{refused}
use Rattle.pl_directives.specs.Counting.{counted}

-- a number of nodes that is told is that number
told_is : (b : Bool) (n m : ℕ) → (if b then Some n else None) ≡ Some m → n ≡ m
told_is true n m told = cc
told_is false n m told = cc

pub at_most_is : (most n m : ℕ) → Some m ≡ at_most most n → n ≡ m
at_most_is most n m told = told_is (nat_le n most) n m (cc)

-- where none is told the limit is passed
not_told : (b : Bool) (n : ℕ) → (if b then Some n else None) ≡ None → b ≡ false
not_told true n none = cc
not_told false n none = refl

passes : (n count : ℕ) → nat_le n (100000 - count) ≡ false → nat_le (count + n) 100000 ≡ false
passes n count above = grind (arith, nat_tests)

pub counted_past :
    (place : Place) (n count : ℕ) → None ≡ at_most (100000 - count) n →
    counted place n count ≡ refused TooManyNodes place
counted_past place n count none =
    let above : nat_le n (100000 - count) ≡ false = not_told (nat_le n (100000 - count)) n (cc) in
    rw (passes n count above) refl
