-- The table of functions: their names, counts of arguments and modes.
use Rattle.std.specs.Prelude.{ℕ, Bool, true, false, List, [], ◌∷◌, find, codes, Option, Some, None}
use Rattle.std.specs.Prelude.{◌&&◌, nat_eq, nat_lt, nat_le}
use Rattle.std.specs.Cmp.Lexicographic.{pointwise}
use Rattle.pl_expr.specs.declared.expr.Function.{Function}
use Rattle.pl_expr.specs.declared.expr.Function.TheVariants.{Not, Length, Lower, Upper, Trim, Xor}
use Rattle.pl_expr.specs.declared.expr.Function.TheVariants.{Eq, Ne, Lt, Le, Gt, Ge, Contains}
use Rattle.pl_expr.specs.declared.expr.Function.TheVariants.{StartsWith, EndsWith, ContainsValue}
use Rattle.pl_expr.specs.declared.expr.Function.TheVariants.{Join, Split, Replace, Iif, And, Or}
use Rattle.pl_expr.specs.declared.expr.Function.TheVariants.{Coalesce, In, NotIn, Format, Always}
use Rattle.pl_expr.specs.declared.expr.Function.TheVariants.{Canceled, Failed, Succeeded}
use Rattle.pl_expr.specs.declared.expr.Function.TheVariants.{SucceededOrFailed}
use Rattle.pl_expr.specs.declared.expr.Mode.{Mode}
use Rattle.pl_expr.specs.declared.expr.Mode.TheVariants.{Condition}
use Rattle.pl_base.specs.Folding.{folded}

abbrev pub name_of : Function → List ℕ
name_of Not = codes "not"
name_of Length = codes "length"
name_of Lower = codes "lower"
name_of Upper = codes "upper"
name_of Trim = codes "trim"
name_of Xor = codes "xor"
name_of Eq = codes "eq"
name_of Ne = codes "ne"
name_of Lt = codes "lt"
name_of Le = codes "le"
name_of Gt = codes "gt"
name_of Ge = codes "ge"
name_of Contains = codes "contains"
name_of StartsWith = codes "startsWith"
name_of EndsWith = codes "endsWith"
name_of ContainsValue = codes "containsValue"
name_of Join = codes "join"
name_of Split = codes "split"
name_of Replace = codes "replace"
name_of Iif = codes "iif"
name_of And = codes "and"
name_of Or = codes "or"
name_of Coalesce = codes "coalesce"
name_of In = codes "in"
name_of NotIn = codes "notIn"
name_of Format = codes "format"
name_of Always = codes "always"
name_of Canceled = codes "canceled"
name_of Failed = codes "failed"
name_of Succeeded = codes "succeeded"
name_of SucceededOrFailed = codes "succeededOrFailed"

-- the least count of arguments
abbrev pub least_of : Function → ℕ
least_of Not = 1
least_of Length = 1
least_of Lower = 1
least_of Upper = 1
least_of Trim = 1
least_of Replace = 3
least_of Iif = 3
least_of In = 1
least_of NotIn = 1
least_of Format = 1
least_of Always = 0
least_of Canceled = 0
least_of Failed = 0
least_of Succeeded = 0
least_of SucceededOrFailed = 0
least_of function = 2

-- the greatest, where there is one
abbrev pub most_of : Function → Option ℕ
most_of And = None
most_of Or = None
most_of Coalesce = None
most_of In = None
most_of NotIn = None
most_of Format = None
most_of Failed = None
most_of Succeeded = None
most_of SucceededOrFailed = None
most_of function = Some (least_of function)

-- the status functions stand in conditions alone
abbrev pub stands_in : Mode → Function → Bool
stands_in Condition function = true
stands_in mode Always = false
stands_in mode Canceled = false
stands_in mode Failed = false
stands_in mode Succeeded = false
stands_in mode SucceededOrFailed = false
stands_in mode function = true

abbrev pub all_functions : List Function
all_functions = Not ∷ Length ∷ Lower ∷ Upper ∷ Trim ∷ Xor ∷ Eq ∷ Ne ∷ Lt ∷ Le ∷ Gt ∷ Ge ∷ Contains ∷
    StartsWith ∷ EndsWith ∷ ContainsValue ∷ Join ∷ Split ∷ Replace ∷ Iif ∷ And ∷ Or ∷ Coalesce ∷
    In ∷ NotIn ∷ Format ∷ Always ∷ Canceled ∷ Failed ∷ Succeeded ∷ SucceededOrFailed ∷ []

-- the word is the function's name, the case aside, and the function stands in the mode
abbrev pub names : Mode → List ℕ → Function → Bool
names mode word function = pointwise nat_eq (folded (name_of function)) (folded word) &&
    stands_in mode function

-- the function of that name in that mode
unfoldable pub named : Mode → List ℕ → Option Function
named mode word = find (names mode word) all_functions

-- one more argument may follow so many
abbrev pub may_follow : Option ℕ → ℕ → Bool
may_follow None count = true
may_follow (Some most) count = nat_lt count most

abbrev pub at_most : Option ℕ → ℕ → Bool
at_most None count = true
at_most (Some most) count = nat_le count most

-- the function takes so many arguments
abbrev pub takes : Function → ℕ → Bool
takes function count = nat_le (least_of function) count && at_most (most_of function) count
