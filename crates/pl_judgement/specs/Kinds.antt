-- Kinds of checks.
use Rattle.std.specs.Prelude.{Bool, true, false, List, ◌++◌, filter}
use Rattle.pl_checks.specs.declared.check.Check.{Check}
use Rattle.pl_checks.specs.declared.check.Check.TheVariants as checks
use Rattle.pl_judgement.specs.declared.kind.CheckKind.{CheckKind}
use Rattle.pl_judgement.specs.declared.kind.CheckKind.TheVariants as kind

abbrev pub is_of : CheckKind → Check → Bool
is_of kind.RequiredTemplate (checks.RequiredTemplate check) = true
is_of kind.Branch (checks.Branch check) = true
is_of kind.Approval (checks.Approval check) = true
is_of kind.Hours (checks.Hours check) = true
is_of _ _ = false

-- by kind in this order, and those of one kind in theirs
abbrev pub by_kind : List Check → List Check
by_kind all = filter (is_of kind.RequiredTemplate) all ++ filter (is_of kind.Branch) all
    ++ filter (is_of kind.Approval) all ++ filter (is_of kind.Hours) all
