-- What people are told of a compilation, on standard error.
use Rattle.std.specs.Prelude.{ℕ, List, Option, Some, codes}
use Rattle.pl_base.specs.Streams.{with_end}
use Rattle.pl_budgets.specs.declared.budget.Budget.{Budget}
use Rattle.pl_budgets.specs.declared.budget.Budget.TheVariants as budget
use Rattle.pl_offline.specs.declared.ending.Ending.{Ending}
use Rattle.pl_offline.specs.declared.ending.Ending.TheVariants as ending

-- the line of a budget that was passed
abbrev pub line_of : Budget → List ℕ
line_of budget.Bundle = codes "pipectl: no memory for the files of the bundle\n"
line_of budget.Files = codes "pipectl: no memory for the bytes and nodes of all files\n"
line_of budget.Repositories = codes "pipectl: no memory for the repositories of the root file\n"
line_of budget.Parameters = codes "pipectl: no memory for the parameters that a file declares\n"
line_of budget.Open = codes "pipectl: no memory for the nodes in one another, over all calls\n"
line_of budget.Made = codes "pipectl: no memory for the texts and nodes that are made\n"
line_of budget.Work = codes "pipectl: no memory for the work of the expansion\n"
line_of budget.Copied = codes "pipectl: no memory for the copies for stages and legs\n"
line_of budget.Plan = codes "pipectl: no memory for the text of the plan\n"

-- what people were told behind a compilation that ended so: the budget that was passed, where it is
-- known
abbrev pub told_of : Ending → Option (List ℕ) → Option (List ℕ)
told_of (ending.Memory (Some passed)) people = with_end people (line_of passed)
told_of ended people = people
