-- Words, which are compared exactly.
use Rattle.std.specs.Prelude.{ℕ, Bool, true, false, List, codes, nat_eq, Result, Ok, Err}
use Rattle.std.specs.Prelude.{if◌then◌else◌}
use Rattle.std.specs.Cmp.Lexicographic.{pointwise}
use Rattle.serde_json.specs.Data.{Data}
use Rattle.pl_base.specs.declared.outcome.Outcome.{Outcome}
use Rattle.pl_base.specs.declared.outcome.Outcome.TheVariants as outcome
use Rattle.pl_checks.specs.declared.check.Arguments.{Arguments}
use Rattle.pl_checks.specs.declared.check.Arguments.TheVariants.{Any, Values}
use Rattle.pl_reading.specs.Steps.{◌>>=◌}
use Rattle.pl_rules.specs.declared.day.Day.{Day}
use Rattle.pl_rules.specs.declared.day.Day.TheVariants.{Mon, Tue, Wed, Thu, Fri, Sat, Sun}
use Rattle.pl_rules.specs.declared.role.Role.{Role}
use Rattle.pl_rules.specs.declared.role.Role.TheVariants.{Admin, Author, Approver, Agent, Reader}
use Rattle.pl_bodies.specs.declared.fault.BodyFault.{BodyFault}
use Rattle.pl_bodies.specs.declared.fault.BodyFault.TheVariants.{Bad}
use Rattle.pl_bodies.specs.Atoms.{text_of}

abbrev pub is_word : List ℕ → List ℕ → Bool
is_word word text = pointwise nat_eq text word

abbrev pub role_in : List ℕ → Result Role BodyFault
role_in text =
    if is_word (codes "Admin") text then Ok Admin
    else if is_word (codes "Author") text then Ok Author
    else if is_word (codes "Approver") text then Ok Approver
    else if is_word (codes "Agent") text then Ok Agent
    else if is_word (codes "Reader") text then Ok Reader
    else Err Bad

abbrev pub role_of : Data → Result Role BodyFault
role_of value = text_of value >>= role_in

abbrev pub day_in : List ℕ → Result Day BodyFault
day_in text =
    if is_word (codes "Mon") text then Ok Mon
    else if is_word (codes "Tue") text then Ok Tue
    else if is_word (codes "Wed") text then Ok Wed
    else if is_word (codes "Thu") text then Ok Thu
    else if is_word (codes "Fri") text then Ok Fri
    else if is_word (codes "Sat") text then Ok Sat
    else if is_word (codes "Sun") text then Ok Sun
    else Err Bad

abbrev pub day_of : Data → Result Day BodyFault
day_of value = text_of value >>= day_in

abbrev pub arguments_in : List ℕ → Result Arguments BodyFault
arguments_in text =
    if is_word (codes "any") text then Ok Any
    else if is_word (codes "values") text then Ok Values
    else Err Bad

abbrev pub arguments_of : Data → Result Arguments BodyFault
arguments_of value = text_of value >>= arguments_in

-- the result of a job that was run; Skipped is none
abbrev pub outcome_in : List ℕ → Result Outcome BodyFault
outcome_in text =
    if is_word (codes "Succeeded") text then Ok outcome.Succeeded
    else if is_word (codes "SucceededWithIssues") text then Ok outcome.SucceededWithIssues
    else if is_word (codes "Failed") text then Ok outcome.Failed
    else if is_word (codes "Canceled") text then Ok outcome.Canceled
    else Err Bad

abbrev pub outcome_of : Data → Result Outcome BodyFault
outcome_of value = text_of value >>= outcome_in

-- whether a verdict approves
abbrev pub verdict_in : List ℕ → Result Bool BodyFault
verdict_in text =
    if is_word (codes "approve") text then Ok true
    else if is_word (codes "reject") text then Ok false
    else Err Bad
