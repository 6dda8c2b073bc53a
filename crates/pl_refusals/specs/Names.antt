-- What kinds of values are called in JSON.
use Rattle.std.specs.Prelude.{ℕ, Bool, true, false, List, codes}
use Rattle.pl_base.specs.declared.outcome.Outcome.{Outcome}
use Rattle.pl_base.specs.declared.outcome.Outcome.TheVariants.{Succeeded, SucceededWithIssues}
use Rattle.pl_base.specs.declared.outcome.Outcome.TheVariants.{Failed, Canceled, Skipped}
use Rattle.pl_base.specs.declared.resource.Kind.{Kind}
use Rattle.pl_base.specs.declared.resource.Kind.TheVariants.{Environment, Connection, Group, Pool}
use Rattle.pl_base.specs.declared.resource.Kind.TheVariants.{Repository}
use Rattle.pl_rules.specs.declared.day.Day.{Day}
use Rattle.pl_rules.specs.declared.day.Day.TheVariants.{Mon, Tue, Wed, Thu, Fri, Sat, Sun}
use Rattle.pl_rules.specs.declared.role.Role.{Role}
use Rattle.pl_rules.specs.declared.role.Role.TheVariants.{Admin, Author, Approver, Agent, Reader}
use Rattle.pl_rules.specs.declared.state.State.{State}
use Rattle.pl_rules.specs.declared.state.State.TheVariants.{Waiting, Running, Ended}

-- a result (Microsoft Learn, Azure Pipelines, "Expressions", Dependencies)
abbrev pub outcome_name : Outcome → List ℕ
outcome_name Succeeded = codes "Succeeded"
outcome_name SucceededWithIssues = codes "SucceededWithIssues"
outcome_name Failed = codes "Failed"
outcome_name Canceled = codes "Canceled"
outcome_name Skipped = codes "Skipped"

-- a kind of resource
abbrev pub kind_name : Kind → List ℕ
kind_name Environment = codes "environment"
kind_name Connection = codes "connection"
kind_name Group = codes "group"
kind_name Pool = codes "pool"
kind_name Repository = codes "repository"

-- a day of the week
abbrev pub day_name : Day → List ℕ
day_name Mon = codes "Mon"
day_name Tue = codes "Tue"
day_name Wed = codes "Wed"
day_name Thu = codes "Thu"
day_name Fri = codes "Fri"
day_name Sat = codes "Sat"
day_name Sun = codes "Sun"

-- what a principal may do
abbrev pub role_name : Role → List ℕ
role_name Admin = codes "Admin"
role_name Author = codes "Author"
role_name Approver = codes "Approver"
role_name Agent = codes "Agent"
role_name Reader = codes "Reader"

-- how far a stage or a job has come
abbrev pub state_name : State → List ℕ
state_name Waiting = codes "waiting"
state_name Running = codes "running"
state_name Ended = codes "ended"

-- a decision
abbrev pub verdict_name : Bool → List ℕ
verdict_name true = codes "approve"
verdict_name false = codes "reject"
