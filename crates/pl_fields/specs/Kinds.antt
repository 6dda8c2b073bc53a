-- Kinds of values that are one byte: the place, from 0, in the list of the kind's values.
use Rattle.std.specs.Prelude.{ℕ, List, [], ◌∷◌}
use Rattle.pl_base.specs.declared.outcome.Outcome.{Outcome}
use Rattle.pl_base.specs.declared.outcome.Outcome.TheVariants.{Succeeded, SucceededWithIssues}
use Rattle.pl_base.specs.declared.outcome.Outcome.TheVariants.{Failed, Canceled, Skipped}
use Rattle.pl_base.specs.declared.resource.Kind.{Kind}
use Rattle.pl_base.specs.declared.resource.Kind.TheVariants.{Environment, Connection, Group, Pool}
use Rattle.pl_base.specs.declared.resource.Kind.TheVariants.{Repository}
use Rattle.pl_rules.specs.declared.role.Role.{Role}
use Rattle.pl_rules.specs.declared.role.Role.TheVariants.{Admin, Author, Approver, Agent, Reader}
use Rattle.pl_rules.specs.declared.day.Day.{Day}
use Rattle.pl_rules.specs.declared.day.Day.TheVariants.{Mon, Tue, Wed, Thu, Fri, Sat, Sun}
use Rattle.pl_checks.specs.declared.check.Arguments.{Arguments}
use Rattle.pl_checks.specs.declared.check.Arguments.TheVariants.{Any, Values}

-- 0 Succeeded, 1 SucceededWithIssues, 2 Failed, 3 Canceled, 4 Skipped
abbrev pub outcomes : List Outcome
outcomes = Succeeded ∷ SucceededWithIssues ∷ Failed ∷ Canceled ∷ Skipped ∷ []

abbrev pub outcome_number : Outcome → ℕ
outcome_number Succeeded = 0
outcome_number SucceededWithIssues = 1
outcome_number Failed = 2
outcome_number Canceled = 3
outcome_number Skipped = 4

-- 0 Environment, 1 Connection, 2 Group, 3 Pool, 4 Repository
abbrev pub kinds : List Kind
kinds = Environment ∷ Connection ∷ Group ∷ Pool ∷ Repository ∷ []

abbrev pub kind_number : Kind → ℕ
kind_number Environment = 0
kind_number Connection = 1
kind_number Group = 2
kind_number Pool = 3
kind_number Repository = 4

-- 0 Admin, 1 Author, 2 Approver, 3 Agent, 4 Reader
abbrev pub roles : List Role
roles = Admin ∷ Author ∷ Approver ∷ Agent ∷ Reader ∷ []

abbrev pub role_number : Role → ℕ
role_number Admin = 0
role_number Author = 1
role_number Approver = 2
role_number Agent = 3
role_number Reader = 4

-- 0 Mon, 1 Tue, 2 Wed, 3 Thu, 4 Fri, 5 Sat, 6 Sun
abbrev pub days : List Day
days = Mon ∷ Tue ∷ Wed ∷ Thu ∷ Fri ∷ Sat ∷ Sun ∷ []

-- 0 Any, 1 Values
abbrev pub argument_rules : List Arguments
argument_rules = Any ∷ Values ∷ []

abbrev pub arguments_number : Arguments → ℕ
arguments_number Any = 0
arguments_number Values = 1
