-- Kinds of values by number.
use Rattle.std.proofs.Common.{◌≡◌, ℕ, zero, suc, List, [], ◌∷◌, ◌++◌, Option, Some, None, refl, sym}
use Rattle.std.proofs.Common.{ap, ◌∙◌}
use Rattle.std.specs.Prelude.{slice_get}
use Rattle.std.proofs.lemmas.Option.{same_Some}
use Rattle.pl_fields.specs.Kinds.{arguments_number, kind_number, outcome_number}
use Rattle.pl_fields.specs.Kinds.{role_number, argument_rules, days, kinds, outcomes, roles}
use Rattle.pl_fields.specs.Reading.{IsOneWay}
use Rattle.pl_fields.specs.WaysOfFields.{head_is, tail_is}
use Rattle.pl_base.specs.declared.outcome.Outcome.{Outcome}
use Rattle.pl_base.specs.declared.outcome.Outcome.TheVariants.{Succeeded, SucceededWithIssues}
use Rattle.pl_base.specs.declared.outcome.Outcome.TheVariants.{Failed, Canceled, Skipped}
use Rattle.pl_base.specs.declared.resource.Kind.{Kind}
use Rattle.pl_base.specs.declared.resource.Kind.TheVariants.{Environment, Connection, Group, Pool}
use Rattle.pl_base.specs.declared.resource.Kind.TheVariants.{Repository}
use Rattle.pl_rules.specs.declared.role.Role.{Role}
use Rattle.pl_rules.specs.declared.role.Role.TheVariants.{Admin, Author, Approver, Agent, Reader}
use Rattle.pl_rules.specs.Days.{day_number}
use Rattle.pl_rules.specs.declared.day.Day.{Day}
use Rattle.pl_rules.specs.declared.day.Day.TheVariants.{Mon, Tue, Wed, Thu, Fri, Sat, Sun}
use Rattle.pl_checks.specs.declared.check.Arguments.{Arguments}
use Rattle.pl_checks.specs.declared.check.Arguments.TheVariants.{Any, Values}

module _ {X : Type 0} (number : X → ℕ) (listed : List X)
    (back : (x : X) → slice_get listed (number x) ≡ Some x) where
  -- a byte that is the number of a value tells the value
  pub numbered_one_way : IsOneWay (λ (x : X). number x ∷ []) (λ _. Unit {0})
  numbered_one_way x y r s a b e =
      let same : number x ≡ number y = head_is (number x) (number y) r s e in (
        same_Some x y (sym (back x) ∙ (ap (slice_get listed) same ∙ back y)),
        tail_is (number x) (number y) r s e,
      )

pub outcome_back : (x : Outcome) → slice_get outcomes (outcome_number x) ≡ Some x
outcome_back Succeeded = refl
outcome_back SucceededWithIssues = refl
outcome_back Failed = refl
outcome_back Canceled = refl
outcome_back Skipped = refl

pub outcome_there : (n : ℕ) (x : Outcome) → slice_get outcomes n ≡ Some x → n ≡ outcome_number x
outcome_there zero x e = ap outcome_number (same_Some Succeeded x e)
outcome_there (suc zero) x e = ap outcome_number (same_Some SucceededWithIssues x e)
outcome_there (suc (suc zero)) x e = ap outcome_number (same_Some Failed x e)
outcome_there (suc (suc (suc zero))) x e = ap outcome_number (same_Some Canceled x e)
outcome_there (suc (suc (suc (suc zero)))) x e = ap outcome_number (same_Some Skipped x e)
outcome_there (suc (suc (suc (suc (suc n))))) x e = absurd cc

pub kind_back : (x : Kind) → slice_get kinds (kind_number x) ≡ Some x
kind_back Environment = refl
kind_back Connection = refl
kind_back Group = refl
kind_back Pool = refl
kind_back Repository = refl

pub kind_there : (n : ℕ) (x : Kind) → slice_get kinds n ≡ Some x → n ≡ kind_number x
kind_there zero x e = ap kind_number (same_Some Environment x e)
kind_there (suc zero) x e = ap kind_number (same_Some Connection x e)
kind_there (suc (suc zero)) x e = ap kind_number (same_Some Group x e)
kind_there (suc (suc (suc zero))) x e = ap kind_number (same_Some Pool x e)
kind_there (suc (suc (suc (suc zero)))) x e = ap kind_number (same_Some Repository x e)
kind_there (suc (suc (suc (suc (suc n))))) x e = absurd cc

pub role_back : (x : Role) → slice_get roles (role_number x) ≡ Some x
role_back Admin = refl
role_back Author = refl
role_back Approver = refl
role_back Agent = refl
role_back Reader = refl

pub role_there : (n : ℕ) (x : Role) → slice_get roles n ≡ Some x → n ≡ role_number x
role_there zero x e = ap role_number (same_Some Admin x e)
role_there (suc zero) x e = ap role_number (same_Some Author x e)
role_there (suc (suc zero)) x e = ap role_number (same_Some Approver x e)
role_there (suc (suc (suc zero))) x e = ap role_number (same_Some Agent x e)
role_there (suc (suc (suc (suc zero)))) x e = ap role_number (same_Some Reader x e)
role_there (suc (suc (suc (suc (suc n))))) x e = absurd cc

pub day_back : (x : Day) → slice_get days (day_number x) ≡ Some x
day_back Mon = refl
day_back Tue = refl
day_back Wed = refl
day_back Thu = refl
day_back Fri = refl
day_back Sat = refl
day_back Sun = refl

pub day_there : (n : ℕ) (x : Day) → slice_get days n ≡ Some x → n ≡ day_number x
day_there zero x e = ap day_number (same_Some Mon x e)
day_there (suc zero) x e = ap day_number (same_Some Tue x e)
day_there (suc (suc zero)) x e = ap day_number (same_Some Wed x e)
day_there (suc (suc (suc zero))) x e = ap day_number (same_Some Thu x e)
day_there (suc (suc (suc (suc zero)))) x e = ap day_number (same_Some Fri x e)
day_there (suc (suc (suc (suc (suc zero))))) x e = ap day_number (same_Some Sat x e)
day_there (suc (suc (suc (suc (suc (suc zero)))))) x e = ap day_number (same_Some Sun x e)
day_there (suc (suc (suc (suc (suc (suc (suc n))))))) x e = absurd cc

pub arguments_back : (x : Arguments) → slice_get argument_rules (arguments_number x) ≡ Some x
arguments_back Any = refl
arguments_back Values = refl

pub arguments_there : (n : ℕ) (x : Arguments) → slice_get argument_rules n ≡ Some x → n ≡
    arguments_number x
arguments_there zero x e = ap arguments_number (same_Some Any x e)
arguments_there (suc zero) x e = ap arguments_number (same_Some Values x e)
arguments_there (suc (suc n)) x e = absurd cc
