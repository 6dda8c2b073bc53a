-- Tokens that no two have.
use Rattle.std.specs.Prelude.{◌≡◌, ℕ, List, Some}
use Rattle.pl_base.specs.declared.digest.Digest.{Digest}
use Rattle.pl_facts.specs.declared.fact.Fact.{Fact}
use Rattle.pl_journal.specs.Settings.{principal_set}
use Rattle.pl_requests.specs.declared.settings.PrincipalSetting.{PrincipalSetting}

-- no principal has the token of `admin`, and no two have one token
pub record AreApart (admin : Digest) (facts : List Fact) : Type 0 where
  pub own : (name : List ℕ) (told : PrincipalSetting) → principal_set name facts ≡ Some told →
      ¬ (told.digest.bytes ≡ admin.bytes)
  pub one : (name other : List ℕ) (told also : PrincipalSetting) →
      principal_set name facts ≡ Some told → principal_set other facts ≡ Some also →
      told.digest.bytes ≡ also.digest.bytes → name ≡ other
