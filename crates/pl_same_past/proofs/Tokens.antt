-- Whose a token is, where no two principals have one.
use Rattle.std.proofs.Common.{◌≡◌, ◌&&◌, ℕ, Bool, true, false, List, Option, Some, None, refl, sym, ap}
use Rattle.std.proofs.Common.{subst, ◌∙◌}
use Rattle.std.specs.Prelude.{unwrap_or}
use Rattle.pl_base.specs.declared.digest.Digest.{Digest}
use Rattle.pl_facts.specs.declared.fact.Event.{Event}
use Rattle.pl_facts.specs.declared.fact.Event.TheVariants as event
use Rattle.pl_facts.specs.declared.fact.Fact.{Fact}
use Rattle.pl_journal.specs.About.{is_about, key_of}
use Rattle.pl_journal.specs.Settings.{by, principal_set, principal_told, token_set}
use Rattle.pl_log.proofs.Naming.{key_itself}
use Rattle.pl_log.specs.Keys.{same_key}
use Rattle.pl_log.specs.Keys as key
use Rattle.pl_log.specs.Latest.{latest}
use Rattle.pl_requests.specs.declared.settings.PrincipalSetting.{PrincipalSetting}
use Rattle.pl_never_torn.specs.Owners.{AreApart}
use Rattle.pl_never_torn.proofs.Owners.{has, owned, owner, passing, set_by}
use Rattle.pl_same_step.specs.Below.pl_same_lookups.specs.Alike.{LookAlike}
use Rattle.pl_same_step.specs.Below.pl_same_lookups.proofs.Finding.{never, one_found, passes, same_some}

-- who is found by a token is there, and has it
module _ (facts : List Fact) (token : List ℕ) where
  record IsHis (who : PrincipalSetting) : Type 0 where
    set : principal_set who.name facts ≡ Some who
    token_is : who.digest.bytes ≡ token

  his : (fact : Fact) → latest (has facts token) facts ≡ Some fact → (who : PrincipalSetting) →
      principal_told fact.event ≡ Some who → IsHis who
  his fact e who tells =
      let is = owner facts token fact.event (passes (has facts token) facts fact e) in
      let same : is.0 ≡ who = same_some is.0 who (ap principal_told (sym is.1) ∙ tells) in
      let set = set_by facts is.0.name is.2.now is.2.set in
      let pass : has facts token set.fact ≡ true = passing facts token is.0.name is.2.now is.2.set
      is.2.same_token set.fact.event set.tells set.named in
      let about : is_about (key.Principal is.0.name) fact ≡ true =
      subst (λ (one : Event). same_key (key_of one) (key.Principal is.0.name) ≡ true) (sym is.1)
      (key_itself (key.Principal is.0.name)) in
      let one : set.fact ≡ fact = one_found (is_about (key.Principal is.0.name))
      (has facts token) facts set.fact fact set.found e pass about in
      let told : is.2.now ≡ is.0 = same_some is.2.now is.0 (ap principal_told
      (sym set.tells ∙ (ap (λ (f : Fact). f.event) one ∙ is.1))) in
      record {
        set = subst (λ (x : PrincipalSetting). principal_set x.name facts ≡ Some x) same
            (is.2.set ∙ ap Some told);
        token_is = subst (λ (x : PrincipalSetting). x.digest.bytes ≡ token) (told ∙ same)
            is.2.same_token;
      }

  found_his : (who : PrincipalSetting) → token_set token facts ≡ Some who → IsHis who
  found_his who e = go (latest (has facts token) facts) refl e where
    go : (o : Option Fact) → latest (has facts token) facts ≡ o →
        by principal_told o ≡ Some who → IsHis who
    go None f g = absurd (never who g)
    go (Some fact) f g = his fact f who g

  -- and who has it is found
  module _ (admin : Digest) (apart : AreApart admin facts) where
    his_found : (name : List ℕ) (told : PrincipalSetting) → principal_set name facts ≡ Some told →
        told.digest.bytes ≡ token → token_set token facts ≡ Some told
    his_found name told e has_it =
        let found = owned facts token name told e has_it in
        let it : IsHis found.0 = found_his found.0 found.1 in
        let same : name ≡ found.0.name = apart.one name found.0.name told found.0 e it.set
        (has_it ∙ sym it.token_is) in
        let one : told ≡ found.0 = same_some told found.0
        (sym e ∙ (ap (λ n. principal_set n facts) same ∙ it.set)) in
        found.1 ∙ ap Some (sym one)

pub token_same : (admin their_admin : Digest) (facts other : List Fact) → LookAlike facts other →
    AreApart admin facts → AreApart their_admin other → (token : List ℕ) →
    token_set token facts ≡ token_set token other
token_same admin their_admin facts other alike apart theirs token =
    go (token_set token facts) refl (token_set token other) refl
  where
    go : (o : Option PrincipalSetting) → token_set token facts ≡ o →
        (p : Option PrincipalSetting) → token_set token other ≡ p →
        token_set token facts ≡ token_set token other
    go None e None f = e ∙ sym f
    go (Some who) e p f =
        let it : IsHis facts token who = found_his facts token who e in
        e ∙ sym (his_found other token their_admin theirs who.name who
        (sym (alike.principals who.name) ∙ it.set) it.token_is)
    go None e (Some who) f =
        let it : IsHis other token who = found_his other token who f in
        absurd (never who (sym e ∙ his_found facts token admin apart who.name who
        (alike.principals who.name ∙ it.set) it.token_is))
