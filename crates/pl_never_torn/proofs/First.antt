-- What an opening has, the journal has behind which nothing has happened.
use Rattle.std.proofs.Common.{◌≡◌, ℕ, List, [], None, refl, sym, subst, arith}
use Rattle.pl_base.specs.declared.digest.Digest.{Digest}
use Rattle.pl_facts.specs.declared.entry.Entry.{Entry}
use Rattle.pl_facts.specs.declared.fact.Fact.{Fact}
use Rattle.pl_history.specs.Access.{IsSound}
use Rattle.pl_history.specs.History.{Opening, log_of}
use Rattle.pl_history.proofs.Keeping.{Sound}
use Rattle.pl_history.proofs.Standing.{first_facts, first_last}
use Rattle.pl_granting.specs.Below.pl_settling.specs.Laws.{HasOneHolder}
use Rattle.pl_journal.specs.Runs.{queueing, stage_start}
use Rattle.pl_never_torn.specs.Owners.{AreApart}

pub admin_is : (opening : Opening) (entries : List Entry) →
    (log_of opening entries).admin ≡ opening.admin
unfolding log_of
admin_is opening entries = refl

module _ (opening : Opening) where
  pub first_sound : IsSound opening → Sound (log_of opening [])
  first_sound sound = record {
    one = subst HasOneHolder (sym (first_facts opening)) sound.one;
    queued =
        subst (λ (fs : List Fact). (run stage : ℕ) → ¬ (stage_start run stage fs ≡ None) →
        ¬ (queueing run fs ≡ None)) (sym (first_facts opening)) sound.queued;
    numbers = λ run there.
        let was : ¬ (queueing run opening.facts ≡ None) =
        subst (λ (fs : List Fact). ¬ (queueing run fs ≡ None)) (first_facts opening) there in
        omega (arith, sound.numbers run was, first_last opening);
  }

  pub first_apart : AreApart opening.admin opening.facts →
      AreApart (log_of opening []).admin (log_of opening []).facts
  first_apart apart =
      subst (λ (admin : Digest). AreApart admin (log_of opening []).facts)
      (sym (admin_is opening []))
      (subst (AreApart opening.admin) (sym (first_facts opening)) apart)
