-- A service of no rows is opened for the first time.
use Rattle.std.proofs.Common.{◌≡◌, ◌∙◌, ℕ, List, [], ◌∷◌, ◌++◌, Some, length, refl, sym, ap, subst}
use Rattle.std.proofs.Common.{arith, flat_map}
use Rattle.std.proofs.lemmas.List.Sorted.{length_permutation}
use Rattle.std.specs.Prelude.{IsPermutation}
use Rattle.pl_base.specs.declared.digest.Digest.{Digest}
use Rattle.pl_base.specs.declared.row.Row.{Row}
use Rattle.pl_facts.specs.declared.fact.Fact.{Fact}
use Rattle.pl_alone.specs.Below.pl_history.specs.History.{Opening, opened}
use Rattle.pl_alone.specs.Below.pl_opened.specs.Opened.{AreFactsOf, IsOpened}
use Rattle.pl_alone.specs.Below.pl_opening.specs.Opening.{IsOpenedOf}
use Rattle.pl_alone.specs.Below.pl_seeing.specs.Seeing.{AreSeen}
use Rattle.pl_alone.specs.Below.pl_service.specs.Begun.{IsBegun}
use Rattle.pl_alone.specs.Below.pl_service.specs.Past.{Past}
use Rattle.pl_torn.specs.declared.seen.Seen.{Seen}

none_seen : (all : List Seen) → AreSeen [] all → all ≡ []
none_seen [] seen = refl
none_seen (one ∷ more) seen = absurd seen

no_length : {A : Type 0} (xs : List A) → length xs ≡ 0 → xs ≡ []
no_length [] is = refl
no_length (x ∷ xs) is = absurd (omega (arith, is))

none_sorted : (facts : List Fact) → IsPermutation [] facts → facts ≡ []
none_sorted facts same = no_length facts (length_permutation [] facts same)

no_facts : (facts : List Fact) → AreFactsOf [] facts → facts ≡ []
no_facts facts are = are.whole ∙ none_sorted are.dated are.sorted.same

abbrev opening_of : Digest → ℕ → ℕ → ℕ → ℕ → List Fact → Opening
opening_of admin moment run version change facts = record {
  admin = admin;
  moment = moment;
  run = run;
  version = version;
  change = change;
  facts = facts;
}

anew_of : (admin : Digest) (opening : Opening) → opening.admin ≡ admin
    → IsOpened admin [] opening.moment opening.run opening.version opening.change opening.facts
    → opening ≡ opened admin
anew_of admin opening admin_is is =
    ap (λ a. opening_of a opening.moment opening.run opening.version opening.change opening.facts)
    admin_is
    ∙ ap (λ n. opening_of admin n opening.run opening.version opening.change opening.facts)
    is.moment_is
    ∙ ap (λ n. opening_of admin 0 n opening.version opening.change opening.facts) is.run_is
    ∙ ap (λ n. opening_of admin 0 0 n opening.change opening.facts) is.version_is
    ∙ ap (λ n. opening_of admin 0 0 0 n opening.facts) is.change_is
    ∙ ap (λ facts. opening_of admin 0 0 0 0 facts) (no_facts opening.facts is.are)

of_none : (admin : Digest) (rows : List Row) (opening : Opening) → rows ≡ []
    → IsOpenedOf admin rows opening → opening ≡ opened admin
of_none admin rows opening none is =
    anew_of admin opening is.admin_is
    (subst (λ all. IsOpened admin all opening.moment opening.run opening.version opening.change
    opening.facts)
    (none_seen is.all (subst (λ told. AreSeen told is.all) none is.seen)) is.opened)

pub anew : (admin : Digest) (past : Past) → IsBegun admin (Some []) past
    → past.opening ≡ opened admin
anew admin past begun = of_none admin begun.rows past.opening begun.given begun.opened.is
