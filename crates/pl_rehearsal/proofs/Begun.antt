-- A service over a keeper without rows is a new one, and what its desk makes of messages is what
-- is seen of it.
use Rattle.std.proofs.Common.{◌≡◌, ◌++◌, ℕ, List, [], ◌∷◌, Some, length, flat_map, refl, sym, ap}
use Rattle.std.proofs.Common.{subst, ◌∙◌}
use Rattle.std.proofs.lemmas.List.{nil_from_length}
use Rattle.std.proofs.lemmas.List.Sorted.{length_permutation}
use Rattle.std.specs.Prelude.{IsPermutation}
use Rattle.pl_alone.specs.Below.pl_history.specs.History.{Opening, facts_of, opened}
use Rattle.pl_alone.specs.Below.pl_opened.specs.Opened.{IsOpened}
use Rattle.pl_alone.specs.Below.pl_opening.specs.Opening.{IsOpenedOf}
use Rattle.pl_alone.specs.Below.pl_seeing.specs.Seeing.{AreSeen}
use Rattle.pl_alone.specs.Below.pl_service.specs.Begun.{IsBegun}
use Rattle.pl_alone.specs.Below.pl_service.specs.Past.{Past}
use Rattle.pl_alone.specs.Desk.{Act, Parts}
use Rattle.pl_base.specs.declared.digest.Digest.{Digest}
use Rattle.pl_base.specs.declared.row.Row.{Row}
use Rattle.pl_facts.specs.declared.fact.Fact.{Fact}
use Rattle.pl_rehearsal.specs.Summary.{IsSummary, start, superseded_among}
use Rattle.pl_rehearsing.specs.Asking.{asked, turns_from}
use Rattle.pl_rehearsing.specs.Rehearsal.{Rehearsal, asked_for, first_moment}
use Rattle.pl_requests.specs.declared.request.Request.TheVariants.{Draw}
use Rattle.pl_sessions.proofs.Through.{acts_through, seen_by}
use Rattle.pl_torn.specs.declared.seen.Seen.{Seen}

pub nothing_of : {X : Type 0} (xs : List X) → IsPermutation [] xs → xs ≡ []
nothing_of xs same = nil_from_length xs (length_permutation [] xs same)

-- no row tells anything
opens_new : (admin : Digest) (opening : Opening) (all : List Seen) → AreSeen [] all →
    IsOpened admin all opening.moment opening.run opening.version opening.change opening.facts →
    opening.admin ≡ admin → opening ≡ opened admin
opens_new admin opening (one ∷ all) seen is admin_is = absurd seen
opens_new admin opening [] seen is admin_is =
    let facts_is : opening.facts ≡ [] =
    is.are.whole ∙ nothing_of is.are.dated is.are.sorted.same in
    λ i. record {
      admin = admin_is i;
      moment = is.moment_is i;
      run = is.run_is i;
      version = is.version_is i;
      change = is.change_is i;
      facts = facts_is i;
    }

pub opening_is : (admin : Digest) (rows : List Row) (past : Past) → rows ≡ [] →
    IsBegun admin (Some rows) past → past.opening ≡ opened admin
opening_is admin rows past none begun =
    let is : IsOpenedOf admin [] past.opening =
    subst (λ (all : List Row). IsOpenedOf admin all past.opening) (begun.given ∙ none)
    begun.opened.is in
    opens_new admin past.opening is.all is.seen is.opened is.admin_is

pub started : (admin : Digest) (desk : Parts) → desk.opening ≡ opened admin → desk.seen ≡ [] →
    desk.rows ≡ Some [] → desk.faults ≡ 0 → desk ≡ start admin
started admin desk opening_are seen_are rows_are faults_are = λ i. record {
  opening = opening_are i;
  seen = seen_are i;
  rows = rows_are i;
  faults = faults_are i;
}

-- what a rehearsal makes of a desk is what it makes of what is seen of it
module _ {D : Type 0} (old new : D) (f : D → Parts) (admin : Digest) (runs : ℕ) where
  abbrev seen_of : Rehearsal (seen_by f Act) admin runs old new → Rehearsal Act admin runs (f old) (f new)
  seen_of r = record {
    begun = r.begun;
    worked = r.worked;
    last = r.last;
    begins = r.begins;
    given = r.given;
    ends = r.ends;
    acts = acts_through f Act old (turns_from admin first_moment
        (r.begun ++ (flat_map asked_for r.worked ++ asked Draw r.last ∷ []))) new r.acts;
  }

  module _ (jobs superseded : ℕ) where
    abbrev Summed : Type 0
    Summed = IsSummary admin runs (record { runs = runs; jobs = jobs; superseded = superseded })

    whole : superseded ≡ superseded_among (facts_of (f new).seen) →
        (one : Rehearsal Act admin runs (start admin) (f new)) → jobs ≡ length one.worked → Summed
    whole superseded_are one jobs_are = record {
      desk = f new;
      rehearsal = one;
      runs_are = refl;
      jobs_are = jobs_are;
      superseded_are = superseded_are;
    }

    pub summed_up : f old ≡ start admin → (r : Rehearsal (seen_by f Act) admin runs old new) →
        jobs ≡ length r.worked → superseded ≡ superseded_among (facts_of (f new).seen) → Summed
    summed_up is r jobs_are superseded_are =
        subst (λ (desk : Parts). (one : Rehearsal Act admin runs desk (f new)) →
        jobs ≡ length one.worked → Summed) (sym is) (whole superseded_are) (seen_of r) jobs_are
