-- What tests and look-ups say.
use Rattle.std.proofs.Common.{◌≡◌, ◌<◌, ℕ, Bool, true, false, not, List, [], ◌∷◌, Option, Some}
use Rattle.std.proofs.Common.{None, find, is_none, is_some, if◌then◌else◌, refl, sym, ap, ◌∙◌}
use Rattle.std.proofs.Common.{arith}
use Rattle.std.specs.Prelude.{nat_le}
use Rattle.std.specs.List.{list_all}
use Rattle.std.specs.Option.{option_and_then, option_map, option_or}
use Rattle.std.proofs.lemmas.Bool.{true≢false}
use Rattle.std.proofs.lemmas.Bool.Decides.{Decides-eqb, nat_tests}
use Rattle.std.proofs.lemmas.Slice.Eq.{slice_eq-Decides}
use Rattle.pl_base.specs.Texts.{is}
use Rattle.pl_facts.specs.declared.fact.Event.{Event}
use Rattle.pl_facts.specs.declared.fact.Event.TheVariants as event
use Rattle.pl_facts.specs.declared.fact.Fact.{Fact}
use Rattle.pl_journal.specs.Kinds.{is_job_end, is_stage_end}
use Rattle.pl_journal.specs.Runs.{job_end, job_ending, outcome_told, skipping, stage_end}
use Rattle.pl_journal.specs.Runs.{stage_start}
use Rattle.pl_log.specs.Latest.{latest}
use Rattle.pl_due.proofs.Standing.{is_nothing, second_of_two}
use Rattle.pl_views.proofs.Moments.{all_or_found}

-- ---- two texts

pub same : (a b : List ℕ) → is a b ≡ true → a ≡ b
same a b = (slice_eq-Decides Decides-eqb a b (is a b) refl).0

pub itself : (a b : List ℕ) → a ≡ b → is a b ≡ true
itself a b = (slice_eq-Decides Decides-eqb a b (is a b) refl).1

-- ---- options

pub nothing_mapped : {X Y : Type 0} (f : X → Y) (o : Option X) → None ≡ option_map f o → o ≡ None
nothing_mapped f None e = refl
nothing_mapped f (Some x) e = absurd (cc)

-- what is told where a test passes, and nothing where it does
pub passed : {X : Type 0} (b : Bool) (x : X) → None ≡ (if b then None else Some x) → b ≡ true
passed true x e = refl
passed false x e = absurd (cc)

pub failed : {X : Type 0} (b : Bool) (x : X) → None ≡ (if b then Some x else None) → b ≡ false
failed true x e = absurd (cc)
failed false x e = refl

-- ---- all pass, or one is found that doesn't

pub none_found : {X Y : Type 0} (p : X → Bool) (f : X → Y) (xs : List X) →
    None ≡ option_map f (find (λ one. not (p one)) xs) → list_all p xs ≡ true
none_found p f xs e = all_or_found p xs
    ∙ ap is_none (nothing_mapped f (find (λ one. not (p one)) xs) e)

pub all_found : {X Y : Type 0} (p : X → Bool) (f : X → Y) (xs : List X) →
    list_all p xs ≡ true → None ≡ option_map f (find (λ one. not (p one)) xs)
all_found p f xs all = sym (ap (option_map f)
    (is_nothing (find (λ one. not (p one)) xs) (sym (all_or_found p xs) ∙ all)))

-- ---- the latest of a kind is of that kind

module _ {X : Type 0} (test : X → Bool) (y x : X) where
  behind_one : (o : Option X) (b : Bool) → test y ≡ b →
      option_or o (if b then Some y else None) ≡ Some x → (o ≡ Some x → test x ≡ true) →
      test x ≡ true
  behind_one (Some z) b told e later = later e
  behind_one None true told e later = let here : y ≡ x = cc in sym (ap test here) ∙ told
  behind_one None false told e later = absurd (cc)

latest_passes : {X : Type 0} (test : X → Bool) (xs : List X) (x : X) → latest test xs ≡ Some x →
    test x ≡ true
latest_passes test [] x e = absurd (cc)
latest_passes test (y ∷ ys) x e =
    behind_one test y x (latest test ys) (test y) refl e (latest_passes test ys x)

job_end_tells : (e : Event) → is_job_end e ≡ true → outcome_told e ≡ None → ⊥
job_end_tells (event.JobEnded outcome reported stage job run rule outputs) is none = absurd (cc)
job_end_tells _ is none = absurd (true≢false (sym is))

stage_end_tells : (e : Event) → is_stage_end e ≡ true → outcome_told e ≡ None → ⊥
stage_end_tells (event.StageEnded run stage outcome rule) is none = absurd (cc)
stage_end_tells _ is none = absurd (true≢false (sym is))

-- where no outcome is told the job hasn't ended
pub unended_job : (run stage job : ℕ) (facts : List Fact) →
    option_and_then (λ (one : Fact). outcome_told one.event) (job_ending run stage job facts) ≡
    None → job_ending run stage job facts ≡ None
unended_job run stage job facts none = go (job_end run stage job facts) refl
  where
    told : (o : Option Fact) → job_ending run stage job facts ≡ o →
        option_and_then (λ (one : Fact). outcome_told one.event) o ≡ None
    told o is = sym (ap (option_and_then (λ (one : Fact). outcome_told one.event)) is) ∙ none

    skipped : (s : Option Fact) → stage_start run stage facts ≡ s → (o : Option Fact) →
        stage_end run stage facts ≡ o → job_ending run stage job facts ≡ skipping run stage facts →
        job_ending run stage job facts ≡ None
    skipped (Some start) is o ended same_as = same_as
        ∙ ap (λ (k : Option Fact). if is_some k then None else stage_end run stage facts) is
    skipped None is None ended same_as = same_as
        ∙ ap (λ (k : Option Fact). if is_some k then None else stage_end run stage facts) is ∙ ended
    skipped None is (Some fact) ended same_as =
        let e : job_ending run stage job facts ≡ Some fact = same_as
        ∙ ap (λ (k : Option Fact). if is_some k then None else stage_end run stage facts) is
        ∙ ended in
        absurd (stage_end_tells fact.event
        (second_of_two _ (is_stage_end fact.event) (latest_passes _ facts fact ended))
        (told (Some fact) e))

    go : (o : Option Fact) → job_end run stage job facts ≡ o →
        job_ending run stage job facts ≡ None
    go (Some fact) is =
        let e : job_ending run stage job facts ≡ Some fact =
        ap (λ (k : Option Fact). option_or k (skipping run stage facts)) is in
        absurd (job_end_tells fact.event
        (second_of_two _ (is_job_end fact.event) (latest_passes _ facts fact is))
        (told (Some fact) e))
    go None is = skipped (stage_start run stage facts) refl (stage_end run stage facts) refl
        (ap (λ (k : Option Fact). option_or k (skipping run stage facts)) is)

-- where a job hasn't ended whose stage wasn't started, that hasn't ended
pub unended_stage : (run stage job : ℕ) (facts : List Fact) →
    job_ending run stage job facts ≡ None → stage_start run stage facts ≡ None →
    stage_end run stage facts ≡ None
unended_stage run stage job facts none unstarted = go (job_end run stage job facts) refl
  where
    go : (o : Option Fact) → job_end run stage job facts ≡ o → stage_end run stage facts ≡ None
    go (Some fact) is =
        let e : Some fact ≡ None =
        sym (ap (λ (k : Option Fact). option_or k (skipping run stage facts)) is) ∙ none in
        absurd (cc)
    go None is =
        sym (ap (λ (k : Option Fact). if is_some k then None else stage_end run stage facts)
        unstarted)
        ∙ sym (ap (λ (k : Option Fact). option_or k (skipping run stage facts)) is) ∙ none

-- ---- numbers

pub room : (most taken : ℕ) → nat_le most taken ≡ false → taken < most
room most taken h = grind (arith, nat_tests, h)

pub no_more : (most taken : ℕ) → taken < most → nat_le most taken ≡ false
no_more most taken h = grind (arith, nat_tests, h)
