-- What is gathered fact after fact is each file as it stands.
use Rattle.std.proofs.Common.{◌≡◌, ◌<◌, ◌+◌, ℕ, Bool, true, false, cond, List, [], ◌∷◌, ◌++◌}
use Rattle.std.proofs.Common.{length, get_or, take, Option, Some, None, slice_get, arith, refl, sym}
use Rattle.std.proofs.Common.{ap, subst, ◌∙◌}
use Rattle.std.specs.Cmp.{eq_by_cmp_equiv}
use Rattle.std.specs.FinMap as finite
use Rattle.std.specs.FinMap.{get-empty, get-insert, get-remove}
use Rattle.std.specs.Ordering.{is_eq}
use Rattle.std.proofs.lemmas.List.{length-append, take_more, take-append-le}
use Rattle.std.proofs.lemmas.Option.{slice_get-get_or}
use Rattle.pl_base.proofs.FileKeys.{files_total}
use Rattle.pl_base.specs.Files.{file_cmp}
use Rattle.pl_base.specs.declared.place.FileKey.{FileKey}
use Rattle.pl_journal.specs.Below.pl_facts.specs.declared.fact.Event.{Event}
use Rattle.pl_journal.specs.Below.pl_facts.specs.declared.fact.Event.TheVariants as event
use Rattle.pl_journal.specs.Below.pl_facts.specs.declared.fact.Fact.{Fact}
use Rattle.pl_journal.specs.About.{is_about, key_of}
use Rattle.pl_journal.specs.Settings.{by, file, text_told}
use Rattle.pl_log.proofs.Chains.{latest_push}
use Rattle.pl_log.specs.Keys.{File, same_key}
use Rattle.pl_log.specs.Latest.{latest}
use Rattle.pl_snapshots.specs.Gathering.{IsGathered, with_event, with_fact}
use Rattle.pl_snapshots.specs.Snapshots.{AreFiles, Texts}
use Rattle.pl_snapshots.specs.declared.gathering.Gathered.{Gathered}

same_both : (a b : FileKey) → is_eq (file_cmp a b) ≡ is_eq (file_cmp b a)
same_both = (eq_by_cmp_equiv files_total).symm

-- ---- one fact more

-- what a fact leaves at a key: where it is about that file, what it tells
one_event : (e : Event) (texts : Texts) (key : FileKey) →
    finite.get (with_event e texts) key
    ≡ cond (same_key (key_of e) (File key)) (text_told e) (finite.get texts key)
one_event (event.FilePut told) texts key =
    get-insert files_total texts told.key told.text key
    ∙ ap (λ b. cond b (Some told.text) (finite.get texts key)) (same_both key told.key)
one_event (event.FileRemoved name) texts key =
    get-remove files_total texts name key
    ∙ ap (λ b. cond b None (finite.get texts key)) (same_both key name)
one_event _ texts key = refl

by_cond : (b : Bool) (fact : Fact) (before : Option Fact) →
    by text_told (cond b (Some fact) before) ≡ cond b (text_told fact.event) (by text_told before)
by_cond true fact before = refl
by_cond false fact before = refl

pub one_more : (facts : List Fact) (fact : Fact) (texts : Texts) → AreFiles facts texts →
    AreFiles (facts ++ fact ∷ []) (with_event fact.event texts)
one_more facts fact texts are key =
    one_event fact.event texts key
    ∙ ap (cond (is_about (File key) fact) (text_told fact.event)) (are key)
    ∙ sym (by_cond (is_about (File key) fact) fact (latest (is_about (File key)) facts))
    ∙ sym (ap (by text_told) (latest_push (is_about (File key)) facts fact))

-- ---- the first so many facts

pub none_gathered : (facts : List Fact) (gathered : Gathered) →
    gathered ≡ record { files = finite.empty; count = 0 } → IsGathered facts gathered
none_gathered facts gathered is = subst (IsGathered facts) (sym is) (record {
  within = omega arith;
  files_are = λ key. get-empty file_cmp key;
})

module _ (facts : List Fact) (at : ℕ) (old new : Texts) (within : at < length facts)
    (are : AreFiles (take at facts) old)
    (put : new ≡ with_fact (slice_get facts at) old) where
  next_with : (d : Fact) → AreFiles (take (at + 1) facts) new
  next_with d =
      subst (AreFiles (take (at + 1) facts)) (sym (put
      ∙ ap (λ (o : Option Fact). with_fact o old) (slice_get-get_or facts at d within)))
      (subst (λ (xs : List Fact). AreFiles xs (with_event (get_or facts at d).event old))
      (sym (take_more facts at d within)) (one_more (take at facts) (get_or facts at d) old are))

  pub next_fact : IsGathered facts (record { files = new; count = at + 1 })
  next_fact = by_list facts refl
    where
      by_list : (xs : List Fact) → facts ≡ xs →
          IsGathered facts (record { files = new; count = at + 1 })
      by_list [] is =
          let e : length facts ≡ 0 = ap length is in
          let none : ⊥ = omega (arith, within, e) in absurd none
      by_list (x ∷ xs) is = record { within = omega (arith, within); files_are = next_with x }

-- with more facts behind, the first ones stay
pub more_gathered : (facts more : List Fact) (gathered : Gathered) → IsGathered facts gathered →
    IsGathered (facts ++ more) gathered
more_gathered facts more gathered is = record {
  within = omega (arith, is.within, length-append facts more);
  files_are = subst (λ (xs : List Fact). AreFiles xs gathered.files)
      (sym (take-append-le gathered.count facts more is.within)) is.files_are;
}
