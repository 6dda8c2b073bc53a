-- The index stays one.
use Rattle.std.proofs.Common.{◌≡◌, ℕ, ◌+◌, ◌<◌, ◌≤◌, ◌==◌, Bool, true, false, not, List, [], ◌∷◌}
use Rattle.std.proofs.Common.{◌++◌}
use Rattle.std.proofs.Common.{length, take, min, filter, All, Option, None, Some, refl, sym, ap}
use Rattle.std.proofs.Common.{◌∙◌}
use Rattle.std.proofs.Common.{subst, arith, inl, inr, ⊎_elim, Result, Ok, Err, OnErr, OnOk}
use Rattle.std.specs.BTreeSet.{insert_key}
use Rattle.std.specs.FinMap.{nat_cmp-IsAntisymmetric}
use Rattle.std.specs.Ordering.{nat_cmp}
use Rattle.std.proofs.lemmas.Bool.{cases_eq, true≢false}
use Rattle.std.proofs.lemmas.List.{length-take, length_push, take-append-le, take_all, take-take}
use Rattle.std.proofs.lemmas.List.Elements.{All-nil, All-push, All-take}
use Rattle.std.proofs.lemmas.List.Filters.{length-filter_both}
use Rattle.std.proofs.lemmas.Map.Views.{exact_unsigned_eq}
use Rattle.std.proofs.lemmas.Option.{none-some, same_Some}
use Rattle.pl_base.specs.declared.digest.Digest.{Digest}
use Rattle.pl_base.specs.declared.memory.Memory.{Memory}
use Rattle.pl_facts.specs.declared.fact.Fact.{Fact}
use Rattle.pl_journal.specs.Log.{Log, Opening, empty}
use Rattle.pl_journal.specs.Runs.{number_told}
use Rattle.pl_open_runs.specs.Index.{Ascends, Covers, HasFewStages, IsIndex, ended_told, has}
use Rattle.pl_open_runs.specs.Open.{is_open, open_runs}
use Rattle.pl_open_runs.proofs.Numbers.{InOrder, among_filter, among_kept, among_of, among_put}
use Rattle.pl_open_runs.proofs.Numbers.{ascends_of}
use Rattle.pl_open_runs.proofs.Numbers.{has_of, in_order_filter, in_order_of, in_order_put}
use Rattle.pl_open_runs.proofs.OpenRuns.{among_is_open, are_open_runs, open_in_order}
use Rattle.pl_open_runs.proofs.OpenRuns.{open_is_among, open_of_known}
use Rattle.pl_open_runs.proofs.Steps.{few_else, not_both, open_before, open_same}
use Rattle.pl_facts.specs.Below.pl_plan.proofs.Members.{Among, among_itself, among_stays}

-- ---- a known run more

more_covers : (known : List ℕ) (run : ℕ) (facts : List Fact) → Covers known facts →
    Covers (insert_key nat_cmp known run) facts
more_covers known run facts covers = λ one is.
    has_of (insert_key nat_cmp known run) one
    (among_stays nat_cmp nat_cmp-IsAntisymmetric known run one (among_of known one (covers one is)))

put_ascends : (known : List ℕ) (run : ℕ) → Ascends known → Ascends (insert_key nat_cmp known run)
put_ascends known run up =
    ascends_of (insert_key nat_cmp known run) (in_order_put known run (in_order_of known up))

pub index_known : (journal : Log) (known runs : List ℕ) (run : ℕ) → IsIndex journal known runs →
    IsIndex journal (insert_key nat_cmp known run) runs
index_known journal known runs run index = record {
  few = index.few;
  within = index.within;
  runs_are = index.runs_are;
  ascends = put_ascends known run index.ascends;
  covers = more_covers known run journal.facts index.covers;
  covers_installed =
      more_covers known run (take journal.installed journal.facts) index.covers_installed;
}

-- ---- a fact more

abbrev pub pushed : Log → Fact → Log
pushed journal fact = record journal { facts = journal.facts ++ fact ∷ [] }

pushed_within : (journal : Log) (fact : Fact) → journal.installed ≤ length journal.facts →
    journal.installed ≤ length (journal.facts ++ fact ∷ [])
pushed_within journal fact within = omega (arith, length_push journal.facts fact)

pushed_covers : (journal : Log) (fact : Fact) (known : List ℕ) →
    journal.installed ≤ length journal.facts →
    Covers known (take journal.installed journal.facts) →
    Covers known (take journal.installed (journal.facts ++ fact ∷ []))
pushed_covers journal fact known within covers =
    subst (Covers known) (sym (take-append-le journal.installed journal.facts (fact ∷ []) within))
    covers

queued_covers : (journal : Log) (fact : Fact) (known runs : List ℕ) (run : ℕ) →
    IsIndex journal known runs → number_told fact.event ≡ Some run →
    Covers (insert_key nat_cmp known run) (journal.facts ++ fact ∷ [])
queued_covers journal fact known runs run index queued = λ one is. ⊎_elim
    (λ e. subst (λ n. has (insert_key nat_cmp known run) n ≡ true) e
    (has_of (insert_key nat_cmp known run) run
    (among_itself nat_cmp nat_cmp-IsAntisymmetric known run)))
    (λ apart. more_covers known run journal.facts index.covers one
    (sym (open_same journal.facts fact one
    (λ h. apart (same_Some run one (sym queued ∙ h)))
    (λ h. not_both fact.event run one queued h)) ∙ is))
    (cases_eq run one)

-- the open runs are these, where the fact queues this run
queued_are : (journal : Log) (fact : Fact) (known runs others : List ℕ) (run : ℕ) →
    IsIndex journal known runs → number_told fact.event ≡ Some run → HasFewStages fact →
    others ≡ open_runs (journal.facts ++ fact ∷ []) →
    IsIndex (pushed journal fact) (insert_key nat_cmp known run) others
queued_are journal fact known runs others run index queued few are = record {
  few = All-push HasFewStages journal.facts fact index.few few;
  within = pushed_within journal fact index.within;
  runs_are = are;
  ascends = put_ascends known run index.ascends;
  covers = queued_covers journal fact known runs run index queued;
  covers_installed = pushed_covers journal fact (insert_key nat_cmp known run) index.within
      (more_covers known run (take journal.installed journal.facts) index.covers_installed);
}

-- whatever is open now is known, and where it was open before
else_covers : (journal : Log) (fact : Fact) (known runs : List ℕ) → IsIndex journal known runs →
    ((run : ℕ) → number_told fact.event ≡ Some run → ⊥) → Covers known (journal.facts ++ fact ∷ [])
else_covers journal fact known runs index never =
    λ one is. index.covers one (open_before journal.facts fact one (never one) is)

-- the open runs are these, where the fact queues none
pub index_else : (journal : Log) (fact : Fact) (known runs others : List ℕ) →
    IsIndex journal known runs → ((run : ℕ) → number_told fact.event ≡ Some run → ⊥) →
    others ≡ open_runs (journal.facts ++ fact ∷ []) → IsIndex (pushed journal fact) known others
index_else journal fact known runs others index never are = record {
  few = All-push HasFewStages journal.facts fact index.few (few_else fact never);
  within = pushed_within journal fact index.within;
  runs_are = are;
  ascends = index.ascends;
  covers = else_covers journal fact known runs index never;
  covers_installed = pushed_covers journal fact known index.within index.covers_installed;
}

runs_in_order : (journal : Log) (known runs : List ℕ) → IsIndex journal known runs → InOrder runs
runs_in_order journal known runs index =
    subst InOrder (sym index.runs_are) (open_in_order journal.facts)

was_open : (journal : Log) (known runs : List ℕ) → IsIndex journal known runs → (run : ℕ) →
    Among runs run → is_open run journal.facts ≡ true
was_open journal known runs index run h =
    among_is_open journal.facts run (subst (λ l. Among l run) index.runs_are h)

was_among : (journal : Log) (known runs : List ℕ) → IsIndex journal known runs → (run : ℕ) →
    is_open run journal.facts ≡ true → Among runs run
was_among journal known runs index run is =
    subst (λ l. Among l run) (sym index.runs_are) (open_is_among journal.facts run is)

-- any other run is as it was
other_same : (facts : List Fact) (fact : Fact) (run one : ℕ) → number_told fact.event ≡ Some run →
    (run ≡ one → ⊥) → is_open one (facts ++ fact ∷ []) ≡ is_open one facts
other_same facts fact run one queued apart = open_same facts fact one
    (λ h. apart (same_Some run one (sym queued ∙ h)))
    (λ h. not_both fact.event run one queued h)

-- a queued run that is open
index_opened : (journal : Log) (fact : Fact) (known runs : List ℕ) (run : ℕ) →
    IsIndex journal known runs → number_told fact.event ≡ Some run → HasFewStages fact →
    is_open run (journal.facts ++ fact ∷ []) ≡ true →
    IsIndex (pushed journal fact) (insert_key nat_cmp known run) (insert_key nat_cmp runs run)
index_opened journal fact known runs run index queued few is_now =
    queued_are journal fact known runs (insert_key nat_cmp runs run) run index queued few
    (are_open_runs (journal.facts ++ fact ∷ []) (insert_key nat_cmp runs run)
    (in_order_put runs run (runs_in_order journal known runs index))
    (λ one h. ⊎_elim
    (λ e. subst (λ n. is_open n (journal.facts ++ fact ∷ []) ≡ true) e is_now)
    (λ apart. other_same journal.facts fact run one queued apart
    ∙ was_open journal known runs index one (⊎_elim (λ e. absurd (apart e)) (λ g. g)
    (among_put runs run one h)))
    (cases_eq run one))
    (λ one is. ⊎_elim
    (λ e. subst (Among (insert_key nat_cmp runs run)) e
    (among_itself nat_cmp nat_cmp-IsAntisymmetric runs run))
    (λ apart. among_stays nat_cmp nat_cmp-IsAntisymmetric runs run one
    (was_among journal known runs index one
    (sym (other_same journal.facts fact run one queued apart) ∙ is)))
    (cases_eq run one)))

differs : (one other : ℕ) → not (one == other) ≡ true → one ≡ other → ⊥
differs one other h e = grind arith

passes : (one other : ℕ) → (one ≡ other → ⊥) → not (one == other) ≡ true
passes one other apart = grind arith

-- a queued run that has no stage to be open
index_shut : (journal : Log) (fact : Fact) (known runs : List ℕ) (run : ℕ) →
    IsIndex journal known runs → number_told fact.event ≡ Some run → HasFewStages fact →
    is_open run (journal.facts ++ fact ∷ []) ≡ false →
    IsIndex (pushed journal fact) (insert_key nat_cmp known run)
    (filter (λ one. not (one == run)) runs)
index_shut journal fact known runs run index queued few shut =
    let test : ℕ → Bool = λ one. not (one == run) in
    queued_are journal fact known runs (filter test runs) run index queued few
    (are_open_runs (journal.facts ++ fact ∷ []) (filter test runs)
    (in_order_filter test runs (runs_in_order journal known runs index))
    (λ one h. let kept = among_filter test runs one h in
    other_same journal.facts fact run one queued (λ e. differs one run kept.0 (sym e))
    ∙ was_open journal known runs index one kept.1)
    (λ one is. let apart : one ≡ run → ⊥ =
    λ e. true≢false (sym is ∙ ap (λ n. is_open n (journal.facts ++ fact ∷ [])) e ∙ shut) in
    among_kept test runs one (passes one run apart)
    (was_among journal known runs index one
    (sym (other_same journal.facts fact run one queued (λ e. apart (sym e))) ∙ is))))

pub index_other : (journal : Log) (fact : Fact) (known runs : List ℕ) →
    IsIndex journal known runs → number_told fact.event ≡ None → ended_told fact.event ≡ None →
    IsIndex (pushed journal fact) known runs
index_other journal fact known runs index queued ended =
    let never : (run : ℕ) → number_told fact.event ≡ Some run → ⊥ =
    λ run h. none-some run (sym queued ∙ h) in
    index_else journal fact known runs runs index never
    (are_open_runs (journal.facts ++ fact ∷ []) runs (runs_in_order journal known runs index)
    (λ run h. open_same journal.facts fact run (never run) (λ g. none-some run (sym ended ∙ g))
    ∙ was_open journal known runs index run h)
    (λ run is. was_among journal known runs index run
    (open_before journal.facts fact run (never run) is)))

-- a run that is still open
pub index_still : (journal : Log) (fact : Fact) (known runs : List ℕ) (run : ℕ) →
    IsIndex journal known runs → ended_told fact.event ≡ Some run →
    is_open run (journal.facts ++ fact ∷ []) ≡ true → IsIndex (pushed journal fact) known runs
index_still journal fact known runs run index ended still =
    let never : (one : ℕ) → number_told fact.event ≡ Some one → ⊥ =
    λ one h. not_both fact.event one run h ended in
    index_else journal fact known runs runs index never
    (are_open_runs (journal.facts ++ fact ∷ []) runs (runs_in_order journal known runs index)
    (λ one h. ⊎_elim
    (λ e. subst (λ n. is_open n (journal.facts ++ fact ∷ []) ≡ true) e still)
    (λ apart. open_same journal.facts fact one (never one)
    (λ g. apart (same_Some run one (sym ended ∙ g)))
    ∙ was_open journal known runs index one h)
    (cases_eq run one))
    (λ one is. was_among journal known runs index one
    (open_before journal.facts fact one (never one) is)))

-- a run that isn't open any more
pub index_ended : (journal : Log) (fact : Fact) (known runs : List ℕ) (run : ℕ) →
    IsIndex journal known runs → ended_told fact.event ≡ Some run →
    is_open run (journal.facts ++ fact ∷ []) ≡ false →
    IsIndex (pushed journal fact) known (filter (λ one. not (one == run)) runs)
index_ended journal fact known runs run index ended over =
    let never : (one : ℕ) → number_told fact.event ≡ Some one → ⊥ =
    λ one h. not_both fact.event one run h ended in
    let test : ℕ → Bool = λ one. not (one == run) in
    index_else journal fact known runs (filter test runs) index never
    (are_open_runs (journal.facts ++ fact ∷ []) (filter test runs)
    (in_order_filter test runs (runs_in_order journal known runs index))
    (λ one h. let kept = among_filter test runs one h in
    open_same journal.facts fact one (never one)
    (λ g. differs one run kept.0 (sym (same_Some run one (sym ended ∙ g))))
    ∙ was_open journal known runs index one kept.1)
    (λ one is. among_kept test runs one
    (passes one run (λ e. true≢false (sym is ∙ ap (λ n. is_open n (journal.facts ++ fact ∷ [])) e
    ∙ over)))
    (was_among journal known runs index one (open_before journal.facts fact one (never one) is))))

-- ---- back, and installed

pub index_back : (journal : Log) (known runs : List ℕ) → IsIndex journal known runs →
    IsIndex (record journal { facts = take journal.installed journal.facts }) known
    (filter (λ run. is_open run (take journal.installed journal.facts)) known)
index_back journal known runs index =
    let front = take journal.installed journal.facts in
    let long : length front ≡ min journal.installed (length journal.facts) =
    length-take journal.installed journal.facts in
    record {
      few = All-take HasFewStages journal.installed journal.facts index.few;
      within = omega (arith, long, index.within);
      runs_are = open_of_known front known (in_order_of known index.ascends) index.covers_installed;
      ascends = index.ascends;
      covers = index.covers_installed;
      covers_installed = subst (Covers known)
          (sym (take-take journal.installed journal.installed journal.facts (omega arith)))
          index.covers_installed;
    }

-- nothing was taken away
pub index_stays : (journal : Log) (known runs : List ℕ) → IsIndex journal known runs →
    length journal.facts ≤ length (take journal.installed journal.facts) →
    IsIndex (record journal { facts = take journal.installed journal.facts }) known runs
index_stays journal known runs index long =
    let all : take journal.installed journal.facts ≡ journal.facts =
    take_all journal.installed journal.facts
    (omega (arith, long, length-take journal.installed journal.facts)) in
    subst (λ facts. IsIndex (record journal { facts = facts }) known runs) (sym all) index

-- whatever the numbers of the opening become
pub index_installed : (journal : Log) (opening : Opening) (known runs : List ℕ) →
    IsIndex journal known runs →
    IsIndex (record journal { opening = opening; installed = length journal.facts }) runs runs
index_installed journal opening known runs index =
    let covers : Covers runs journal.facts =
    λ run is. has_of runs run (was_among journal known runs index run is) in
    record {
      few = index.few;
      within = omega arith;
      runs_are = index.runs_are;
      ascends = ascends_of runs (runs_in_order journal known runs index);
      covers = covers;
      covers_installed = subst (Covers runs)
          (sym (take_all (length journal.facts) journal.facts (omega arith))) covers;
    }

-- no more runs are open than are known
pub fewer_open : (journal : Log) (known runs : List ℕ) → IsIndex journal known runs →
    length runs ≤ length known
fewer_open journal known runs index =
    let test : ℕ → Bool = λ run. is_open run journal.facts in
    let are : length runs ≡ length (filter test known) =
    ap length (index.runs_are ∙ sym (open_of_known journal.facts known
    (in_order_of known index.ascends) index.covers)) in
    omega (arith, are, length-filter_both test (λ run. not (test run)) (λ _. refl) known)

pub index_new : (admin : Digest) →
    IsIndex (empty admin) [] []
index_new admin = record {
  few = All-nil HasFewStages;
  within = omega arith;
  runs_are = refl;
  ascends = λ i j d less within. absurd (omega arith);
  covers = λ run is. absurd (true≢false (sym is));
  covers_installed = λ run is. absurd (true≢false (sym is));
}

-- ---- as functions tell it

pub index_at : (journal new : Log) (known known' runs runs' : List ℕ) → new ≡ journal →
    known' ≡ known → runs' ≡ runs → IsIndex journal known runs → IsIndex new known' runs'
index_at journal new known known' runs runs' same same_known same_runs index =
    subst (λ (all : Log × List ℕ × List ℕ). IsIndex all.0 all.1 all.2)
    (λ i. (sym same i, sym same_known i, sym same_runs i)) index

-- a run was queued: it is open, or it isn't
pub after_opened : (journal new : Log) (fact : Fact) (known known' runs runs' : List ℕ) (run : ℕ) →
    IsIndex journal known runs → number_told fact.event ≡ Some run → HasFewStages fact →
    new ≡ pushed journal fact → known' ≡ insert_key nat_cmp known run →
    is_open run new.facts ≡ true → runs' ≡ insert_key nat_cmp runs run → IsIndex new known' runs'
after_opened journal new fact known known' runs runs' run index queued few is known_is is_now are =
    index_at (pushed journal fact) new (insert_key nat_cmp known run) known'
    (insert_key nat_cmp runs run) runs' is known_is are
    (index_opened journal fact known runs run index queued few
    (sym (ap (λ (log : Log). is_open run log.facts) is) ∙ is_now))

pub after_shut : (journal new : Log) (fact : Fact) (known known' runs runs' : List ℕ) (run : ℕ) →
    IsIndex journal known runs → number_told fact.event ≡ Some run → HasFewStages fact →
    new ≡ pushed journal fact → known' ≡ insert_key nat_cmp known run →
    is_open run new.facts ≡ false → runs' ≡ filter (λ one. not (one == run)) runs →
    IsIndex new known' runs'
after_shut journal new fact known known' runs runs' run index queued few is known_is shut are =
    index_at (pushed journal fact) new (insert_key nat_cmp known run) known'
    (filter (λ one. not (one == run)) runs) runs' is known_is are
    (index_shut journal fact known runs run index queued few
    (sym (ap (λ (log : Log). is_open run log.facts) is) ∙ shut))

-- open runs ascend
pub runs_ascend : (journal : Log) (known runs : List ℕ) → IsIndex journal known runs → Ascends runs
runs_ascend journal known runs index = ascends_of runs (runs_in_order journal known runs index)

-- a run is known more, and nothing else changed
pub after_known : (journal new : Log) (known known' runs runs' : List ℕ) (run : ℕ) →
    IsIndex journal known runs → new ≡ journal → known' ≡ insert_key nat_cmp known run →
    runs' ≡ runs → IsIndex new known' runs'
after_known journal new known known' runs runs' run index is known_is runs_are =
    index_at journal new (insert_key nat_cmp known run) known' runs runs' is known_is runs_are
    (index_known journal known runs run index)

-- one of a run's stages ended: it isn't open any more, or it still is
pub after_ended : (journal new : Log) (fact : Fact) (known runs runs' : List ℕ) (run : ℕ) →
    IsIndex journal known runs → ended_told fact.event ≡ Some run → new ≡ pushed journal fact →
    is_open run new.facts ≡ false → runs' ≡ filter (λ one. not (one == run)) runs →
    IsIndex new known runs'
after_ended journal new fact known runs runs' run index ended is over runs_are =
    index_at (pushed journal fact) new known known (filter (λ one. not (one == run)) runs) runs' is
    refl runs_are (index_ended journal fact known runs run index ended
    (sym (ap (λ (log : Log). is_open run log.facts) is) ∙ over))

pub after_still : (journal new : Log) (fact : Fact) (known runs : List ℕ) (run : ℕ) →
    IsIndex journal known runs → ended_told fact.event ≡ Some run → new ≡ pushed journal fact →
    is_open run new.facts ≡ true → IsIndex new known runs
after_still journal new fact known runs run index ended is still =
    index_at (pushed journal fact) new known known runs runs is refl refl
    (index_still journal fact known runs run index ended
    (sym (ap (λ (log : Log). is_open run log.facts) is) ∙ still))

-- another fact came, or didn't
pub after_other : (journal new : Log) (fact : Fact) (known runs : List ℕ)
    (result : Result (Unit {0}) Memory) → IsIndex journal known runs →
    number_told fact.event ≡ None → ended_told fact.event ≡ None →
    OnOk result (new ≡ pushed journal fact) → OnErr result (new ≡ journal) →
    IsIndex new known runs
after_other journal new fact known runs (Ok done) index queued ended ok err =
    index_at (pushed journal fact) new known known runs runs ok refl refl
    (index_other journal fact known runs index queued ended)
after_other journal new fact known runs (Err wanting) index queued ended ok err =
    index_at journal new known known runs runs err refl refl index

-- facts were taken away
pub after_back : (journal new : Log) (known runs runs' : List ℕ) → IsIndex journal known runs →
    new ≡ record journal { facts = take journal.installed journal.facts } →
    runs' ≡ filter (λ run. is_open run new.facts) known → IsIndex new known runs'
after_back journal new known runs runs' index is runs_are =
    index_at (record journal { facts = take journal.installed journal.facts }) new known known
    (filter (λ run. is_open run (take journal.installed journal.facts)) known) runs' is refl
    (runs_are ∙ ap (λ (log : Log). filter (λ run. is_open run log.facts) known) is)
    (index_back journal known runs index)

-- all facts were installed
pub after_installed : (journal new : Log) (opening : Opening) (known known' runs : List ℕ) →
    IsIndex journal known runs →
    new ≡ record journal { opening = opening; installed = length journal.facts } →
    known' ≡ runs → IsIndex new known' runs
after_installed journal new opening known known' runs index is known_is =
    index_at (record journal { opening = opening; installed = length journal.facts }) new runs
    known' runs runs is known_is refl (index_installed journal opening known runs index)
