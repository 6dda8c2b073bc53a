-- Runs' rows compile to what the runs were compiled to.
use Rattle.std.proofs.Common.{◌≡◌, ℕ, List, [], ◌∷◌, ◌++◌, Option, Some, None, Ok}
use Rattle.std.proofs.Common.{map, refl, ap, subst}
use Rattle.std.specs.Option.{option_and_then, option_map}
use Rattle.std.specs.Prelude.{unwrap_or}
use Rattle.pl_base.specs.declared.place.FileKey.{FileKey}
use Rattle.pl_changes.proofs.Leading.{none_some}
use Rattle.pl_facts.specs.declared.entry.Entry.{Entry}
use Rattle.pl_facts.specs.declared.fact.Event.{Event}
use Rattle.pl_facts.specs.declared.fact.Event.TheVariants as event
use Rattle.pl_facts.specs.declared.fact.Fact.{Fact}
use Rattle.pl_facts.specs.declared.fact.QueuedRun.{QueuedRun}
use Rattle.pl_plan.specs.declared.plan.Compiled.{Compiled}
use Rattle.pl_plan.specs.declared.plan.Sources.{Sources}
use Rattle.pl_history.specs.Claims.{IsOrderly}
use Rattle.pl_history.specs.History.{Opening, log_of}
use Rattle.pl_history.specs.Legal.{Legal}
use Rattle.pl_history.specs.Below.pl_compilation.specs.Made.{IsMade}
use Rattle.pl_granting.specs.Below.pl_settling.proofs.Giving.{gives}
use Rattle.pl_granting.specs.Below.pl_settling.specs.Gives.{Gives}
use Rattle.pl_snapshots.specs.declared.snapshot.Snapshot.{Snapshot}
use Rattle.pl_history.specs.Below.pl_queueing.specs.Queueing.{Made}
use Rattle.pl_journal.specs.Log.{Log}
use Rattle.pl_journal.specs.Runs.{canceling, queueing, run_told}
use Rattle.pl_journal.specs.Settings.{by}
use Rattle.pl_keeper.specs.declared.records.Record.{Record}
use Rattle.pl_kept.specs.Kept.{queued_kept, run_record, Run}
use Rattle.pl_kept.specs.Told.{moment_of, used_file}
use Rattle.pl_seeing.specs.Below.pl_sources.specs.Again.{CompilesToOne, SourcesCompileAgain}
use Rattle.pl_seeing.specs.Seeing.{IsCompileOf, IsMadeBy, IsMadeOf, pair_of}
use Rattle.pl_torn.specs.Looking.{run_place}
use Rattle.pl_torn.specs.Seen.{seen_at}
use Rattle.pl_torn.specs.declared.seen.Seen.{Seen}
use Rattle.pl_reread.specs.Reread.{AreMade, AreToldBy}
use Rattle.pl_reread.proofs.Rereading.{found_has}
use Rattle.pl_never_torn.specs.Own.{AreCompiled, AreOwn, IsOwn}
use Rattle.pl_never_torn.specs.Rising.{NoneLater}
use Rattle.pl_never_torn.proofs.Late.{latest_has}
use Rattle.pl_never_torn.proofs.Rising.{joined}
use Rattle.pl_never_torn.proofs.Staying.{HasMade, Keeps, Laws, stays}
use Rattle.pl_never_torn.proofs.Telling.{Tells}

-- ---- runs are compiled to what their sources compile to

due_own : (facts : List Fact) (moment : ℕ) (told : Event) → Gives facts moment told → IsOwn told
due_own facts moment (event.RunQueued told) none = absurd none
due_own facts moment _ gives = tt

own_more : (facts : List Fact) (one : Fact) → AreOwn facts → IsOwn one.event →
    AreOwn (facts ++ one ∷ [])
own_more facts one own here =
    joined (λ (fact : Fact). IsOwn fact.event) facts (one ∷ []) own (here, tt)

module _ (again : SourcesCompileAgain) where
  of_made : (snapshot : Option Snapshot) (compiled : Compiled) →
      IsMade snapshot (Some (Ok compiled)) → IsCompileOf compiled.sources compiled
  of_made None compiled none = absurd none
  of_made (Some snapshot) compiled is = record {
    is = again snapshot.files snapshot.root snapshot.arguments compiled is;
    same = refl;
  }

  asked_own : (log : Log) (made : Made) → HasMade made → (told : Event) → Tells log made told →
      IsOwn told
  asked_own log made has (event.RunQueued told) is =
      of_made has.0 told.compiled (subst (IsMade has.0) is.1 has.1)
  asked_own log made has _ is = tt

  pub own_keeps : Keeps (λ log. AreOwn log.facts)
  own_keeps = record {
    due = λ log one before is_due own.
        own_more log.facts one own (due_own log.facts one.moment one.event (gives log.facts
        one.moment one.event is_due));
    asked = λ log made one has before few tells own.
        own_more log.facts one own (asked_own log made has one.event tells);
    installed = λ log count own. own;
  }

  pub own_all : Laws → (opening : Opening) (entries : List Entry) →
      IsOrderly opening → NoneLater (log_of opening []) →
      AreOwn (log_of opening []).facts → Legal opening entries →
      AreOwn (log_of opening entries).facts
  own_all laws opening entries first later own legal =
      stays laws (λ log. AreOwn log.facts) own_keeps opening entries first later own legal

-- ---- so runs' rows compile to these

pub pairs_again : (files : List (FileKey × List ℕ)) → map pair_of (map used_file files) ≡ files
pairs_again [] = refl
pairs_again (file ∷ files) =
    ap (λ (rest : List (FileKey × List ℕ)). file ∷ rest) (pairs_again files)

same_sources : (sources : Sources) → record {
  root = sources.root;
  arguments = sources.arguments;
  files = map pair_of (map used_file sources.files);
} ≡ sources
same_sources sources =
    ap (λ (files : List (FileKey × List ℕ)). record sources { files = files })
    (pairs_again sources.files)

-- a run that is queued is told by a fact
record IsQueued (facts : List Fact) (run : ℕ) (told : QueuedRun) : Type 0 where
  fact : Fact
  found : queueing run facts ≡ Some fact
  tells : run_told fact.event ≡ Some told

pub own_of : (told : QueuedRun) (one : Event) → IsOwn one → run_told one ≡ Some told →
    IsCompileOf told.compiled.sources told.compiled
own_of told (event.RunQueued it) own e = subst (λ (r : QueuedRun).
    IsCompileOf r.compiled.sources r.compiled)
    (ap (λ (o : Option QueuedRun). unwrap_or o it) e) own
own_of told _ own e = absurd (none_some None told refl e)

module _ (one_thing : CompilesToOne) (change : ℕ) (log : Log) (all : List Seen)
    (is : AreToldBy change log all) (own : AreOwn log.facts) (compiled : AreCompiled all) where
  -- a compile of the sources of a run is what it was compiled to
  made_so : (told : QueuedRun) → IsCompileOf told.compiled.sources told.compiled →
      (found : Option Compiled) → IsMadeOf told.compiled.sources found →
      found ≡ Some told.compiled
  made_so told own None none = absurd (none told.compiled own)
  made_so told own (Some made) it =
      ap Some (one_thing _ told.compiled.sources.root told.compiled.sources.arguments told.compiled
      (Ok made) own.is it.is)

  abbrev compile_in : Option Seen → Option Compiled
  compile_in o = option_and_then (λ one. one.compiled) o

  -- of a row of a run that was queued
  by_queued : (run : ℕ) (moment : ℕ) (told : QueuedRun) →
      IsCompileOf told.compiled.sources told.compiled → (o : Option Seen) →
      seen_at (run_place run) all ≡ o → option_and_then (λ one. one.kept) o ≡
      Some (run_record run (option_map moment_of (canceling run log.facts)) moment told) →
      compile_in o ≡ Some told.compiled
  by_queued run moment told own_it None e f = absurd (none_some None _ refl f)
  by_queued run moment told own_it (Some one) e f =
      made_so told own_it one.compiled (subst (λ (s : Sources). IsMadeOf s one.compiled)
      (same_sources told.compiled.sources) (subst (λ (o : Option Record).
      IsMadeBy o one.compiled) f
      (found_has (λ it. IsMadeBy it.kept it.compiled) (run_place run) all one compiled e)))

  -- where nothing is kept, nothing is compiled
  by_none : (run : ℕ) (o : Option Seen) → seen_at (run_place run) all ≡ o →
      option_and_then (λ one. one.kept) o ≡ None → compile_in o ≡ None
  by_none run None e f = refl
  by_none run (Some one) e f = subst (λ (o : Option Record). IsMadeBy o one.compiled) f
      (found_has (λ it. IsMadeBy it.kept it.compiled) (run_place run) all one compiled e)

  by_told : (run : ℕ) (fact : Fact) → queueing run log.facts ≡ Some fact →
      (o : Option QueuedRun) → run_told fact.event ≡ o →
      option_and_then (λ one. one.kept) (seen_at (run_place run) all) ≡ option_map
      (run_record run (option_map moment_of (canceling run log.facts)) fact.moment) o →
      compile_in (seen_at (run_place run) all) ≡ option_map (λ told. told.compiled) o
  by_told run fact e None f g = by_none run (seen_at (run_place run) all) refl g
  by_told run fact e (Some told) f g =
      by_queued run fact.moment told (own_of told fact.event
      (latest_has (λ (it : Fact). IsOwn it.event) _ log.facts fact own e) f)
      (seen_at (run_place run) all) refl g

  by_fact : (run : ℕ) (o : Option Fact) → queueing run log.facts ≡ o →
      option_and_then (λ one. one.kept) (seen_at (run_place run) all) ≡ option_and_then
      (queued_kept run (option_map moment_of (canceling run log.facts))) o →
      compile_in (seen_at (run_place run) all) ≡
      option_map (λ told. told.compiled) (by run_told o)
  by_fact run None e f = by_none run (seen_at (run_place run) all) refl f
  by_fact run (Some fact) e f = by_told run fact e (run_told fact.event) refl f

  pub are_made : AreMade log all
  are_made run fits = by_fact run (queueing run log.facts) refl (is.each (Run run) fits)
