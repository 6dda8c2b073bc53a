-- The names of what is set in a legal history are free.
use Rattle.std.proofs.Common.{◌≡◌, ℕ, Bool, true, false, List, [], ◌∷◌, ◌++◌, Option, Some, None}
use Rattle.std.proofs.Common.{codes}
use Rattle.std.proofs.Common.{refl, sym, ap, subst, ◌∙◌}
use Rattle.std.specs.Option.{option_and_then, option_map, option_or}
use Rattle.std.specs.Prelude.{unwrap_or, if◌then◌else◌}
use Rattle.pl_base.specs.Texts.{is}
use Rattle.pl_changes.proofs.Leading.{none_some}
use Rattle.pl_facts.specs.declared.entry.Entry.{Entry}
use Rattle.pl_facts.specs.declared.fact.Event.{Event}
use Rattle.pl_facts.specs.declared.fact.Event.TheVariants as event
use Rattle.pl_facts.specs.declared.fact.Fact.{Fact}
use Rattle.pl_history.specs.Claims.{IsOrderly}
use Rattle.pl_history.specs.History.{Opening, log_of}
use Rattle.pl_history.specs.Legal.{Legal}
use Rattle.pl_granting.specs.Below.pl_settling.proofs.Giving.{gives}
use Rattle.pl_granting.specs.Below.pl_settling.specs.Gives.{Gives}
use Rattle.pl_history.specs.Below.pl_queueing.specs.Queueing.{Made}
use Rattle.pl_journal.specs.About.{is_about, key_of, latest_about}
use Rattle.pl_journal.specs.Log.{Log}
use Rattle.pl_journal.specs.Runs.{decision, queueing, run_told, verdict_told}
use Rattle.pl_journal.specs.Settings.{agent_set, by, file, pipeline, pipeline_told, principal_set}
use Rattle.pl_journal.specs.Settings.{principal_told, resource_set}
use Rattle.pl_keeper.specs.declared.records.Record.{Record}
use Rattle.pl_kept.specs.Kept.{kept_at, Where, File, Pipeline, Resource, Principal, Agent, Run}
use Rattle.pl_kept.specs.Kept.{Stage}
use Rattle.pl_kept.specs.Kept.{Job, Decision, planned_job, planned_stage}
use Rattle.pl_log.proofs.Naming.{exact_key}
use Rattle.pl_log.specs.Keys.{same_key}
use Rattle.pl_log.specs.Keys as key
use Rattle.pl_log.specs.Latest.{latest}
use Rattle.pl_requests.specs.declared.settings.PipelineSetting.{PipelineSetting}
use Rattle.pl_requests.specs.declared.settings.PrincipalSetting.{PrincipalSetting}
use Rattle.pl_never_torn.specs.Free.{AreFree, HasFreeName, IsFree}
use Rattle.pl_never_torn.specs.Rising.{NoneLater}
use Rattle.pl_never_torn.proofs.Late.{latest_has}
use Rattle.pl_never_torn.proofs.Rising.{joined}
use Rattle.pl_never_torn.proofs.Staying.{Keeps, Laws, stays}
use Rattle.pl_never_torn.proofs.Telling.{Tells}

due_free : (facts : List Fact) (moment : ℕ) (told : Event) → Gives facts moment told →
    IsFree told
due_free facts moment (event.PipelineSet told) none = absurd none
due_free facts moment (event.PrincipalSet told) none = absurd none
due_free facts moment _ gives = tt

asked_free : (log : Log) (made : Made) (told : Event) → Tells log made told → IsFree told
asked_free log made (event.PipelineSet told) free = free
asked_free log made (event.PrincipalSet told) free = free.0
asked_free log made _ tells = tt

free_more : (facts : List Fact) (one : Fact) → AreFree facts → IsFree one.event →
    AreFree (facts ++ one ∷ [])
free_more facts one free here =
    joined (λ (fact : Fact). IsFree fact.event) facts (one ∷ []) free (here, tt)

free_keeps : Keeps (λ log. AreFree log.facts)
free_keeps = record {
  due = λ log one before is_due free.
      free_more log.facts one free (due_free log.facts one.moment one.event (gives log.facts
      one.moment one.event is_due));
  asked = λ log made one has before few tells free.
      free_more log.facts one free (asked_free log made one.event tells);
  installed = λ log count free. free;
}

pub free_all : Laws → (opening : Opening) (entries : List Entry) →
    IsOrderly opening → NoneLater (log_of opening []) →
    AreFree (log_of opening []).facts → Legal opening entries →
    AreFree (log_of opening entries).facts
free_all laws opening entries first later free legal =
    stays laws (λ log. AreFree log.facts) free_keeps opening entries first later free legal

-- ---- so those of records are

pub passes : {X : Type 0} (test : X → Bool) (xs : List X) (x : X) → latest test xs ≡ Some x →
    test x ≡ true
passes {X = X} test [] x e = absurd (none_some None x refl e)
passes {X = X} test (y ∷ ys) x e = by (latest test ys) (test y) refl e (passes test ys x) where
  by : (o : Option X) (b : Bool) → test y ≡ b →
      option_or o (if b then Some y else None) ≡ Some x → (o ≡ Some x → test x ≡ true) →
      test x ≡ true
  by (Some z) b told f later = later f
  by None true told f later =
      sym (ap (λ (o : Option X). test (unwrap_or o y)) f) ∙ told
  by None false told f later = absurd (none_some None x refl f)

free_pipeline : (name : List ℕ) (told : Event) → IsFree told →
    same_key (key_of told) (key.Pipeline name) ≡ true → is name (codes "text") ≡ false
free_pipeline name (event.PipelineSet told) free same =
    let e : key.Pipeline told.name ≡ key.Pipeline name =
    exact_key (key.Pipeline told.name) (key.Pipeline name) same in
    let n : told.name ≡ name = cc in
    subst (λ (text : List ℕ). is text (codes "text") ≡ false) n free
free_pipeline name _ free same = absurd (cc)

free_principal : (name : List ℕ) (told : Event) → IsFree told →
    same_key (key_of told) (key.Principal name) ≡ true → is name (codes "admin") ≡ false
free_principal name (event.PrincipalSet told) free same =
    let e : key.Principal told.name ≡ key.Principal name =
    exact_key (key.Principal told.name) (key.Principal name) same in
    let n : told.name ≡ name = cc in
    subst (λ (text : List ℕ). is text (codes "admin") ≡ false) n free
free_principal name _ free same = absurd (cc)

-- what is made of what is there
pub mapped : {X : Type 0} (P : Record → Type 0) (f : X → Record) (o : Option X) →
    ((x : X) → o ≡ Some x → P (f x)) → (told : Record) → option_map f o ≡ Some told → P told
mapped P f None each told e = absurd (none_some None told refl e)
mapped P f (Some x) each told e =
    subst P (ap (λ (o : Option Record). unwrap_or o told) e) (each x refl)

pub led : {X Y : Type 0} (P : Record → Type 0) (g : X → Option Y) (f : X → Y → Record)
    (o : Option X) → ((x : X) (y : Y) → o ≡ Some x → P (f x y)) → (told : Record) →
    option_and_then (λ x. option_map (f x) (g x)) o ≡ Some told → P told
led P g f None each told e = absurd (none_some None told refl e)
led P g f (Some x) each told e = mapped P (f x) (g x) (λ y there. each x y refl) told e

module _ (facts : List Fact) (free : AreFree facts) where
  found_free : (test : Fact → Bool) (fact : Fact) → latest test facts ≡ Some fact →
      IsFree fact.event
  found_free test fact e = latest_has (λ (one : Fact). IsFree one.event) test facts fact free e

  pipeline_free : (name : List ℕ) (set : PipelineSetting) → pipeline name facts ≡ Some set →
      is name (codes "text") ≡ false
  pipeline_free name set e = go (latest_about (key.Pipeline name) facts) refl e where
    go : (o : Option Fact) → latest_about (key.Pipeline name) facts ≡ o →
        by pipeline_told o ≡ Some set → is name (codes "text") ≡ false
    go None found f = absurd (none_some None set refl f)
    go (Some fact) found f =
        free_pipeline name fact.event (found_free (is_about (key.Pipeline name)) fact found)
        (passes (is_about (key.Pipeline name)) facts fact found)

  principal_free : (name : List ℕ) (set : PrincipalSetting) →
      principal_set name facts ≡ Some set → is name (codes "admin") ≡ false
  principal_free name set e = go (latest_about (key.Principal name) facts) refl e where
    go : (o : Option Fact) → latest_about (key.Principal name) facts ≡ o →
        by principal_told o ≡ Some set → is name (codes "admin") ≡ false
    go None found f = absurd (none_some None set refl f)
    go (Some fact) found f =
        free_principal name fact.event (found_free (is_about (key.Principal name)) fact found)
        (passes (is_about (key.Principal name)) facts fact found)

  pub kept_free : (at : Where) (told : Record) → kept_at at facts ≡ Some told → HasFreeName told
  kept_free (File name) told e = mapped HasFreeName _ (file name facts) (λ x h. tt) told e
  kept_free (Pipeline name) told e =
      mapped HasFreeName _ (pipeline name facts) (pipeline_free name) told e
  kept_free (Resource name) told e =
      mapped HasFreeName _ (resource_set name facts) (λ x h. tt) told e
  kept_free (Principal name) told e =
      mapped HasFreeName _ (principal_set name facts) (principal_free name) told e
  kept_free (Agent name) told e = mapped HasFreeName _ (agent_set name facts) (λ x h. tt) told e
  kept_free (Run run) told e =
      led HasFreeName (λ (fact : Fact). run_told fact.event) _ (queueing run facts) (λ x y h. tt)
      told e
  kept_free (Stage run stage) told e =
      mapped HasFreeName _ (planned_stage run stage facts) (λ x h. tt) told e
  kept_free (Job run stage job) told e =
      mapped HasFreeName _ (planned_job run stage job facts) (λ x h. tt) told e
  kept_free (Decision run stage name) told e =
      led HasFreeName (λ (fact : Fact). verdict_told fact.event) _ (decision run stage name facts)
      (λ x y h. tt) told e
