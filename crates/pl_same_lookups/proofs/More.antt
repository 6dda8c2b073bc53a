-- Behind one fact more the same is found.
use Rattle.std.proofs.Common.{◌≡◌, ◌&&◌, ◌++◌, ℕ, Bool, true, false, List, [], ◌∷◌, Option, Some, None}
use Rattle.std.proofs.Common.{append-nil, append_assoc, refl, sym, ap, subst, ◌∙◌}
use Rattle.pl_base.specs.declared.place.FileKey.{FileKey}
use Rattle.pl_base.specs.declared.resource.ResourceKey.{ResourceKey}
use Rattle.pl_facts.specs.declared.fact.Event.{Event}
use Rattle.pl_facts.specs.declared.fact.Fact.{Fact}
use Rattle.pl_journal.specs.About.{is_about}
use Rattle.pl_journal.specs.Kinds.{is_canceling, is_decision_by, is_job_end, is_queueing}
use Rattle.pl_journal.specs.Kinds.{is_stage_end, is_start, is_taking}
use Rattle.pl_journal.specs.Settings.{agent_told, by, file_told, pipeline_told, principal_told}
use Rattle.pl_journal.specs.Settings.{resource_told}
use Rattle.pl_log.specs.Keys.{Named, Agent, File, Job, Pipeline, Principal, Resource, Run, Stage}
use Rattle.pl_log.specs.Latest.{latest}
use Rattle.pl_same_lookups.specs.Alike.{LookAlike}
use Rattle.pl_settling.proofs.Behind.{touched, untouched}

module _ (facts other : List Fact) (one : Fact) where
  -- the latest that passes a test
  found_more : (test : Fact → Bool) → latest test facts ≡ latest test other →
      latest test (facts ++ one ∷ []) ≡ latest test (other ++ one ∷ [])
  found_more test same = go (test one) refl where
    go : (b : Bool) → test one ≡ b →
        latest test (facts ++ one ∷ []) ≡ latest test (other ++ one ∷ [])
    go true is = touched test facts one is ∙ sym (touched test other one is)
    go false is = untouched test facts one is ∙ (same ∙ sym (untouched test other one is))

  -- and what it tells
  told_more : {X : Type 0} (told : Event → Option X) (test : Fact → Bool) →
      by told (latest test facts) ≡ by told (latest test other) →
      by told (latest test (facts ++ one ∷ [])) ≡ by told (latest test (other ++ one ∷ []))
  told_more told test same = go (test one) refl where
    go : (b : Bool) → test one ≡ b →
        by told (latest test (facts ++ one ∷ [])) ≡ by told (latest test (other ++ one ∷ []))
    go true is = ap (λ (o : Option Fact). by told o) (touched test facts one is
        ∙ sym (touched test other one is))
    go false is = ap (λ (o : Option Fact). by told o) (untouched test facts one is)
        ∙ (same ∙ ap (λ (o : Option Fact). by told o) (sym (untouched test other one is)))

  abbrev of : Named → (Event → Bool) → Fact → Bool
  of key kind fact = is_about key fact && kind fact.event

  pub alike_more : LookAlike facts other → LookAlike (facts ++ one ∷ []) (other ++ one ∷ [])
  alike_more alike = record {
    files = λ key. told_more file_told (is_about (File key)) (alike.files key);
    pipelines = λ name. told_more pipeline_told (is_about (Pipeline name)) (alike.pipelines name);
    resources = λ key. told_more resource_told (is_about (Resource key)) (alike.resources key);
    principals = λ name.
        told_more principal_told (is_about (Principal name)) (alike.principals name);
    agents = λ name. told_more agent_told (is_about (Agent name)) (alike.agents name);
    queueings = λ run. found_more (of (Run run) is_queueing) (alike.queueings run);
    cancelings = λ run. found_more (of (Run run) is_canceling) (alike.cancelings run);
    starts = λ run stage. found_more (of (Stage run stage) is_start) (alike.starts run stage);
    ends = λ run stage. found_more (of (Stage run stage) is_stage_end) (alike.ends run stage);
    takings = λ run stage job.
        found_more (of (Job run stage job) is_taking) (alike.takings run stage job);
    job_ends = λ run stage job.
        found_more (of (Job run stage job) is_job_end) (alike.job_ends run stage job);
    decisions = λ run stage name.
        found_more (of (Stage run stage) (is_decision_by name)) (alike.decisions run stage name);
  }

-- and behind some facts more
pub alike_behind : (facts other added : List Fact) → LookAlike facts other →
    LookAlike (facts ++ added) (other ++ added)
alike_behind facts other [] alike = subst (λ (xs : List Fact). LookAlike xs (other ++ []))
    (sym (append-nil facts)) (subst (λ (ys : List Fact). LookAlike facts ys)
    (sym (append-nil other)) alike)
alike_behind facts other (one ∷ added) alike =
    subst (λ (xs : List Fact). LookAlike xs (other ++ one ∷ added))
    (append_assoc facts (one ∷ []) added)
    (subst (λ (ys : List Fact). LookAlike ((facts ++ one ∷ []) ++ added) ys)
    (append_assoc other (one ∷ []) added)
    (alike_behind (facts ++ one ∷ []) (other ++ one ∷ []) added
    (alike_more facts other one alike)))
