-- Where the facts are told that a test of the journal passes.
use Rattle.std.proofs.Common.{◌≡◌, ℕ, Bool, true, false, true≢false, ◌&&◌, List, Option, Some, None}
use Rattle.std.proofs.Common.{refl, sym, ap, ◌∙◌}
use Rattle.std.specs.Ordering.{is_eq}
use Rattle.std.proofs.lemmas.Map.Lookups.{exact_bytes}
use Rattle.pl_base.specs.Files.{text_cmp}
use Rattle.pl_changes.proofs.Places.{is_equal}
use Rattle.pl_facts.specs.declared.fact.Event.{Event}
use Rattle.pl_facts.specs.declared.fact.Event.TheVariants as event
use Rattle.pl_facts.specs.declared.fact.Fact.{Fact}
use Rattle.pl_journal.specs.About.{is_about, key_of}
use Rattle.pl_journal.specs.Kinds.{is_decision_by, is_stage_end, is_start}
use Rattle.pl_kept.specs.Kept.{Where, File, Pipeline, Resource, Principal, Agent, Run, Stage, Job}
use Rattle.pl_kept.specs.Kept.{Decision}
use Rattle.pl_log.specs.Keys as named
use Rattle.pl_log.specs.Keys.{Named, same_key}
use Rattle.pl_log.proofs.Naming.{exact_key}
use Rattle.pl_opened_laws.proofs.Lists.{never_some, some_is}
use Rattle.pl_opened_laws.proofs.Telling.{where_told}

pub left_of : (a b : Bool) → (a && b) ≡ true → a ≡ true
left_of true b e = refl
left_of false b e = e

pub right_of : (a b : Bool) → (a && b) ≡ true → b ≡ true
right_of true b e = e
right_of false b e = absurd (true≢false (sym e))

pub and_true : (a : Bool) → a ≡ true → (a && true) ≡ true
and_true true e = refl
and_true false e = e

pub and_false : (a : Bool) → (a && false) ≡ false
and_false true = refl
and_false false = refl

pub both_true : (a b : Bool) → a ≡ true → b ≡ true → (a && b) ≡ true
both_true true b x y = y
both_true false b x y = x

-- where all facts about a key are told; those about a stage are told by several rows
abbrev where_key : Named → Option Where
where_key (named.File key) = Some (File key)
where_key (named.Pipeline name) = Some (Pipeline name)
where_key (named.Resource key) = Some (Resource key)
where_key (named.Principal name) = Some (Principal name)
where_key (named.Agent name) = Some (Agent name)
where_key (named.Run run) = Some (Run run)
where_key (named.Stage run stage) = None
where_key (named.Job run stage job) = Some (Job run stage job)

agrees : (one : Event) (at : Where) → where_key (key_of one) ≡ Some at → where_told one ≡ at
agrees (event.FilePut file) at e = some_is (File file.key) at e
agrees (event.FileRemoved key) at e = some_is (File key) at e
agrees (event.PipelineSet told) at e = some_is (Pipeline told.name) at e
agrees (event.ResourceSet told) at e = some_is (Resource told.key) at e
agrees (event.PrincipalSet told) at e = some_is (Principal told.name) at e
agrees (event.AgentSet told) at e = some_is (Agent told.name) at e
agrees (event.RunQueued told) at e = some_is (Run told.run) at e
agrees (event.DecisionMade run stage approver approve) at e = absurd (never_some at (sym e))
agrees (event.StageStarted run stage) at e = absurd (never_some at (sym e))
agrees (event.StageEnded run stage outcome rule) at e = absurd (never_some at (sym e))
agrees (event.JobTaken run stage job agent) at e = some_is (Job run stage job) at e
agrees (event.JobEnded outcome reported stage job run rule outputs) at e =
    some_is (Job run stage job) at e
agrees (event.RunCanceled run) at e = some_is (Run run) at e

pub about : (key : Named) (at : Where) → where_key key ≡ Some at → (fact : Fact) →
    is_about key fact ≡ true → where_told fact.event ≡ at
about key at is fact e =
    agrees fact.event at (ap where_key (exact_key (key_of fact.event) key e) ∙ is)

pub about_kind : (key : Named) (at : Where) (kind : Event → Bool) → where_key key ≡ Some at →
    (fact : Fact) → (is_about key fact && kind fact.event) ≡ true → where_told fact.event ≡ at
about_kind key at kind is fact e =
    about key at is fact (left_of (is_about key fact) (kind fact.event) e)

-- ---- facts about a stage, by their kind

abbrev where_stage : Named → Option Where
where_stage (named.Stage run stage) = Some (Stage run stage)
where_stage _ = None

abbrev where_decided : List ℕ → Named → Option Where
where_decided name (named.Stage run stage) = Some (Decision run stage name)
where_decided name _ = None

start_told : (one : Event) (run stage : ℕ) → key_of one ≡ named.Stage run stage →
    is_start one ≡ true → where_told one ≡ Stage run stage
start_told (event.StageStarted r s) run stage same e =
    some_is (Stage r s) (Stage run stage) (ap where_stage same)
start_told _ run stage same e = absurd (true≢false (sym e))

end_told : (one : Event) (run stage : ℕ) → key_of one ≡ named.Stage run stage →
    is_stage_end one ≡ true → where_told one ≡ Stage run stage
end_told (event.StageEnded r s outcome rule) run stage same e =
    some_is (Stage r s) (Stage run stage) (ap where_stage same)
end_told _ run stage same e = absurd (true≢false (sym e))

decision_told : (one : Event) (run stage : ℕ) (name : List ℕ) →
    key_of one ≡ named.Stage run stage → is_decision_by name one ≡ true →
    where_told one ≡ Decision run stage name
decision_told (event.DecisionMade r s approver approve) run stage name same e =
    some_is (Decision r s approver) (Decision run stage approver)
    (ap (where_decided approver) same) ∙
    ap (λ (who : List ℕ). Decision run stage who)
    (exact_bytes approver name (is_equal (text_cmp approver name) e))
decision_told _ run stage name same e = absurd (true≢false (sym e))

module _ (run stage : ℕ) (fact : Fact) where
  same_stage : (kind : Bool) → (is_about (named.Stage run stage) fact && kind) ≡ true →
      key_of fact.event ≡ named.Stage run stage
  same_stage kind e = exact_key (key_of fact.event) (named.Stage run stage)
      (left_of (is_about (named.Stage run stage) fact) kind e)

  pub start_at : (is_about (named.Stage run stage) fact && is_start fact.event) ≡ true →
      where_told fact.event ≡ Stage run stage
  start_at e = start_told fact.event run stage (same_stage (is_start fact.event) e)
      (right_of (is_about (named.Stage run stage) fact) (is_start fact.event) e)

  pub end_at : (is_about (named.Stage run stage) fact && is_stage_end fact.event) ≡ true →
      where_told fact.event ≡ Stage run stage
  end_at e = end_told fact.event run stage (same_stage (is_stage_end fact.event) e)
      (right_of (is_about (named.Stage run stage) fact) (is_stage_end fact.event) e)

  pub decision_at : (name : List ℕ) →
      (is_about (named.Stage run stage) fact && is_decision_by name fact.event) ≡ true →
      where_told fact.event ≡ Decision run stage name
  decision_at name e = decision_told fact.event run stage name
      (same_stage (is_decision_by name fact.event) e)
      (right_of (is_about (named.Stage run stage) fact) (is_decision_by name fact.event) e)
