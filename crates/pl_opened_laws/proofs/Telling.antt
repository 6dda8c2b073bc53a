-- Which row tells a fact.
use Rattle.std.proofs.Common.{◌≡◌, ◌⊎◌, ℕ, List, [], ◌∷◌, ◌++◌, Option, Some, None, refl, sym, ap}
use Rattle.std.proofs.Common.{subst, ◌∙◌, inl, inr}
use Rattle.std.specs.List.{flat_map}
use Rattle.std.specs.Option.{option_map, option_map_or, option_to_list}
use Rattle.std.proofs.lemmas.List.Sorted.{IsPermutation-sym}
use Rattle.pl_base.specs.declared.row.Row.{Row}
use Rattle.pl_facts.specs.declared.fact.Event.{Event}
use Rattle.pl_facts.specs.declared.fact.Event.TheVariants as event
use Rattle.pl_facts.specs.declared.fact.Fact.{Fact}
use Rattle.pl_keeper.specs.Keeping.{place}
use Rattle.pl_keeper.specs.Rows.{row_of, IsKept}
use Rattle.pl_keeper.specs.declared.records.KeptJob.{KeptJob}
use Rattle.pl_keeper.specs.declared.records.KeptRun.{KeptRun}
use Rattle.pl_keeper.specs.declared.records.KeptStage.{KeptStage}
use Rattle.pl_keeper.specs.declared.records.Record.{Record}
use Rattle.pl_keeper.specs.declared.records.Record.TheVariants as kept
use Rattle.pl_kept.specs.Kept.{Where, File, Pipeline, Resource, Principal, Agent, Run, Stage, Job}
use Rattle.pl_kept.specs.Kept.{Decision}
use Rattle.pl_opened.specs.Opened.{AreFactsOf}
use Rattle.pl_opened.specs.Told as tells
use Rattle.pl_opened.specs.Told.{dated_in, dated_of, setting_facts, setting_of}
use Rattle.pl_rows.specs.Below.pl_places.specs.Places.{place_at, Fits}
use Rattle.pl_plan.specs.declared.plan.Compiled.{Compiled}
use Rattle.pl_torn.specs.declared.seen.Seen.{Seen}
use Rattle.pl_opened_laws.proofs.Lists.{comes_of, goes_in, in_joined, in_left, in_option, in_permuted}
use Rattle.pl_opened_laws.proofs.Lists.{in_right, never_some, some_is, ComesOf, In}

-- ---- where a record's row stands, and the row that tells a fact

abbrev pub where_of : Record → Option Where
where_of (kept.Meta told) = None
where_of (kept.File told) = Some (File told.key)
where_of (kept.Pipeline told) = Some (Pipeline told.name)
where_of (kept.Resource told) = Some (Resource told.key)
where_of (kept.Principal told) = Some (Principal told.name)
where_of (kept.Agent told) = Some (Agent told.name)
where_of (kept.Run told) = Some (Run told.run)
where_of (kept.Stage told) = Some (Stage told.run told.position)
where_of (kept.Job told) = Some (Job told.run told.stage told.position)
where_of (kept.Decision told) = Some (Decision told.run told.stage told.approver)

abbrev pub where_told : Event → Where
where_told (event.FilePut file) = File file.key
where_told (event.FileRemoved key) = File key
where_told (event.PipelineSet told) = Pipeline told.name
where_told (event.ResourceSet told) = Resource told.key
where_told (event.PrincipalSet told) = Principal told.name
where_told (event.AgentSet told) = Agent told.name
where_told (event.RunQueued told) = Run told.run
where_told (event.DecisionMade run stage approver approve) = Decision run stage approver
where_told (event.StageStarted run stage) = Stage run stage
where_told (event.StageEnded run stage outcome rule) = Stage run stage
where_told (event.JobTaken run stage job agent) = Job run stage job
where_told (event.JobEnded outcome reported stage job run rule outputs) = Job run stage job
where_told (event.RunCanceled run) = Run run

pub stands_where : (told : Record) (at : Where) → where_of told ≡ Some at →
    place (row_of told) ≡ place_at at
stands_where (kept.Meta told) at e = absurd (never_some at (sym e))
stands_where (kept.File told) at e = ap place_at (some_is (File told.key) at e)
stands_where (kept.Pipeline told) at e = ap place_at (some_is (Pipeline told.name) at e)
stands_where (kept.Resource told) at e = ap place_at (some_is (Resource told.key) at e)
stands_where (kept.Principal told) at e = ap place_at (some_is (Principal told.name) at e)
stands_where (kept.Agent told) at e = ap place_at (some_is (Agent told.name) at e)
stands_where (kept.Run told) at e = ap place_at (some_is (Run told.run) at e)
stands_where (kept.Stage told) at e = ap place_at (some_is (Stage told.run told.position) at e)
stands_where (kept.Job told) at e =
    ap place_at (some_is (Job told.run told.stage told.position) at e)
stands_where (kept.Decision told) at e =
    ap place_at (some_is (Decision told.run told.stage told.approver) at e)

pub fits_where : (told : Record) (at : Where) → where_of told ≡ Some at → IsKept told → Fits at
fits_where (kept.Meta told) at e is = absurd (never_some at (sym e))
fits_where (kept.File told) at e is = subst Fits (some_is (File told.key) at e) is.0
fits_where (kept.Pipeline told) at e is = subst Fits (some_is (Pipeline told.name) at e) is.0
fits_where (kept.Resource told) at e is = subst Fits (some_is (Resource told.key) at e) is.0
fits_where (kept.Principal told) at e is = subst Fits (some_is (Principal told.name) at e) is.0
fits_where (kept.Agent told) at e is = subst Fits (some_is (Agent told.name) at e) is.0
fits_where (kept.Run told) at e is = subst Fits (some_is (Run told.run) at e) is.0
fits_where (kept.Stage told) at e is =
    subst Fits (some_is (Stage told.run told.position) at e) is.0
fits_where (kept.Job told) at e is =
    subst Fits (some_is (Job told.run told.stage told.position) at e) is.0
fits_where (kept.Decision told) at e is =
    subst Fits (some_is (Decision told.run told.stage told.approver) at e) is.0

-- a record without a place like these is that of the service's numbers
pub numbers_where : (told : Record) → where_of told ≡ None → place (row_of told) ≡ (0, [])
numbers_where (kept.Meta told) e = refl
numbers_where (kept.File told) e = absurd (never_some (File told.key) e)
numbers_where (kept.Pipeline told) e = absurd (never_some (Pipeline told.name) e)
numbers_where (kept.Resource told) e = absurd (never_some (Resource told.key) e)
numbers_where (kept.Principal told) e = absurd (never_some (Principal told.name) e)
numbers_where (kept.Agent told) e = absurd (never_some (Agent told.name) e)
numbers_where (kept.Run told) e = absurd (never_some (Run told.run) e)
numbers_where (kept.Stage told) e = absurd (never_some (Stage told.run told.position) e)
numbers_where (kept.Job told) e = absurd (never_some (Job told.run told.stage told.position) e)
numbers_where (kept.Decision told) e =
    absurd (never_some (Decision told.run told.stage told.approver) e)

-- ---- the facts that a row tells

abbrev pub tells_in : Option Compiled → Record → List Fact
tells_in compiled told = setting_facts told ++ dated_in compiled told

abbrev pub tells_of : Seen → List Fact
tells_of one = setting_of one ++ dated_of one

abbrev Tells : Where → Fact → Type 0
Tells at fact = Some at ≡ Some (where_told fact.event)

-- of one that may be there
module _ {X : Type 0} (f : X → Fact) (at : Where) (each : (x : X) → at ≡ where_told (f x).event) where
  may_tell : (o : Option X) (fact : Fact) → In fact (option_to_list (option_map f o)) →
      Tells at fact
  may_tell o fact is = let found = in_option f o fact is in
      ap Some (each found.0) ∙ ap (λ (one : Fact). Some (where_told one.event)) found.2

one_tells : (at : Where) (one fact : Fact) → at ≡ where_told one.event → In fact (one ∷ []) →
    Tells at fact
one_tells at one fact here (inl same) =
    ap Some here ∙ ap (λ (other : Fact). Some (where_told other.event)) same
one_tells at one fact here (inr rest) = absurd rest

two_tell : (at : Where) (xs ys : List Fact) (fact : Fact) → (In fact xs → Tells at fact) →
    (In fact ys → Tells at fact) → In fact xs ⊎ In fact ys → Tells at fact
two_tell at xs ys fact left right (inl is) = left is
two_tell at xs ys fact left right (inr is) = right is

run_tells : (compiled : Option Compiled) (told : KeptRun) (fact : Fact) →
    In fact (tells.run_facts compiled told) → Tells (Run told.run) fact
run_tells compiled told fact is =
    let queued = option_to_list (option_map (tells.queueing told) compiled) in
    let canceled = option_to_list
    (option_map (λ moment. tells.at moment (event.RunCanceled told.run)) told.canceled) in
    two_tell (Run told.run) queued canceled fact
    (may_tell (tells.queueing told) (Run told.run) (λ made. refl) compiled fact)
    (may_tell (λ moment. tells.at moment (event.RunCanceled told.run)) (Run told.run)
    (λ moment. refl) told.canceled fact) (in_joined fact queued canceled is)

stage_tells : (told : KeptStage) (fact : Fact) → In fact (tells.stage_facts told) →
    Tells (Stage told.run told.position) fact
stage_tells told fact is =
    let here = Stage told.run told.position in
    let started = option_to_list (option_map
    (λ moment. tells.at moment (event.StageStarted told.run told.position)) told.started) in
    let ended = option_to_list (option_map (tells.stage_end told) told.ended) in
    two_tell here started ended fact
    (may_tell (λ moment. tells.at moment (event.StageStarted told.run told.position)) here
    (λ moment. refl) told.started fact)
    (may_tell (tells.stage_end told) here (λ end. refl) told.ended fact)
    (in_joined fact started ended is)

job_tells : (told : KeptJob) (fact : Fact) → In fact (tells.job_facts told) →
    Tells (Job told.run told.stage told.position) fact
job_tells told fact is =
    let here = Job told.run told.stage told.position in
    let begun = tells.taking told.run told.stage told.position in
    let end = tells.job_end told.run told.stage told.position in
    let taken = option_to_list (option_map begun told.taken) in
    let ended = option_to_list (option_map end told.ended) in
    two_tell here taken ended fact (may_tell begun here (λ one. refl) told.taken fact)
    (may_tell end here (λ one. refl) told.ended fact) (in_joined fact taken ended is)

-- a fact is told by a row that stands where that kind of fact is told
pub tells_where : (compiled : Option Compiled) (told : Record) (fact : Fact) →
    In fact (tells_in compiled told) → where_of told ≡ Some (where_told fact.event)
tells_where compiled (kept.Meta told) fact is = absurd is
tells_where compiled (kept.File told) fact is = one_tells (File told.key)
    (tells.at 0 (event.FilePut (record { key = told.key; text = told.text }))) fact refl is
tells_where compiled (kept.Pipeline told) fact is = one_tells (Pipeline told.name)
    (tells.at 0 (event.PipelineSet (record {
      name = told.name;
      repo = told.repo;
      path = told.path;
    }))) fact refl is
tells_where compiled (kept.Resource told) fact is = one_tells (Resource told.key)
    (tells.at 0 (event.ResourceSet (record {
      key = told.key;
      pipelines = told.pipelines;
      exclusive = told.exclusive;
      checks = told.checks;
    }))) fact refl is
tells_where compiled (kept.Principal told) fact is = one_tells (Principal told.name)
    (tells.at 0 (event.PrincipalSet (record {
      name = told.name;
      roles = told.roles;
      digest = told.digest;
    }))) fact refl is
tells_where compiled (kept.Agent told) fact is = one_tells (Agent told.name)
    (tells.at 0 (event.AgentSet (record {
      name = told.name;
      pool = told.pool;
      capabilities = told.capabilities;
    }))) fact refl is
tells_where compiled (kept.Run told) fact is = run_tells compiled told fact is
tells_where compiled (kept.Stage told) fact is = stage_tells told fact is
tells_where compiled (kept.Job told) fact is = job_tells told fact is
tells_where compiled (kept.Decision told) fact is =
    one_tells (Decision told.run told.stage told.approver) (tells.decision told) fact refl is

-- ---- all facts, and the rows that tell them

tells_split : (one : Seen) (fact : Fact) → In fact (setting_of one) ⊎ In fact (dated_of one) →
    In fact (tells_of one)
tells_split one fact (inl is) = in_left fact (setting_of one) (dated_of one) is
tells_split one fact (inr is) = in_right fact (setting_of one) (dated_of one) is

module _ (all : List Seen) (facts : List Fact) (are : AreFactsOf all facts) where
  setting_told : (fact : Fact) → ComesOf setting_of all fact → ComesOf tells_of all fact
  setting_told fact is = record {
    one = is.one;
    there = is.there;
    among = tells_split is.one fact (inl is.among);
  }

  dated_told : (fact : Fact) → ComesOf dated_of all fact → ComesOf tells_of all fact
  dated_told fact is = record {
    one = is.one;
    there = is.there;
    among = tells_split is.one fact (inr is.among);
  }

  told_by : (fact : Fact) → In fact (flat_map setting_of all) ⊎ In fact are.dated →
      ComesOf tells_of all fact
  told_by fact (inl is) = setting_told fact (comes_of setting_of all fact is)
  told_by fact (inr is) = dated_told fact (comes_of dated_of all fact
      (in_permuted (flat_map dated_of all) are.dated are.sorted.same fact is))

  -- a fact is one that a row tells
  pub fact_told : (fact : Fact) → In fact facts → ComesOf tells_of all fact
  fact_told fact is = told_by fact (in_joined fact (flat_map setting_of all) are.dated
      (subst (λ (some : List Fact). In fact some) are.whole is))

  told_in : (one : Seen) → In one all → (fact : Fact) →
      In fact (setting_of one) ⊎ In fact (dated_of one) →
      In fact (flat_map setting_of all ++ are.dated)
  told_in one there fact (inl is) = in_left fact (flat_map setting_of all) are.dated
      (goes_in setting_of all one fact there is)
  told_in one there fact (inr is) = in_right fact (flat_map setting_of all) are.dated
      (in_permuted are.dated (flat_map dated_of all)
      (IsPermutation-sym (flat_map dated_of all) are.dated are.sorted.same) fact
      (goes_in dated_of all one fact there is))

  -- and what a row tells is one of the facts
  pub told_fact : (one : Seen) → In one all → (fact : Fact) → In fact (tells_of one) → In fact facts
  told_fact one there fact is = subst (λ (some : List Fact). In fact some) (sym are.whole)
      (told_in one there fact (in_joined fact (setting_of one) (dated_of one) is))

-- what a row tells, where it was read as a record
pub tells_as : (one : Seen) (told : Record) → one.kept ≡ Some told →
    tells_of one ≡ tells_in one.compiled told
tells_as one told is = ap (λ (o : Option Record).
    option_map_or setting_facts o [] ++ option_map_or (dated_in one.compiled) o []) is

-- a row that tells a fact was read as a record
pub record IsToldBy (one : Seen) (fact : Fact) : Type 0 where
  pub told : Record
  pub is : one.kept ≡ Some told
  pub here : where_of told ≡ Some (where_told fact.event)
  pub among : In fact (tells_in one.compiled told)

told_as : (one : Seen) (fact : Fact) (o : Option Record) → one.kept ≡ o →
    In fact (option_map_or setting_facts o [] ++ option_map_or (dated_in one.compiled) o []) →
    IsToldBy one fact
told_as one fact None is among = absurd among
told_as one fact (Some told) is among = record {
  told = told;
  is = is;
  here = tells_where one.compiled told fact among;
  among = among;
}

pub is_told : (one : Seen) (fact : Fact) → In fact (tells_of one) → IsToldBy one fact
is_told one fact among = told_as one fact one.kept refl among
