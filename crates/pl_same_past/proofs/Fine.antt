-- What each fact of whole rows says: names are free, and runs were compiled to what their own
-- sources compile to.
use Rattle.std.proofs.Common.{◌≡◌, ◌⊎◌, ◌||◌, ℕ, Bool, true, false, List, [], ◌∷◌, ◌++◌, Option, Some}
use Rattle.std.proofs.Common.{None, codes, inl, inr, refl, sym, ap, subst, ◌∙◌}
use Rattle.std.specs.List.{list_any}
use Rattle.std.specs.Option.{option_map, option_to_list}
use Rattle.pl_base.specs.Texts.{is}
use Rattle.pl_base.specs.declared.digest.Digest.{Digest}
use Rattle.pl_base.specs.declared.row.Row.{Row}
use Rattle.pl_facts.specs.declared.fact.Event.{Event}
use Rattle.pl_facts.specs.declared.fact.Event.TheVariants as event
use Rattle.pl_facts.specs.declared.fact.Fact.{Fact}
use Rattle.pl_keeper.specs.declared.records.KeptJob.{KeptJob}
use Rattle.pl_keeper.specs.declared.records.KeptRun.{KeptRun}
use Rattle.pl_keeper.specs.declared.records.KeptStage.{KeptStage}
use Rattle.pl_keeper.specs.declared.records.Record.{Record}
use Rattle.pl_keeper.specs.declared.records.Record.TheVariants as kept
use Rattle.pl_never_torn.specs.Free.{AreFree, IsFree}
use Rattle.pl_never_torn.specs.Own.{AreOwn, IsOwn}
use Rattle.pl_opened.specs.Told as tells
use Rattle.pl_opening_laws.specs.Below.pl_opening.specs.Below.pl_opened_laws.proofs.Good.{neither}
use Rattle.pl_opening_laws.specs.Below.pl_opening.specs.Below.pl_opened_laws.proofs.Known.{good_of, made_of, AreOpened}
use Rattle.pl_opening_laws.specs.Below.pl_opening.specs.Below.pl_opened_laws.proofs.Lists.{in_each, in_joined, in_option, In}
use Rattle.pl_opening_laws.specs.Below.pl_opening.specs.Below.pl_opened_laws.proofs.Telling.{fact_told, is_told, tells_in}
use Rattle.pl_plan.specs.declared.plan.Compiled.{Compiled}
use Rattle.pl_plan.specs.declared.plan.Sources.{Sources}
use Rattle.pl_never_torn.specs.Below.pl_seeing.specs.Seeing.{sources_of, IsCompileOf, IsMadeBy, IsMadeOf}
use Rattle.pl_torn.specs.Names.{has_digest, same_digest}
use Rattle.pl_torn.specs.Torn.{is_bad_record}
use Rattle.pl_torn.specs.declared.seen.Seen.{Seen}

abbrev pub IsFine : Event → Type 0
IsFine one = IsOwn one × IsFree one

one_fine : (one fact : Fact) → IsFine one.event → In fact (one ∷ []) → IsFine fact.event
one_fine one fact fine (inl same) = subst (λ (f : Fact). IsFine f.event) same fine
one_fine one fact fine (inr rest) = absurd rest

-- of one that may be there
may_fine : {X : Type 0} (f : X → Fact) (o : Option X) → ((x : X) → o ≡ Some x →
    IsFine (f x).event) → (fact : Fact) → In fact (option_to_list (option_map f o)) →
    IsFine fact.event
may_fine f o each fact among =
    let found = in_option f o fact among in
    subst (λ (one : Fact). IsFine one.event) found.2 (each found.0 found.1)

two_fine : (xs ys : List Fact) (fact : Fact) → (In fact xs → IsFine fact.event) →
    (In fact ys → IsFine fact.event) → In fact xs ⊎ In fact ys → IsFine fact.event
two_fine xs ys fact left right (inl among) = left among
two_fine xs ys fact left right (inr among) = right among

run_fine : (compiled : Option Compiled) (told : KeptRun) → IsMadeOf (sources_of told) compiled →
    (fact : Fact) → In fact (tells.run_facts compiled told) → IsFine fact.event
run_fine compiled told made fact among =
    let queued = option_to_list (option_map (tells.queueing told) compiled) in
    let canceled = option_to_list
    (option_map (λ moment. tells.at moment (event.RunCanceled told.run)) told.canceled) in
    two_fine queued canceled fact
    (may_fine (tells.queueing told) compiled own fact)
    (may_fine (λ moment. tells.at moment (event.RunCanceled told.run)) told.canceled
    (λ moment e. (tt, tt)) fact) (in_joined fact queued canceled among)
  where
    own : (one : Compiled) → compiled ≡ Some one → IsFine (tells.queueing told one).event
    own one e =
        let is : IsCompileOf (sources_of told) one =
        subst (λ (o : Option Compiled). IsMadeOf (sources_of told) o) e made in
        (subst (λ (s : Sources). IsCompileOf s one) (sym is.same) is, tt)

stage_fine : (told : KeptStage) (fact : Fact) → In fact (tells.stage_facts told) →
    IsFine fact.event
stage_fine told fact among =
    let started = option_to_list (option_map
    (λ moment. tells.at moment (event.StageStarted told.run told.position)) told.started) in
    let ended = option_to_list (option_map (tells.stage_end told) told.ended) in
    two_fine started ended fact
    (may_fine (λ moment. tells.at moment (event.StageStarted told.run told.position)) told.started
    (λ moment e. (tt, tt)) fact)
    (may_fine (tells.stage_end told) told.ended (λ end e. (tt, tt)) fact)
    (in_joined fact started ended among)

job_fine : (told : KeptJob) (fact : Fact) → In fact (tells.job_facts told) → IsFine fact.event
job_fine told fact among =
    let begun = tells.taking told.run told.stage told.position in
    let end = tells.job_end told.run told.stage told.position in
    let taken = option_to_list (option_map begun told.taken) in
    let ended = option_to_list (option_map end told.ended) in
    two_fine taken ended fact (may_fine begun told.taken (λ one e. (tt, tt)) fact)
    (may_fine end told.ended (λ one e. (tt, tt)) fact) (in_joined fact taken ended among)

tells_fine : (admin : Digest) (all before : List Seen) (compiled : Option Compiled)
    (told : Record) → IsMadeBy (Some told) compiled →
    is_bad_record admin all before compiled told ≡ false → (fact : Fact) →
    In fact (tells_in compiled told) → IsFine fact.event
tells_fine admin all before compiled (kept.Meta told) made good fact among = absurd among
tells_fine admin all before compiled (kept.File told) made good fact among = one_fine
    (tells.at 0 (event.FilePut (record { key = told.key; text = told.text }))) fact (tt, tt) among
tells_fine admin all before compiled (kept.Pipeline told) made good fact among = one_fine
    (tells.at 0 (event.PipelineSet (record {
      name = told.name;
      repo = told.repo;
      path = told.path;
    }))) fact (tt, good) among
tells_fine admin all before compiled (kept.Resource told) made good fact among = one_fine
    (tells.at 0 (event.ResourceSet (record {
      key = told.key;
      pipelines = told.pipelines;
      exclusive = told.exclusive;
      checks = told.checks;
    }))) fact (tt, tt) among
tells_fine admin all before compiled (kept.Principal told) made good fact among = one_fine
    (tells.at 0 (event.PrincipalSet (record {
      name = told.name;
      roles = told.roles;
      digest = told.digest;
    }))) fact (
      tt,
      (neither (is told.name (codes "admin"))
          (same_digest told.digest admin || list_any (has_digest told.digest) before) good).0,
    ) among
tells_fine admin all before compiled (kept.Agent told) made good fact among = one_fine
    (tells.at 0 (event.AgentSet (record {
      name = told.name;
      pool = told.pool;
      capabilities = told.capabilities;
    }))) fact (tt, tt) among
tells_fine admin all before compiled (kept.Run told) made good fact among =
    run_fine compiled told made fact among
tells_fine admin all before compiled (kept.Stage told) made good fact among =
    stage_fine told fact among
tells_fine admin all before compiled (kept.Job told) made good fact among =
    job_fine told fact among
tells_fine admin all before compiled (kept.Decision told) made good fact among =
    one_fine (tells.decision told) fact (tt, tt) among

module _ {admin : Digest} {rows : List Row} {all : List Seen} {facts : List Fact}
    (opens : AreOpened admin rows all facts) where
  fact_fine : (fact : Fact) → In fact facts → IsFine fact.event
  fact_fine fact among =
      let by = fact_told all facts opens.are fact among in
      let other = is_told by.one fact by.among in
      let good = good_of opens by.one by.there other.told other.is in
      tells_fine admin all good.before by.one.compiled other.told
      (made_of opens by.one by.there other.told other.is) good.good fact other.among

  pub are_own : AreOwn facts
  are_own = in_each (λ (fact : Fact). IsOwn fact.event) facts
      (λ fact among. (fact_fine fact among).0)

  pub are_free : AreFree facts
  are_free = in_each (λ (fact : Fact). IsFree fact.event) facts
      (λ fact among. (fact_fine fact among).1)
