-- What is left to be said of the rows of a state, by tables.
use Rattle.std.proofs.Common.{◌≡◌, ◌⊎◌, inl, inr, ◌&&◌, ◌||◌, ℕ, ◌<◌, ◌^◌, Bool, true, false}
use Rattle.std.proofs.Common.{true≢false}
use Rattle.std.proofs.Common.{List, [], ◌∷◌, ◌++◌, Option, Some, None, refl, sym, ap, subst, ◌∙◌}
use Rattle.std.specs.List.{list_any, AllByRecursion}
use Rattle.std.specs.Option.{option_and_then, option_map, option_map_or}
use Rattle.std.specs.Ordering.{is_eq}
use Rattle.std.specs.Prelude.{is_none, slice_get, unwrap_or, IfSome}
use Rattle.pl_base.specs.Files.{text_cmp}
use Rattle.pl_base.specs.declared.resource.ResourceKey.{ResourceKey}
use Rattle.pl_base.specs.declared.row.Row.{Row}
use Rattle.pl_changes.specs.Differing.{Ascend}
use Rattle.pl_changes.proofs.Leading.{none_some, or_false}
use Rattle.pl_changes.proofs.Places.{is_less, itself, then_not, Place}
use Rattle.pl_facts.specs.declared.fact.Fact.{Fact}
use Rattle.pl_facts.specs.declared.fact.QueuedRun.{QueuedRun}
use Rattle.pl_plan.specs.declared.plan.PlanJob.{PlanJob}
use Rattle.pl_plan.specs.declared.plan.PlanStage.{PlanStage}
use Rattle.pl_granting.specs.Grantable.{AreDone}
use Rattle.pl_granting.specs.Below.pl_settling.specs.Laws.{HasOneHolder}
use Rattle.pl_journal.specs.Log.{Log}
use Rattle.pl_journal.specs.Settings.{principal_set}
use Rattle.pl_keeper.specs.Keeping.{comes_before, place, place_cmp}
use Rattle.pl_keeper.specs.declared.records.KeptDecision.{KeptDecision}
use Rattle.pl_keeper.specs.declared.records.KeptJob.{KeptJob}
use Rattle.pl_keeper.specs.declared.records.KeptPrincipal.{KeptPrincipal}
use Rattle.pl_keeper.specs.declared.records.KeptRun.{KeptRun}
use Rattle.pl_keeper.specs.declared.records.KeptStage.{KeptStage}
use Rattle.pl_keeper.specs.declared.records.Meta.{Meta}
use Rattle.pl_keeper.specs.declared.records.Record.{Record}
use Rattle.pl_keeper.specs.declared.records.Record.TheVariants as kept
use Rattle.pl_kept.specs.Kept.{kept_at, numbers_kept, planned_stage, Where, Decision}
use Rattle.pl_kept.specs.Kept.{Job, Principal, Stage}
use Rattle.pl_places.specs.Places.{place_at, Fits}
use Rattle.pl_requests.specs.declared.settings.PrincipalSetting.{PrincipalSetting}
use Rattle.pl_torn.specs.Exclusive.{is_held, is_running, is_sharing, runs_on, share}
use Rattle.pl_torn.specs.Holding.{has_other, holder, holds, is_holder, is_leg_too_many}
use Rattle.pl_torn.specs.Holding.{is_out_of_stage}
use Rattle.pl_torn.specs.Looking.{meta_told}
use Rattle.pl_torn.specs.Looking as torn
use Rattle.pl_torn.specs.Moments.{is_job_late, is_job_off, is_late, is_run_late}
use Rattle.pl_torn.specs.Moments.{is_stage_late, is_stage_off}
use Rattle.pl_torn.specs.Names.{has_digest, same_digest}
use Rattle.pl_torn.specs.Plans.{is_above}
use Rattle.pl_torn.specs.Seen.{job_in, meta_in, principal_in, stage_in}
use Rattle.pl_torn.specs.declared.seen.Seen.{Seen}
use Rattle.pl_reread.specs.Reread.{AreMade, AreTheNumbers, AreToldBy, IsGood, IsToldAt}
use Rattle.pl_reread.specs.Reread.{LeaveNothing}
use Rattle.pl_reread.specs.Reread.{SaysNothing}
use Rattle.pl_reread.proofs.Judging.{picked}
use Rattle.pl_reread.proofs.Planned.{stage_is}
use Rattle.pl_reread.proofs.Rereading.{rows_in}
use Rattle.pl_reread.proofs.Saying.{of_place}
use Rattle.pl_never_torn.specs.Free.{HasFreeName}
use Rattle.pl_never_torn.specs.Late.{IsNotLate}
use Rattle.pl_never_torn.specs.Owners.{AreApart}
use Rattle.pl_never_torn.specs.Planned.{IsBelow}
use Rattle.pl_never_torn.specs.Stages.{AreInTime}
use Rattle.pl_never_torn.specs.Jobs.{AreJobsInTime}
use Rattle.pl_never_torn.specs.Holders.{HoldOne}
use Rattle.pl_never_torn.proofs.HolderRows.{holds_so, one_place}
use Rattle.pl_never_torn.proofs.Owners.{same}
use Rattle.pl_never_torn.proofs.HeldRows.{none_shared, planned_at}
use Rattle.pl_never_torn.proofs.JobRows.{in_stage, tells_job}
use Rattle.pl_never_torn.proofs.JobRows.{not_off as job_not_off}
use Rattle.pl_never_torn.proofs.StageRows.{never_false, not_off, tells_stage}

-- ---- of rows that ascend each comes behind those in front of it

behind_row : (P : Row → Type 0) (front : List Seen) (one : Seen) (rest : List Seen) →
    AllByRecursion P (rows_in (front ++ one ∷ rest)) → P one.row.now
behind_row P [] one rest each = each.0
behind_row P (other ∷ front) one rest each = behind_row P front one rest each.1

-- no row in front has a place that it has
none_in_front : (P : Seen → Type 0) (test : Seen → Bool) (front : List Seen) (one : Seen)
    (rest : List Seen) → Ascend (rows_in (front ++ one ∷ rest)) →
    AllByRecursion P (front ++ one ∷ rest) →
    ((other : Seen) → P other → comes_before other.row.now one.row.now ≡ true →
    test other ≡ false) → list_any test front ≡ false
none_in_front P test [] one rest ascend each fails = refl
none_in_front P test (other ∷ front) one rest ascend each fails =
    or_false (test other) (list_any test front)
    (fails other each.0 (behind_row (λ later. comes_before other.row.now later ≡ true) front one
    rest ascend.0))
    (none_in_front P test front one rest ascend.1 each.1 fails)

pub not_itself : (p q : Place) (one other : Row) → place one ≡ p → place other ≡ p →
    comes_before other one ≡ true → ⊥
not_itself p q one other here there before =
    true≢false (sym (itself p) ∙ (ap (λ (it : Place). is_eq (place_cmp it p)) (sym there)
    ∙ (ap (λ (it : Place). is_eq (place_cmp (place other) it)) (sym here)
    ∙ then_not (place other) (place one)
    (is_less (place_cmp (place other) (place one)) before))))

-- ---- a principal that is kept was set

abbrev digest_in : Record → List ℕ
digest_in (kept.Principal told) = told.digest.bytes
digest_in _ = []

record IsSet (facts : List Fact) (here : Where) (told : KeptPrincipal) : Type 0 where
  name : List ℕ
  at : here ≡ Principal name
  set : PrincipalSetting
  is : principal_set name facts ≡ Some set
  has : set.digest.bytes ≡ told.digest.bytes

set_at : (facts : List Fact) (name : List ℕ) (told : KeptPrincipal) →
    kept_at (Principal name) facts ≡ Some (kept.Principal told) →
    IsSet facts (Principal name) told
set_at facts name told e = go (principal_set name facts) refl e where
  go : (o : Option PrincipalSetting) → principal_set name facts ≡ o →
      option_map (λ set. kept.Principal (record {
        name = name;
        roles = set.roles;
        digest = set.digest;
      })) o ≡ Some (kept.Principal told) → IsSet facts (Principal name) told
  go None f h = absurd (none_some None (kept.Principal told) refl h)
  go (Some set) f h = record {
    name = name;
    at = refl;
    set = set;
    is = f;
    has = ap (λ (o : Option Record). option_map_or digest_in o []) h;
  }

set_of : (facts : List Fact) (here : Where) (told : KeptPrincipal) →
    kept_at here facts ≡ Some (kept.Principal told) → IsSet facts here told
set_of facts here told e =
    let same : here ≡ Principal told.name = ap (λ (o : Option Where). unwrap_or o here)
    (sym (of_place facts here (kept.Principal told) e)) in
    subst (λ (w : Where). IsSet facts w told) (sym same) (set_at facts told.name told
    (subst (λ (w : Where). kept_at w facts ≡ Some (kept.Principal told)) same e))

-- the place of a decision fits, so its run's number does
decided_fits : (facts : List Fact) (here : Where) (told : KeptDecision) → Fits here →
    kept_at here facts ≡ Some (kept.Decision told) → told.run < 2 ^ 64
decided_fits facts here told fits e =
    let same : here ≡ Decision told.run told.stage told.approver =
    ap (λ (o : Option Where). unwrap_or o here)
    (sym (of_place facts here (kept.Decision told) e)) in
    (subst Fits same fits).0

abbrev pub is_numbers : Record → Bool
is_numbers (kept.Meta told) = true
is_numbers _ = false

-- the place of a stage's record
stage_where : (facts : List Fact) (here : Where) (told : KeptStage) →
    kept_at here facts ≡ Some (kept.Stage told) → here ≡ Stage told.run told.position
stage_where facts here told e = ap (λ (o : Option Where). unwrap_or o here)
    (sym (of_place facts here (kept.Stage told) e))

stage_there : (facts : List Fact) (here : Where) (told : KeptStage) →
    kept_at here facts ≡ Some (kept.Stage told) →
    kept_at (Stage told.run told.position) facts ≡ Some (kept.Stage told)
stage_there facts here told e =
    subst (λ (w : Where). kept_at w facts ≡ Some (kept.Stage told))
    (stage_where facts here told e) e

-- the place of a job's record
pub job_where : (facts : List Fact) (here : Where) (told : KeptJob) →
    kept_at here facts ≡ Some (kept.Job told) → here ≡ Job told.run told.stage told.position
job_where facts here told e = ap (λ (o : Option Where). unwrap_or o here)
    (sym (of_place facts here (kept.Job told) e))

pub job_there : (facts : List Fact) (here : Where) (told : KeptJob) →
    kept_at here facts ≡ Some (kept.Job told) →
    kept_at (Job told.run told.stage told.position) facts ≡ Some (kept.Job told)
job_there facts here told e =
    subst (λ (w : Where). kept_at w facts ≡ Some (kept.Job told))
    (job_where facts here told e) e

-- whether what another stage uses is shared, and whether a row's stage runs on it too
abbrev shares_in : List Seen → List ResourceKey → Option PlanStage → Bool
shares_in all uses o = option_map_or (λ (it : PlanStage). share all uses it.uses) o false

abbrev runs_in : List Seen → List ResourceKey → Option Record → Bool
runs_in all uses o = option_map_or (is_sharing all uses) (option_and_then stage_in o) false

-- whether the agent holds the job of what was read
abbrev holds_in : List ℕ → Option Record → Bool
holds_in agent o = option_map_or (is_holder agent) (option_and_then job_in o) false

-- ---- no more legs of a job are held than may be at once

abbrev pub SaysNothingOfLegs : List Seen → Log → Record → Type 0
SaysNothingOfLegs front log (kept.Job told) = (planned : PlanStage) (job : PlanJob) →
    planned_stage told.run told.stage log.facts ≡ Some planned →
    slice_get planned.jobs told.position ≡ Some job →
    is_leg_too_many planned job front told ≡ false
SaysNothingOfLegs front log _ = Unit {0}

abbrev pub LeaveNothingOfLegs : Log → List Seen → Type 0
LeaveNothingOfLegs log all = (front : List Seen) (one : Seen) (rest : List Seen) →
    front ++ one ∷ rest ≡ all → (told : Record) → one.kept ≡ Some told →
    SaysNothingOfLegs front log told

-- ---- the rows of a state

module _ (change : ℕ) (log : Log) (numbers : Meta) (all : List Seen)
    (is : AreToldBy change log all) (ascend : Ascend (rows_in all)) (made : AreMade log all)
    (good : (at : Where) → IfSome (kept_at at log.facts) IsGood)
    (counted : numbers_kept change log ≡ Some (kept.Meta numbers))
    (free : (at : Where) (told : Record) → kept_at at log.facts ≡ Some told → HasFreeName told)
    (late : (at : Where) (told : Record) → kept_at at log.facts ≡ Some told →
    IsNotLate numbers told)
    (below : (at : Where) (told : Record) → kept_at at log.facts ≡ Some told →
    IsBelow numbers log.facts told)
    (apart : AreApart log.admin log.facts) (in_time : AreInTime log.facts)
    (sole : HasOneHolder log.facts) (jobs : AreJobsInTime log.facts) (done : AreDone log.facts)
    (hold : HoldOne log.facts) (legs : LeaveNothingOfLegs log all) where
  abbrev Own : Seen → Type 0
  Own one = AreTheNumbers change log one ⊎ IsToldAt log one

  the_numbers : meta_told all ≡ Some numbers
  the_numbers = ap (option_and_then meta_in) (is.numbers ∙ counted)

  -- whose row it is
  told_so : (one : Seen) (told : Record) → one.kept ≡ Some told → (at : IsToldAt log one) →
      kept_at at.here log.facts ≡ Some told
  told_so one told said at = sym at.told ∙ said

  run_says : (front : List Seen) (told : KeptRun) → IsBelow numbers log.facts (kept.Run told) →
      IsNotLate numbers (kept.Run told) → SaysNothing log.admin all front log (kept.Run told)
  run_says front told under early =
      ap (λ (some : Option Meta). is_above some told || is_run_late some told) the_numbers
      ∙ or_false (is_above (Some numbers) told) (is_run_late (Some numbers) told) under early

  decision_says : (front : List Seen) (told : KeptDecision) → told.run < 2 ^ 64 →
      IsBelow numbers log.facts (kept.Decision told) →
      IsNotLate numbers (kept.Decision told) →
      SaysNothing log.admin all front log (kept.Decision told)
  decision_says front told fits planned early =
      or_false (is_none (torn.planned_stage told.run told.stage all))
      (is_late (meta_told all) told.moment)
      (some_here (planned_stage told.run told.stage log.facts) refl)
      (ap (λ (some : Option Meta). is_late some told.moment) the_numbers ∙ early)
    where
      some_here : (o : Option PlanStage) → planned_stage told.run told.stage log.facts ≡ o →
          is_none (torn.planned_stage told.run told.stage all) ≡ false
      some_here None e = absurd (planned e)
      some_here (Some one) e =
          ap is_none (stage_is change log all is made good told.run told.stage fits ∙ e)

  -- no row in front has its digest
  other_digest : (one : Seen) (told : KeptPrincipal) (at : IsToldAt log one) →
      one.kept ≡ Some (kept.Principal told) → IsSet log.facts at.here told → (other : Seen) →
      Own other → comes_before other.row.now one.row.now ≡ true →
      has_digest told.digest other ≡ false
  other_digest one told at said set other own before =
      by_kept other.kept refl
    where
      by_owner : (also : KeptPrincipal) → other.kept ≡ Some (kept.Principal also) →
          Own other → same_digest also.digest told.digest ≡ false
      by_owner also e (inl first) =
          absurd (true≢false (ap (λ (o : Option Record). option_map_or is_numbers o true)
          (sym (first.told ∙ counted) ∙ e)))
      by_owner also e (inr there) =
          by_test (is_eq (text_cmp also.digest.bytes told.digest.bytes)) refl where
            by_test : (b : Bool) →
                is_eq (text_cmp also.digest.bytes told.digest.bytes) ≡ b →
                same_digest also.digest told.digest ≡ false
            by_test false f = f
            by_test true f = absurd (alike (is_set there.here
                (told_so other (kept.Principal also) e there))) where
                  is_set : (here : Where) → kept_at here log.facts ≡ Some (kept.Principal also) →
                      IsSet log.facts here also
                  is_set here g = set_of log.facts here also g

                  alike : IsSet log.facts there.here also → ⊥
                  alike their =
                      let names = apart.one set.name their.name set.set their.set set.is their.is
                      (set.has ∙ (sym (same also.digest.bytes told.digest.bytes f) ∙ sym their.has))
                      in
                      not_itself (place_at at.here) (place_at at.here) one.row.now other.row.now
                      at.there
                      (there.there ∙ ap place_at (their.at ∙ (ap Principal (sym names) ∙ sym
                      set.at)))
                      before

      by_kept : (o : Option Record) → other.kept ≡ o → has_digest told.digest other ≡ false
      by_kept None e = ap (λ (o : Option Record). option_map_or
          (λ it. same_digest it.digest told.digest) (option_and_then principal_in o) false) e
      by_kept (Some it) e = by_record it e where
        by_record : (it : Record) → other.kept ≡ Some it →
            has_digest told.digest other ≡ false
        by_record (kept.Principal also) f =
            ap (λ (o : Option Record). option_map_or
            (λ it. same_digest it.digest told.digest) (option_and_then principal_in o) false) f
            ∙ by_owner also f own
        by_record _ f = ap (λ (o : Option Record). option_map_or
            (λ it. same_digest it.digest told.digest) (option_and_then principal_in o) false) f

  principal_says : (front : List Seen) (one : Seen) (rest : List Seen) →
      front ++ one ∷ rest ≡ all → (told : KeptPrincipal) (at : IsToldAt log one) →
      one.kept ≡ Some (kept.Principal told) → HasFreeName (kept.Principal told) →
      SaysNothing log.admin all front log (kept.Principal told)
  principal_says front one rest e told at said named =
      let set = set_of log.facts at.here told (told_so one (kept.Principal told) said at) in
      or_false _ (same_digest told.digest log.admin || list_any (has_digest told.digest) front)
      named
      (or_false (same_digest told.digest log.admin) (list_any (has_digest told.digest) front)
      (not_admin set (is_eq (text_cmp told.digest.bytes log.admin.bytes)) refl)
      (none_in_front Own (has_digest told.digest) front one rest
      (subst (λ (them : List Seen). Ascend (rows_in them)) (sym e) ascend)
      (subst (AllByRecursion Own) (sym e) is.own)
      (λ other own before. other_digest one told at said set other own before)))
    where
      not_admin : IsSet log.facts at.here told → (b : Bool) →
          is_eq (text_cmp told.digest.bytes log.admin.bytes) ≡ b →
          same_digest told.digest log.admin ≡ false
      not_admin set false f = f
      not_admin set true f = absurd (apart.own set.name set.set set.is
          (set.has ∙ same told.digest.bytes log.admin.bytes f))

  -- no row in front runs on what it uses alone
  held_says : (front : List Seen) (one : Seen) (rest : List Seen) → front ++ one ∷ rest ≡ all →
      (told : KeptStage) (at : IsToldAt log one) → one.kept ≡ Some (kept.Stage told) →
      (planned : PlanStage) → planned_stage told.run told.position log.facts ≡ Some planned →
      is_held all front planned told ≡ false
  held_says front one rest e told at said planned planned_is =
      go (is_running told) refl
    where
      stage_at : kept_at (Stage told.run told.position) log.facts ≡ Some (kept.Stage told)
      stage_at = stage_there log.facts at.here told (told_so one (kept.Stage told) said at)

      -- where another runs on it too, it is this one
      alike : (other : Seen) (also : KeptStage) (there : IsToldAt log other) →
          other.kept ≡ Some (kept.Stage also) → (its : PlanStage) →
          planned_stage also.run also.position log.facts ≡ Some its →
          comes_before other.row.now one.row.now ≡ true → is_running told ≡ true →
          is_running also ≡ true → share all planned.uses its.uses ≡ true → ⊥
      alike other also there f its its_are before goes runs shared =
          let kept_also = told_so other (kept.Stage also) f there in
          let both = none_shared change log all is sole told also planned its
          (tells_stage log.facts told stage_at)
          (tells_stage log.facts also (stage_there log.facts there.here also kept_also)) planned_is
          its_are goes runs shared in
          let here_is = stage_where log.facts at.here told (told_so one (kept.Stage told) said at)
          in
          let there_is = stage_where log.facts there.here also kept_also in
          let places : there.here ≡ at.here = there_is
          ∙ (ap (λ (r : ℕ). Stage r also.position) (sym both.0)
          ∙ (ap (λ (s : ℕ). Stage told.run s) (sym both.1) ∙ sym here_is)) in
          not_itself (place_at at.here) (place_at at.here) one.row.now other.row.now at.there
          (there.there ∙ ap place_at places) before

      sharing : (other : Seen) (also : KeptStage) (there : IsToldAt log other) →
          other.kept ≡ Some (kept.Stage also) →
          comes_before other.row.now one.row.now ≡ true → is_running told ≡ true →
          is_sharing all planned.uses also ≡ false
      sharing other also there f before goes = by_runs (is_running also) refl where
        kept_also : kept_at (Stage also.run also.position) log.facts ≡ Some (kept.Stage also)
        kept_also =
            stage_there log.facts there.here also (told_so other (kept.Stage also) f there)

        fits : also.run < 2 ^ 64
        fits = (subst Fits (stage_where log.facts there.here also
            (told_so other (kept.Stage also) f there)) there.fits).0

        by_share : (its : PlanStage) →
            planned_stage also.run also.position log.facts ≡ Some its →
            is_running also ≡ true → (b : Bool) → share all planned.uses its.uses ≡ b →
            share all planned.uses its.uses ≡ false
        by_share its its_are runs true s =
            absurd (alike other also there f its its_are before goes runs s)
        by_share its its_are runs false s = s

        by_plan : is_running also ≡ true → (o : Option PlanStage) →
            planned_stage also.run also.position log.facts ≡ o →
            shares_in all planned.uses (torn.planned_stage also.run also.position all) ≡ false
        by_plan runs None p =
            ap (shares_in all planned.uses) (stage_is change log all is made good also.run
            also.position fits ∙ p)
        by_plan runs (Some its) p =
            ap (shares_in all planned.uses) (stage_is change log all is made good also.run
            also.position fits ∙ p)
            ∙ by_share its p runs (share all planned.uses its.uses) refl

        by_runs : (b : Bool) → is_running also ≡ b → is_sharing all planned.uses also ≡ false
        by_runs true r =
            ap (λ (b : Bool). is_running also && b)
            (by_plan r (planned_stage also.run also.position log.facts) refl)
            ∙ never_false (is_running also)
        by_runs false r =
            ap (λ (b : Bool). b &&
            shares_in all planned.uses (torn.planned_stage also.run also.position all)) r

      not_on : is_running told ≡ true → (other : Seen) → Own other →
          comes_before other.row.now one.row.now ≡ true → runs_on all planned.uses other ≡ false
      not_on goes other own before = by_kept other.kept refl where
        by_own : (also : KeptStage) → other.kept ≡ Some (kept.Stage also) → Own other →
            is_sharing all planned.uses also ≡ false
        by_own also f (inl first) =
            absurd (true≢false (ap (λ (o : Option Record). option_map_or is_numbers o true)
            (sym (first.told ∙ counted) ∙ f)))
        by_own also f (inr there) = sharing other also there f before goes

        by_kept : (o : Option Record) → other.kept ≡ o → runs_in all planned.uses other.kept ≡ false
        by_kept None f = ap (runs_in all planned.uses) f
        by_kept (Some it) f = by_record it f where
          by_record : (it : Record) → other.kept ≡ Some it →
              runs_in all planned.uses other.kept ≡ false
          by_record (kept.Stage also) g = ap (runs_in all planned.uses) g ∙ by_own also g own
          by_record _ g = ap (runs_in all planned.uses) g

      go : (b : Bool) → is_running told ≡ b → is_held all front planned told ≡ false
      go true goes =
          ap (λ (b : Bool). is_running told && b)
          (none_in_front Own (runs_on all planned.uses) front one rest
          (subst (λ (them : List Seen). Ascend (rows_in them)) (sym e) ascend)
          (subst (AllByRecursion Own) (sym e) is.own) (not_on goes))
          ∙ never_false (is_running told)
      go false goes =
          ap (λ (b : Bool). b && list_any (runs_on all planned.uses) front) goes

  -- no row in front is of another job that its agent holds
  no_other : (front : List Seen) (one : Seen) (rest : List Seen) → front ++ one ∷ rest ≡ all →
      (told : KeptJob) (at : IsToldAt log one) → one.kept ≡ Some (kept.Job told) →
      has_other front told ≡ false
  no_other front one rest e told at said = go (holder told) refl where
    kept_told : kept_at at.here log.facts ≡ Some (kept.Job told)
    kept_told = told_so one (kept.Job told) said at

    alike : (agent : List ℕ) → holder told ≡ Some agent → (other : Seen) (also : KeptJob)
        (there : IsToldAt log other) → other.kept ≡ Some (kept.Job also) →
        comes_before other.row.now one.row.now ≡ true → holder also ≡ Some agent → ⊥
    alike agent h other also there f before g =
        let kept_also = told_so other (kept.Job also) f there in
        let places : there.here ≡ at.here = job_where log.facts there.here also kept_also
        ∙ (one_place log.facts hold agent told also
        (holds_so log.facts told agent (job_there log.facts at.here told kept_told) h)
        (holds_so log.facts also agent (job_there log.facts there.here also kept_also) g)
        ∙ sym (job_where log.facts at.here told kept_told)) in
        not_itself (place_at at.here) (place_at at.here) one.row.now other.row.now at.there
        (there.there ∙ ap place_at places) before

    not_held : (agent : List ℕ) → holder told ≡ Some agent → (other : Seen) → Own other →
        comes_before other.row.now one.row.now ≡ true → holds agent other ≡ false
    not_held agent h other own before = by_kept other.kept refl where
      by_own : (also : KeptJob) → other.kept ≡ Some (kept.Job also) → Own other →
          is_holder agent also ≡ false
      by_own also f (inl first) =
          absurd (true≢false (ap (λ (o : Option Record). option_map_or is_numbers o true)
          (sym (first.told ∙ counted) ∙ f)))
      by_own also f (inr there) = by_holder (holder also) refl where
        by_test : (name : List ℕ) → holder also ≡ Some name → (b : Bool) →
            is_eq (text_cmp name agent) ≡ b → is_eq (text_cmp name agent) ≡ false
        by_test name g false t = t
        by_test name g true t = absurd (alike agent h other also there f before
            (g ∙ ap (λ (n : List ℕ). Some n) (same name agent t)))

        by_holder : (o : Option (List ℕ)) → holder also ≡ o → is_holder agent also ≡ false
        by_holder None g = ap (λ (o : Option (List ℕ)).
            option_map_or (λ name. is_eq (text_cmp name agent)) o false) g
        by_holder (Some name) g = ap (λ (o : Option (List ℕ)).
            option_map_or (λ name. is_eq (text_cmp name agent)) o false) g
            ∙ by_test name g (is_eq (text_cmp name agent)) refl

      by_kept : (o : Option Record) → other.kept ≡ o → holds_in agent other.kept ≡ false
      by_kept None f = ap (holds_in agent) f
      by_kept (Some it) f = by_record it f where
        by_record : (it : Record) → other.kept ≡ Some it → holds_in agent other.kept ≡ false
        by_record (kept.Job also) g = ap (holds_in agent) g ∙ by_own also g own
        by_record _ g = ap (holds_in agent) g

    go : (o : Option (List ℕ)) → holder told ≡ o → has_other front told ≡ false
    go None h = ap (λ (o : Option (List ℕ)).
        option_map_or (λ agent. list_any (holds agent) front) o false) h
    go (Some agent) h = ap (λ (o : Option (List ℕ)).
        option_map_or (λ agent. list_any (holds agent) front) o false) h
        ∙ none_in_front Own (holds agent) front one rest
        (subst (λ (them : List Seen). Ascend (rows_in them)) (sym e) ascend)
        (subst (AllByRecursion Own) (sym e) is.own) (not_held agent h)

  said_of : (front : List Seen) (one : Seen) (rest : List Seen) → front ++ one ∷ rest ≡ all →
      (at : IsToldAt log one) (told : Record) → one.kept ≡ Some told →
      SaysNothing log.admin all front log told
  said_of front one rest e at (kept.Meta told) said = tt
  said_of front one rest e at (kept.File told) said = tt
  said_of front one rest e at (kept.Pipeline told) said =
      free at.here (kept.Pipeline told) (told_so one (kept.Pipeline told) said at)
  said_of front one rest e at (kept.Resource told) said = tt
  said_of front one rest e at (kept.Principal told) said =
      principal_says front one rest e told at said
      (free at.here (kept.Principal told) (told_so one (kept.Principal told) said at))
  said_of front one rest e at (kept.Agent told) said = tt
  said_of front one rest e at (kept.Run told) said =
      let there = told_so one (kept.Run told) said at in
      run_says front told (below at.here (kept.Run told) there) (late at.here (kept.Run told) there)
  said_of front one rest e at (kept.Stage told) said = λ queued planned queued_is planned_is.
      let there = told_so one (kept.Stage told) said at in
      or_false (is_stage_off all queued.compiled.plan.stages planned told)
      (is_stage_late (meta_told all) told || is_held all front planned told)
      (not_off change log all is good in_time told queued planned
      (tells_stage log.facts told (stage_there log.facts at.here told there)) queued_is planned_is)
      (or_false (is_stage_late (meta_told all) told) (is_held all front planned told)
      (ap (λ (some : Option Meta). is_stage_late some told) the_numbers
      ∙ late at.here (kept.Stage told) there)
      (held_says front one rest e told at said planned (ap (option_and_then
      (λ (it : QueuedRun). slice_get it.compiled.plan.stages told.position)) queued_is
      ∙ planned_is)))
  said_of front one rest e at (kept.Job told) said = λ staged planned staged_is planned_is.
      let there = told_so one (kept.Job told) said at in
      let tells = tells_job log.facts told (job_there log.facts at.here told there) in
      let run = planned_at log.facts told.run told.stage staged staged_is in
      or_false (is_out_of_stage (torn.stage_told told.run told.stage all) told) _
      (in_stage change log all is good jobs done told run.queued staged planned tells
      run.there.queued run.there.planned planned_is)
      (or_false (has_other front told) _ (no_other front one rest e told at said)
      (or_false (is_leg_too_many staged planned front told) _
      (legs front one rest e (kept.Job told) said staged planned staged_is planned_is)
      (or_false (is_job_off all staged.jobs planned told) (is_job_late (meta_told all) told)
      (job_not_off change log all is good jobs done told run.queued staged planned tells
      run.there.queued run.there.planned planned_is)
      (ap (λ (some : Option Meta). is_job_late some told) the_numbers
      ∙ late at.here (kept.Job told) there))))
  said_of front one rest e at (kept.Decision told) said =
      let there = told_so one (kept.Decision told) said at in
      decision_says front told (decided_fits log.facts at.here told at.fits there)
      (below at.here (kept.Decision told) there) (late at.here (kept.Decision told) there)

  said_by : (front : List Seen) (one : Seen) (rest : List Seen) → front ++ one ∷ rest ≡ all →
      (told : Record) → one.kept ≡ Some told → Own one → SaysNothing log.admin all front log told
  said_by front one rest e told said (inl first) =
      subst (SaysNothing log.admin all front log) (ap (λ (o : Option Record). unwrap_or o told)
      (sym (first.told ∙ counted) ∙ said)) tt
  said_by front one rest e told said (inr at) = said_of front one rest e at told said

  pub leave_nothing : LeaveNothing log.admin log all
  leave_nothing front one rest e told said = said_by front one rest e told said
      (picked Own front one rest (subst (AllByRecursion Own) (sym e) is.own))
