-- Of the stages that whole rows tell, one at most runs on an exclusive resource.
use Rattle.std.proofs.Common.{◌≡◌, ◌⊎◌, ℕ, Bool, true, false, true≢false, ◌&&◌, ◌||◌, List, [], ◌∷◌}
use Rattle.std.proofs.Common.{◌++◌, cond, Option, Some, None, refl, sym, ap, subst, ◌∙◌, inl, inr}
use Rattle.std.specs.List.{filter, list_any, Contains}
use Rattle.std.specs.Option.{option_and_then, option_map, option_map_or, option_or}
use Rattle.std.specs.Ordering.{is_eq}
use Rattle.std.specs.Prelude.{is_none, is_some, slice_get}
use Rattle.std.proofs.lemmas.List.Elements.{All-contains, All-from_recursion}
use Rattle.pl_base.specs.declared.digest.Digest.{Digest}
use Rattle.pl_base.specs.declared.resource.ResourceKey.{ResourceKey}
use Rattle.pl_base.specs.declared.row.Row.{Row}
use Rattle.pl_due.specs.Checked.{exclusive_uses, is_exclusive}
use Rattle.pl_due.specs.Nodes.{is_running, IsStageOf}
use Rattle.pl_facts.specs.declared.fact.Fact.{Fact}
use Rattle.pl_facts.specs.declared.fact.QueuedRun.{QueuedRun}
use Rattle.pl_journal.specs.Runs.{queueing, run_told, stage_end, stage_start}
use Rattle.pl_journal.specs.Settings.{by, default_pool, resource, resource_set, resource_told}
use Rattle.pl_keeper.specs.Keeping.{place}
use Rattle.pl_keeper.specs.declared.records.KeptResource.{KeptResource}
use Rattle.pl_keeper.specs.declared.records.KeptStage.{KeptStage}
use Rattle.pl_keeper.specs.declared.records.Record.{Record}
use Rattle.pl_keeper.specs.declared.records.Record.TheVariants as kept
use Rattle.pl_kept.specs.Kept.{kept_at, planned_stage, Where, Resource, Stage}
use Rattle.pl_log.specs.Keys as named
use Rattle.pl_log.specs.Keys.{resource_cmp}
use Rattle.pl_log.proofs.Naming.{key_itself}
use Rattle.pl_plan.specs.declared.plan.Plan.{Plan}
use Rattle.pl_plan.specs.declared.plan.PlanStage.{PlanStage}
use Rattle.pl_requests.specs.declared.settings.ResourceSetting.{ResourceSetting}
use Rattle.pl_opening.specs.Below.pl_settling.specs.Laws.{HasOneHolder, Occupies}
use Rattle.pl_torn.specs.Exclusive as torn
use Rattle.pl_torn.specs.Exclusive.{is_held, is_used, runs_on, share}
use Rattle.pl_torn.specs.Looking as rows_tell
use Rattle.pl_torn.specs.Looking.{plan_told, resource_told as resource_row}
use Rattle.pl_torn.specs.Moments.{is_stage_late, is_stage_off}
use Rattle.pl_torn.specs.Looking.{meta_told}
use Rattle.pl_torn.specs.Seen.{comes_before, resource_in, seen_at, stage_in, stage_of}
use Rattle.pl_torn.specs.declared.seen.Seen.{Seen}
use Rattle.pl_opening.specs.Below.pl_opened_laws.proofs.Again.{kept_again, stage_planned_of, IsStagePlanned}
use Rattle.pl_opening.specs.Below.pl_opened_laws.proofs.Good.{neither}
use Rattle.pl_opening.specs.Below.pl_opened_laws.proofs.Known.{ascend, seen_of, AreOpened, IsOf}
use Rattle.pl_opening.specs.Below.pl_opened_laws.proofs.Lists.{each_in, in_each, in_joined, in_right, never_some, some_is}
use Rattle.pl_opening.specs.Below.pl_opened_laws.proofs.Lists.{In}
use Rattle.pl_opening.specs.Below.pl_opened_laws.proofs.Standing.{never_before, through, AscendSeen}
use Rattle.pl_opening.specs.Below.pl_opened_laws.proofs.Telling.{where_of}
use Rattle.pl_opening.specs.Below.pl_opened_laws.proofs.There.{row_there, stage_there}
use Rattle.pl_opening_laws.proofs.Orderly.{both_of, ends_as, off_of, stage_row_of, starts_as}
use Rattle.pl_opening_laws.proofs.Orderly.{IsStageRow}

-- ---- lists

any_there : {X : Type 0} (test : X → Bool) (xs : List X) (x : X) → In x xs → test x ≡ true →
    list_any test xs ≡ true
any_there test [] x is t = absurd is
any_there test (y ∷ xs) x (inl e) t =
    ap (λ (b : Bool). b || list_any test xs) (ap test e ∙ t)
any_there test (y ∷ xs) x (inr rest) t = by (test y) (any_there test xs x rest t) where
  by : (b : Bool) → list_any test xs ≡ true → (b || list_any test xs) ≡ true
  by true any = refl
  by false any = any

filter_by : {X : Type 0} (test : X → Bool) (y : X) (xs : List X) (x : X) (b : Bool) → test y ≡ b →
    In x (cond b (y ∷ filter test xs) (filter test xs)) →
    (In x (filter test xs) → In x xs × (test x ≡ true)) → In x (y ∷ xs) × (test x ≡ true)
filter_by test y xs x true e (inl same) rest = (inl same, ap test (sym same) ∙ e)
filter_by test y xs x true e (inr is) rest = let found = rest is in (inr found.0, found.1)
filter_by test y xs x false e is rest = let found = rest is in (inr found.0, found.1)

in_filter : {X : Type 0} (test : X → Bool) (xs : List X) (x : X) → In x (filter test xs) →
    In x xs × (test x ≡ true)
in_filter test [] x is = absurd is
in_filter test (y ∷ xs) x is =
    filter_by test y xs x (test y) refl is (λ rest. in_filter test xs x rest)

contained : {X : Type 0} (xs : List X) (x : X) → Contains xs x → In x xs
contained {X} xs x is = All-contains (λ (y : X). In y xs) xs x
    (All-from_recursion (λ (y : X). In y xs) xs (in_each (λ (y : X). In y xs) xs (λ y there. there)))
    is

-- ---- of two rows one stands in front of the other

behind_all : (before : List Seen) (one : Seen) (later : List Seen) →
    AscendSeen (before ++ one ∷ later) → (other : Seen) → In other later →
    comes_before one other ≡ true
behind_all [] one later ascends other is =
    each_in (λ (s : Seen). comes_before one s ≡ true) later ascends.0 other is
behind_all (first ∷ before) one later ascends other is =
    behind_all before one later ascends.1 other is

module _ (all : List Seen) (ascends : AscendSeen all) where
  -- it is in front, or it is the row itself, or the row is in front of it
  in_front : (one other : Seen) (before later front back : List Seen) →
      all ≡ before ++ one ∷ later → all ≡ front ++ other ∷ back → In other later → In one front
  in_front one other before later front back whole split is =
      by (in_joined one front (other ∷ back) (subst (λ (some : List Seen). In one some)
      (sym whole ∙ split) (in_right one before (one ∷ later) (inl refl)))) where
        less : comes_before one other ≡ true
        less = behind_all before one later (subst AscendSeen whole ascends) other is

        by : In one front ⊎ In one (other ∷ back) → In one front
        by (inl there) = there
        by (inr (inl same)) = absurd (never_before one other
            (ap (λ (s : Seen). place s.row.now) (sym same)) less)
        by (inr (inr there)) = absurd (never_before one one refl (through one other one less
            (behind_all front other back (subst AscendSeen split ascends) one there)))

-- what was set, and set as exclusive
record IsSetAlone (key : ResourceKey) (facts : List Fact) : Type 0 where
  told : ResourceSetting
  is : resource_set key facts ≡ Some told
  alone : told.exclusive ≡ true

-- what was never set isn't exclusive
never_alone : (b : Bool) → option_map_or (λ told. told.exclusive) (cond b (Some default_pool) None)
    false ≡ false
never_alone true = refl
never_alone false = refl

set_by : (key : ResourceKey) (facts : List Fact) (o : Option ResourceSetting) →
    resource_set key facts ≡ o → option_map_or (λ told. told.exclusive) (option_or o
    (cond (is_eq (resource_cmp key default_pool.key)) (Some default_pool) None)) false ≡ true →
    IsSetAlone key facts
set_by key facts None is e = absurd (true≢false (sym e ∙
    never_alone (is_eq (resource_cmp key default_pool.key))))
set_by key facts (Some told) is e = record { told = told; is = is; alone = e }

module _ {admin : Digest} {rows : List Row} {all : List Seen} {facts : List Fact}
    (opens : AreOpened admin rows all facts) where
  -- ---- resources are exclusive by their rows as they are by the facts

  exclusive_row : (key : ResourceKey) → is_exclusive facts key ≡ true →
      torn.is_exclusive all key ≡ true
  exclusive_row key e =
      let set = set_by key facts (resource_set key facts) refl e in
      let told : KeptResource = record {
        key = key;
        exclusive = set.told.exclusive;
        pipelines = set.told.pipelines;
        checks = set.told.checks;
      } in
      let keeps : kept_at (Resource key) facts ≡ Some (kept.Resource told) =
      ap (λ (o : Option ResourceSetting). option_map (λ one. kept.Resource (record {
        key = key;
        exclusive = one.exclusive;
        pipelines = one.pipelines;
        checks = one.checks;
      })) o) set.is in
      let row = row_there opens (Resource key) (kept.Resource told) keeps in
      let same : row.told ≡ kept.Resource told = some_is row.told (kept.Resource told)
      (sym (kept_again opens row.one row.there row.told row.is (Resource key) row.here) ∙ keeps) in
      let found : resource_row key all ≡ Some told =
      ap (λ (o : Option Seen). option_and_then resource_in
      (option_and_then (λ (s : Seen). s.kept) o)) (seen_of opens (Resource key) row) ∙
      (ap (λ (o : Option Record). option_and_then resource_in o) row.is ∙
      ap resource_in same) in
      ap (λ (o : Option KeptResource). option_map_or (λ one. one.exclusive) o false) found ∙
      set.alone

  -- ---- who runs on an exclusive resource has a row that runs

  record IsHolder (key : ResourceKey) (run stage : ℕ) : Type 0 where
    row : IsStageRow all run stage
    runs : torn.is_running row.told ≡ true
    planned : IsStagePlanned opens row.one row.there row.told
    uses : In key planned.planned.uses

  holder_of : (key : ResourceKey) (run stage : ℕ) → Occupies facts key run stage →
      (is_exclusive facts key ≡ true) × IsHolder key run stage
  holder_of key run stage (told, one, is, runs, uses) =
      let here : planned_stage run stage facts ≡ Some one =
      ap (λ (o : Option QueuedRun). option_and_then
      (λ queued. slice_get queued.compiled.plan.stages stage) o) is.queued ∙ is.planned in
      let row = stage_row_of all run stage (stage_there opens run stage one here) in
      let planned = stage_planned_of opens row.one row.there row.told row.is in
      let same : planned.planned ≡ one = some_is planned.planned one (sym planned.stage ∙
      ((λ i. planned_stage (row.run_is i) (row.stage_is i) facts) ∙ here)) in
      let found = in_filter (is_exclusive facts) one.uses key
      (contained (exclusive_uses facts one) key uses) in (
        found.1,
        record {
          row = row;
          runs = ap (λ (b : Bool). b && is_none row.told.ended)
              (sym (starts_as opens run stage row)) ∙
              (ap (λ (b : Bool). is_some (stage_start run stage facts) && b)
              (sym (ends_as opens run stage row)) ∙ runs);
          planned = planned;
          uses = subst (λ (s : PlanStage). In key s.uses) (sym same) found.0;
        },
      )

  -- of two holders none stands in front of the other
  module _ (key : ResourceKey) (alone : is_exclusive facts key ≡ true) where
    shares : (uses others : List ResourceKey) → In key uses → In key others →
        share all uses others ≡ true
    shares uses others is other = any_there
        (λ (one : ResourceKey). is_used others one && torn.is_exclusive all one) uses key is
        (both_of (is_used others key) (torn.is_exclusive all key)
        (any_there (λ (one : ResourceKey). is_eq (resource_cmp one key)) others key other
        (key_itself (named.Resource key))) (exclusive_row key alone))

    runs_too : (run stage : ℕ) (one : IsHolder key run stage) (uses : List ResourceKey) →
        In key uses → runs_on all uses one.row.one ≡ true
    runs_too run stage one uses is =
        let told = one.row.told in
        let of_row : stage_of one.row.one ≡ Some told =
        ap (λ (o : Option Record). option_and_then stage_in o) one.row.is in
        let plan : rows_tell.planned_stage told.run told.position all ≡
        Some one.planned.planned = ap (λ (o : Option Plan). option_and_then
        (λ plan. slice_get plan.stages told.position) o) one.planned.is_plan ∙
        one.planned.is_stage in
        ap (λ (o : Option KeptStage). option_map_or (torn.is_sharing all uses) o false) of_row ∙
        both_of (torn.is_running told) (option_map_or
        (λ (planned : PlanStage). share all uses planned.uses)
        (rows_tell.planned_stage told.run told.position all) false) one.runs
        (ap (λ (o : Option PlanStage). option_map_or
        (λ (planned : PlanStage). share all uses planned.uses) o false) plan ∙
        shares uses one.planned.planned.uses is one.uses)

    not_in_front : (run stage r s : ℕ) (one : IsHolder key run stage) (other : IsHolder key r s) →
        In one.row.one other.planned.before → ⊥
    not_in_front run stage r s one other there =
        let before = other.planned.before in
        let planned = other.planned.planned in
        let told = other.row.told in
        let late = neither (is_stage_off all other.planned.plan.stages planned told)
        (is_stage_late (meta_told all) told || is_held all before planned told)
        other.planned.good in
        let held = (neither (is_stage_late (meta_told all) told)
        (is_held all before planned told) late.1).1 in
        let any : list_any (runs_on all planned.uses) before ≡ true =
        any_there (runs_on all planned.uses) before one.row.one there
        (runs_too run stage one planned.uses other.uses) in
        true≢false (sym (both_of (torn.is_running told)
        (list_any (runs_on all planned.uses) before) other.runs any) ∙ held)

    same_row : (run stage r s : ℕ) (one : IsHolder key run stage) (other : IsHolder key r s) →
        one.row.one ≡ other.row.one → (run ≡ r) × (stage ≡ s)
    same_row run stage r s one other same =
        let told : one.row.told ≡ other.row.told = some_is one.row.told other.row.told
        (ap (λ (o : Option Record). option_and_then stage_in o) (sym one.row.is ∙
        (ap (λ (seen : Seen). seen.kept) same ∙ other.row.is))) in (
          sym one.row.run_is ∙ (ap (λ (t : KeptStage). t.run) told ∙ other.row.run_is),
          sym one.row.stage_is ∙ (ap (λ (t : KeptStage). t.position) told ∙ other.row.stage_is),
        )

    one_by : (run stage r s : ℕ) (one : IsHolder key run stage) (other : IsHolder key r s) →
        In one.row.one other.planned.before ⊎ In one.row.one (other.row.one ∷ other.planned.later) →
        (run ≡ r) × (stage ≡ s)
    one_by run stage r s one other (inl front) =
        absurd (not_in_front run stage r s one other front)
    one_by run stage r s one other (inr (inl same)) =
        same_row run stage r s one other (sym same)
    one_by run stage r s one other (inr (inr back)) =
        absurd (not_in_front r s run stage other one (in_front all (ascend opens)
        other.row.one one.row.one other.planned.before other.planned.later one.planned.before
        one.planned.later other.planned.whole one.planned.whole back))

  pub one_holder : HasOneHolder facts
  one_holder key run stage r s left right =
      let one = holder_of key run stage left in
      let other = holder_of key r s right in
      one_by key one.0 run stage r s one.1 other.1 (in_joined one.1.row.one
      other.1.planned.before (other.1.row.one ∷ other.1.planned.later)
      (subst (λ (some : List Seen). In one.1.row.one some) other.1.planned.whole
      one.1.row.there))
