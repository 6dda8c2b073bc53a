-- No two rows are of stages that run on one exclusive resource, as no two stages do.
use Rattle.std.proofs.Common.{◌≡◌, ◌&&◌, ◌||◌, ℕ, nat_eq, Bool, true, false, true≢false, List, []}
use Rattle.std.proofs.Common.{◌∷◌}
use Rattle.std.proofs.Common.{◌⊎◌, inl, inr, length, Option, Some, None, refl, sym, ap, subst, ◌∙◌}
use Rattle.std.specs.List.{list_any, Contains}
use Rattle.std.specs.Option.{option_and_then, option_map, option_map_or, option_or}
use Rattle.std.specs.Ordering.{is_eq}
use Rattle.std.specs.Prelude.{is_none, is_some, slice_get, unwrap_or, if◌then◌else◌}
use Rattle.pl_base.specs.declared.resource.Kind.{Kind}
use Rattle.pl_base.specs.declared.resource.Kind.TheVariants.{Environment, Connection, Group, Pool}
use Rattle.pl_base.specs.declared.resource.Kind.TheVariants.{Repository}
use Rattle.pl_base.specs.declared.resource.ResourceKey.{ResourceKey}
use Rattle.pl_changes.proofs.Leading.{none_some}
use Rattle.pl_changes.proofs.Places.{if_false, if_true, stands, Place}
use Rattle.pl_changes.specs.Differing.{stands_at}
use Rattle.pl_facts.specs.declared.fact.Fact.{Fact}
use Rattle.pl_facts.specs.declared.fact.QueuedRun.{QueuedRun}
use Rattle.pl_plan.specs.declared.plan.PlanStage.{PlanStage}
use Rattle.pl_history.proofs.Members.{kept_in_filter}
use Rattle.pl_granting.specs.Below.pl_due.proofs.Members.{here, there}
use Rattle.pl_granting.specs.Below.pl_due.proofs.Standing.{both, first_of_two, second_of_two}
use Rattle.pl_granting.specs.Below.pl_due.specs.Checked as due
use Rattle.pl_granting.specs.Below.pl_due.specs.Nodes.{IsStageOf}
use Rattle.pl_granting.specs.Below.pl_due.specs.Nodes as nodes
use Rattle.pl_granting.specs.Below.pl_settling.specs.Laws.{HasOneHolder, Occupies}
use Rattle.pl_journal.specs.Log.{Log}
use Rattle.pl_journal.specs.Runs.{queueing, run_told, stage_end, stage_start}
use Rattle.pl_journal.specs.Settings.{by, default_pool, resource_set}
use Rattle.pl_fields.specs.Checks.{resource_key}
use Rattle.pl_fields.specs.Fields.{count, text}
use Rattle.pl_fields.specs.Kinds.{kind_number}
use Rattle.pl_fields.specs.WaysOfFields.{count_len, head_is, same_parts, tail_is}
use Rattle.pl_keeper.specs.Keeping.{place}
use Rattle.pl_keeper.specs.declared.records.KeptResource.{KeptResource}
use Rattle.pl_keeper.specs.declared.records.KeptStage.{KeptStage}
use Rattle.pl_keeper.specs.declared.records.Record.{Record}
use Rattle.pl_keeper.specs.declared.records.Record.TheVariants as kept
use Rattle.pl_kept.specs.Kept.{kept_at, planned_stage, Where, File, Pipeline, Resource, Principal}
use Rattle.pl_kept.specs.Kept.{Agent, Run, Stage, Job, Decision}
use Rattle.pl_kept.specs.Told.{moment_of}
use Rattle.pl_log.proofs.Naming.{exact_key}
use Rattle.pl_log.specs.Keys as key
use Rattle.pl_log.specs.Keys.{resource_cmp}
use Rattle.pl_places.specs.Places.{place_at}
use Rattle.pl_requests.specs.declared.settings.ResourceSetting.{ResourceSetting}
use Rattle.pl_torn.specs.Exclusive as torn
use Rattle.pl_torn.specs.Exclusive.{is_used, share}
use Rattle.pl_torn.specs.Looking.{resource_place}
use Rattle.pl_torn.specs.Seen.{resource_in, seen_at}
use Rattle.pl_torn.specs.declared.seen.Seen.{Seen}
use Rattle.pl_reread.specs.Reread.{AreToldBy, AreTheNumbers, IsToldAt}
use Rattle.pl_reread.proofs.Rereading.{found_has}
use Rattle.pl_never_torn.proofs.StageRows.{TellsStage}

-- ---- an item that passes

found_any : {X : Type 0} (p : X → Bool) (xs : List X) → list_any p xs ≡ true →
    (x : X) × Contains xs x × (p x ≡ true)
found_any p [] e = absurd (true≢false (sym e))
found_any {X = X} p (y ∷ xs) e = go (p y) refl e (found_any p xs) where
  go : (b : Bool) → p y ≡ b → (b || list_any p xs) ≡ true →
      (list_any p xs ≡ true → (x : X) × Contains xs x × (p x ≡ true)) →
      (x : X) × Contains (y ∷ xs) x × (p x ≡ true)
  go true is any rest = (y, here y xs, is)
  go false is any rest = let f = rest any in (f.0, there f.0 y xs f.1, f.2)

-- ---- the bytes of a resource's key are no other's

same_kind : (a b : Kind) → kind_number a ≡ kind_number b → a ≡ b
same_kind Environment Environment e = refl
same_kind Connection Connection e = refl
same_kind Group Group e = refl
same_kind Pool Pool e = refl
same_kind Repository Repository e = refl
same_kind _ _ e = absurd (cc)

same_name : (a b : List ℕ) → text a ≡ text b → a ≡ b
unfolding text
same_name a b e = (same_parts (count (length a)) (count (length b)) a b
    (count_len (length a) ∙ sym (count_len (length b))) e).1

same_resource : (a b : ResourceKey) → resource_key a ≡ resource_key b → a ≡ b
same_resource a b e =
    let kinds = same_kind a.kind b.kind
    (head_is (kind_number a.kind) (kind_number b.kind) (text a.name) (text b.name) e) in
    let names = same_name a.name b.name
    (tail_is (kind_number a.kind) (kind_number b.kind) (text a.name) (text b.name) e) in
    ap (λ (k : Kind). record { kind = k; name = a.name }) kinds
    ∙ ap (λ (n : List ℕ). record { kind = b.kind; name = n }) names

-- ---- what is kept at a resource's place

apart : (n : ℕ) → nat_eq n 3 ≡ false → n ≡ 3 → ⊥
apart n off e = true≢false (sym (ap (λ m. nat_eq m 3) e) ∙ off)

at_place : (here : Where) (one : ResourceKey) → place_at here ≡ resource_place one →
    (other : ResourceKey) × (here ≡ Resource other) × (resource_key other ≡ resource_key one)
at_place (File name) one e = absurd (apart 1 refl (ap (λ p. p.0) e))
at_place (Pipeline name) one e = absurd (apart 2 refl (ap (λ p. p.0) e))
at_place (Resource other) one e = (other, refl, ap (λ p. p.1) e)
at_place (Principal name) one e = absurd (apart 4 refl (ap (λ p. p.0) e))
at_place (Agent name) one e = absurd (apart 5 refl (ap (λ p. p.0) e))
at_place (Run run) one e = absurd (apart 6 refl (ap (λ p. p.0) e))
at_place (Stage run stage) one e = absurd (apart 7 refl (ap (λ p. p.0) e))
at_place (Job run stage job) one e = absurd (apart 8 refl (ap (λ p. p.0) e))
at_place (Decision run stage name) one e = absurd (apart 9 refl (ap (λ p. p.0) e))

-- ---- options

mapped_some : {X Y : Type 0} (f : X → Y) (o : Option X) → is_some (option_map f o) ≡ is_some o
mapped_some f None = refl
mapped_some f (Some x) = refl

mapped_none : {X Y : Type 0} (f : X → Y) (o : Option X) → is_none (option_map f o) ≡ is_none o
mapped_none f None = refl
mapped_none f (Some x) = refl

-- what is exclusive was set so
abbrev alone_in : KeptResource → Bool
alone_in told = told.exclusive

resource_made : (name : ResourceKey) (facts : List Fact) (told : Record) →
    kept_at (Resource name) facts ≡ Some told →
    option_map_or alone_in (resource_in told) false ≡ true → due.is_exclusive facts name ≡ true
resource_made name facts told e alone = go (resource_set name facts) refl e where
  go : (o : Option ResourceSetting) → resource_set name facts ≡ o →
      option_map (λ set. kept.Resource (record {
        key = name;
        exclusive = set.exclusive;
        pipelines = set.pipelines;
        checks = set.checks;
      })) o ≡ Some told → due.is_exclusive facts name ≡ true
  go None f h = absurd (none_some None told refl h)
  go (Some set) f h =
      let says : set.exclusive ≡ true = ap (λ (o : Option Record).
      option_map_or alone_in (option_and_then resource_in o) false) h ∙ alone in
      ap (λ (o : Option ResourceSetting). option_map_or (λ (it : ResourceSetting). it.exclusive)
      (option_or o (if is_eq (resource_cmp name default_pool.key) then Some default_pool else None))
      false) f ∙ says

-- what is found at a place stands there
found_at : (at : Place) (all : List Seen) (one : Seen) → seen_at at all ≡ Some one →
    place one.row.now ≡ at
found_at at [] one e = absurd (none_some None one refl e)
found_at at (other ∷ all) one e =
    go (stands_at at other.row.now) refl (found_at at all one) where
      go : (b : Bool) → stands_at at other.row.now ≡ b →
          (seen_at at all ≡ Some one → place one.row.now ≡ at) → place one.row.now ≡ at
      go true s rest =
          let same : Some other ≡ Some one =
          sym (if_true (stands_at at other.row.now) (Some other) (seen_at at all) s) ∙ e in
          let it : other ≡ one = ap (λ (o : Option Seen). unwrap_or o other) same in
          subst (λ (it : Seen). place it.row.now ≡ at) it (stands at other.row.now s)
      go false s rest = rest
          (sym (if_false (stands_at at other.row.now) (Some other) (seen_at at all) s) ∙ e)

abbrev says_alone : Option Record → Bool
says_alone o = option_map_or alone_in (option_and_then resource_in o) false

module _ (change : ℕ) (log : Log) (all : List Seen) (is : AreToldBy change log all) where
  by_row : (name : ResourceKey) (one : Seen) → IsToldAt log one →
      place one.row.now ≡ resource_place name → (o : Option Record) → one.kept ≡ o →
      says_alone o ≡ true → due.is_exclusive log.facts name ≡ true
  by_row name one at stands None e says = absurd (true≢false (sym says))
  by_row name one at stands (Some told) e says =
      let found = at_place at.here name (sym at.there ∙ stands) in
      let its : at.here ≡ Resource name =
      found.1 ∙ ap Resource (same_resource found.0 name found.2) in
      resource_made name log.facts told
      (subst (λ (w : Where). kept_at w log.facts ≡ Some told) its (sym at.told ∙ e)) says

  by_own : (name : ResourceKey) (one : Seen) → place one.row.now ≡ resource_place name →
      says_alone one.kept ≡ true → AreTheNumbers change log one ⊎ IsToldAt log one →
      due.is_exclusive log.facts name ≡ true
  by_own name one stands says (inl first) =
      absurd (apart 0 refl (ap (λ p. p.0) (sym first.there ∙ stands)))
  by_own name one stands says (inr at) = by_row name one at stands one.kept refl says

  -- a resource that is exclusive by the rows is so by the facts
  alone_is : (name : ResourceKey) → torn.is_exclusive all name ≡ true →
      due.is_exclusive log.facts name ≡ true
  alone_is name alone = go (seen_at (resource_place name) all) refl alone where
    go : (o : Option Seen) → seen_at (resource_place name) all ≡ o →
        says_alone (option_and_then (λ one. one.kept) o) ≡ true →
        due.is_exclusive log.facts name ≡ true
    go None e says = absurd (true≢false (sym says))
    go (Some one) e says = by_own name one (found_at (resource_place name) all one e) says
        (found_has (λ it. AreTheNumbers change log it ⊎ IsToldAt log it) (resource_place name) all
        one is.own e)

-- ---- a stage that runs by its row occupies what it uses

-- it is among those that another uses
used_there : (others : List ResourceKey) (name : ResourceKey) → is_used others name ≡ true →
    Contains others name
used_there others name used =
    let found = found_any (λ other. is_eq (resource_cmp other name)) others used in
    let k : key.Resource found.0 ≡ key.Resource name =
    exact_key (key.Resource found.0) (key.Resource name) found.2 in
    let same : found.0 ≡ name = cc in
    subst (Contains others) same found.1

runs : (facts : List Fact) (told : KeptStage) → TellsStage facts told →
    torn.is_running told ≡ true → nodes.is_running told.run told.position facts ≡ true
runs facts told tells is =
    let start = stage_start told.run told.position facts in
    let end = stage_end told.run told.position facts in
    let begun = first_of_two (is_some told.started) (is_none told.ended) is in
    let unended = second_of_two (is_some told.started) (is_none told.ended) is in
    both (is_some start) (is_none end)
    (sym (mapped_some moment_of start) ∙ (sym (ap is_some tells.started) ∙ begun))
    (sym (mapped_none moment_of end) ∙ (sym (ap is_none tells.ended)
    ∙ (mapped_none (λ ended. ended.moment) told.ended ∙ unended)))

pub record IsPlannedAt (facts : List Fact) (run stage : ℕ) (planned : PlanStage) : Type 0 where
  pub queued : QueuedRun
  pub there : IsStageOf facts run stage queued planned

pub planned_at : (facts : List Fact) (run stage : ℕ) (planned : PlanStage) →
    planned_stage run stage facts ≡ Some planned → IsPlannedAt facts run stage planned
planned_at facts run stage planned e = go (by run_told (queueing run facts)) refl e where
  go : (o : Option QueuedRun) → by run_told (queueing run facts) ≡ o →
      option_and_then (λ told. slice_get told.compiled.plan.stages stage) o ≡ Some planned →
      IsPlannedAt facts run stage planned
  go None f h = absurd (none_some None planned refl h)
  go (Some queued) f h =
      record { queued = queued; there = record { queued = f; planned = h } }

occupies : (facts : List Fact) (told : KeptStage) (planned : PlanStage) (name : ResourceKey) →
    TellsStage facts told → planned_stage told.run told.position facts ≡ Some planned →
    torn.is_running told ≡ true → Contains planned.uses name →
    due.is_exclusive facts name ≡ true → Occupies facts name told.run told.position
occupies facts told planned name tells there is uses alone =
    let at = planned_at facts told.run told.position planned there in (
      at.queued,
      planned,
      at.there,
      runs facts told tells is,
      kept_in_filter (due.is_exclusive facts) planned.uses name alone uses,
    )

-- ---- so of two rows that run none shares what is exclusive

pub none_shared : (change : ℕ) (log : Log) (all : List Seen) → AreToldBy change log all →
    HasOneHolder log.facts → (told also : KeptStage) (planned other : PlanStage) →
    TellsStage log.facts told → TellsStage log.facts also →
    planned_stage told.run told.position log.facts ≡ Some planned →
    planned_stage also.run also.position log.facts ≡ Some other →
    torn.is_running told ≡ true → torn.is_running also ≡ true →
    share all planned.uses other.uses ≡ true →
    (told.run ≡ also.run) × (told.position ≡ also.position)
none_shared change log all is one told also planned other tells says there here_too goes runs_too
    shared =
    let found = found_any (λ name. is_used other.uses name && torn.is_exclusive all name)
    planned.uses shared in
    let used = first_of_two (is_used other.uses found.0) (torn.is_exclusive all found.0) found.2 in
    let alone = alone_is change log all is found.0
    (second_of_two (is_used other.uses found.0) (torn.is_exclusive all found.0) found.2) in
    one found.0 told.run told.position also.run also.position
    (occupies log.facts told planned found.0 tells there goes found.1 alone)
    (occupies log.facts also other found.0 says here_too runs_too
    (used_there other.uses found.0 used) alone)
