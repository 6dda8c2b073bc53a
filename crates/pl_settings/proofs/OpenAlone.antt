-- No stage of a run that isn't open is running.
use Rattle.std.proofs.Common.{◌≡◌, ℕ, Bool, true, false, ◌&&◌, cond, List, [], ◌∷◌, ◌++◌, length}
use Rattle.std.proofs.Common.{filter, flat_map, filter_map, Option, Some, None, is_some, slice_get}
use Rattle.std.proofs.Common.{if◌then◌else◌, refl, sym, ap, ◌∙◌}
use Rattle.std.specs.List.{cons_option, list_any, range_with_len}
use Rattle.std.specs.Option.{option_and_then, option_map_or}
use Rattle.std.proofs.lemmas.Bool.{or_parts}
use Rattle.pl_base.specs.declared.resource.ResourceKey.{ResourceKey}
use Rattle.pl_facts.specs.declared.fact.Fact.{Fact}
use Rattle.pl_facts.specs.declared.fact.QueuedRun.{QueuedRun}
use Rattle.pl_journal.specs.Runs.{queueing, run_told, stage_start}
use Rattle.pl_journal.specs.Settings.{by}
use Rattle.pl_open_runs.specs.Open.{has_open_stage, is_open, is_open_stage, open_runs, queued_runs}
use Rattle.pl_plan.specs.declared.plan.PlanStage.{PlanStage}
use Rattle.pl_settings.specs.Running.{Stage, running_among, running_at, running_of, running_on}
use Rattle.pl_settings.specs.Running.{uses}

-- ---- what gives nothing needn't be looked at

pub without_others : {X Y : Type 0} (f : X → List Y) (p : X → Bool) →
    ((x : X) → p x ≡ false → f x ≡ []) → (xs : List X) → flat_map f (filter p xs) ≡ flat_map f xs
without_others f p none [] = refl
without_others f p none (x ∷ xs) = one (without_others f p none xs) (p x) refl
  where
    one : flat_map f (filter p xs) ≡ flat_map f xs → (b : Bool) → p x ≡ b →
        flat_map f (filter p (x ∷ xs)) ≡ flat_map f (x ∷ xs)
    one rest true is = ap (λ t. flat_map f (cond t (x ∷ filter p xs) (filter p xs))) is
        ∙ ap (λ ys. f x ++ ys) rest
    one rest false is = ap (λ t. flat_map f (cond t (x ∷ filter p xs) (filter p xs))) is
        ∙ rest ∙ ap (λ ys. ys ++ flat_map f xs) (sym (none x is))

-- ---- stages that have ended

module _ (facts : List Fact) (key : ResourceKey) (run : ℕ) where
  ended : (u s b : Bool) → b ≡ false → (u && (s && b)) ≡ false
  ended true true b is = is
  ended true false b is = refl
  ended false s b is = refl

  ended_at : (stage : ℕ) → is_open_stage run stage facts ≡ false → (o : Option PlanStage) →
      option_and_then {U = Stage} (λ planned. if uses key planned
      && (is_some (stage_start run stage facts) && is_open_stage run stage facts)
      then Some (run, planned.name) else None) o ≡ None
  ended_at stage is None = refl
  ended_at stage is (Some planned) =
      let found : Option Stage = Some (run, planned.name) in
      ap (λ b. cond b found None)
      (ended (uses key planned) (is_some (stage_start run stage facts))
      (is_open_stage run stage facts) is)

  none_among : (stages : List PlanStage) (places : List ℕ) →
      list_any (λ stage. is_open_stage run stage facts) places ≡ false →
      filter_map (running_at facts key run stages) places ≡ []
  none_among stages [] none = refl
  none_among stages (stage ∷ places) none =
      let parts = or_parts (is_open_stage run stage facts)
      (list_any (λ one. is_open_stage run one facts) places) none in
      ap (λ o. cons_option o (filter_map (running_at facts key run stages) places))
      (ended_at stage parts.0 (slice_get stages stage))
      ∙ none_among stages places parts.1

  none_told : (o : Option QueuedRun) → option_map_or
      (λ queued. has_open_stage run (length queued.compiled.plan.stages) facts) o false ≡ false →
      option_map_or (λ queued. running_among facts key run queued.compiled.plan.stages) o [] ≡ []
  none_told None none = refl
  none_told (Some queued) none =
      none_among queued.compiled.plan.stages
      (range_with_len 0 (length queued.compiled.plan.stages)) none

  none_of : is_open run facts ≡ false → running_of facts key run ≡ []
  none_of none = none_told (by run_told (queueing run facts)) none

-- ---- open runs are all that need be looked at

pub open_alone : (facts : List Fact) (key : ResourceKey) →
    flat_map (running_of facts key) (open_runs facts) ≡ running_on facts key
open_alone facts key =
    without_others (running_of facts key) (λ run. is_open run facts) (none_of facts key)
    (queued_runs facts)
