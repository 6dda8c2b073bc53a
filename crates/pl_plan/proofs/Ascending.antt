-- What a stage uses ascends by kind and name.
use Rattle.std.proofs.Common.{◌≡◌, ℕ, ◌+◌, List, [], ◌∷◌, refl, ap, ◌∙◌, arith}
use Rattle.std.proofs.lemmas.Cmp.{nat_cmp_total, nat_list_cmp_total, on_total, then_total}
use Rattle.std.proofs.lemmas.List.Elements.{All-from_recursion}
use Rattle.std.proofs.lemmas.List.Kept.{AllPairs-cons}
use Rattle.std.specs.BTreeSet.{insert_key}
use Rattle.std.specs.Cmp.{IsTotalOrder}
use Rattle.std.specs.List.{AllByRecursion, AllPairs}
use Rattle.std.specs.Ordering.{ordering_reverse, match_ordering}
use Rattle.std.specs.declared.cmp.Ordering.{Ordering}
use Rattle.std.specs.declared.cmp.Ordering.TheVariants.{Less, Equal, Greater}
use Rattle.pl_base.specs.declared.resource.ResourceKey.{ResourceKey}
use Rattle.pl_schema_parts.specs.declared.pipeline.Pipeline.{Pipeline}
use Rattle.pl_schema_parts.specs.declared.pipeline.StageSpec.{StageSpec}
use Rattle.pl_depends.specs.Places.{Finding}
use Rattle.pl_uses.specs.Uses.{all_uses, key_cmp, put_all, rank, uses_of}
use Rattle.pl_plan.specs.Laws.{Ascend}
use Rattle.pl_plan.specs.Plans.{plan_stages}
use Rattle.pl_plan.specs.declared.plan.PlanStage.{PlanStage}

module _ {K : Type 0} (cmp : K → K → Ordering) (order : IsTotalOrder cmp) where
  abbrev pub IsBelow : K → K → Type 0
  IsBelow left right = cmp left right ≡ Less

  -- each is below all behind it
  abbrev pub Ascending : List K → Type 0
  Ascending [] = Unit {0}
  Ascending (x ∷ xs) = AllByRecursion (IsBelow x) xs × Ascending xs

  above : (k x : K) (xs : List K) → IsBelow k x → AllByRecursion (IsBelow x) xs →
      AllByRecursion (IsBelow k) xs
  above k x [] less all = tt
  above k x (y ∷ ys) less all = (order.trans k x y less all.0, above k x ys less all.1)

  one_more : (x k : K) (xs : List K) (r : Ordering) → IsBelow x k →
      (y : K) → IsBelow x y → AllByRecursion (IsBelow x) xs →
      AllByRecursion (IsBelow x) (insert_key cmp xs k) →
      AllByRecursion (IsBelow x) (match_ordering r (k ∷ y ∷ xs) (y ∷ xs) (y ∷ insert_key cmp xs k))
  one_more x k xs Less less y next all more = (less, (next, all))
  one_more x k xs Equal less y next all more = (next, all)
  one_more x k xs Greater less y next all more = (next, more)

  below_all : (x k : K) (xs : List K) → IsBelow x k → AllByRecursion (IsBelow x) xs →
      AllByRecursion (IsBelow x) (insert_key cmp xs k)
  below_all x k [] less all = (less, tt)
  below_all x k (y ∷ ys) less all =
      one_more x k ys (cmp k y) less y all.0 all.1 (below_all x k ys less all.1)

  put_by : (k x : K) (xs : List K) (r : Ordering) → cmp k x ≡ r → Ascending (x ∷ xs) →
      Ascending (insert_key cmp xs k) →
      Ascending (match_ordering r (k ∷ x ∷ xs) (x ∷ xs) (x ∷ insert_key cmp xs k))
  put_by k x xs Less is all more = ((is, above k x xs is all.0), all)
  put_by k x xs Equal is all more = all
  put_by k x xs Greater is all more =
      (below_all x k xs (order.antisymm x k ∙ ap ordering_reverse is) all.0, more)

  pub ascend_put : (xs : List K) (k : K) → Ascending xs → Ascending (insert_key cmp xs k)
  ascend_put [] k all = (tt, tt)
  ascend_put (x ∷ xs) k all = put_by k x xs (cmp k x) refl all (ascend_put xs k all.1)

  pub pairs_ascend : (xs : List K) → Ascending xs → AllPairs IsBelow xs
  pairs_ascend [] all = λ i j d less within. absurd (omega arith)
  pairs_ascend (x ∷ xs) all = AllPairs-cons IsBelow x xs (All-from_recursion (IsBelow x) xs all.0)
      (pairs_ascend xs all.1)

pub key_order : IsTotalOrder key_cmp
key_order = then_total (on_total (λ (key : ResourceKey). rank key.kind) nat_cmp_total)
    (on_total (λ (key : ResourceKey). key.name) nat_list_cmp_total)

all_ascend : (kept keys : List ResourceKey) → Ascending key_cmp key_order kept →
    Ascending key_cmp key_order (put_all kept keys)
all_ascend kept [] all = all
all_ascend kept (key ∷ keys) all =
    all_ascend (insert_key key_cmp kept key) keys (ascend_put key_cmp key_order kept key all)

pub uses_ascend : (pipeline : Pipeline) (stage : StageSpec) → Ascend (uses_of pipeline stage)
unfolding uses_of
uses_ascend pipeline stage = pairs_ascend key_cmp key_order (uses_of pipeline stage)
    (all_ascend [] (all_uses pipeline stage) tt)

pub all_uses_ascend : (pipeline : Pipeline) (find : Finding) (at : ℕ) (stages : List StageSpec) →
    AllByRecursion (λ (stage : PlanStage). Ascend stage.uses) (plan_stages pipeline find at stages)
all_uses_ascend pipeline find at [] = tt
all_uses_ascend pipeline find at (stage ∷ stages) =
    (uses_ascend pipeline stage, all_uses_ascend pipeline find (at + 1) stages)
