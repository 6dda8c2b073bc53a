-- A job's name is none of those before it, so no two jobs of a stage have one.
use Rattle.std.proofs.Common.{◌≡◌, ◌||◌, ℕ, Bool, true, false, true≢false, List, [], ◌∷◌, ◌++◌, map}
use Rattle.std.proofs.Common.{Option, Some, None, refl, sym, ap, subst, ◌∙◌}
use Rattle.std.proofs.lemmas.Cmp.{nat_list_cmp_total}
use Rattle.std.specs.List.{list_any, AllByRecursion}
use Rattle.std.specs.Cmp.{tied_itself}
use Rattle.std.specs.Cmp.Lexicographic.{texts_ties}
use Rattle.std.specs.Ordering.{is_eq}
use Rattle.std.specs.Prelude.{codes, Result, Ok, Err, if◌then◌else◌}
use Rattle.pl_base.specs.Folding.{folded}
use Rattle.pl_base.specs.Texts.{is}
use Rattle.pl_base.specs.declared.place.Place.{Place}
use Rattle.pl_base.specs.declared.value.MarkedNode.{MarkedNode}
use Rattle.pl_base.specs.declared.value.MarkedPair.{MarkedPair}
use Rattle.pl_literal.specs.Booleans.{spells}
use Rattle.pl_literal.specs.Items.{kind_of_key, step_keys}
use Rattle.pl_literal.specs.declared.items.ItemKind.{ItemKind}
use Rattle.pl_literal.specs.declared.items.ItemKind.TheVariants as item
use Rattle.pl_reading.specs.Steps.{◌>>=◌}
use Rattle.pl_schema.specs.Jobs.{deployment_of, deployment_row, is_whole_deployment, job_by}
use Rattle.pl_schema.specs.Jobs.{job_from}
use Rattle.pl_schema.specs.Jobs.{job_legs, job_variables, minutes_in, shared_row, strategy_in}
use Rattle.pl_schema.specs.Jobs.{job_in, job_names, job_of, job_row, jobs_in, new_job}
use Rattle.pl_schema_parts.specs.Gives.{Fault}
use Rattle.pl_schema_parts.specs.Names.{is_name, is_taken, name_in, new_name}
use Rattle.pl_schema_parts.specs.Rows.{at_node, has, in_order, in_turn, read_object, read_pair, Row}
use Rattle.pl_schema_parts.specs.Rows.{sets, some_items}
use Rattle.pl_schema_parts.specs.Legs.{legs_in}
use Rattle.pl_schema_parts.specs.Pools.{environment_in, pool_in}
use Rattle.pl_schema_parts.specs.Steps.{steps_in}
use Rattle.pl_schema_parts.specs.Variables.{variables_in}
use Rattle.pl_schema_parts.specs.Scalars.{items_in, pairs_in, text_in}
use Rattle.pl_schema_parts.specs.Scalars.{condition_in, depends_in, truth_in}
use Rattle.pl_schema_parts.specs.declared.fault.SchemaCode.TheVariants.{BadName, MissingKey}
use Rattle.pl_schema_parts.specs.declared.fault.SchemaCode.TheVariants.{NameTwice}
use Rattle.pl_schema_parts.specs.declared.pipeline.JobSpec.{JobSpec}
use Rattle.pl_leg_limits.proofs.Keeping.{good, ignored_keep, in_order_keeps, in_turn_keeps}
use Rattle.pl_leg_limits.proofs.Keeping.{pair_keeps, same_value, sets_keep, AllKeep, Keeps}

-- ---- a name that was read isn't taken

new_text : (taken : List ℕ → Bool) (node : MarkedNode) (text name : List ℕ) →
    new_name taken node text ≡ Ok name → taken name ≡ false
new_text taken node text name e = go (is_name text) (taken text) refl e where
  go : (a b : Bool) → taken text ≡ b →
      (if a then (if b then at_node NameTwice node else Ok text) else at_node BadName node) ≡
      Ok name → taken name ≡ false
  go true false f g = subst (λ (n : List ℕ). taken n ≡ false) (same_value text name g) f
  go true true f g = absurd (cc)
  go false b f g = absurd (cc)

name_new : (taken : List ℕ → Bool) (node : MarkedNode) (name : List ℕ) →
    name_in taken node ≡ Ok name → taken name ≡ false
unfolding name_in
name_new taken node name e =
    let step = good (text_in node) (new_name taken node) name e in
    new_text taken node step.value name step.then_is

-- ---- so a job's isn't, whose first key is its name's

abbrev IsNew : (List ℕ → Bool) → JobSpec → Type 0
IsNew taken job = taken job.name ≡ false

-- the rows behind the first
abbrev behind : Row JobSpec → Row JobSpec
behind [] = []
behind (entry ∷ row) = row

module _ (taken : List ℕ → Bool) where
  kept_name : {X : Type 0} (read : MarkedNode → Result X Fault)
      (keep : JobSpec → X → JobSpec) →
      ((made : JobSpec) (value : X) → (keep made value).name ≡ made.name) →
      Keeps (IsNew taken) (sets read keep)
  kept_name read keep same = sets_keep (IsNew taken) read keep
      (λ made value node e p. subst (λ (n : List ℕ). taken n ≡ false) (sym (same made value)) p)

  shared_keeps : AllKeep (IsNew taken) shared_row
  shared_keeps = (
    kept_name depends_in (λ job names. record job { depends = Some names })
        (λ made value. refl),
    (
      kept_name condition_in (λ job e. record job { condition = Some e })
          (λ made value. refl),
      (
        kept_name truth_in (λ job truth. record job { go_on = truth })
            (λ made value. refl),
        (
          kept_name pool_in (λ job pool. record job { pool = Some pool })
              (λ made value. refl),
          (
            kept_name minutes_in (λ job n. record job { timeout = Some n })
                (λ made value. refl),
            (
              kept_name variables_in job_variables (λ made value. refl),
              (
                ignored_keep (IsNew taken),
                (
                  ignored_keep (IsNew taken),
                  (
                    ignored_keep (IsNew taken),
                    (
                      ignored_keep (IsNew taken),
                      tt,
                    ),
                  ),
                ),
              ),
            ),
          ),
        ),
      ),
    ),
  )

  -- the name is read first, and nothing that is read behind it takes another
  first_names : (row : Row JobSpec) (key : List ℕ) (start : JobSpec) (first : MarkedPair)
      (pairs : List MarkedPair) (end : JobSpec) → is first.key key ≡ true →
      AllKeep (IsNew taken)
      ((key, sets (name_in taken) (λ job name. record job { name = name })) ∷ row) →
      in_order (read_pair
      ((key, sets (name_in taken) (λ job name. record job { name = name })) ∷ row)) start
      (first ∷ pairs) ≡ Ok end → IsNew taken end
  first_names row key start first pairs end named each e =
      let all : Row JobSpec =
      (key, sets (name_in taken) (λ job name. record job { name = name })) ∷ row in
      let step = good (read_pair all start first) (λ next. in_order (read_pair all) next pairs)
      end e in
      in_order_keeps (IsNew taken) (read_pair all) (pair_keeps (IsNew taken) all each) pairs
      step.value end (by_key step.value step.is) step.then_is
    where
      by_key : (next : JobSpec) → read_pair
          ((key, sets (name_in taken) (λ job name. record job { name = name })) ∷ row) start first
          ≡ Ok next → IsNew taken next
      by_key next f =
          let read : sets (name_in taken) (λ (job : JobSpec) name. record job { name = name }) start
          first ≡ Ok next =
          sym (ap (λ (b : Bool). if b then
          sets (name_in taken) (λ (job : JobSpec) name. record job { name = name }) start first
          else read_pair row start first) named) ∙ f in
          let value = good (name_in taken first.item)
          (λ (name : List ℕ). Ok (record start { name = name })) next read in
          subst (IsNew taken) (same_value (record start { name = value.value }) next value.then_is)
          (name_new taken first.item value.value value.is)

  name_keeps : (made : JobSpec) (name : List ℕ) (node : MarkedNode) →
      name_in taken node ≡ Ok name → IsNew taken made →
      IsNew taken (record made { name = name })
  name_keeps made name node e p = name_new taken node name e

  job_new : (node : MarkedNode) (first : MarkedPair) (pairs : List MarkedPair) (job : JobSpec) →
      is first.key (codes "job") ≡ true → job_of taken node (first ∷ pairs) ≡ Ok job →
      IsNew taken job
  unfolding job_of
  job_new node first pairs job named e = go (has (first ∷ pairs) (codes "steps")) e where
    go : (b : Bool) → (if b then in_order (read_pair (job_row taken))
        (new_job false node.origin.source) (first ∷ pairs) else at_node MissingKey node) ≡ Ok job →
        IsNew taken job
    go true f = first_names (behind (job_row taken)) (codes "job")
        (new_job false node.origin.source) first pairs job named (
          sets_keep (IsNew taken) (name_in taken)
              (λ (job : JobSpec) name. record job { name = name }) name_keeps,
          (
            kept_name legs_in job_legs (λ made value. refl),
            (
              kept_name steps_in (λ job steps. record job { steps = steps })
                  (λ made value. refl),
              shared_keeps,
            ),
          ),
        )
        f
    go false f = absurd (cc)

  deployment_new : (node : MarkedNode) (first : MarkedPair) (pairs : List MarkedPair)
      (job : JobSpec) → is first.key (codes "deployment") ≡ true →
      deployment_of taken node (first ∷ pairs) ≡ Ok job → IsNew taken job
  unfolding deployment_of
  deployment_new node first pairs job named e = go (is_whole_deployment (first ∷ pairs)) e where
    go : (b : Bool) → (if b then in_order (read_pair (deployment_row taken))
        (new_job true node.origin.source) (first ∷ pairs) else at_node MissingKey node) ≡ Ok job →
        IsNew taken job
    go true f = first_names (behind (deployment_row taken)) (codes "deployment")
        (new_job true node.origin.source) first pairs job named (
          sets_keep (IsNew taken) (name_in taken)
              (λ (job : JobSpec) name. record job { name = name }) name_keeps,
          (
            kept_name environment_in (λ job e. record job { environment = Some e })
                (λ made value. refl),
            (
              kept_name strategy_in (λ job steps. record job { steps = steps })
                  (λ made value. refl),
              shared_keeps,
            ),
          ),
        )
        f
    go false f = absurd (cc)

  -- which kind of job its first key tells
  key_of_job : (key : List ℕ) → kind_of_key key ≡ Some item.Job → is key (codes "job") ≡ true
  key_of_job key e = go (list_any (is key) step_keys) (is key (codes "job")) refl
      (is key (codes "deployment")) (is key (codes "stage")) (is key (codes "template")) e
    where
      go : (a b : Bool) → is key (codes "job") ≡ b → (c d f : Bool) →
          (if a then Some item.Step else if b then Some item.Job else if c then Some item.Deployment
          else if d then Some item.Stage else if f then Some item.Template else None) ≡
          Some item.Job → is key (codes "job") ≡ true
      go false true is_it c d f h = is_it
      go true b is_it c d f h = absurd (cc)
      go false false is_it true d f h = absurd (cc)
      go false false is_it false true f h = absurd (cc)
      go false false is_it false false true h = absurd (cc)
      go false false is_it false false false h = absurd (cc)

  key_of_deployment : (key : List ℕ) → kind_of_key key ≡ Some item.Deployment →
      is key (codes "deployment") ≡ true
  key_of_deployment key e = go (list_any (is key) step_keys) (is key (codes "job"))
      (is key (codes "deployment")) refl (is key (codes "stage")) (is key (codes "template")) e
    where
      go : (a b c : Bool) → is key (codes "deployment") ≡ c → (d f : Bool) →
          (if a then Some item.Step else if b then Some item.Job else if c then Some item.Deployment
          else if d then Some item.Stage else if f then Some item.Template else None) ≡
          Some item.Deployment → is key (codes "deployment") ≡ true
      go false false true is_it d f h = is_it
      go true b c is_it d f h = absurd (cc)
      go false true c is_it d f h = absurd (cc)
      go false false false is_it true f h = absurd (cc)
      go false false false is_it false true h = absurd (cc)
      go false false false is_it false false h = absurd (cc)

  from_new : (node : MarkedNode) (pairs : List MarkedPair) (job : JobSpec) →
      job_from taken node pairs ≡ Ok job → IsNew taken job
  from_new node [] job e = absurd (cc)
  from_new node (first ∷ pairs) job e = go (kind_of_key first.key) refl e where
    go : (o : Option ItemKind) → kind_of_key first.key ≡ o →
        job_by o taken node (first ∷ pairs) ≡ Ok job → IsNew taken job
    go (Some item.Job) k f = job_new node first pairs job (key_of_job first.key k) f
    go (Some item.Deployment) k f =
        deployment_new node first pairs job (key_of_deployment first.key k) f
    go (Some item.Step) k f = absurd (cc)
    go (Some item.Stage) k f = absurd (cc)
    go (Some item.Template) k f = absurd (cc)
    go None k f = absurd (cc)

  in_new : (node : MarkedNode) (job : JobSpec) → job_in taken node ≡ Ok job → IsNew taken job
  unfolding job_in
  in_new node job e =
      let step = good (pairs_in node) (job_from taken node) job e in
      from_new node step.value job step.then_is

-- ---- jobs of one name are one, so they have one limit

abbrev pub Like : JobSpec → JobSpec → Type 0
Like one other = one.name ≡ other.name → one.max_parallel ≡ other.max_parallel

abbrev pub AllLike : JobSpec → List JobSpec → Type 0
AllLike one jobs = AllByRecursion (Like one) jobs

abbrev pub Alike : List JobSpec → Type 0
Alike jobs = AllByRecursion (λ one. AllLike one jobs) jobs

pub joined : {X : Type 0} (P : X → Type 0) (one two : List X) → AllByRecursion P one →
    AllByRecursion P two → AllByRecursion P (one ++ two)
joined P [] two left right = right
joined P (x ∷ one) two left right = (left.0, joined P one two left.1 right)

pub weaker : {X : Type 0} (P Q : X → Type 0) → ((x : X) → P x → Q x) → (xs : List X) →
    AllByRecursion P xs → AllByRecursion Q xs
weaker P Q leads [] each = tt
weaker P Q leads (x ∷ xs) each = (leads x each.0, weaker P Q leads xs each.1)

-- an untaken name is no other's
spelled : (name : List ℕ) → spells name name ≡ true
spelled name = texts_ties (folded name) (folded name)
    ∙ ap is_eq (tied_itself nat_list_cmp_total (folded name))

or_left : (a b : Bool) → (a || b) ≡ false → a ≡ false
or_left false b e = refl
or_left true b e = absurd (true≢false e)

or_right : (a b : Bool) → (a || b) ≡ false → b ≡ false
or_right false b e = e
or_right true b e = absurd (true≢false e)

others : (jobs : List JobSpec) (name : List ℕ) → is_taken (job_names jobs) name ≡ false →
    AllByRecursion (λ job. ¬ (job.name ≡ name)) jobs
others [] name e = tt
others (job ∷ jobs) name e = (
  λ same. true≢false (sym (ap (spells name) same ∙ spelled name)
      ∙ or_left (spells name job.name) (is_taken (job_names jobs) name) e),
  others jobs name (or_right (spells name job.name) (is_taken (job_names jobs) name) e),
)

alike_more : (jobs : List JobSpec) (new : JobSpec) →
    AllByRecursion (λ job. ¬ (job.name ≡ new.name)) jobs → Alike jobs → Alike (jobs ++ new ∷ [])
alike_more jobs new other alike =
    joined (λ one. AllLike one (jobs ++ new ∷ [])) jobs (new ∷ [])
    (those_before jobs other alike) (
      joined (Like new) jobs (new ∷ [])
          (weaker (λ job. ¬ (job.name ≡ new.name)) (Like new)
          (λ job off same. absurd (off (sym same))) jobs other) ((λ same. refl), tt),
      tt,
    )
  where
    those_before : (some : List JobSpec) → AllByRecursion (λ job. ¬ (job.name ≡ new.name)) some →
        AllByRecursion (λ one. AllLike one jobs) some →
        AllByRecursion (λ one. AllLike one (jobs ++ new ∷ [])) some
    those_before [] off each = tt
    those_before (job ∷ some) off each = (
      joined (Like job) jobs (new ∷ []) each.0 ((λ same. absurd (off.0 same)), tt),
      those_before some off.1 each.1,
    )

pub jobs_alike : (node : MarkedNode) (jobs : List JobSpec) → jobs_in node ≡ Ok jobs → Alike jobs
unfolding jobs_in
jobs_alike node jobs e =
    let step = good (items_in node >>= some_items node)
    (in_turn (λ made it. job_in (is_taken (job_names made)) it) []) jobs e in
    in_turn_keeps Alike (λ made it. job_in (is_taken (job_names made)) it)
    (λ made it one alike is. alike_more made one
    (others made one.name (in_new (is_taken (job_names made)) it one is)) alike)
    step.value [] jobs tt step.then_is
