-- The tree of a root file and of the template that it extends.
use Rattle.std.proofs.Common.{◌≡◌, Bool, true, false, cond, Option, Some, None}
use Rattle.std.proofs.Common.{List, [], ◌∷◌, refl, sym, subst, ◌∙◌, ap, rules}
use Rattle.std.specs.Prelude.{IfOk, filter, find, codes}
use Rattle.std.specs.List.{AllByRecursion as Each, filter_map, cons_option}
use Rattle.std.specs.Option.{option_map}
use Rattle.pl_base.specs.declared.origin.Origin.{Origin}
use Rattle.pl_base.specs.declared.value.Value.{Object, out-Value, the_lemmas}
use Rattle.pl_base.specs.declared.value.Value.TheOpen as layer
use Rattle.pl_base.specs.declared.value.MarkedNode.{MarkedNode}
use Rattle.pl_base.specs.declared.value.MarkedPair.{MarkedPair}
use Rattle.pl_frame.specs.Doubles.{first_double}
use Rattle.pl_base.specs.Texts.{is}
use Rattle.pl_directives.specs.declared.fault.ExpandProblem.{ExpandProblem}
use Rattle.pl_directives.specs.declared.progress.Content.{Content}
use Rattle.pl_directives.specs.declared.progress.Content.TheVariants.{Unknown, Items, Pairs}
use Rattle.pl_calls.specs.Judging.{unless_at}
use Rattle.pl_eval_laws.proofs.Lists.{each_append, each_implies}
use Rattle.pl_eval_laws.proofs.Trees.{Asked as Wanted, PairFrom}
use Rattle.pl_origins.proofs.Steps.{ok_then, any_then}
use Rattle.pl_expand.specs.Below.pl_extends.specs.declared.extending.Extension.{Extension}
use Rattle.pl_expand.specs.Below.pl_extends.specs.Forms.{is_form, form_place}
use Rattle.pl_expand.specs.Merging.{is_replaced, with_items, root_side}
use Rattle.pl_expand.specs.Merging.{template_side, joined_pairs, shared_variables, merged_with}
use Rattle.pl_expand.specs.Tree.{stands, object_pairs, root_object}
use Rattle.pl_provenance.specs.Roots.{pairs_of, jobs_of}

-- no pair of a list is one of jobs
abbrev NoForms : List MarkedPair → Type 0
NoForms pairs = Each (λ (pair : MarkedPair). is_form pair.key ≡ false) pairs

none_found :
    (pairs : List MarkedPair) → find (λ pair. is_form pair.key) pairs ≡ None → NoForms pairs
none_found [] none = tt
none_found (pair ∷ pairs) none = by (is_form pair.key) refl none (none_found pairs)
  where
    by : (b : Bool) → is_form pair.key ≡ b →
        cond b (Some pair) (find (λ pair. is_form pair.key) pairs) ≡ None →
        (find (λ pair. is_form pair.key) pairs ≡ None → NoForms pairs) →
        (is_form pair.key ≡ false) × NoForms pairs
    by true is none later = absurd (cc)
    by false is none later = (is, later none)

no_forms :
    (pairs : List MarkedPair) (problem : ExpandProblem) →
    IfOk (unless_at {X = Unit {0}} problem (form_place pairs) tt) (λ none. NoForms pairs)
no_forms pairs problem = by (find (λ pair. is_form pair.key) pairs) refl
  where
    by : (found : Option MarkedPair) → find (λ pair. is_form pair.key) pairs ≡ found →
        IfOk (unless_at {X = Unit {0}} problem
        (option_map (λ pair. pair.key_origin.source) found) tt) (λ none. NoForms pairs)
    by None is = none_found pairs is
    by (Some pair) is = tt

-- ---- what the root gives beside the template has its own keys

module _ (joined : Option (List MarkedNode)) (more : List MarkedPair) where
  items_key : (pair : MarkedPair) → (with_items joined pair).key ≡ pair.key
  items_key pair = by joined
    where
      by : (joined : Option (List MarkedNode)) → (with_items joined pair).key ≡ pair.key
      by None = refl
      by (Some items) = refl

  abbrev Behind : List MarkedPair → Option MarkedPair → List MarkedPair
  Behind rest side = cons_option side rest

  side_forms :
      (pair : MarkedPair) (rest : List MarkedPair) → is_form pair.key ≡ false → NoForms rest →
      NoForms (cons_option (root_side joined more pair) rest)
  side_forms pair rest none others = by (is_replaced more pair.key)
    where
      named : (b : Bool) →
          NoForms (cons_option (cond b (Some (with_items joined pair)) (Some pair)) rest)
      named true = (ap is_form (items_key pair) ∙ none, others)
      named false = (none, others)

      by : (b : Bool) → NoForms (cons_option (cond b None
          (cond (is pair.key (codes "variables")) (Some (with_items joined pair)) (Some pair)))
          rest)
      by true = others
      by false = named (is pair.key (codes "variables"))

  sides_forms :
      (pairs : List MarkedPair) → NoForms pairs → NoForms (filter_map (root_side joined more) pairs)
  sides_forms [] none = tt
  sides_forms (pair ∷ pairs) none =
      side_forms pair (filter_map (root_side joined more) pairs) none.0 (sides_forms pairs none.1)

-- ---- the pairs of jobs

module _ (P : Wanted) where
  abbrev WhereForm : MarkedPair → Type 0
  WhereForm pair = is_form pair.key ≡ true → PairFrom P P pair

  each_kept :
      (test : MarkedPair → Bool) (pairs : List MarkedPair) → Each WhereForm pairs →
      Each WhereForm (filter test pairs)
  each_kept test [] all = tt
  each_kept test (pair ∷ pairs) all = by (test pair) (each_kept test pairs all.1)
    where
      by : (b : Bool) → Each WhereForm (filter test pairs) →
          Each WhereForm (cond b (pair ∷ filter test pairs) (filter test pairs))
      by true later = (all.0, later)
      by false later = later

  forms_kept :
      (pairs : List MarkedPair) → Each WhereForm pairs →
      Each (PairFrom P P) (filter (λ pair. is_form pair.key) pairs)
  forms_kept [] all = tt
  forms_kept (pair ∷ pairs) all = by (is_form pair.key) refl (forms_kept pairs all.1)
    where
      by : (b : Bool) → is_form pair.key ≡ b →
          Each (PairFrom P P) (filter (λ pair. is_form pair.key) pairs) →
          Each (PairFrom P P) (cond b (pair ∷ filter (λ pair. is_form pair.key) pairs)
          (filter (λ pair. is_form pair.key) pairs))
      by true is later = (all.0 is, later)
      by false is later = later

  no_form : (pair : MarkedPair) → is_form pair.key ≡ false → WhereForm pair
  no_form pair none is = absurd (cc)

  joined_from :
      (pairs more : List MarkedPair) (joined : Option (List MarkedNode)) → NoForms pairs →
      Each (PairFrom P P) more → Each WhereForm (joined_pairs pairs more joined)
  joined_from pairs more joined none all =
      each_append WhereForm (filter_map (root_side joined more) pairs)
      (filter (template_side pairs) more)
      (each_implies (λ (pair : MarkedPair). is_form pair.key ≡ false) WhereForm no_form
      (filter_map (root_side joined more) pairs) (sides_forms joined more pairs none))
      (each_kept (template_side pairs) more
      (each_implies (PairFrom P P) WhereForm (λ pair own is. own) more all))

  merged_from :
      (more pairs : List MarkedPair) → Each (PairFrom P P) more →
      IfOk (merged_with more pairs) (Each WhereForm)
  merged_from more pairs all =
      ok_then (λ none. NoForms pairs) (Each WhereForm) (unless_at _ (form_place pairs) tt) _
      (no_forms pairs _)
      (λ none without. any_then (Each WhereForm) (shared_variables pairs more) _
      (λ joined. joined_from pairs more joined without all))

  opened_is : (pairs : List MarkedPair) → out-Value (Object pairs) ≡ layer.Object pairs
  opened_is pairs = search (rules, the_lemmas)

  -- the jobs of the tree are those of the template
  pub tree_from :
      (extension : Extension) (origin : Origin) (content : Content) →
      Each (PairFrom P P) extension.pairs →
      IfOk (root_object (Some extension) origin content)
      (λ tree. Each (PairFrom P P) (jobs_of tree))
  tree_from extension origin (Pairs pairs) all =
      ok_then (Each WhereForm) (λ tree. Each (PairFrom P P) (jobs_of tree))
      (object_pairs (Some extension) pairs) _
      (any_then (Each WhereForm) (unless_at {X = Unit {0}} _ (first_double pairs) tt) _
      (λ none. merged_from extension.pairs (filter stands pairs) all))
      (λ pairs where_form.
      subst (λ opened. Each (PairFrom P P) (filter (λ pair. is_form pair.key) (pairs_of opened)))
      (sym (opened_is pairs)) (forms_kept pairs where_form))
  tree_from extension origin Unknown all = tt
  tree_from extension origin (Items items) all = tt
