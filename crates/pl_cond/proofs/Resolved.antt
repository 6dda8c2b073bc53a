-- Expressions with the values of names in their place.
use Rattle.std.proofs.Common.{◌≡◌, ℕ, false, Option, Some, None, List, [], ◌∷◌, ◌++◌, map, refl, ap}
use Rattle.std.proofs.Common.{ap₂}
use Rattle.std.proofs.Common.{subst, sym, ◌∙◌, rules}
use Rattle.std.specs.Prelude.{MatchOption, Ok, Err, ⊤}
use Rattle.std.specs.FinMap as finite
use Rattle.pl_base.specs.Files.{text_cmp}
use Rattle.pl_base.specs.Folding.{folded}
use Rattle.pl_base.specs.declared.origin.Origin.{Origin}
use Rattle.pl_base.specs.declared.value.Value.{Value, Str}
use Rattle.pl_base.specs.declared.value.MarkedNode.{MarkedNode}
use Rattle.pl_expr.specs.declared.expr.Expr.{Expr, Lit, Root, Index, Project, Call, the_lemmas}
use Rattle.pl_expr.specs.declared.expr.Function.{Function}
use Rattle.pl_eval.specs.Known.{Known, root_of}
use Rattle.pl_eval.specs.LookUps.{looked_up, projected}
use Rattle.pl_eval.specs.Means.{Meaning, answer, called, indexed, means, rooted}
use Rattle.pl_reading.specs.Steps.{◌>>=◌}
use Rattle.pl_results.specs.Members.{all_results, known_of, named_results}
use Rattle.pl_cond.specs.declared.context.Context.{Context}
use Rattle.pl_cond.specs.declared.paths.Path.{Path}
use Rattle.pl_cond.specs.declared.variables.Variable.{Variable}
use Rattle.pl_cond.specs.Contexts.{Fits, bare_in, here_in, known_in, roots_at}
use Rattle.pl_cond.specs.Paths.{IsPathOf, along, path_means, with_name}
use Rattle.pl_cond.proofs.Means.{along_last, same_call, with_names}

-- ---- what the kinds of expressions mean

pub means_lit : (known : Known) (here : Origin) (value : Value) →
    means known here (Lit value) ≡ answer here value
means_lit known here value = search (rules, the_lemmas)

pub means_root : (known : Known) (here : Origin) (name : List ℕ) →
    means known here (Root name) ≡ rooted (root_of known name)
means_root known here name = search (rules, the_lemmas)

pub means_index : (known : Known) (here : Origin) (of at : Expr) →
    means known here (Index of at) ≡ indexed here (means known here of) (means known here at)
means_index known here of at = search (rules, the_lemmas)

pub means_project : (known : Known) (here : Origin) (of : Expr) (names : List (List ℕ)) →
    means known here (Project of names) ≡
    (means known here of >>= λ node. answer here (projected names node.value))
means_project known here of names = search (rules, the_lemmas)

pub means_call : (known : Known) (here : Origin) (function : Function) (arguments : List Expr) →
    means known here (Call function arguments) ≡
    called known here function (map (means known here) arguments)
means_call known here function arguments = search (rules, the_lemmas)

-- ---- with names and without them

module _ (context : Context) (variables : List Variable) (fits : Fits context) where
  pub resolved_call : (function : Function) (new old : List Meaning) → new ≡ old →
      called (bare_in context) context.here function new ≡
      called (known_in context variables) context.here function old
  resolved_call function new old same =
      let roots = finite.from_entries (roots_at (here_in context.plan.now) context.plan.now
      context.view.now context.node variables) in
      let ms = context.statuses.members in
      same_call finite.empty roots context.statuses.canceled (all_results ms) (named_results ms)
      context.here function new
      ∙ (λ i. called (with_names finite.empty roots (fits.canceled i)
      (all_results (fits.members i)) (named_results (fits.members i)) roots) context.here function
      (same i))

pub no_root : (context : Context) (name : List ℕ) → root_of (bare_in context) name ≡ None
no_root context name = finite.get-empty text_cmp (folded name)

-- ---- paths

pub root_path : (expr : Expr) (name : List ℕ) (path : Path) → expr ≡ Root name →
    path ≡ record { root = name; names = [] } → IsPathOf expr (Some path)
root_path expr name path is made = λ known here.
    ap (means known here) is ∙ means_root known here name
    ∙ ap (λ (p : Path). path_means known here p.root p.names) (sym made)

step : (here : Origin) (of : Meaning) (name : List ℕ) →
    indexed here of (answer here (Str name)) ≡
    (of >>= λ node. Ok (looked_up here node.value (Str name)))
step here (Ok node) name = refl
step here (Err code) name = refl

pub index_path : (expr of at : Expr) (name : List ℕ) (path longer : Path) → expr ≡ Index of at →
    at ≡ Lit (Str name) → IsPathOf of (Some path) → longer ≡ with_name path name →
    IsPathOf expr (Some longer)
index_path expr of at name path longer is literal before made = λ known here.
    ap (means known here) is ∙ means_index known here of at
    ∙ ap₂ (indexed here) (before known here)
    (ap (means known here) literal ∙ means_lit known here (Str name))
    ∙ step here (path_means known here path.root path.names) name
    ∙ sym (along_last here (rooted (root_of known path.root)) path.names name)
    ∙ ap (λ (p : Path). path_means known here p.root p.names) (sym made)

-- ---- values in the place of paths and of names

module _ (context : Context) (variables : List Variable) where
  pub path_found : (expr : Expr) (path : Path) (names : List (List ℕ)) (o : Option Path)
      (value : Option Value) (A : Type 0) → IsPathOf expr o → o ≡ Some path → names ≡ path.names →
      MatchOption value A (λ found. path_means (known_in context variables) context.here path.root
      names ≡ answer context.here found) →
      MatchOption value ⊤ (λ found. means (known_in context variables) context.here expr ≡
      answer context.here found)
  path_found expr path names o None A is some same holds = tt
  path_found expr path names o (Some found) A is some same holds =
      let P : Option Path → Type 0 = λ p. IsPathOf expr p in
      let path_is : IsPathOf expr (Some path) = subst P some is in
      path_is (known_in context variables) context.here
      ∙ ap (λ ns. path_means (known_in context variables) context.here path.root ns) (sym same)
      ∙ holds

  pub root_gone : (name : List ℕ) (names : List (List ℕ)) (value : Option Value) →
      MatchOption value (names ≡ [] → root_of (known_in context variables) name ≡ None)
      (λ found. path_means (known_in context variables) context.here name names ≡
      answer context.here found) →
      value ≡ None → names ≡ [] → root_of (known_in context variables) name ≡ None
  root_gone name names value holds none empty =
      let P : Option Value → Type 0 = λ o. MatchOption o
      (names ≡ [] → root_of (known_in context variables) name ≡ None)
      (λ found. path_means (known_in context variables) context.here name names ≡
      answer context.here found) in
      let gone : names ≡ [] → root_of (known_in context variables) name ≡ None =
      subst P none holds in
      gone empty

  pub resolved_root : (copy name : List ℕ) → copy ≡ name →
      root_of (known_in context variables) name ≡ None →
      means (bare_in context) context.here (Root copy) ≡
      means (known_in context variables) context.here (Root name)
  resolved_root copy name same none =
      ap (λ n. means (bare_in context) context.here (Root n)) same
      ∙ means_root (bare_in context) context.here name
      ∙ ap rooted (no_root context name)
      ∙ sym (ap rooted none)
      ∙ sym (means_root (known_in context variables) context.here name)

-- ---- texts that are written as literals

pub literal_text : (expr : Expr) (value : Value) (text : Option (List ℕ)) → expr ≡ Lit value →
    MatchOption text ⊤ (λ t. value ≡ Str t) → MatchOption text ⊤ (λ t. expr ≡ Lit (Str t))
literal_text expr value None is holds = tt
literal_text expr value (Some text) is holds = is ∙ ap Lit holds

pub found_path : (expr of at front last : Expr) (text : Option (List ℕ)) (name : List ℕ)
    (o : Option Path) (path longer : Path) → expr ≡ Index of at → last ≡ at → front ≡ of →
    MatchOption text ⊤ (λ t. last ≡ Lit (Str t)) → text ≡ Some name → IsPathOf front o →
    o ≡ Some path → longer ≡ with_name path name → IsPathOf expr (Some longer)
found_path expr of at front last text name o path longer is at_is of_is holds text_is some some_is
    made =
    let P : Option (List ℕ) → Type 0 = λ t. MatchOption t ⊤ (λ t. last ≡ Lit (Str t)) in
    let literal : last ≡ Lit (Str name) = subst P text_is holds in
    let Q : Option Path → Type 0 = λ p. IsPathOf front p in
    let first : IsPathOf front (Some path) = subst Q some_is some in
    let R : Expr → Type 0 = λ e. IsPathOf e (Some path) in
    let before : IsPathOf of (Some path) = subst R of_is first in
    index_path expr of at name path longer is (sym at_is ∙ literal) before made
