-- Expressions that mean the same beside any variables.
use Rattle.std.proofs.Common.{◌≡◌, ℕ, ◌+◌, ◌<◌, false, List, [], ◌∷◌, ◌++◌, length, map, take}
use Rattle.std.proofs.Common.{get_or}
use Rattle.std.proofs.Common.{◌≤◌, refl, ap, ap₂, subst, sym, ◌∙◌}
use Rattle.std.specs.Prelude.{codes}
use Rattle.std.specs.FinMap as finite
use Rattle.std.proofs.lemmas.List.{map-append, take_all, take_more}
use Rattle.pl_expr.specs.declared.expr.Expr.{Expr, Root, Index, Project, Call}
use Rattle.pl_expr.specs.declared.expr.Function.{Function}
use Rattle.pl_eval.specs.LookUps.{projected}
use Rattle.pl_eval.specs.Means.{Meaning, answer, called, indexed, means, rooted}
use Rattle.pl_reading.specs.Steps.{◌>>=◌}
use Rattle.pl_literal.specs.Booleans.{spells}
use Rattle.pl_results.specs.Members.{all_results, members_of, named_results}
use Rattle.pl_cond.specs.Contexts.{AllNeedNone, NeedsNone, here_in, known_at, roots_at}
use Rattle.pl_cond.proofs.Means.{same_call}
use Rattle.pl_cond.proofs.Resolved.{means_call, means_index, means_project, means_root}
use Rattle.pl_cond.proofs.Roots.{same_root}

pub needs_root : (expr : Expr) (name : List ℕ) → expr ≡ Root name →
    false ≡ spells name (codes "variables") → NeedsNone expr
needs_root expr name is other = λ plan view node some others here.
    ap (means (known_at plan view node some) here) is
    ∙ means_root (known_at plan view node some) here name
    ∙ ap rooted (same_root plan view node some others name other)
    ∙ sym (means_root (known_at plan view node others) here name)
    ∙ sym (ap (means (known_at plan view node others) here) is)

pub needs_index : (expr of at : Expr) → expr ≡ Index of at → NeedsNone of → NeedsNone at →
    NeedsNone expr
needs_index expr of at is first second = λ plan view node some others here.
    ap (means (known_at plan view node some) here) is
    ∙ means_index (known_at plan view node some) here of at
    ∙ ap₂ (indexed here) (first plan view node some others here)
    (second plan view node some others here)
    ∙ sym (means_index (known_at plan view node others) here of at)
    ∙ sym (ap (means (known_at plan view node others) here) is)

pub needs_project : (expr of : Expr) (names : List (List ℕ)) → expr ≡ Project of names →
    NeedsNone of → NeedsNone expr
needs_project expr of names is first = λ plan view node some others here.
    ap (means (known_at plan view node some) here) is
    ∙ means_project (known_at plan view node some) here of names
    ∙ ap (λ (m : Meaning). m >>= λ node. answer here (projected names node.value))
    (first plan view node some others here)
    ∙ sym (means_project (known_at plan view node others) here of names)
    ∙ sym (ap (means (known_at plan view node others) here) is)

pub needs_call : (expr : Expr) (function : Function) (arguments : List Expr) →
    expr ≡ Call function arguments → AllNeedNone arguments → NeedsNone expr
needs_call expr function arguments is all = λ plan view node some others here.
    let ms = members_of plan view node in
    ap (means (known_at plan view node some) here) is
    ∙ means_call (known_at plan view node some) here function arguments
    ∙ ap (called (known_at plan view node some) here function)
    (all plan view node some others here)
    ∙ same_call (finite.from_entries (roots_at (here_in plan) plan view node some))
    (finite.from_entries (roots_at (here_in plan) plan view node others)) view.canceled
    (all_results ms) (named_results ms) here function
    (map (means (known_at plan view node others) here) arguments)
    ∙ sym (means_call (known_at plan view node others) here function arguments)
    ∙ sym (ap (means (known_at plan view node others) here) is)

pub need_more : (arguments : List Expr) (at : ℕ) (argument : Expr) → at < length arguments →
    argument ≡ get_or arguments at argument → AllNeedNone (take at arguments) →
    NeedsNone argument → AllNeedNone (take (at + 1) arguments)
need_more arguments at argument within is all one = λ plan view node some others here.
    let longer : take (at + 1) arguments ≡ take at arguments ++ argument ∷ [] =
    take_more arguments at argument within
    ∙ ap (λ last. take at arguments ++ last ∷ []) (sym is) in
    ap (map (means (known_at plan view node some) here)) longer
    ∙ map-append (means (known_at plan view node some) here) (take at arguments) (argument ∷ [])
    ∙ (λ i. all plan view node some others here i ++ one plan view node some others here i ∷ [])
    ∙ sym (map-append (means (known_at plan view node others) here) (take at arguments)
    (argument ∷ []))
    ∙ sym (ap (map (means (known_at plan view node others) here)) longer)

pub need_all : (items arguments : List Expr) (at : ℕ) → length items ≤ at → items ≡ arguments →
    AllNeedNone (take at items) → AllNeedNone arguments
need_all items arguments at past same all =
    let P : List Expr → Type 0 = λ exprs. AllNeedNone exprs in
    subst P (take_all at items past ∙ same) all

pub needs_same : (some other : Expr) → some ≡ other → NeedsNone some → NeedsNone other
needs_same some other same none =
    let P : Expr → Type 0 = λ expr. NeedsNone expr in
    subst P same none
