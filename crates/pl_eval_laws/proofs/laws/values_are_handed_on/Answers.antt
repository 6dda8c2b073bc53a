use Rattle.std.proofs.Common.{◌≡◌, inl, inr, List, ℕ, Some, Result, Ok, Err, refl}
use Rattle.std.specs.Prelude.{Contains, IfOk}
use Rattle.std.specs.List.{AllByRecursion as Each}
use Rattle.pl_base.specs.declared.origin.Origin.{Origin}
use Rattle.pl_base.specs.declared.value.MarkedNode.{MarkedNode}
use Rattle.pl_eval.specs.Known.{Known, root_of}
use Rattle.pl_eval.specs.Means.{means}
use Rattle.pl_eval_laws.specs.Handing.{IsHandedOn, HandsOn}
use Rattle.pl_eval_laws.specs.Marks.{marks_of}
use Rattle.pl_eval_laws.specs.Trees.{origins_of}
use Rattle.pl_eval_laws.proofs.Leads.{leads_of}
use Rattle.pl_eval_laws.proofs.Lists.{each_implies, each_of, each_contained}
use Rattle.pl_eval_laws.proofs.Trees.{NodeFrom, Any, Marked, only, nothing_led}
use Rattle.pl_eval_laws.proofs.Evaluated.{evaluated}
use Rattle.pl_eval_laws.proofs.laws.values_are_handed_on.Goals as goal

held :
    (known : Known) (here : Origin) (name : List ℕ) (root : MarkedNode) →
    root_of known name ≡ Some root → NodeFrom (only (IsHandedOn known here)) Any root
unfolding NodeFrom
held known here name root is = (
  each_implies (Contains (origins_of root)) (IsHandedOn known here)
      (λ origin stands. inr (record { name = name; root = root; holds = is; stands = stands }))
      (origins_of root) (each_contained (origins_of root)),
  (
    nothing_led (leads_of root),
    each_of (Marked (only (IsHandedOn known here))) (λ one files. tt) (marks_of root),
  ),
)

ok_implies :
    {X E : Type 0} (A B : X → Type 0) → ((x : X) → A x → B x) → (step : Result X E) →
    IfOk step A → IfOk step B
ok_implies A B implies (Ok x) all = implies x all
ok_implies A B implies (Err code) all = tt

hands_on : HandsOn
unfolding NodeFrom
hands_on known here mode depth expr given =
    ok_implies (NodeFrom (only (IsHandedOn known here)) Any)
    (λ node. Each (IsHandedOn known here) (origins_of node)) (λ node all. all.0)
    (means known here expr)
    (evaluated (only (IsHandedOn known here)) Any here (inl refl) (λ said files. tt) known
    (held known here) mode depth expr given)

pub returns : goal.returns
returns c = hands_on
