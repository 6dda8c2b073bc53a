use Rattle.std.proofs.Common.{◌≡◌, ◌≢◌, ◌++◌, Bor, ℕ, List, Option, ap, sym, ◌∙◌, subst}
use Rattle.std.specs.Option.{MatchOption}
use Rattle.std.proofs.lemmas.Bool.Decides.{Decides-eqb}
use Rattle.std.proofs.lemmas.Slice.Eq.{strip_prefix_is}
use Rattle.pl_base.specs.Texts.{is}
use Rattle.pl_plan.specs.Labels.{label_by}
use Rattle.pl_granting.proofs.Labels.{behind_name, other_name}
use Rattle.pl_granting.proofs.job_at.has_label.Goals as goal

-- what taking the name away gives
abbrev Taken : List ℕ → List ℕ → Option (Bor (List ℕ)) → Type 0
Taken text name found =
    MatchOption found ((rest : List ℕ) → text ≢ name ++ rest) (λ x. text ≡ name ++ x.now)

pub returns-in-Some-strip_prefix : goal.returns-in-Some-strip_prefix
returns-in-Some-strip_prefix c =
    let text = c.as_bytes.result.now in
    let name = c.as_bytes-in-Some.result.now in
    let rest = c.in-Some-strip_prefix.rest.now in
    let begins = subst (Taken text name) c.in-Some-strip_prefix.is
    (strip_prefix_is Decides-eqb text name c.strip_prefix.result c.strip_prefix.ensures.cases) in
    c.is_dotted.ensures
    ∙ behind_name c.args.planned.now.name c.in-Some.leg c.args.text.now rest
    (sym c.as_bytes.ensures ∙ begins ∙ ap (λ n. n ++ rest) c.as_bytes-in-Some.ensures)
    ∙ ap (λ (leg : Option (List ℕ)). is (label_by c.args.planned.now.name leg) c.args.text.now)
    (sym c.in-Some.is)

pub returns-in-None-strip_prefix : goal.returns-in-None-strip_prefix
returns-in-None-strip_prefix c =
    let text = c.as_bytes.result.now in
    let name = c.as_bytes-in-Some.result.now in
    let none = subst (Taken text name) c.in-None-strip_prefix.is
    (strip_prefix_is Decides-eqb text name c.strip_prefix.result c.strip_prefix.ensures.cases) in
    other_name c.args.planned.now.name c.in-Some.leg c.args.text.now
    (λ rest e. none rest (c.as_bytes.ensures ∙ e
    ∙ ap (λ n. n ++ rest) (sym c.as_bytes-in-Some.ensures)))
    ∙ ap (λ (leg : Option (List ℕ)). is (label_by c.args.planned.now.name leg) c.args.text.now)
    (sym c.in-Some.is)
