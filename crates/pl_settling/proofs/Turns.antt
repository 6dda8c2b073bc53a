-- One fact more is added.
use Rattle.std.proofs.Common.{◌≡◌, ◌<◌, ◌≤◌, ◌+◌, ◌-◌, ℕ, List, [], ◌∷◌, ◌++◌, Some, None, length}
use Rattle.std.proofs.Common.{refl, sym, ap, ◌∙◌, subst, arith}
use Rattle.std.specs.Prelude.{Err, Ok, OnErr, Result}
use Rattle.std.proofs.lemmas.List.{append_assoc, append-nil, length-append, length_push}
use Rattle.std.proofs.lemmas.List.Elements.{All-append, All-cons, All-nil}
use Rattle.pl_due.specs.Due.{IsDue}
use Rattle.pl_due.specs.Fit.{AreFit, IsFit, last_moment}
use Rattle.pl_facts.specs.declared.fact.Event.{Event}
use Rattle.pl_facts.specs.declared.fact.Event.TheVariants as event
use Rattle.pl_facts.specs.declared.fact.Fact.{Fact}
use Rattle.pl_due.specs.Below.pl_journal.specs.Log.{Log}
use Rattle.pl_settling.specs.Allowed.{allowed}
use Rattle.pl_settling.specs.Gives.{Gives}
use Rattle.pl_settling.specs.Settles.{Adds, Settles}
use Rattle.pl_settling.proofs.Adding.{adds_more, fact, settles_so}
use Rattle.pl_settling.proofs.Bounded.{bounded}
use Rattle.pl_settling.proofs.Counting.{once}
use Rattle.pl_settling.proofs.Giving.{gives}

abbrev pub with_facts : Log → List Fact → Log
with_facts log facts = record log { facts = facts }

-- what was added so far
abbrev pub SoFar : ℕ → Log → Log → Type 0
SoFar moment start now = (added : List Fact) × Adds moment start.facts added
    × (now ≡ record start { facts = start.facts ++ added })

pub begun : (moment : ℕ) (start : Log) → SoFar moment start start
begun moment start = ([], tt, ap (with_facts start) (sym (append-nil start.facts)))

pub one_more : (moment : ℕ) (start now new : Log) (told : Event) → SoFar moment start now →
    IsDue now.facts moment (Some told) →
    new ≡ record now { facts = now.facts ++ fact moment told ∷ [] } → SoFar moment start new
one_more moment start now new told (added, adds, is) due grown =
    let e : now.facts ≡ start.facts ++ added = ap (λ (l : Log). l.facts) is in
    let more = fact moment told ∷ [] in
    let P : List Fact → Type 0 = λ fs. IsDue fs moment (Some told) in (
      added ++ more,
      adds_more moment start.facts added (fact moment told) adds (subst P e due) refl,
      grown ∙ ap (λ (l : Log). with_facts l (l.facts ++ more)) is
          ∙ ap (with_facts start) (append_assoc start.facts added more),
    )

pub over : (moment : ℕ) (start now : Log) → SoFar moment start now → IsDue now.facts moment None →
    (added : List Fact) × Settles moment start.facts added
    × (now ≡ record start { facts = start.facts ++ added })
over moment start now (added, adds, is) none =
    let e : now.facts ≡ start.facts ++ added = ap (λ (l : Log). l.facts) is in
    let P : List Fact → Type 0 = λ fs. IsDue fs moment None in
    (added, settles_so moment start.facts added adds (subst P e none), is)

-- how many more can come: what plans allow, without what was added so far
abbrev pub left : Log → Log → ℕ
left start now = allowed start.facts + length start.facts - length now.facts

pub less_left : (moment : ℕ) (start now new : Log) (told : Event) → SoFar moment start now →
    IsDue now.facts moment (Some told) →
    new ≡ record now { facts = now.facts ++ fact moment told ∷ [] } →
    left start new < left start now
less_left moment start now new told so_far due grown =
    let (added, adds, is) = one_more moment start now new told so_far due grown in
    let most = bounded moment start.facts added (once moment start.facts added adds) adds in
    let whole : length new.facts ≡ length start.facts + length added =
    ap (λ (l : Log). length l.facts) is ∙ length-append start.facts added in
    let one : length new.facts ≡ length now.facts + 1 =
    ap (λ (l : Log). length l.facts) grown ∙ length_push now.facts (fact moment told) in
    omega (arith, most, whole, one)

-- what holds anyway holds after an error
pub on_err : {X E : Type 0} (r : Result X E) (A : Type 0) → A → OnErr r A
on_err (Ok x) A holds = tt
on_err (Err e) A holds = holds

-- ---- what is due is fit

fit_one : (facts : List Fact) (moment : ℕ) (told : Event) → moment ≤ last_moment →
    Gives facts moment told → IsFit (fact moment told)
fit_one facts moment (event.StageStarted run stage) le is = record { moment = le; plan = tt }
fit_one facts moment (event.StageEnded run stage outcome rule) le is =
    record { moment = le; plan = tt }
fit_one facts moment (event.JobEnded outcome reported stage job run rule outputs) le is =
    record { moment = le; plan = tt }
fit_one facts moment (event.FilePut file) le is = absurd is
fit_one facts moment (event.FileRemoved key) le is = absurd is
fit_one facts moment (event.PipelineSet told) le is = absurd is
fit_one facts moment (event.ResourceSet told) le is = absurd is
fit_one facts moment (event.PrincipalSet told) le is = absurd is
fit_one facts moment (event.AgentSet told) le is = absurd is
fit_one facts moment (event.RunQueued told) le is = absurd is
fit_one facts moment (event.DecisionMade run stage approver approve) le is = absurd is
fit_one facts moment (event.JobTaken run stage job agent) le is = absurd is
fit_one facts moment (event.RunCanceled run) le is = absurd is

pub still_fit : (moment : ℕ) (now new : Log) (told : Event) → moment ≤ last_moment →
    AreFit now.facts → IsDue now.facts moment (Some told) →
    new ≡ record now { facts = now.facts ++ fact moment told ∷ [] } → AreFit new.facts
still_fit moment now new told le fit due grown =
    let e : now.facts ++ fact moment told ∷ [] ≡ new.facts =
    sym (ap (λ (l : Log). l.facts) grown) in
    subst AreFit e (All-append IsFit now.facts (fact moment told ∷ []) fit
    (All-cons IsFit (fact moment told) [] (fit_one now.facts moment told le
    (gives now.facts moment told due)) (All-nil IsFit)))
