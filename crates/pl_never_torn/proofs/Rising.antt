-- No fact of a legal history is later than the last moment.
use Rattle.std.proofs.Common.{◌≡◌, ◌≤◌, ◌⊎◌, inl, inr, ℕ, max, true, List, [], ◌∷◌, ◌++◌, Option}
use Rattle.std.proofs.Common.{Some, None, refl, sym, ap, subst, arith}
use Rattle.std.proofs.lemmas.List.{append-nil, append_assoc}
use Rattle.std.specs.List.{AllByRecursion}
use Rattle.std.specs.Option.{option_map_or, option_or}
use Rattle.pl_facts.specs.declared.entry.Entry.{Entry}
use Rattle.pl_facts.specs.declared.fact.Event.{Event}
use Rattle.pl_facts.specs.declared.fact.Fact.{Fact}
use Rattle.pl_history.specs.History.{Opening, held_of, log_of}
use Rattle.pl_history.specs.Legal.{Follows, Legal, LegalFrom}
use Rattle.pl_history.proofs.Longer.{made_last}
use Rattle.pl_history.proofs.Standing.{adds, entered}
use Rattle.pl_journal.specs.Log.{Log, last_moment}
use Rattle.pl_log.specs.Latest.{latest}
use Rattle.pl_granting.specs.Below.pl_settling.specs.Settles.{Adds}
use Rattle.pl_history.specs.Below.pl_step.specs.Full.{with_facts}
use Rattle.pl_history.specs.Below.pl_step.specs.Step.{happened}
use Rattle.pl_never_torn.specs.Rising.{NoneLater}

-- ---- the facts of an entry have the moment of its call

abbrev AreAt : ℕ → List Fact → Type 0
AreAt moment facts = AllByRecursion (λ fact. fact.moment ≡ moment) facts

pub joined : (P : Fact → Type 0) (one two : List Fact) → AllByRecursion P one →
    AllByRecursion P two → AllByRecursion P (one ++ two)
joined P [] two left right = right
joined P (fact ∷ one) two left right = (left.0, joined P one two left.1 right)

pub weaker : (P Q : Fact → Type 0) → ((fact : Fact) → P fact → Q fact) → (facts : List Fact) →
    AllByRecursion P facts → AllByRecursion Q facts
weaker P Q leads [] each = tt
weaker P Q leads (fact ∷ facts) each =
    (leads fact each.0, weaker P Q leads facts each.1)

due_at : (moment : ℕ) (facts due : List Fact) → Adds moment facts due → AreAt moment due
due_at moment facts [] settles = tt
due_at moment facts (one ∷ due) settles =
    (settles.1, due_at moment (facts ++ one ∷ []) due settles.2)

happened_at : (moment : ℕ) (told : Option Event) → AreAt moment (happened moment told)
happened_at moment None = tt
happened_at moment (Some told) = (refl, tt)

entry_at : (opening : Opening) (before : List Entry) (entry : Entry) →
    Follows opening before entry → AreAt entry.call.moment entry.facts
entry_at opening before entry follows =
    let (made, is) = entered opening before entry follows in
    let moment = entry.call.moment in
    subst (AreAt moment) (sym is.are) (joined (λ fact. fact.moment ≡ moment) is.due
    (happened moment is.answer.event) (due_at moment (log_of opening before).facts is.due
    (adds (held_of opening before) (log_of opening before) entry.call made entry.facts is))
    (happened_at moment is.answer.event))

-- ---- the latest fact is one of the last ones

latest_of : (P : Fact → Type 0) (facts : List Fact) → AllByRecursion P facts →
    (facts ≡ []) ⊎ ((fact : Fact) × (latest (λ _. true) facts ≡ Some fact) × P fact)
latest_of P [] each = inl refl
latest_of P (one ∷ facts) each =
    inr (by (latest (λ _. true) facts) refl (latest_of P facts each.1)) where
      by : (o : Option Fact) → latest (λ _. true) facts ≡ o →
          (facts ≡ []) ⊎ ((fact : Fact) × (latest (λ _. true) facts ≡ Some fact) × P fact) →
          (fact : Fact) × (option_or (latest (λ _. true) facts) (Some one) ≡ Some fact) × P fact
      by o e (inl none) = (
        one,
        ap (λ (some : List Fact). option_or (latest (λ _. true) some) (Some one)) none,
        each.0,
      )
      by o e (inr there) = (
        there.0,
        ap (λ (some : Option Fact). option_or some (Some one)) there.1,
        there.2,
      )

latest_behind : (facts added : List Fact) (fact : Fact) →
    latest (λ _. true) added ≡ Some fact → latest (λ _. true) (facts ++ added) ≡ Some fact
latest_behind [] added fact e = e
latest_behind (one ∷ facts) added fact e =
    ap (λ (some : Option Fact). option_or some (Some one)) (latest_behind facts added fact e)

-- so the last moment is no earlier than they are
last_behind : (log : Log) (added : List Fact) (moment : ℕ) → AreAt moment added →
    ¬ (added ≡ []) → moment ≤ last_moment (with_facts log added)
last_behind log added moment each some =
    by (latest_of (λ fact. fact.moment ≡ moment) added each) where
      by : (added ≡ []) ⊎
          ((fact : Fact) × (latest (λ _. true) added ≡ Some fact) × (fact.moment ≡ moment)) →
          moment ≤ last_moment (with_facts log added)
      by (inl none) = absurd (some none)
      by (inr there) =
          let last : last_moment (with_facts log added) ≡ max log.opening.moment there.0.moment =
          ap (λ (found : Option Fact). option_map_or
          (λ (fact : Fact). max log.opening.moment fact.moment) found log.opening.moment)
          (latest_behind log.facts added there.0 there.1) in
          omega (arith, last, there.2)

-- ---- from entry to entry

none_later : (log : Log) (added : List Fact) (moment : ℕ) → NoneLater log →
    last_moment log ≤ moment → AreAt moment added → ¬ (added ≡ []) →
    NoneLater (with_facts log added)
none_later log added moment was later each some =
    let last = last_moment (with_facts log added) in
    let behind = last_behind log added moment each some in
    joined (λ fact. fact.moment ≤ last) log.facts added
    (weaker (λ fact. fact.moment ≤ last_moment log) (λ fact. fact.moment ≤ last)
    (λ fact is. omega (arith, is, later, behind)) log.facts was)
    (weaker (λ fact. fact.moment ≡ moment) (λ fact. fact.moment ≤ last)
    (λ fact is. omega (arith, is, behind)) added each)

pub one_more : (opening : Opening) (before : List Entry) (entry : Entry) →
    NoneLater (log_of opening before) → Follows opening before entry →
    NoneLater (log_of opening (before ++ entry ∷ []))
one_more opening before entry was follows =
    subst NoneLater (made_last opening before entry) (none_later (log_of opening before) entry.facts
    entry.call.moment was follows.later (entry_at opening before entry follows) follows.adds)

rising_from : (opening : Opening) (before entries : List Entry) →
    NoneLater (log_of opening before) → LegalFrom opening before entries →
    NoneLater (log_of opening (before ++ entries))
rising_from opening before [] was legal =
    subst (λ (es : List Entry). NoneLater (log_of opening es)) (sym (append-nil before)) was
rising_from opening before (entry ∷ entries) was legal =
    subst (λ (es : List Entry). NoneLater (log_of opening es))
    (append_assoc before (entry ∷ []) entries)
    (rising_from opening (before ++ entry ∷ []) entries
    (one_more opening before entry was legal.0) legal.1)

pub rising : (opening : Opening) (entries : List Entry) → NoneLater (log_of opening []) →
    Legal opening entries → NoneLater (log_of opening entries)
rising opening entries was legal = rising_from opening [] entries was legal
