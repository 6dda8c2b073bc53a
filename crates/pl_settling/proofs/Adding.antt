-- Facts that are added one after the other.
use Rattle.std.proofs.Common.{◌≡◌, ℕ, List, [], ◌∷◌, ◌++◌, Option, Some, None, refl, sym, ap}
use Rattle.std.proofs.Common.{◌∙◌, subst}
use Rattle.std.proofs.lemmas.List.{append_assoc, append-nil}
use Rattle.pl_facts.specs.declared.fact.Event.{Event}
use Rattle.pl_facts.specs.declared.fact.Fact.{Fact}
use Rattle.pl_due.specs.Due.{IsDue}
use Rattle.pl_settling.specs.Laws.{Along}
use Rattle.pl_settling.specs.Settles.{Adds, Settles}
use Rattle.pl_settling.specs.Gives.{Gives}
use Rattle.pl_settling.proofs.Giving.{gives}

abbrev pub fact : ℕ → Event → Fact
fact moment event = record { moment = moment; event = event }

pub added_so : (moment : ℕ) (facts added : List Fact) → Settles moment facts added →
    Adds moment facts added
added_so moment facts [] none = tt
added_so moment facts (one ∷ added) (due, at, rest) =
    (due, at, added_so moment (facts ++ one ∷ []) added rest)

-- one fact more
pub adds_more : (moment : ℕ) (facts added : List Fact) (one : Fact) → Adds moment facts added →
    IsDue (facts ++ added) moment (Some one.event) → one.moment ≡ moment →
    Adds moment facts (added ++ one ∷ [])
adds_more moment facts [] one adds due at =
    let P : List Fact → Type 0 = λ before. IsDue before moment (Some one.event) in
    (subst P (append-nil facts) due, at, tt)
adds_more moment facts (first ∷ added) one (was_due, was_at, rest) due at =
    let P : List Fact → Type 0 = λ before. IsDue before moment (Some one.event) in (
      was_due,
      was_at,
      adds_more moment (facts ++ first ∷ []) added one rest
          (subst P (sym (append_assoc facts (first ∷ []) added)) due) at,
    )

-- and none
pub settles_so : (moment : ℕ) (facts added : List Fact) → Adds moment facts added →
    IsDue (facts ++ added) moment None → Settles moment facts added
settles_so moment facts [] adds none =
    let P : List Fact → Type 0 = λ before. IsDue before moment None in
    subst P (append-nil facts) none
settles_so moment facts (first ∷ added) (due, at, rest) none =
    let P : List Fact → Type 0 = λ before. IsDue before moment None in (
      due,
      at,
      settles_so moment (facts ++ first ∷ []) added rest
          (subst P (sym (append_assoc facts (first ∷ []) added)) none),
    )

-- what holds of each fact that is due holds along the facts that are added
pub holds_along : (R : List Fact → Fact → Type 0) (moment : ℕ) →
    ((facts : List Fact) (one : Fact) → one.moment ≡ moment → Gives facts moment one.event →
    R facts one) → (facts added : List Fact) → Adds moment facts added → Along R facts added
holds_along R moment each facts [] adds = tt
holds_along R moment each facts (one ∷ added) (due, at, rest) = (
  each facts one at (gives facts moment one.event due),
  holds_along R moment each (facts ++ one ∷ []) added rest,
)

-- what each of them keeps holds along them
pub kept_along : (K : List Fact → Type 0) (moment : ℕ) →
    ((facts : List Fact) (one : Fact) → one.moment ≡ moment → Gives facts moment one.event →
    K facts → K (facts ++ one ∷ [])) → (facts added : List Fact) → Adds moment facts added →
    K facts → Along (λ before one. K (before ++ one ∷ [])) facts added
kept_along K moment each facts [] adds holds = tt
kept_along K moment each facts (one ∷ added) (due, at, rest) holds =
    let more = each facts one at (gives facts moment one.event due) holds in
    (more, kept_along K moment each (facts ++ one ∷ []) added rest more)

-- where what is due leaves no choice, neither does settling
module _ {moment : ℕ} (one : (facts : List Fact) (a b : Option Event) → IsDue facts moment a →
    IsDue facts moment b → a ≡ b) where
  pub one_settling : (facts left right : List Fact) → Settles moment facts left →
      Settles moment facts right → left ≡ right
  one_settling facts [] [] a b = refl
  one_settling facts [] (y ∷ right) a (due, at, rest) =
      let e : None ≡ Some y.event = one facts None (Some y.event) a due in absurd (cc)
  one_settling facts (x ∷ left) [] (due, at, rest) b =
      let e : Some x.event ≡ None = one facts (Some x.event) None due b in absurd (cc)
  one_settling facts (x ∷ left) (y ∷ right) (due, at, rest) (other, also, others) =
      let some = one facts (Some x.event) (Some y.event) due other in
      let event : x.event ≡ y.event = cc in
      let m : x.moment ≡ y.moment = at ∙ sym also in
      let e : x ≡ y = ap (λ n. fact n x.event) m ∙ ap (fact y.moment) event in
      let P : Fact → Type 0 = λ z. Settles moment (facts ++ z ∷ []) left in
      ap (λ z. z ∷ left) e
      ∙ ap (λ zs. y ∷ zs) (one_settling (facts ++ y ∷ []) left right (subst P e rest) others)
