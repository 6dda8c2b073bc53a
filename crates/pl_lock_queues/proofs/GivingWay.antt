-- Which stages give way once one more is eligible, or one less.
use Rattle.std.proofs.Common.{◌≡◌, ◌<◌, ◌≤◌, ◌↔◌, ℕ, List, length, sym, ap, ◌∙◌, subst, arith}
use Rattle.std.proofs.Common.{◌⊎◌, inl, inr, ⊎_elim, get_or, not, true}
use Rattle.std.specs.List.{Contains, insert}
use Rattle.std.proofs.lemmas.List.Elements.{filter_passes}
use Rattle.pl_locks.specs.Kept.{IsPutIn, is_at as is_stage_at, without}
use Rattle.pl_locks.specs.Locks.{GivesWay, IsSuperseded}
use Rattle.pl_locks.specs.declared.contender.Contender.{Contender}
use Rattle.pl_locks.proofs.Moved.{Contains-from_filter, Contains-insert_cases}
use Rattle.pl_lock_queues.specs.Queues.{GivesWayAt, IsSupersededAt, Place, place_of}
use Rattle.pl_lock_queues.proofs.Moving.{any_of, apart_from, in_filter, in_more, in_put, not_apart}

-- it gives way to one of those before, or to the new one, or is that and gives way itself
abbrev pub AfterPut : List Contender → Contender → Place → Type 0
AfterPut eligible stage place = IsSupersededAt eligible place ⊎ (GivesWayAt eligible stage place
    ⊎ ((place_of stage ≡ place) × IsSuperseded eligible stage))

never : (stage : Contender) → GivesWay stage stage → ⊥
never stage gives = omega (arith, gives.run)

module _ (eligible : List Contender) (i : ℕ) (stage : Contender) where
  abbrev more : List Contender
  more = insert eligible i stage

  old_gives : (x later : Contender) (place : Place) → Contains eligible x →
      place_of x ≡ place → Contains eligible later ⊎ (stage ≡ later) → GivesWay x later →
      AfterPut eligible stage place
  old_gives x later place in_x at (inl in_later) gives =
      inl (x, in_x, at, any_of (GivesWay x) eligible later in_later gives)
  old_gives x later place in_x at (inr e) gives =
      inr (inl (x, in_x, at, subst (GivesWay x) (sym e) gives))

  new_gives : (x later : Contender) (place : Place) → stage ≡ x → place_of x ≡ place →
      Contains eligible later ⊎ (stage ≡ later) → GivesWay x later → AfterPut eligible stage place
  new_gives x later place e at (inl in_later) gives =
      inr (inr (
        ap place_of e ∙ at,
        any_of (GivesWay stage) eligible later in_later
            (subst (λ (y : Contender). GivesWay y later) (sym e) gives),
      ))
  new_gives x later place e at (inr f) gives =
      absurd (never stage (subst (λ (y : Contender). GivesWay y stage) (sym e)
      (subst (GivesWay x) (sym f) gives)))

  after_put : (place : Place) → IsSupersededAt more place → AfterPut eligible stage place
  after_put place (x, in_x, at, (k, later, below, is, gives)) =
      let in_later = Contains-insert_cases eligible i stage later (k, below, is) in
      ⊎_elim (λ old. old_gives x later place old at in_later gives)
      (λ e. new_gives x later place e at in_later gives)
      (Contains-insert_cases eligible i stage x in_x)

  put_after : (place : Place) → AfterPut eligible stage place → IsSupersededAt more place
  put_after place (inl (x, in_x, at, (k, later, below, is, gives))) = (
    x,
    in_more eligible i stage x in_x,
    at,
    any_of (GivesWay x) more later (in_more eligible i stage later (k, below, is)) gives,
  )
  put_after place (inr (inl (x, in_x, at, gives))) = (
    x,
    in_more eligible i stage x in_x,
    at,
    any_of (GivesWay x) more stage (in_put eligible i stage) gives,
  )
  put_after place (inr (inr (at, (k, later, below, is, gives)))) = (
    stage,
    in_put eligible i stage,
    at,
    any_of (GivesWay stage) more later (in_more eligible i stage later (k, below, is)) gives,
  )

pub superseded_put : (eligible more : List Contender) (stage : Contender) →
    IsPutIn stage eligible more → (place : Place) →
    IsSupersededAt more place ↔ AfterPut eligible stage place
superseded_put eligible more stage put place = (
  λ h. after_put eligible put.place stage place
      (subst (λ (l : List Contender). IsSupersededAt l place) put.is h),
  λ h. subst (λ (l : List Contender). IsSupersededAt l place) (sym put.is)
      (put_after eligible put.place stage place h),
)

-- ---- one less

abbrev pub AfterTaken : List Contender → List Contender → Contender → Place → Type 0
AfterTaken before left stage place = (IsSupersededAt before place × (place_of stage ≡ place → ⊥))
    × ((stage.run ≤ place.0) ⊎ IsSupersededAt left place)

module _ (before : List Contender) (stage : Contender) where
  abbrev left : List Contender
  left = without stage.run stage.position before

  abbrev passes : Contender → Type 0
  passes one = not (is_stage_at stage.run stage.position one) ≡ true

  was_there : (x : Contender) → Contains left x → Contains before x
  was_there x h =
      Contains-from_filter (λ one. not (is_stage_at stage.run stage.position one)) before x h

  stays : (x : Contender) → Contains before x → (place_of x ≡ place_of stage → ⊥) → Contains left x
  stays x there apart =
      in_filter (λ one. not (is_stage_at stage.run stage.position one)) before x there
      (apart_from stage x apart)

  still_gives : (place : Place) → (x later : Contender) → Contains before x →
      place_of x ≡ place → Contains before later → GivesWay x later →
      (place_of stage ≡ place → ⊥) → stage.run ≤ place.0 → IsSupersededAt left place
  still_gives place x later in_x at in_later gives apart le = (
    x,
    stays x in_x (λ same. apart (sym same ∙ at)),
    at,
    any_of (GivesWay x) left later (stays later in_later (λ same.
        let run : x.run ≡ place.0 = ap (λ (p : Place). p.0) at in
        let other : later.run ≡ stage.run = ap (λ (p : Place). p.0) same in
        omega (arith, gives.run, le, run, other))) gives,
  )

  passing : (x : Contender) → Contains left x → (place_of x ≡ place_of stage → ⊥)
  passing x (k, below, is) same = not_apart stage x
      (subst passes is (filtered k x below)) same
    where
      filtered : (k : ℕ) (d : Contender) → k < length left → passes (get_or left k d)
      filtered = filter_passes (λ one. not (is_stage_at stage.run stage.position one)) before

  taken : (place : Place) → IsSupersededAt left place ↔ AfterTaken before left stage place
  taken place = (
    λ (x, in_x, at, (k, later, below, is, gives)). (
      (
        (
          x,
          was_there x in_x,
          at,
          any_of (GivesWay x) before later
              (was_there later (k, below, is)) gives,
        ),
        λ same. passing x in_x (at ∙ sym same),
      ),
      inr (x, in_x, at, (k, later, below, is, gives)),
    ),
    λ (((x, in_x, at, (k, later, below, is, gives)), apart), which).
        ⊎_elim (λ le. still_gives place x later in_x at (k, below, is) gives apart le)
        (λ it. it) which,
  )

pub superseded_taken : (before eligible : List Contender) (stage : Contender) →
    eligible ≡ without stage.run stage.position before → (place : Place) →
    IsSupersededAt eligible place ↔ AfterTaken before eligible stage place
superseded_taken before eligible stage is place =
    subst (λ (l : List Contender). IsSupersededAt l place ↔ AfterTaken before l stage place)
    (sym is) (taken before stage place)
