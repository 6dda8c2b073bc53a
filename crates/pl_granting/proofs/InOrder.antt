-- Rules that are asked one after the other.
use Rattle.std.proofs.Common.{◌≡◌, true, false, List, [], ◌∷◌, Option, Some, None}
use Rattle.std.proofs.Common.{refl, sym, ◌∙◌, inl, inr}
use Rattle.std.proofs.lemmas.Bool.{true≢false}
use Rattle.pl_facts.specs.declared.fact.Fact.{Fact}
use Rattle.pl_rules.specs.declared.rule.Rule.{Rule}
use Rattle.pl_granting.specs.Broken.{FirstBroken, Telling, Tells, UnlessStarted}
use Rattle.pl_granting.specs.Named.{JobOf}
use Rattle.pl_granting.specs.Rules.{is_started}

-- ---- a rule that is broken, and one that isn't

pub told_here : (one : Telling) (others : List Telling) (rule : Rule) → one (Some rule) →
    FirstBroken (one ∷ others) (Some rule)
told_here one others rule told = inl (rule, refl, told)

pub told_later : (one : Telling) (others : List Telling) (found : Option Rule) → one None →
    FirstBroken others found → FirstBroken (one ∷ others) found
told_later one others found none later = inr (none, later)

-- what a rule's function gives is what is found, or nothing
pub told : (tells : Option Rule) (others : List Telling) (rule : Rule) (given : Option Rule) →
    given ≡ tells → given ≡ Some rule → FirstBroken (Tells tells ∷ others) (Some rule)
told tells others rule given is some = told_here (Tells tells) others rule (sym some ∙ is)

pub not_told : (tells : Option Rule) (others : List Telling) (found given : Option Rule) →
    given ≡ tells → given ≡ None → FirstBroken others found →
    FirstBroken (Tells tells ∷ others) found
not_told tells others found given is none later =
    told_later (Tells tells) others found (sym none ∙ is) later

-- ---- none is broken

abbrev pub AllNone : List Telling → Type 0
AllNone [] = Unit {0}
AllNone (one ∷ others) = one None × AllNone others

pub all_none : (rules : List Telling) → FirstBroken rules None → AllNone rules
all_none [] none = tt
all_none (one ∷ others) (inl (rule, is, told)) = absurd (cc)
all_none (one ∷ others) (inr (none, later)) = (none, all_none others later)

pub none_of_all : (rules : List Telling) → AllNone rules → FirstBroken rules None
none_of_all [] none = refl
none_of_all (one ∷ others) none = inr (none.0, none_of_all others none.1)

-- ---- rules that tell one thing alone

abbrev pub TellsOne : Telling → Type 0
TellsOne one = (a b : Option Rule) → one a → one b → a ≡ b

abbrev pub AllTellOne : List Telling → Type 0
AllTellOne [] = Unit {0}
AllTellOne (one ∷ others) = TellsOne one × AllTellOne others

pub one_first : (rules : List Telling) → AllTellOne rules → TellsOne (FirstBroken rules)
one_first [] all a b left right = left ∙ sym right
one_first (one ∷ others) all a b (inl (r, is, told)) (inl (s, also, too)) =
    is ∙ all.0 (Some r) (Some s) told too ∙ sym also
one_first (one ∷ others) all a b (inl (r, is, told)) (inr (none, later)) =
    let e = all.0 (Some r) None told none in absurd (cc)
one_first (one ∷ others) all a b (inr (none, later)) (inl (s, also, too)) =
    let e = all.0 (Some s) None too none in absurd (cc)
one_first (one ∷ others) all a b (inr (none, later)) (inr (nothing, after)) =
    one_first others all.1 a b later after

pub tells_one : (rule : Option Rule) → TellsOne (Tells rule)
tells_one rule a b left right = left ∙ sym right

-- ---- rules of stages that weren't started

module _ (facts : List Fact) (at : JobOf) (telling : Telling) where
  pub one_unless : TellsOne telling → TellsOne (UnlessStarted facts at telling)
  one_unless one a b (inl (started, none)) (inl (also, nothing)) = none ∙ sym nothing
  one_unless one a b (inl (started, none)) (inr (waits, told)) =
      absurd (true≢false (sym started ∙ waits))
  one_unless one a b (inr (waits, told)) (inl (started, none)) =
      absurd (true≢false (sym started ∙ waits))
  one_unless one a b (inr (waits, told)) (inr (also, too)) = one a b told too

  pub waiting : (found : Option Rule) → is_started facts at ≡ false →
      UnlessStarted facts at telling found → telling found
  waiting found waits (inl (started, none)) = absurd (true≢false (sym started ∙ waits))
  waiting found waits (inr (also, told)) = told

  pub if_waiting : (found : Option Rule) → is_started facts at ≡ false → telling found →
      UnlessStarted facts at telling found
  if_waiting found waits told = inr (waits, told)

  pub if_started : is_started facts at ≡ true → UnlessStarted facts at telling None
  if_started started = inl (started, refl)

  -- of a stage that wasn't started, a rule that isn't broken
  pub passes : (others : List Telling) (found : Option Rule) → is_started facts at ≡ false →
      telling None → FirstBroken others found →
      FirstBroken (UnlessStarted facts at telling ∷ others) found
  passes others found waits none later = inr (inr (waits, none), later)

  pub breaks : (others : List Telling) (rule : Rule) → is_started facts at ≡ false →
      telling (Some rule) → FirstBroken (UnlessStarted facts at telling ∷ others) (Some rule)
  breaks others rule waits tells = inl (rule, refl, inr (waits, tells))

-- none of four such rules is asked of a stage that was started
pub four_passed : (facts : List Fact) (at : JobOf) (a b c d : Telling) (others : List Telling)
    (found : Option Rule) → is_started facts at ≡ true → FirstBroken others found →
    FirstBroken (UnlessStarted facts at a ∷ UnlessStarted facts at b ∷ UnlessStarted facts at c
    ∷ UnlessStarted facts at d ∷ others) found
four_passed facts at a b c d others found started later =
    let third : FirstBroken (UnlessStarted facts at d ∷ others) found =
    inr (if_started facts at d started, later) in
    let second : FirstBroken (UnlessStarted facts at c ∷ UnlessStarted facts at d ∷ others) found =
    inr (if_started facts at c started, third) in
    inr (if_started facts at a started, inr (if_started facts at b started, second))

-- two such rules, and what comes behind them
module _ (facts : List Fact) (at : JobOf) (one two : Telling) (others : List Telling)
    (waits : is_started facts at ≡ false) where
  pub either_told : (rule : Rule) → FirstBroken (one ∷ two ∷ []) (Some rule) →
      FirstBroken (UnlessStarted facts at one ∷ UnlessStarted facts at two ∷ others) (Some rule)
  either_told rule (inl (r, is, tells)) = inl (r, is, inr (waits, tells))
  either_told rule (inr (none, inl (r, is, tells))) =
      inr (inr (waits, none), inl (r, is, inr (waits, tells)))
  either_told rule (inr (none, inr (nothing, end))) = absurd (cc)

  pub neither_told : (found : Option Rule) → FirstBroken (one ∷ two ∷ []) None →
      FirstBroken others found →
      FirstBroken (UnlessStarted facts at one ∷ UnlessStarted facts at two ∷ others) found
  neither_told found (inl (r, is, tells)) later = absurd (cc)
  neither_told found (inr (none, inl (r, is, tells))) later = absurd (cc)
  neither_told found (inr (none, inr (nothing, end))) later =
      inr (inr (waits, none), inr (inr (waits, nothing), later))
