-- What the first in each line tells of the stages in whose way nothing stands.
use Rattle.std.proofs.Common.{◌≡◌, ◌==◌, Bool, true, List, [], ◌∷◌, get_or, length}
use Rattle.std.proofs.Common.{Option, None, Some, MatchOption, refl, sym, ap, ◌∙◌, subst, arith, ⊎_elim}
use Rattle.std.proofs.Common.{◌⊎◌, is_some}
use Rattle.std.specs.BTreeMap.{BTreeMap, get, is_at}
use Rattle.std.specs.BTreeSet.{BTreeSet, contains}
use Rattle.std.specs.List.{All, Contains, list_any}
use Rattle.std.specs.declared.cmp.Ordering.TheVariants.{Less}
use Rattle.std.proofs.lemmas.Bool.{and_from, and_parts, false_from_ne_true, false≢true, eq-eqb, eqb-true}
use Rattle.std.proofs.lemmas.List.Elements.{All-contains, Contains-get_or}
use Rattle.pl_base.specs.declared.resource.ResourceKey.{ResourceKey}
use Rattle.pl_lines.specs.Lines.{IsFirstIn}
use Rattle.pl_locks.specs.Locks.{ComesFirst, IsAt, IsNext, IsSuperseded, MayStart, Shares}
use Rattle.pl_locks.specs.declared.contender.Contender.{Contender}
use Rattle.pl_lock_queues.specs.Asked.{IsClear, IsUnblockedAt, IsUpTo}
use Rattle.pl_lock_queues.specs.Queues.{AreGivingWay, AreMarked, AreWaiting, Place, is_free_at, is_here}
use Rattle.pl_lock_queues.specs.Queues.{key_cmp, place_cmp, place_of, waits_at, wants}
use Rattle.pl_lock_queues.proofs.Moving.{any_of, found, tested}
use Rattle.pl_lock_queues.proofs.Orders.{else_less, is_less, key_itself, less_is, place_itself}
use Rattle.pl_lock_queues.proofs.Orders.{same_key, same_place}

-- ---- wanting

pub wants_it : (key : ResourceKey) (stage : Contender) → Contains stage.resources key →
    wants key stage ≡ true
wants_it key stage (k, below, is) =
    tested (λ own. is_at (key_cmp own) key) stage.resources key
    (k, below, is) (key_itself key)

pub it_wants : (key : ResourceKey) (stage : Contender) → wants key stage ≡ true →
    Contains stage.resources key
it_wants key stage h =
    let (own, there, same) =
    found (λ own. is_at (key_cmp own) key) stage.resources h in
    subst (Contains stage.resources) (same_key own key same) there

pub waits_it : (key : ResourceKey) (stage : Contender) → Contains stage.resources key →
    waits_at key (place_of stage) stage ≡ true
waits_it key stage there = and_from (wants key stage) (is_here (place_of stage) stage)
    (wants_it key stage there) (place_itself (place_of stage))

-- ---- two that are first

pub one_first : (lines : BTreeMap ResourceKey (BTreeSet Place)) (key : ResourceKey) (a b : Place) →
    IsFirstIn key_cmp place_cmp lines key a → IsFirstIn key_cmp place_cmp lines key b → a ≡ b
one_first lines key a b first other =
    ⊎_elim (λ same. same) (λ less. absurd (first.least b other.there less))
    (else_less a b (other.least a first.there))

-- ---- what may start

module _ (eligible holders : List Contender) (lines : BTreeMap ResourceKey (BTreeSet Place))
    (marks : BTreeMap ResourceKey Bool) (free superseded : BTreeSet Place)
    (stand : All (λ stage. IsSuperseded eligible stage → ⊥) eligible)
    (waiting : AreWaiting eligible lines free superseded)
    (are : AreMarked eligible holders marks) where
  abbrev Clear : Contender → Type 0
  Clear stage = All (IsClear lines marks (place_of stage)) stage.resources

  stands_still : (stage : Contender) → Contains eligible stage → IsSuperseded eligible stage → ⊥
  stands_still stage there =
      All-contains (λ one. IsSuperseded eligible one → ⊥) eligible stage stand there

  pub may_start : (stage : Contender) → Contains eligible stage → Clear stage →
      MayStart eligible holders stage
  may_start stage there clear = record {
    stands = stands_still stage there;
    unheld = λ (k, holder, below, is, (i, key, within, at, in_holder)).
        let c = All-contains (IsClear lines marks (place_of stage)) stage.resources key clear
        (i, within, at) in
        false≢true (sym c.free ∙ are.held key
        ∙ tested (wants key) holders holder (k, below, is) (wants_it key holder in_holder));
    first = λ (k, other, below, is, comes).
        let (i, key, within, at, in_stage) = comes.shares in
        let c = All-contains (IsClear lines marks (place_of stage)) stage.resources key clear
        in_stage in
        c.first.least (place_of other)
        (waiting.waiting key (place_of other)
        ∙ tested (waits_at key (place_of other)) eligible other (k, below, is)
        (waits_it key other (i, within, at)))
        (is_less (place_of other) (place_of stage) comes.precedes);
  }

  held_not : (stage : Contender) → MayStart eligible holders stage → (key : ResourceKey) →
      Contains stage.resources key → list_any (wants key) holders ≡ true → ⊥
  held_not stage may key in_stage h =
      let (holder, within, w) = found (wants key) holders h in
      may.unheld (any_of (Shares stage) holders holder within
      (any_of (Contains holder.resources) stage.resources key in_stage (it_wants key holder w)))

  earlier_not : (stage : Contender) → MayStart eligible holders stage → (key : ResourceKey) →
      Contains stage.resources key → (other : Place) →
      list_any (waits_at key other) eligible ≡ true → place_cmp other (place_of stage) ≡ Less → ⊥
  earlier_not stage may key in_stage other h less =
      let (x, within, w) = found (waits_at key other) eligible h in
      let (wanted, here) = and_parts (wants key x) (is_here other x) w in
      let at : place_of x ≡ other = same_place (place_of x) other here in
      may.first (any_of (λ one. ComesFirst eligible one stage) eligible x within (record {
        precedes = less_is (place_of x) (place_of stage)
            (subst (λ (p : Place). place_cmp p (place_of stage) ≡ Less) (sym at) less);
        shares = any_of (Contains stage.resources) x.resources key (it_wants key x wanted) in_stage;
        stands = stands_still x within;
      }))

  pub clear_at : (stage : Contender) → Contains eligible stage → MayStart eligible holders stage →
      (key : ResourceKey) → Contains stage.resources key →
      IsClear lines marks (place_of stage) key
  clear_at stage there may key in_stage = record {
    free = are.held key ∙ false_from_ne_true (list_any (wants key) holders)
        (held_not stage may key in_stage);
    first = record {
      there = waiting.waiting key (place_of stage)
          ∙ tested (waits_at key (place_of stage)) eligible stage there
          (waits_it key stage in_stage);
      least = λ other st less. earlier_not stage may key in_stage other
          (sym (waiting.waiting key other) ∙ st) less;
    };
  }

  pub clear : (stage : Contender) → Contains eligible stage → MayStart eligible holders stage →
      Clear stage
  clear stage there may = λ k d below. clear_at stage there may (get_or stage.resources k d)
      (Contains-get_or stage.resources k d below)

  pub unblocked : (stage : Contender) → Contains eligible stage →
      MayStart eligible holders stage → IsUnblockedAt eligible lines marks (place_of stage)
  unblocked stage there may = (stage, there, refl, clear stage there may)

  -- ---- the least of them

  module _ (best : Option Place)
      (is : (place : Place) → best ≡ Some place → (contains place_cmp free place ≡ true)
      ⊎ IsUnblockedAt eligible lines marks place)
      (upto_free : (place : Place) → contains place_cmp free place ≡ true → IsUpTo best place)
      (upto : (place : Place) (key : ResourceKey) → is_some (get key_cmp marks key) ≡ true →
      IsClear lines marks place key → IsUnblockedAt eligible lines marks place →
      IsUpTo best place) where
    up_to : (stage : Contender) → Contains eligible stage → MayStart eligible holders stage →
        IsUpTo best (place_of stage)
    up_to stage there may = by_uses stage.resources refl
      where
        by_uses : (uses : List ResourceKey) → stage.resources ≡ uses →
            IsUpTo best (place_of stage)
        by_uses [] none =
            upto_free (place_of stage) (waiting.idle (place_of stage)
            ∙ tested (is_free_at (place_of stage)) eligible stage there
            (and_from (length stage.resources == 0) (is_here (place_of stage) stage)
            (eq-eqb (length stage.resources) 0 (ap length none)) (place_itself (place_of stage))))
        by_uses (key ∷ uses) some =
            let in_stage : Contains stage.resources key =
            subst (λ (l : List ResourceKey). Contains l key) (sym some) (0, omega arith, refl) in
            upto (place_of stage) key
            (are.wanted key (tested (wants key) eligible stage there (wants_it key stage in_stage)))
            (clear_at stage there may key in_stage) (unblocked stage there may)

    starts_at : (place : Place) → best ≡ Some place → (stage : Contender) ×
        Contains eligible stage × (place_of stage ≡ place) × MayStart eligible holders stage
    starts_at place e =
        ⊎_elim (λ idle.
        let (stage, there, h) = found (is_free_at place) eligible (sym (waiting.idle place) ∙ idle)
        in
        let (none, here) = and_parts (length stage.resources == 0) (is_here place stage) h in
        let nothing : length stage.resources ≡ 0 = eqb-true (length stage.resources) 0 none in (
          stage,
          there,
          same_place (place_of stage) place here,
          may_start stage there (λ k d below. absurd (omega (arith, nothing, below))),
        ))
        (λ (stage, there, at, all). (
          stage,
          there,
          at,
          may_start stage there (subst (λ (p : Place). All (IsClear lines marks p) stage.resources)
              (sym at) all),
        )) (is place e)

    pub told : MatchOption best (All (λ stage. MayStart eligible holders stage → ⊥) eligible)
        (λ place. (stage : Contender) × IsNext eligible holders stage
        × IsAt place.0 place.1 stage)
    told = by_best best refl
      where
        by_best : (some : Option Place) → best ≡ some → MatchOption some
            (All (λ stage. MayStart eligible holders stage → ⊥) eligible)
            (λ place. (stage : Contender) × IsNext eligible holders stage
            × IsAt place.0 place.1 stage)
        by_best None e = λ k d below may.
            subst (λ (o : Option Place). IsUpTo o (place_of (get_or eligible k d))) e
            (up_to (get_or eligible k d) (Contains-get_or eligible k d below) may)
        by_best (Some place) e =
            let (stage, there, at, may) = starts_at place e in (
              stage,
              record {
                is_eligible = there;
                may_start = may;
                least = λ other within free_too precedes.
                    subst (λ (o : Option Place). IsUpTo o (place_of other)) e
                    (up_to other within free_too)
                    (subst (λ (p : Place). place_cmp (place_of other) p ≡ Less) at
                    (is_less (place_of other) (place_of stage) precedes));
              },
              (ap (λ (p : Place). p.0) at, ap (λ (p : Place). p.1) at),
            )

-- there is one where one may start
pub some_told : (eligible holders : List Contender) (found : Option Place) (Q : Place → Type 0) →
    MatchOption found (All (λ stage. MayStart eligible holders stage → ⊥) eligible) Q →
    (stage : Contender) → Contains eligible stage → MayStart eligible holders stage →
    is_some found ≡ true
some_told eligible holders None Q none stage there may =
    absurd (All-contains (λ one. MayStart eligible holders one → ⊥) eligible stage none there may)
some_told eligible holders (Some place) Q told stage there may = refl

-- or where none may start only if none is there
pub some_else : (eligible holders : List Contender) (found : Option Place) (Q : Place → Type 0) →
    MatchOption found (All (λ stage. MayStart eligible holders stage → ⊥) eligible) Q →
    (All (λ stage. MayStart eligible holders stage → ⊥) eligible → ⊥) → is_some found ≡ true
some_else eligible holders None Q none not_none = absurd (not_none none)
some_else eligible holders (Some place) Q told not_none = refl

-- where nothing is marked as giving way, nobody gives way
pub none_gives : (eligible : List Contender) (superseded : BTreeSet Place) →
    AreGivingWay eligible superseded → length superseded.keys ≡ 0 →
    All (λ stage. IsSuperseded eligible stage → ⊥) eligible
none_gives eligible superseded are none = λ k d below gives.
    let stage = get_or eligible k d in
    let marked = (are (place_of stage)).1
    (stage, Contains-get_or eligible k d below, refl, gives) in
    let (key, within, at) = found (is_at (place_cmp (place_of stage)))
    superseded.keys marked in
    let (i, low, there) = within in
    omega (arith, none, low)
