-- What the rule says of the views that a step leaves alone, and of all views where one view
-- changes.
use Rattle.std.proofs.Common.{◌≡◌, ℕ, ◌+◌, ◌<◌, ◌≤◌, ◌≢◌, ◌⊎◌, Bool, true, false, true≢false, List}
use Rattle.std.proofs.Common.{[], ◌∷◌, set, Option, Some, None, All, count_by, MatchBool, unwrap_or}
use Rattle.std.proofs.Common.{sym, refl, ap, ◌∙◌, subst, inl, inr, ⊎_elim, arith}
use mathlib.Core.List.{IsPrefix}
use mathlib.Core.Option.{some, none}
use lib.ListN.{get_elem?}
use Rattle.atomic_table.specs.Table.{State}
use Rattle.atomic_table.proofs.Lists.{at_set, set_again, set_else}
use Rattle.pl_turn.proofs.Beginnings.{set-at, same-at}
use mathlib.Core.Logic.{dite}
use native.Mathlib.Decide.{ℕ_discrete}
use Rattle.pl_turn.specs.History.{entries_of}
use Rattle.pl_turn.specs.Rule.{ticket_of, has_ticket, HasTicket, HasNumber, IsDistinct, HoldsTurn}
use Rattle.pl_turn.specs.Rule.{Fits, Slot, OneHistory}
use Rattle.pl_turn.specs.Seats.{is_turn, IsSettled}
use Rattle.pl_turn.specs.declared.view.Stage.{Stage}
use Rattle.pl_turn.specs.declared.view.Stage.TheVariants.{Idle, Waiting, Turn}
use Rattle.pl_turn.specs.declared.view.View.{View}

pub same_some : (n m : ℕ) → Some n ≡ Some m → n ≡ m
same_some n m e = ap (λ o. unwrap_or o 0) e

pub none_is_none : (n : ℕ) → None ≡ Some n → ⊥
none_is_none n e = true≢false (ap is_none_of e)
  where
    is_none_of : Option ℕ → Bool
    is_none_of None = true
    is_none_of (Some k) = false

pub idle-no_turn : (st : Stage) (t : ℕ) → st ≡ Idle → st ≡ Turn t → ⊥
idle-no_turn st t e f = true≢false (ap is_turn (sym f ∙ e))

pub waiting-no_turn : (st : Stage) (t u : ℕ) → st ≡ Waiting t → st ≡ Turn u → ⊥
waiting-no_turn st t u e f = true≢false (ap is_turn (sym f ∙ e))

pub idle-no_ticket : (st : Stage) (t : ℕ) → st ≡ Idle → ticket_of st ≡ Some t → ⊥
idle-no_ticket st t e f = none_is_none t (sym (ap ticket_of e) ∙ f)

-- each of the two cases is kept
pub both_cases : {A B C D : Type 0} (b : Bool) → (b ≡ true → A → C) → (b ≡ false → B → D)
    → MatchBool b A B → MatchBool b C D
both_cases true f g h = f refl h
both_cases false f g h = g refl h

pub at_true : (A B : Type 0) (b : Bool) → b ≡ true → MatchBool b A B → A
at_true A B true e h = h
at_true A B false e h = absurd (true≢false (sym e))

pub at_false : (A B : Type 0) (b : Bool) → b ≡ false → MatchBool b A B → B
at_false A B true e h = absurd (true≢false e)
at_false A B false e h = h

pub as_true : (A B : Type 0) (b : Bool) → b ≡ true → A → MatchBool b A B
as_true A B true e h = h
as_true A B false e h = absurd (true≢false (sym e))

pub as_false : (A B : Type 0) (b : Bool) → b ≡ false → B → MatchBool b A B
as_false A B true e h = absurd (true≢false e)
as_false A B false e h = h

module _ {E L : Type 0} (names : E → ℕ) (l : L) where
  -- A view that a step leaves alone still fits
  pub still_fits : (h h' : List E) (serving serving' ticket ticket' seats seats' : ℕ)
      (holder holder' : Option ℕ) (i : ℕ) (v : View E L)
      → ((xs : List E) → IsPrefix xs h → IsPrefix xs h')
      → ((n : ℕ) → HasNumber v n → entries_of names n h' ≡ entries_of names n h)
      → seats ≤ seats'
      → ((t : ℕ) → HasTicket v t → serving ≤ t → t < ticket → (serving' ≤ t) × (t < ticket'))
      → HoldsTurn names h' serving' holder' i v
      → Fits names h l serving ticket seats holder i v
      → Fits names h' l serving' ticket' seats' holder' i v
  still_fits h h' serving serving' ticket ticket' seats seats' holder holder' i v grows same more
      tickets turn f = record {
        one_label = f.one_label;
        beginning = (grows v.seen f.beginning.0, grows v.told f.beginning.1);
        own = both_cases v.drawn (λ drawn e. e ∙ sym (same v.number (inl (drawn, refl))))
            (λ _ e. e) f.own;
        number = (
          (λ live. let a = f.number.0 live in omega arith),
          (λ n has. let a = f.number.1 n has in omega arith),
        );
        joined_stay = λ n es c. let a = f.joined_stay n es c in (same n (inr (es, c)) ∙ a.0, a.1);
        ticket_within = λ t has. let a = f.ticket_within t has in tickets t has a.0 a.1;
        one_turn = turn;
      }

  -- what only one view has stays so where that view changes
  pub still_distinct : (Has : View E L → ℕ → Type 0) (views : List (View E L)) (id : ℕ)
      (v w : View E L) → get_elem? views id ≡ some v
      → ((n : ℕ) → Has w n → Has v n ⊎
      ((j : ℕ) (u : View E L) → get_elem? views j ≡ some u → Has u n → ⊥))
      → IsDistinct Has views → IsDistinct Has (set views id w)
  still_distinct Has views id v w at from d i j a b n ea eb ha hb =
      ⊎_elim
      (λ (x : (i ≡ id) × (w ≡ a)). ⊎_elim
      (λ (y : (j ≡ id) × (w ≡ b)). x.0 ∙ sym y.0)
      (λ (y : (j ≢ id) × (get_elem? views j ≡ some b)). x.0 ∙ meets j b y.1 hb
      (subst (λ u. Has u n) (sym x.1) ha))
      (at_set views id j w b eb))
      (λ (x : (i ≢ id) × (get_elem? views i ≡ some a)). ⊎_elim
      (λ (y : (j ≡ id) × (w ≡ b)). sym (meets i a x.1 ha (subst (λ u. Has u n) (sym y.1) hb))
      ∙ sym y.0)
      (λ (y : (j ≢ id) × (get_elem? views j ≡ some b)). d i j a b n x.1 y.1 ha hb)
      (at_set views id j w b eb))
      (at_set views id i w a ea)
    where
      meets : (k : ℕ) (u : View E L) → get_elem? views k ≡ some u → Has u n → Has w n → id ≡ k
      meets k u e hu hw = ⊎_elim (λ hv. d id k v u n at e hv hu) (λ none. absurd (none k u e hu))
          (from n hw)

  module _ {T : Type 0} (history_of : T → List E) (label_of : T → L) where
    -- the slot's part stays where one view changes that keeps its turn
    pub slot_kept : (s : State (Option T) (View E L)) (h : List E) (holder : Option ℕ) (id : ℕ)
        (v w : View E L) (ws : List ℕ) → get_elem? s.views id ≡ some v →
        ((t : ℕ) → v.stage ≡ Turn t → w.stage ≡ Turn t)
        → Slot history_of label_of l h holder s
        → Slot history_of label_of l h holder record
        { words = ws; homes = s.homes; views = set s.views id w }
    slot_kept s h None id v w ws at keeps x = x
    slot_kept s h (Some i) id v w ws at keeps x = (
      x.0,
      dite (ℕ_discrete i id)
          (λ is. (
            w,
            x.1.1,
            subst (λ k. get_elem? (set s.views id w) k ≡ some w) (sym is)
                (set-at s.views id v w at),
            keeps x.1.1
                (ap (λ (u : View E L). u.stage) (same-at s.views id i v x.1.0 at x.1.2 (sym is))
                ∙ x.1.3),
          ))
          (λ apart. (x.1.0, x.1.1, set_else s.views id i w apart ∙ x.1.2, x.1.3)),
    )

    -- where one view changes, the rule holds again
    pub moves : (s : State (Option T) (View E L)) (r : OneHistory history_of label_of names l s)
        (id : ℕ) (v w : View E L) → get_elem? s.views id ≡ some v
        → (h' : List E) (serving' ticket' seats' : ℕ) (holder' : Option ℕ) (ws : List ℕ)
        (hs : List (mathlib.Core.Option.Option (Option T)))
        → ws ≡ serving' ∷ ticket' ∷ seats' ∷ []
        → Slot history_of label_of l h' holder' record {
          words = ws;
          homes = hs;
          views = set
              s.views id w;
        }
        → Fits names h' l serving' ticket' seats' holder' id w
        → ((j : ℕ) (u : View E L) → j ≢ id → get_elem? s.views j ≡ some u
        → Fits names h' l serving' ticket' seats' holder' j u)
        → ((n : ℕ) → HasNumber w n → HasNumber v n ⊎
        ((j : ℕ) (u : View E L) → get_elem? s.views j ≡ some u → HasNumber u n → ⊥))
        → ((t : ℕ) → HasTicket w t → HasTicket v t ⊎
        ((j : ℕ) (u : View E L) → get_elem? s.views j ≡ some u → HasTicket u t → ⊥))
        → serving' + count_by has_ticket (set s.views id w) ≡ ticket'
        → All (λ e. names e < seats') h'
        → OneHistory history_of label_of names l record
        { words = ws; homes = hs; views = set s.views id w }
    moves s r id v w at h' serving' ticket' seats' holder' ws hs words slot mine others numbers
        tickets counted named = record {
          history = h';
          serving = serving';
          ticket = ticket';
          seats = seats';
          holder = holder';
          words = words;
          slot = slot;
          each = λ j u e. ⊎_elim
              (λ (x : (j ≡ id) × (w ≡ u)). subst
              (λ (y : ℕ × View E L). Fits names h' l serving' ticket' seats' holder' y.0 y.1)
              (λ i. (sym x.0 i, x.1 i)) mine)
              (λ (x : (j ≢ id) × (get_elem? s.views j ≡ some u)). others j u x.0 x.1)
              (at_set s.views id j w u e);
          numbers_differ = still_distinct HasNumber s.views id v w at numbers r.numbers_differ;
          tickets_differ = still_distinct HasTicket s.views id v w at tickets r.tickets_differ;
          tickets_counted = counted;
          named_below = named;
        }

    -- a step that changes nothing
    pub stays : (s : State (Option T) (View E L)) (r : OneHistory history_of label_of names l s)
        (id : ℕ) (v : View E L) → get_elem? s.views id ≡ some v
        → (ws : List ℕ) → ws ≡ r.serving ∷ r.ticket ∷ r.seats ∷ []
        → OneHistory history_of label_of names l record
        { words = ws; homes = s.homes; views = set s.views id v }
    stays s r id v at ws words = subst
        (λ vs. OneHistory history_of label_of names l record
        { words = ws; homes = s.homes; views = vs }) (sym (set_again s.views id v at)) record {
          history = r.history;
          serving = r.serving;
          ticket = r.ticket;
          seats = r.seats;
          holder = r.holder;
          words = words;
          slot = slot_stays r.holder r.slot;
          each = r.each;
          numbers_differ = r.numbers_differ;
          tickets_differ = r.tickets_differ;
          tickets_counted = r.tickets_counted;
          named_below = r.named_below;
        }
      where
        slot_stays : (holder : Option ℕ) → Slot history_of label_of l r.history holder s
            → Slot history_of label_of l r.history holder record
            { words = ws; homes = s.homes; views = s.views }
        slot_stays None x = x
        slot_stays (Some i) x = x

-- a settled seat that has the turn has the slot, which is empty
pub settled-turn : {T : Type 0} (st : Stage) (held : List (ℕ × Option T)) (next : ℕ)
    → is_turn st ≡ true → IsSettled st held next
    → (t : ℕ) × (st ≡ Turn t) × (held ≡ (0, None) ∷ []) × (next ≡ t + 1)
settled-turn Idle held next e s = absurd (true≢false (sym e))
settled-turn (Waiting t) held next e s = absurd s
settled-turn (Turn t) held next e s = (t, refl, s.0, s.1)

-- a settled seat that doesn't have the turn has no ticket and no slot
pub settled-idle : {T : Type 0} (st : Stage) (held : List (ℕ × Option T)) (next : ℕ)
    → is_turn st ≡ false → IsSettled st held next
    → (st ≡ Idle) × (held ≡ [])
settled-idle Idle held next e s = (refl, s)
settled-idle (Waiting t) held next e s = absurd s
settled-idle (Turn t) held next e s = absurd (true≢false e)
