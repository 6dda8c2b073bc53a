-- A lock begins, a seat is split off and draws its number, and a seat is joined into another.
use Rattle.std.proofs.Common.{◌≡◌, ℕ, zero, suc, ◌+◌, ◌<◌, ◌≤◌, ◌≢◌, ◌⊎◌, Bool, true, false}
use Rattle.std.proofs.Common.{true≢false, cond, List, [], ◌∷◌, ◌++◌, get_or, set, eqb, Option, Some}
use Rattle.std.proofs.Common.{None, is_some, All, Contains, count_by, MatchBool, sym, refl, ap, ◌∙◌}
use Rattle.std.proofs.Common.{subst, inl, inr, ⊎_elim, arith, le_refl, eq-eqb, ne_eqb}
use Rattle.std.proofs.lemmas.List.Elements.{Contains-append_cases}
use mathlib.Core.Logic.{dite}
use mathlib.Core.Option.{some, none, some-injective, some-ne-none}
use native.Mathlib.Decide.{ℕ_discrete}
use lib.ListN.{get_elem?}
use prog.Atomic.{either}
use Rattle.atomic_table.specs.Table.{State, Me, step, keeps, Allows, Splits, Joins, opening}
use Rattle.atomic_table.proofs.Lists.{at_set, at_snoc, at_longer, set_again, set_else}
use Rattle.pl_turn.specs.History.{entries_of}
use Rattle.pl_turn.specs.Rule.{ticket_of, has_ticket, founder, HasTicket, HasNumber, IsDistinct}
use Rattle.pl_turn.specs.Rule.{Fits, Slot, OneHistory}
use Rattle.pl_turn.specs.Steps.{newcomer, numbered, told_of, joined_away, learned, DrewNumber}
use Rattle.pl_turn.specs.Steps.{Learned}
use Rattle.pl_turn.specs.declared.view.Stage.TheVariants.{Idle}
use Rattle.pl_turn.specs.declared.view.View.{View}
use Rattle.pl_turn.proofs.Beginnings.{prefix-same, prefix-longer, entries-below, only}
use Rattle.pl_turn.proofs.Beginnings.{contains-nothing, set-at, same-at, one_if, count-set}
use Rattle.pl_turn.proofs.Beginnings.{count-snoc}
use Rattle.pl_turn.proofs.Views.{none_is_none, idle-no_turn, as_true, as_false, at_true, still_fits}
use Rattle.pl_turn.proofs.Views.{slot_kept, moves, stays}

module _ {T E L : Type 0} (history_of : T → List E) (label_of : T → L) (names : E → ℕ) (l : L) where
  abbrev St : Type 0
  St = State (Option T) (View E L)

  abbrev M : Type 0
  M = Me (Option T) (View E L)

  abbrev Rule : St → Type 0
  Rule = OneHistory history_of label_of names l

  -- a view with no number, no seat joined in and no ticket has nothing
  numberless : (v : View E L) (n : ℕ) → v.drawn ≡ false → v.joined ≡ [] → HasNumber v n → ⊥
  numberless v n off nothing has = ⊎_elim (λ a. true≢false (sym a.0 ∙ off))
      (λ c. contains-nothing (n, c.0) (subst (λ xs. Contains xs (n, c.0)) nothing c.1)) has

  pub begins : (y : T) → history_of y ≡ [] → label_of y ≡ l → Rule
      (opening (0 ∷ 0 ∷ 1 ∷ []) (Some y ∷ []) (founder l))
  begins y empty label = record {
    history = [];
    serving = 0;
    ticket = 0;
    seats = 1;
    holder = None;
    words = refl;
    slot = (y, refl, empty, label);
    each = first;
    numbers_differ = λ i j a b n ea eb _ _. one i a ea ∙ sym (one j b eb);
    tickets_differ = λ i j a b n ea eb _ _. one i a ea ∙ sym (one j b eb);
    tickets_counted = refl;
    named_below = λ k d lt. absurd (omega arith);
  }
    where
      one : (i : ℕ) (v : View E L) → get_elem? (founder l ∷ []) i ≡ some v → i ≡ 0
      one zero v e = refl
      one (suc i) v e = absurd (some-ne-none v (sym e))

      founds : Fits names [] l 0 0 1 None 0 (founder {E = E} l)
      founds = record {
        one_label = λ x e. sym (ap (λ o. Rattle.std.proofs.Common.unwrap_or o l) e);
        beginning = (prefix-same [] [] refl, prefix-same [] [] refl);
        own = refl;
        number = (
          (λ _. omega arith),
          (λ n has. ⊎_elim (λ a. let z : 0 ≡ n = a.1 in omega arith)
              (λ c. absurd (contains-nothing (n, c.0) c.1)) has),
        );
        joined_stay = λ n es c. absurd (contains-nothing (n, es) c);
        ticket_within = λ t has. absurd (none_is_none t has);
        one_turn = λ t turn. absurd (idle-no_turn Idle t refl turn);
      }

      first : (i : ℕ) (v : View E L) → get_elem? (founder l ∷ []) i ≡ some v
          → Fits names [] l 0 0 1 None i v
      first zero v e = subst (λ u. Fits names [] l 0 0 1 None 0 u)
          (some-injective (founder l) v e) founds
      first (suc i) v e = absurd (some-ne-none v (sym e))

  pub splits : (id : ℕ) (v : View E L) → (x : L) × (v.label ≡ Some x) → Splits Rule id v v
      (newcomer v)
  splits id v live s r at = subst
      (λ vs. Rule record { words = s.words; homes = s.homes; views = vs ++ newcomer v ∷ [] })
      (sym (set_again s.views id v at)) record {
        history = r.history;
        serving = r.serving;
        ticket = r.ticket;
        seats = r.seats;
        holder = r.holder;
        words = r.words;
        slot = slot_longer r.holder r.slot;
        each = λ j u e. ⊎_elim (r.each j u)
            (λ (same : newcomer v ≡ u). subst
            (λ z. Fits names r.history l r.serving r.ticket r.seats r.holder j z) same (comes j))
            (at_snoc s.views (newcomer v) u j e);
        numbers_differ = distinct HasNumber
            (λ n has. numberless (newcomer v) n refl refl has) r.numbers_differ;
        tickets_differ = distinct HasTicket (λ t has. none_is_none t has) r.tickets_differ;
        tickets_counted = let a = r.tickets_counted in let b = count-snoc has_ticket s.views
            (newcomer v) in omega arith;
        named_below = r.named_below;
      }
    where
      f : Fits names r.history l r.serving r.ticket r.seats r.holder id v
      f = r.each id v at

      comes : (j : ℕ) → Fits names r.history l r.serving r.ticket r.seats r.holder j (newcomer v)
      comes j = record {
        one_label = f.one_label;
        beginning = (f.beginning.0, (r.history, refl));
        own = refl;
        number = (
          (λ _. f.number.0 live),
          (λ n has. absurd (numberless (newcomer v) n refl refl has)),
        );
        joined_stay = λ n es c. absurd (contains-nothing (n, es) c);
        ticket_within = λ t has. absurd (none_is_none t has);
        one_turn = λ t turn. absurd (idle-no_turn Idle t refl turn);
      }

      slot_longer : (holder : Option ℕ) → Slot history_of label_of l r.history holder s
          → Slot history_of label_of l r.history holder record
          { words = s.words; homes = s.homes; views = s.views ++ newcomer v ∷ [] }
      slot_longer None x = x
      slot_longer (Some i) x = (
        x.0,
        (x.1.0, x.1.1, at_longer s.views (newcomer v ∷ []) i x.1.0 x.1.2, x.1.3),
      )

      distinct : (Has : View E L → ℕ → Type 0) → ((n : ℕ) → Has (newcomer v) n → ⊥)
          → IsDistinct Has s.views → IsDistinct Has (s.views ++ newcomer v ∷ [])
      distinct Has nobody d i j a b n ea eb ha hb =
          ⊎_elim
          (λ x. ⊎_elim (λ y. d i j a b n x y ha hb)
          (λ (same : newcomer v ≡ b). absurd (nobody n (subst (λ u. Has u n) (sym same) hb)))
          (at_snoc s.views (newcomer v) b j eb))
          (λ (same : newcomer v ≡ a). absurd (nobody n (subst (λ u. Has u n) (sym same) ha)))
          (at_snoc s.views (newcomer v) a i ea)

  pub draws_number : (slots id : ℕ) (me : M) (expected next : ℕ) → next ≡ expected + 1
      → me.0.drawn ≡ false → me.0.mine ≡ [] → me.0.joined ≡ [] → (x : L) × (me.0.label ≡ Some x)
      → Allows Rule slots id me 2 (λ x. either (eqb x expected) next x)
      (DrewNumber (step slots 2 expected next none) me)
  draws_number slots id me expected next up off empty nothing live s r _ at _ =
      let found : ℕ = get_or s.words 2 0 in
      let here : found ≡ r.seats = ap (λ ws. get_or ws 2 0) r.words in
      let v : View E L = me.0 in
      let f = r.each id v at in
      let kept = f.number.0 live in
      dite (ℕ_discrete found expected)
      (λ hit. let w : View E L = numbered found v in
      let b = eq-eqb found expected hit in
      let value : either (eqb found expected) next found ≡ r.seats + 1 = ap
      (λ b. either b next found) b ∙ (up ∙ ap (λ k. k + 1) (sym hit ∙ here)) in
      let many = count-set has_ticket s.views id v w at in
      let sum = r.tickets_counted in
      let news : (n : ℕ) → HasNumber w n → found ≡ n = λ n has. ⊎_elim (λ a. a.1)
      (λ c. absurd (contains-nothing (n, c.0)
      (subst (λ xs. Contains xs (n, c.0)) nothing c.1))) has in (
        w,
        keeps,
        tt,
        moves names l history_of label_of s r id v w at r.history r.serving r.ticket
            (r.seats + 1) r.holder (set s.words 2 (either (eqb found expected) next found)) s.homes
            (λ i. set (r.words i) 2 (value i))
            (slot_kept names l history_of label_of s r.history r.holder id v w _ at
            (λ t turn. turn) r.slot)
            record {
              one_label = f.one_label;
              beginning = f.beginning;
              own = empty ∙ sym (entries-below names found r.history
                  (subst (λ n. All (λ e. names e < n) r.history) (sym here) r.named_below));
              number = ((λ _. omega arith), (λ n has. let a = news n has in omega arith));
              joined_stay = λ n es c. absurd
                  (contains-nothing (n, es) (subst (λ xs. Contains xs (n, es)) nothing c));
              ticket_within = f.ticket_within;
              one_turn = f.one_turn;
            }
            (λ j u apart e. still_fits names l r.history r.history r.serving r.serving r.ticket
            r.ticket r.seats (r.seats + 1) r.holder r.holder j u (λ xs p. p) (λ n _. refl)
            (omega arith) (λ t _ lo hi. (lo, hi)) (r.each j u e).one_turn (r.each j u e))
            (λ n has. inr (λ j u e other.
            let x = (r.each j u e).number.1 n other in
            let y = news n has in omega arith))
            (λ t has. inl has)
            (omega arith)
            (λ k d lt. let x = r.named_below k d lt in omega arith),
        as_true _ _ (eqb found expected) b (refl, omega arith),
      ))
      (λ miss. let b = ne_eqb found expected miss in
      let value : either (eqb found expected) next found ≡ r.seats = ap
      (λ b. either b next found) b ∙ here in (
        v,
        keeps,
        tt,
        stays names l history_of label_of s r id v at
            (set s.words 2 (either (eqb found expected) next found))
            (λ i. set (r.words i) 2 (value i)),
        as_false _ _ (eqb found expected) b refl,
      ))

  pub learns : (slots id : ℕ) (me : M) → me.0.stage ≡ Idle → Allows Rule slots id me 0 (λ x. x)
      (Learned (step slots 0 0 0 none) me)
  learns slots id me idle s r _ at _ =
      let found : ℕ = get_or s.words 0 0 in
      let v : View E L = me.0 in
      let f = r.each id v at in
      let w : View E L = learned v in
      let p = prefix-longer v.seen v.told r.history f.beginning.0 f.beginning.1 in
      let many = count-set has_ticket s.views id v w at in
      let sum = r.tickets_counted in (
        w,
        keeps,
        tt,
        moves names l history_of label_of s r id v w at r.history r.serving r.ticket r.seats
            r.holder (set s.words 0 found) s.homes
            (λ i. set (r.words i) 0 (get_or (r.words i) 0 0))
            (slot_kept names l history_of label_of s r.history r.holder id v w _ at
            (λ t turn. turn) r.slot)
            record {
              one_label = f.one_label;
              beginning = (p.2, (r.history, refl));
              own = f.own;
              number = f.number;
              joined_stay = f.joined_stay;
              ticket_within = f.ticket_within;
              one_turn = λ t turn. absurd (idle-no_turn v.stage t idle turn);
            }
            (λ j u apart e. r.each j u e)
            (λ n has. inl has)
            (λ t has. inl has)
            (omega arith)
            r.named_below,
        (refl, p.0, p.1),
      )

  module _ (id other : ℕ) (v w : View E L) where
    abbrev both : View E L
    both = told_of v w

    abbrev after : St → List (View E L)
    after s = set (set s.views id both) other joined_away

    -- the other seat's number, with its entries
    abbrev brought : ℕ × List E
    brought = (w.number, w.mine)

    -- a number that was told of is the other seat's own, or was told of before
    told : (n : ℕ) (es : List E) → Contains both.joined (n, es) → Contains v.joined (n, es) ⊎
        ((brought ≡ (n, es)) ⊎ Contains w.joined (n, es))
    told n es c = ⊎_elim inl
        (λ x. inr (⊎_elim (λ y. inl (only brought (n, es) y)) inr
        (Contains-append_cases (brought ∷ []) w.joined (n, es) x)))
        (Contains-append_cases v.joined (brought ∷ w.joined) (n, es) c)

    origin : w.drawn ≡ true → (n : ℕ) → HasNumber both n → HasNumber v n ⊎ HasNumber w n
    origin drawn n has = ⊎_elim (λ a. inl (inl a))
        (λ c. ⊎_elim (λ x. inl (inr (c.0, x)))
        (λ x. inr (⊎_elim (λ e. inl (drawn, ap (λ (z : ℕ × List E). z.0) e))
        (λ y. inr (c.0, y)) x)) (told n c.0 c.1)) has

    place : (s : St) (k : ℕ) (u : View E L) → get_elem? (after s) k ≡ some u
        → ((k ≡ other) × (joined_away ≡ u)) ⊎
        (((k ≡ id) × (both ≡ u)) ⊎ ((k ≢ other) × (k ≢ id) × (get_elem? s.views k ≡ some u)))
    place s k u e = ⊎_elim inl
        (λ (x : (k ≢ other) × (get_elem? (set s.views id both) k ≡ some u)). inr
        (⊎_elim inl (λ (y : (k ≢ id) × (get_elem? s.views k ≡ some u)). inr (x.0, y.0, y.1))
        (at_set s.views id k both u x.1)))
        (at_set (set s.views id both) other k joined_away u e)

    joined_distinct : (Has : View E L → ℕ → Type 0) (s : St) → get_elem? s.views id ≡ some v
        → get_elem? s.views other ≡ some w
        → ((n : ℕ) → Has joined_away n → ⊥) → ((n : ℕ) → Has both n → Has v n ⊎ Has w n)
        → IsDistinct Has s.views → IsDistinct Has (after s)
    joined_distinct Has s at there nobody from d i j a b n ea eb ha hb =
        ⊎_elim (λ x. absurd (nobody n (subst (λ u. Has u n) (sym x.1) ha)))
        (⊎_elim
        (λ x. ⊎_elim (λ y. absurd (nobody n (subst (λ u. Has u n) (sym y.1) hb)))
        (⊎_elim (λ y. x.0 ∙ sym y.0) (λ y. absurd
        (apart j b y hb (subst (λ u. Has u n) (sym x.1) ha))))
        (place s j b eb))
        (λ x. ⊎_elim (λ y. absurd (nobody n (subst (λ u. Has u n) (sym y.1) hb)))
        (⊎_elim (λ y. absurd (apart i a x ha (subst (λ u. Has u n) (sym y.1) hb)))
        (λ y. d i j a b n x.2 y.2 ha hb))
        (place s j b eb)))
        (place s i a ea)
      where
        apart : (k : ℕ) (u : View E L) → (k ≢ other) × (k ≢ id) × (get_elem? s.views k ≡ some u)
            → Has u n → Has both n → ⊥
        apart k u x hu h = ⊎_elim (λ hv. x.1 (sym (d id k v u n at x.2 hv hu)))
            (λ hw. x.0 (sym (d other k w u n there x.2 hw hu))) (from n h)

    joined_slot : (s : St) (h : List E) (holder : Option ℕ) → get_elem? s.views id ≡ some v
        → get_elem? s.views other ≡ some w → w.stage ≡ Idle
        → Slot history_of label_of l h holder s
        → Slot history_of label_of l h holder record
        { words = s.words; homes = s.homes; views = after s }
    joined_slot s h None at there idle x = x
    joined_slot s h (Some i) at there idle x =
        let u : View E L = x.1.0 in
        let t : ℕ = x.1.1 in (
          x.0,
          dite (ℕ_discrete i other)
              (λ is. absurd (idle-no_turn w.stage t idle
              (ap (λ (z : View E L). z.stage)
              (same-at s.views other i w u there x.1.2 (sym is)) ∙ x.1.3)))
              (λ far. dite (ℕ_discrete i id)
              (λ is. (
                both,
                t,
                set_else (set s.views id both) other i joined_away far ∙ subst
                    (λ k. get_elem? (set s.views id both) k ≡ some both) (sym is)
                    (set-at s.views id v both at),
                ap (λ (z : View E L). z.stage)
                    (same-at s.views id i v u at x.1.2 (sym is)) ∙ x.1.3,
              ))
              (λ apart. (
                u,
                t,
                set_else (set s.views id both) other i joined_away far ∙
                    (set_else s.views id i both apart ∙ x.1.2),
                x.1.3,
              ))),
        )

    pub joins : w.stage ≡ Idle → w.drawn ≡ true → (x : L) × (v.label ≡ Some x)
        → Joins Rule id v other w both joined_away
    joins idle drawn live s r at apart there = record {
      history = r.history;
      serving = r.serving;
      ticket = r.ticket;
      seats = r.seats;
      holder = r.holder;
      words = r.words;
      slot = joined_slot s r.history r.holder at theirs idle r.slot;
      each = λ k u e. ⊎_elim
          (λ (x : (k ≡ other) × (joined_away ≡ u)). subst
          (λ z. Fits names r.history l r.serving r.ticket r.seats r.holder k z) x.1 (away k))
          (⊎_elim
          (λ (x : (k ≡ id) × (both ≡ u)). subst
          (λ (y : ℕ × View E L). Fits names r.history l r.serving r.ticket r.seats r.holder y.0
          y.1) (λ i. (sym x.0 i, x.1 i)) joined)
          (λ x. r.each k u x.2))
          (place s k u e);
      numbers_differ = joined_distinct HasNumber s at theirs
          (λ n has. numberless joined_away n refl refl has) (origin drawn) r.numbers_differ;
      tickets_differ = joined_distinct HasTicket s at theirs (λ t has. none_is_none t has)
          (λ t has. inl has) r.tickets_differ;
      tickets_counted =
          let one = count-set has_ticket s.views id v both at in
          let two = count-set has_ticket (set s.views id both) other w joined_away there in
          let none_here : one_if has_ticket w ≡ 0 = ap
          (λ st. cond (is_some (ticket_of st)) 1 0) idle in
          let sum = r.tickets_counted in omega arith;
      named_below = r.named_below;
    }
      where
        theirs : get_elem? s.views other ≡ some w
        theirs = sym (set_else s.views id other both apart) ∙ there

        fv : Fits names r.history l r.serving r.ticket r.seats r.holder id v
        fv = r.each id v at

        fw : Fits names r.history l r.serving r.ticket r.seats r.holder other w
        fw = r.each other w theirs

        away : (k : ℕ) → Fits names r.history l r.serving r.ticket r.seats r.holder k joined_away
        away k = record {
          one_label = λ x e. absurd (no_label x e);
          beginning = ((r.history, refl), (r.history, refl));
          own = refl;
          number = (
            (λ live. absurd (no_label live.0 live.1)),
            (λ n has. absurd (numberless joined_away n refl refl has)),
          );
          joined_stay = λ n es c. absurd (contains-nothing (n, es) c);
          ticket_within = λ t has. absurd (none_is_none t has);
          one_turn = λ t turn. absurd (idle-no_turn Idle t refl turn);
        }
          where
            no_label : (x : L) → None ≡ Some x → ⊥
            no_label x e = true≢false (sym (ap is_some e))

        differ : v.drawn ≡ true → (n : ℕ) → HasNumber w n → ¬ (v.number ≡ n)
        differ mine n has same = apart
            (sym (r.numbers_differ id other v w n at theirs (inl (mine, same)) has))

        stay : (n : ℕ) (es : List E) → Contains both.joined (n, es) →
            (entries_of names n r.history ≡ es) × (v.drawn ≡ true → ¬ (v.number ≡ n))
        stay n es c = ⊎_elim (λ x. fv.joined_stay n es x)
            (⊎_elim
            (λ e. (
              ap (λ (z : ℕ × List E). entries_of names z.0 r.history) (sym e) ∙
                  (sym (at_true _ _ w.drawn drawn fw.own) ∙ ap (λ (z : ℕ × List E). z.1) e),
              λ mine. differ mine n (inl (drawn, ap (λ (z : ℕ × List E). z.0) e)),
            ))
            (λ x. ((fw.joined_stay n es x).0, (λ mine. differ mine n (inr (es, x))))))
            (told n es c)

        joined : Fits names r.history l r.serving r.ticket r.seats r.holder id both
        joined = record {
          one_label = fv.one_label;
          beginning = (fv.beginning.0, fw.beginning.0);
          own = fv.own;
          number = (
            fv.number.0,
            (λ n has. ⊎_elim (fv.number.1 n) (fw.number.1 n)
                (origin drawn n has)),
          );
          joined_stay = stay;
          ticket_within = fv.ticket_within;
          one_turn = fv.one_turn;
        }
