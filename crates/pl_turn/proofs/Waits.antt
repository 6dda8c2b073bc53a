-- A ticket is drawn, and a turn is waited for.
use Rattle.std.proofs.Common.{◌≡◌, ℕ, ◌+◌, ◌==◌, true, cond, List, [], ◌∷◌, get_or, set, eqb}
use Rattle.std.proofs.Common.{Option, Some, None, is_some, MatchBool, sym, refl, ap, ◌∙◌, subst}
use Rattle.std.proofs.Common.{inl, inr, arith, le_refl, eq-eqb, ne_eqb}
use mathlib.Core.List.{IsPrefix}
use mathlib.Core.Logic.{dite}
use mathlib.Core.Option.{some, none}
use native.Mathlib.Decide.{ℕ_discrete}
use lib.ListN.{get_elem?}
use prog.Atomic.{either}
use Rattle.atomic_table.specs.Table.{State, Me, step, keeps, takes, Allows}
use Rattle.pl_turn.specs.History.{entries_of}
use Rattle.pl_turn.specs.Rule.{ticket_of, has_ticket, Slot, OneHistory}
use Rattle.pl_turn.specs.Steps.{waiting, having, DrewTicket, GotTurn, AwaitedTurn}
use Rattle.pl_turn.specs.declared.view.Stage.TheVariants.{Idle, Waiting, Turn}
use Rattle.pl_turn.specs.declared.view.View.{View}
use Rattle.pl_turn.proofs.Beginnings.{prefix-same, set-at, same-at, count-set, one_if}
use Rattle.pl_turn.proofs.Views.{same_some, none_is_none, idle-no_turn, waiting-no_turn, at_true}
use Rattle.pl_turn.proofs.Views.{as_true, as_false, still_fits, slot_kept, moves, stays}

module _ {T E L : Type 0} (history_of : T → List E) (label_of : T → L) (names : E → ℕ)
    (count_of : T → ℕ) (l : L) where
  abbrev St : Type 0
  St = State (Option T) (View E L)

  abbrev M : Type 0
  M = Me (Option T) (View E L)

  abbrev Rule : St → Type 0
  Rule = OneHistory history_of label_of names l

  pub draws : (slots id : ℕ) (me : M) (expected next : ℕ) → me.0.stage ≡ Idle → next ≡ expected + 1
      → Allows Rule slots id me 1 (λ x. either (eqb x expected) next x)
      (DrewTicket (step slots 1 expected next none) me)
  draws slots id me expected next idle up s r _ at _ =
      let found : ℕ = get_or s.words 1 0 in
      let here : found ≡ r.ticket = ap (λ ws. get_or ws 1 0) r.words in
      let v : View E L = me.0 in
      let f = r.each id v at in
      dite (ℕ_discrete found expected)
      (λ hit. let w : View E L = waiting found v in
      let b = eq-eqb found expected hit in
      let value : either (eqb found expected) next found ≡ r.ticket + 1 = ap
      (λ b. either b next found) b ∙ (up ∙ ap (λ k. k + 1) (sym hit ∙ here)) in
      let before : one_if has_ticket v ≡ 0 = ap (λ st. cond (is_some (ticket_of st)) 1 0) idle in
      let many = count-set has_ticket s.views id v w at in
      let sum = r.tickets_counted in (
        w,
        keeps,
        tt,
        moves names l history_of label_of s r id v w at r.history r.serving
            (r.ticket + 1) r.seats r.holder
            (set s.words 1 (either (eqb found expected) next found)) s.homes
            (λ i. set (r.words i) 1 (value i))
            (slot_kept names l history_of label_of s r.history r.holder id v w _ at
            (λ t turn. absurd (idle-no_turn v.stage t idle turn)) r.slot)
            record {
              one_label = f.one_label;
              beginning = f.beginning;
              own = f.own;
              number = f.number;
              joined_stay = f.joined_stay;
              ticket_within = λ t has. let e = same_some found t has in (omega arith, omega arith);
              one_turn = λ t turn. absurd (waiting-no_turn (Waiting found) found t refl turn);
            }
            (λ j u apart e. still_fits names l r.history r.history r.serving r.serving r.ticket
            (r.ticket + 1) r.seats r.seats r.holder r.holder j u (λ xs p. p) (λ n _. refl)
            (le_refl r.seats) (λ t _ lo hi. (lo, omega arith)) (r.each j u e).one_turn
            (r.each j u e))
            (λ n has. inl has)
            (λ t has. inr (λ j u e other.
            let x = (r.each j u e).ticket_within t other in
            let y = x.1 in
            let z = same_some found t has in omega arith))
            (omega arith)
            r.named_below,
        as_true _ _ (eqb found expected) b refl,
      ))
      (λ miss. let b = ne_eqb found expected miss in
      let value : either (eqb found expected) next found ≡ r.ticket = ap
      (λ b. either b next found) b ∙ here in (
        v,
        keeps,
        tt,
        stays names l history_of label_of s r id v at
            (set s.words 1 (either (eqb found expected) next found))
            (λ i. set (r.words i) 1 (value i)),
        as_false _ _ (eqb found expected) b refl,
      ))

  -- nobody has the turn where a waiting view's ticket is served
  nobody : (s : St) (r : Rule s) (id : ℕ) (v : View E L) (ticket : ℕ)
      → get_elem? s.views id ≡ some v → v.stage ≡ Waiting ticket → ticket ≡ r.serving
      → (holder : Option ℕ) → Slot history_of label_of l r.history holder s → holder ≡ None
  nobody s r id v ticket at waits served None x = refl
  nobody s r id v ticket at waits served (Some i) x =
      let u : View E L = x.1.0 in
      let t : ℕ = x.1.1 in
      let theirs : u.stage ≡ Turn t = x.1.3 in
      let same : t ≡ ticket = ((r.each i u x.1.2).one_turn t theirs).0 ∙ sym served in
      let one : id ≡ i = r.tickets_differ id i v u ticket at x.1.2 (ap ticket_of waits)
      (ap ticket_of theirs ∙ ap Some same) in
      absurd (waiting-no_turn v.stage ticket t waits
      (ap (λ (z : View E L). z.stage) (same-at s.views id i v u at x.1.2 one) ∙ theirs))

  pub awaits : (slots id : ℕ) (me : M) (ticket : ℕ) → me.0.stage ≡ Waiting ticket → (x : L) ×
      (me.0.label ≡ Some x) → me.0.drawn ≡ true
      → Allows Rule slots id me 0 (λ x. x)
      (AwaitedTurn history_of label_of names count_of (step slots 0 0 0 none) me)
  awaits slots id me ticket waits live drawn s r _ at _ =
      let found : ℕ = get_or s.words 0 0 in
      let here : found ≡ r.serving = ap (λ ws. get_or ws 0 0) r.words in
      let v : View E L = me.0 in
      let f = r.each id v at in
      let words : set s.words 0 found ≡ r.serving ∷ r.ticket ∷ r.seats ∷ [] = λ i. set
      (r.words i) 0 (get_or (r.words i) 0 0) in
      dite (ℕ_discrete found ticket)
      (λ hit. let alone : r.holder ≡ None = nobody s r id v ticket at waits
      (sym hit ∙ here) r.holder r.slot in
      let x : Slot history_of label_of l r.history None s = subst
      (λ o. Slot history_of label_of l r.history o s) alone r.slot in
      let y : T = x.0 in
      let hist : history_of y ≡ r.history = x.2 in
      let w : View E L = having ticket (history_of y) (count_of y) v in
      let before : one_if has_ticket v ≡ 1 = ap (λ st. cond (is_some (ticket_of st)) 1 0) waits in
      let many = count-set has_ticket s.views id v w at in
      let sum = r.tickets_counted in (
        w,
        takes 0 (Some y),
        ap (λ hs. get_elem? hs 0) x.1,
        moves names l history_of label_of s r id v w at r.history r.serving r.ticket r.seats
            (Some id) (set s.words 0 found) (set s.homes 0 none)
            words
            (ap (λ hs. set hs 0 none) x.1, (w, ticket, set-at s.views id v w at, refl))
            record {
              one_label = f.one_label;
              beginning = (prefix-same (history_of y) r.history hist, f.beginning.1);
              own = f.own;
              number = f.number;
              joined_stay = f.joined_stay;
              ticket_within = λ t has. f.ticket_within t (ap ticket_of waits ∙ has);
              one_turn = λ t turn. (
                sym (same_some ticket t (ap ticket_of turn)) ∙
                    (sym hit ∙ here),
                refl,
                hist,
              );
            }
            (λ j u apart e. still_fits names l r.history r.history r.serving r.serving r.ticket
            r.ticket r.seats r.seats r.holder (Some id) j u (λ xs p. p) (λ n _. refl)
            (le_refl r.seats) (λ t _ lo hi. (lo, hi))
            (λ t turn. absurd (none_is_none j (sym alone ∙ ((r.each j u e).one_turn t turn).1)))
            (r.each j u e))
            (λ n has. inl has)
            (λ t has. inl (ap ticket_of waits ∙ has))
            (omega arith)
            r.named_below,
        λ t is. subst (λ k. MatchBool (found == k)
            (GotTurn history_of label_of names count_of k me (w, (0, Some y) ∷ me.1))
            ((w, (0, Some y) ∷ me.1) ≡ me))
            (same_some ticket t (sym (ap ticket_of waits) ∙ ap ticket_of is))
            (as_true _ _ (eqb found ticket) (eq-eqb found ticket hit) (
              y,
              refl,
              subst (λ h. IsPrefix v.seen h) (sym hist) f.beginning.0,
              live.1 ∙ ap Some (f.one_label live.0 live.1 ∙ sym x.3),
              at_true _ _ v.drawn drawn f.own ∙ ap (λ h. entries_of names v.number h) (sym hist),
            )),
      ))
      (λ miss. (
        v,
        keeps,
        tt,
        stays names l history_of label_of s r id v at (set s.words 0 found) words,
        λ t is. subst (λ k. MatchBool (found == k)
            (GotTurn history_of label_of names count_of k me me) (me ≡ me))
            (same_some ticket t (sym (ap ticket_of waits) ∙ ap ticket_of is))
            (as_false _ _ (eqb found ticket) (ne_eqb found ticket miss) refl),
      ))
