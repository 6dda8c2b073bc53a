-- A turn ends.
use Rattle.std.proofs.Common.{◌≡◌, ℕ, ◌+◌, ◌<◌, ◌≢◌, true, cond, List, [], ◌∷◌, ◌++◌, get_or, set}
use Rattle.std.proofs.Common.{Option, Some, None, is_some, All, unwrap_or, sym, refl, ap, ◌∙◌}
use Rattle.std.proofs.Common.{subst, inl, arith, le_refl}
use Rattle.std.proofs.lemmas.List.Elements.{All-append}
use mathlib.Core.List.{IsPrefix}
use mathlib.Core.Logic.{dite}
use mathlib.Core.Option.{none}
use native.Mathlib.Decide.{ℕ_discrete}
use Rattle.atomic_table.specs.Table.{State, Me, step, gives, put_back, rest, Allows}
use Rattle.pl_turn.specs.History.{entries_of, Adds}
use Rattle.pl_turn.specs.Rule.{ticket_of, has_ticket, KnowsItsOwn, Slot, OneHistory}
use Rattle.pl_turn.specs.Steps.{rested, EndedTurn}
use Rattle.pl_turn.specs.declared.view.Stage.TheVariants.{Idle, Turn}
use Rattle.pl_turn.specs.declared.view.View.{View}
use Rattle.pl_turn.proofs.Beginnings.{prefix-same, prefix-more, entries-other, IsAtMostOne, added}
use Rattle.pl_turn.proofs.Beginnings.{one_if, count-set}
use Rattle.pl_turn.proofs.Views.{same_some, none_is_none, idle-no_turn, as_true, still_fits, moves}

module _ {T E L : Type 0} (history_of : T → List E) (label_of : T → L) (names : E → ℕ)
    (count_of : T → ℕ) (l : L) where
  abbrev St : Type 0
  St = State (Option T) (View E L)

  abbrev M : Type 0
  M = Me (Option T) (View E L)

  abbrev Rule : St → Type 0
  Rule = OneHistory history_of label_of names l

  -- the value in a slot that is held alone
  same_value : (y z : T) (held : List (ℕ × Option T)) → held ≡ (0, Some y) ∷ [] → held ≡
      (0, Some z) ∷ [] → y ≡ z
  same_value y z held e f = ap (λ (c : List (ℕ × Option T)). unwrap_or (get_or c 0 (0, None)).1 y)
      (sym e ∙ f)

  pub ends : (slots id : ℕ) (me : M) (y : T) (ticket next : ℕ) → me.1 ≡ (0, Some y) ∷ []
      → me.0.stage ≡ Turn ticket → next ≡ ticket + 1
      → me.0.drawn ≡ true → me.0.label ≡ Some (label_of y) → Adds names me.0.number me.0.seen
      (history_of y)
      → Allows Rule slots id me 0 (λ _. next)
      (λ _. EndedTurn history_of names count_of (step slots 0 next 0 none) me next)
  ends slots id me y ticket next held is up drawn label adds s r _ at _ =
      let v : View E L = me.0 in
      let f = r.each id v at in
      let turn = f.one_turn ticket is in
      let list = added names v.number v.seen (history_of y) adds in
      let new : List E = list.0 in
      let one : IsAtMostOne names v.number new = list.1 in
      let grown : history_of y ≡ r.history ++ new = list.2 ∙ ap (λ h. h ++ new) turn.2 in
      let others : (n : ℕ) → v.number ≢ n → entries_of names n
      (history_of y) ≡ entries_of names n r.history = λ n ne. ap
      (λ h. entries_of names n h) grown ∙ entries-other names n v.number r.history new one ne in
      let longer : (xs : List E) → IsPrefix xs r.history → IsPrefix xs
      (history_of y) = λ xs p. subst (λ h. IsPrefix xs h) (sym grown)
      (prefix-more xs r.history new p) in
      let slot : Slot history_of label_of l r.history (Some id) s = subst
      (λ o. Slot history_of label_of l r.history o s) turn.1 r.slot in
      let w : View E L = rested names (history_of y) (count_of y) v in
      let before : one_if has_ticket v ≡ 1 = ap (λ st. cond (is_some (ticket_of st)) 1 0) is in
      let many = count-set has_ticket s.views id v w at in
      let sum = r.tickets_counted in
      let below = f.number.1 v.number (inl (drawn, refl)) in (
        w,
        gives,
        tt,
        moves names l history_of label_of s r id v w at (history_of y)
            (r.serving + 1) r.ticket r.seats None (set s.words 0 next) (put_back s.homes me.1)
            (λ i. set (r.words i) 0 ((up ∙ ap (λ k. k + 1) turn.0) i))
            (y, (λ i. put_back (slot.0 i) (held i)), refl, f.one_label (label_of y) label)
            record {
              one_label = f.one_label;
              beginning = (
                prefix-same (history_of y)
                    (history_of y) refl,
                longer v.told f.beginning.1,
              );
              own = as_true _ _ v.drawn drawn refl;
              number = f.number;
              joined_stay = λ n es c. let a = f.joined_stay n es c in
                  (others n (a.1 drawn) ∙ a.0, a.1);
              ticket_within = λ t has. absurd (none_is_none t has);
              one_turn = λ t ends. absurd (idle-no_turn Idle t refl ends);
            }
            (λ j u apart e. still_fits names l r.history (history_of y) r.serving
            (r.serving + 1) r.ticket r.ticket r.seats r.seats r.holder None j u
            longer
            (λ n has. others n (λ same. apart
            (sym (r.numbers_differ id j v u n at e (inl (drawn, same)) has))))
            (le_refl r.seats)
            (λ t has lo hi. dite (ℕ_discrete t r.serving)
            (λ first. absurd (apart (sym (r.tickets_differ id j v u t at e
            (ap ticket_of is ∙ ap Some (turn.0 ∙ sym first)) has))))
            (λ later. (omega arith, hi)))
            (λ t theirs. absurd (apart (same_some j id
            (sym ((r.each j u e).one_turn t theirs).1 ∙ turn.1))))
            (r.each j u e))
            (λ n has. inl has)
            (λ t has. absurd (none_is_none t has))
            (omega arith)
            (subst (λ h. All (λ e. names e < r.seats) h) (sym grown)
            (All-append (λ e. names e < r.seats) r.history new r.named_below
            (λ k d lt. let same = one.1 k d lt in omega arith))),
        (
          subst (λ h. KnowsItsOwn names h v) (sym turn.2) f.own,
          λ z is'. let same : y ≡ z = same_value y z me.1 held is' in
              λ i. (rested names (history_of (same i)) (count_of (same i)) v, rest (held i)),
        ),
      )
