use Rattle.std.proofs.Common.{ℕ, List, sym, ap, ◌∙◌, subst, rules}
use Rattle.pl_turn.specs.History.{Adds}
use Rattle.pl_turn.proofs.Turns.{ends}
use Rattle.pl_turn.proofs.stepping.end_turn.Goals as goal

pub store-requires : goal.store-requires
store-requires g c =
    let e = c.put_in.ensures in (
      e.same.0 ∙ (c.requires.own ∙ sym c.lock.view_is),
      search rules,
      ends _ _ _ _ _ _ _ _ c.args.value c.requires.turn.0 _ (ap (λ m. m.1) e.full)
          (ap (λ m. m.0.stage) e.full ∙ c.requires.turn.1) c.requires.turn.2
          (ap (λ m. m.0.drawn) e.full ∙ c.requires.drawn)
          (ap (λ m. m.0.label) e.full ∙ c.requires.label)
          (subst (λ (z : ℕ × List g.row.T-Entry.Denot). Adds g.T.Standing.names z.0 z.1
          (g.T.Standing.history c.args.value))
          (λ k. (
            sym (ap (λ m. m.0.number) e.full) k,
            sym
                (ap (λ m. m.0.seen) e.full) k,
          )) c.requires.history),
    )
