-- Which of the messages are accepted shutdowns.
use Rattle.std.proofs.Common.{◌≡◌, Bool, true, false, List, [], ◌∷◌, ◌++◌, refl, sym, ◌∙◌, subst}
use Rattle.pl_sessions.specs.Acts.{Turn}
use Rattle.pl_sessions.specs.Halts.{Halting}

-- turns without one, and others behind them
pub halting_then : (heeds halted : Bool) (ts us : List Turn) → Halting heeds false ts
    → Halting heeds halted us → Halting heeds halted (ts ++ us)
halting_then heeds halted [] us none behind = behind
halting_then heeds halted (t ∷ []) [] none behind =
    subst (λ (last : Bool). Halting heeds last (t ∷ [])) (sym behind) none
halting_then heeds halted (t ∷ []) (u ∷ us) none behind = (none, behind)
halting_then heeds halted (t ∷ s ∷ ts) us none behind =
    (none.0, halting_then heeds halted (s ∷ ts) us none.1 behind)

-- where they aren't heeded, none is one
pub never_halts : (turns : List Turn) → Halting false true turns → ⊥
never_halts [] halts = absurd (cc halts)
never_halts (t ∷ []) halts = absurd (cc halts)
never_halts (t ∷ s ∷ ts) halts = never_halts (s ∷ ts) halts.1
