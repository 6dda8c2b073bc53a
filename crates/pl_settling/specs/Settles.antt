-- Settling: what is due is added, one fact after the other, until nothing is.
use Rattle.std.specs.Prelude.{◌≡◌, ℕ, List, [], ◌∷◌, ◌++◌, Some, None}
use Rattle.pl_facts.specs.declared.fact.Fact.{Fact}
use Rattle.pl_due.specs.Due.{IsDue}

-- each of these facts was due behind those before it, at this moment
abbrev pub Adds : ℕ → List Fact → List Fact → Type 0
Adds moment facts [] = Unit {0}
Adds moment facts (one ∷ added) = IsDue facts moment (Some one.event) × (one.moment ≡ moment)
    × Adds moment (facts ++ one ∷ []) added

-- and behind them nothing is
abbrev pub Settles : ℕ → List Fact → List Fact → Type 0
Settles moment facts [] = IsDue facts moment None
Settles moment facts (one ∷ added) = IsDue facts moment (Some one.event) × (one.moment ≡ moment)
    × Settles moment (facts ++ one ∷ []) added
