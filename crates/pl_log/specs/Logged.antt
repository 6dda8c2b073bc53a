-- A log as contracts see it.
use Rattle.std.specs.Prelude.{ℕ, List}

-- all items in order, and how many of them are installed: those behind them can still be taken away
pub record Logged (X : Type 0) : Type 0 where
  pub items : List X
  pub installed : ℕ
