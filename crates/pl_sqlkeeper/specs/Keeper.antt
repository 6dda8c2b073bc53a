-- What clauses see of a keeper: its connection, and how many calls failed.
use Rattle.std.specs.Prelude.{◌≡◌, ℕ, false, refl}
use Rattle.std.specs.Coded.{Coded, code_by, coded×, coded_ℕ}
use Rattle.sqlite.specs.Store.{Ghosts}
use Rattle.sqlite.specs.Held.{Held, held_code, state}
use Rattle.pl_sqlkeeper.specs.Kept.{StaysOurs}

pub record Keeping (S : Type 0) : Type 0 where
  pub conn : Held S
  pub faults : ℕ

abbrev pub keeping_code : {S : Type 0} → Coded S → Coded (Keeping S)
keeping_code {S} store = code_by (Held S × ℕ) (coded× (held_code store) coded_ℕ)
    (λ keeper. (keeper.conn, keeper.faults))
    (λ pair. record { conn = pair.0; faults = pair.1 }) (λ _. refl)

-- between calls the connection is in no transaction, and has the keeper's table alone
pub record IsIdle {S : Type 0} (g : Ghosts S) (conn : Held S) : Type 0 where
  pub idle : conn.in_transaction ≡ false
  pub ours : StaysOurs (state g conn)
