-- The links that a worker serves at one desk, one after the other.
use Rattle.std.specs.Prelude.{◌≡◌, ℕ, Bool, true, false, List, [], ◌∷◌, ◌++◌, Option, option_map}
use Rattle.std.specs.Prelude.{map}
use Rattle.pl_base.specs.Counts.{one_more}
use Rattle.pl_listener.specs.Handles.{Passed}
use Rattle.pl_sessions.specs.Session.{Point, Session}
use Rattle.pl_sessions.specs.Told.{Told}
use Rattle.pl_sessions.specs.declared.answer.Answer.{Answer}
use Rattle.pl_sessions.specs.declared.served.Served.{Served}
use Rattle.pl_sessions.specs.declared.served.Served.TheVariants as served
use Rattle.pl_wire.specs.declared.message.Message.{Message}

-- a link that was served: as it was given, as it was left, and how its session ended
pub record Visit : Type 0 where
  pub given : Told
  pub left : Told
  pub ending : Served

-- where a link, the moments to come and a desk stand
abbrev pub point_of : {D : Type 0} → Told → Option (ℕ → ℕ) → D → Point D
point_of link coming desk = record { link = link; coming = coming; desk = desk }

module _ {D : Type 0} (act : D → ℕ → Message → Answer → D → Type 0) where
  -- Each link is a session of the desk, which begins where the one before it ended; and so do the
  -- moments that the clock tells.
  abbrev pub Chain : D → Option (ℕ → ℕ) → List Visit → D → Option (ℕ → ℕ) → Type 0
  Chain old coming [] new later = (new ≡ old) × (later ≡ coming)
  Chain old coming (visit ∷ visits) new later =
      (between : D) × (next : Option (ℕ → ℕ))
      × Session act true (point_of visit.given coming old) (point_of visit.left next between)
      visit.ending
      × Chain between next visits new later

-- whether a link ended with an accepted shutdown
abbrev pub is_stopped : Served → Bool
is_stopped served.Stopped = true
is_stopped other = false

-- none of the links but the last ended with an accepted shutdown, and the last did or not
abbrev pub Stopping : Bool → List Visit → Type 0
Stopping stopped [] = stopped ≡ false
Stopping stopped (visit ∷ []) = is_stopped visit.ending ≡ stopped
Stopping stopped (visit ∷ next ∷ visits) =
    (is_stopped visit.ending ≡ false) × Stopping stopped (next ∷ visits)

-- the links as a handle tells them, behind those that it told before
abbrev pub passed_of : Visit → Passed
passed_of visit = record { given = visit.given; left = visit.left }

abbrev pub with_visits : Option (List Passed) → List Visit → Option (List Passed)
with_visits passed visits = option_map (λ links. links ++ map passed_of visits) passed

-- a count after one more for each link
abbrev pub counted : ℕ → List Visit → ℕ
counted count [] = count
counted count (visit ∷ visits) = counted (one_more count) visits
