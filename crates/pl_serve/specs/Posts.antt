-- Four workers at their posts, each at a seat of one hall.
use Rattle.std.specs.Prelude.{◌≡◌, false}
use Rattle.pl_serve.specs.Seats.{Seat}
use Rattle.pl_serve.specs.declared.four.Four.{Four}
use Rattle.pl_serve.specs.declared.four.Outside.{Outside}
use Rattle.pl_worker.specs.declared.post.Crew.{Crew}
use Rattle.pl_worker.specs.declared.post.Post.{Post}

module _ {D L C : Type 0} (seat_of : D → Seat) where
  -- a desk at this seat, with this handle and this clock
  pub record IsAt (seat : Seat) (outside : Outside L C) (post : Post D L C) : Type 0 where
    pub desk : seat_of post.desk ≡ seat
    pub door : post.door ≡ outside.door
    pub clock : post.clock ≡ outside.clock

  pub record AreAt (seats : Four Seat) (outsides : Four (Outside L C)) (crew : Crew D L C)
      : Type 0 where
    pub first : IsAt seats.first outsides.first crew.first
    pub second : IsAt seats.second outsides.second crew.second
    pub third : IsAt seats.third outsides.third crew.third
    pub fourth : IsAt seats.fourth outsides.fourth crew.fourth

  -- one that was left: its seat has no turn
  abbrev pub WasAt : Seat → Outside L C → Post D L C → Type 0
  WasAt seat outside post = IsAt seat outside post × (seat.turn ≡ false)

  pub record WereAt (seats : Four Seat) (outsides : Four (Outside L C)) (crew : Crew D L C)
      : Type 0 where
    pub first : WasAt seats.first outsides.first crew.first
    pub second : WasAt seats.second outsides.second crew.second
    pub third : WasAt seats.third outsides.third crew.third
    pub fourth : WasAt seats.fourth outsides.fourth crew.fourth
