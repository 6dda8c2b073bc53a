-- Four workers stand in one history.
use Rattle.std.proofs.Common.{◌≡◌, ◌++◌, ℕ, List, []}
use Rattle.std.proofs.Common.{Option, Some, None, refl, sym, ap, subst, ◌∙◌}
use mathlib.Core.List.{IsPrefix}
use Rattle.atomic_table.specs.Seated.{TableId}
use Rattle.pl_base.specs.declared.row.Row.{Row}
use Rattle.pl_facts.specs.declared.entry.Entry.{Entry}
use Rattle.pl_hall.specs.Seats.{IsFree, first_parts, parts_of, split_parts}
use Rattle.pl_hall.specs.Below.pl_history.specs.History.{Opening}
use Rattle.pl_hall.specs.Below.pl_history.specs.Legal.{Legal}
use Rattle.pl_listener.specs.Handles.{Handle}
use Rattle.pl_serve.proofs.Growing.{grew_along}
use Rattle.pl_serve.specs.History.{AreIn, IsOf, OneHistory, Stands, stands_at, turns_in}
use Rattle.pl_serve.specs.Posts.{AreAt, IsAt, WasAt, WereAt}
use Rattle.pl_serve.specs.Seats.{AreFree, AreSplit, IsJoined, Seat}
use Rattle.pl_serve.specs.declared.four.Four.{Four}
use Rattle.pl_serve.specs.declared.four.Outside.{Outside}
use Rattle.pl_hall.specs.Below.pl_service.specs.Desk.{Act, Parts}
use Rattle.pl_hall.specs.Below.pl_service.specs.Grown.{AreOwnOf, Grew}
use Rattle.pl_hall.specs.Below.pl_service.specs.Kept.{IsKeptAt}
use Rattle.pl_sessions.proofs.Through.{seen_by}
use Rattle.pl_turn.proofs.Beginnings.{prefix-trans}
use Rattle.pl_worker.proofs.Through.{works_through}
use Rattle.pl_worker.specs.Crew.{CrewWorks, stand_of}
use Rattle.pl_worker.specs.Works.{Stand, Works, stand}
use Rattle.pl_worker.specs.declared.post.Crew.{Crew}
use Rattle.pl_worker.specs.declared.post.Post.{Post}
use Rattle.pl_worker.specs.declared.why.Reasons.{Reasons}
use Rattle.pl_worker.specs.declared.why.Why.{Why}

-- ---- how a history ends

-- what an optional opening is, or else this
abbrev opening_in : Opening → Option Opening → Opening
opening_in other None = other
opening_in other (Some opening) = opening

one_opening : (opening other : Opening) (told again : Option Opening) → again ≡ told
    → told ≡ Some opening → again ≡ Some other → other ≡ opening
one_opening opening other told again same is is' =
    ap (λ (o : Option Opening). opening_in opening o) (sym is' ∙ same ∙ is)

-- ---- one worker

-- a desk that has seen nothing, and of which nothing is its own
record Begins (hall : TableId) (opening : Opening) (number : ℕ) (desk : Parts) : Type 0 where
  pub of : IsOf hall opening number desk
  pub seen : desk.seen ≡ []
  pub mine : desk.mine ≡ []

module _ {L C : Type 0} (coming : C → Option (ℕ → ℕ)) (tells : L → Handle) where
  -- what a worker's desk is in the end
  record Stood (hall : TableId) (opening : Opening) (number : ℕ) (from to : Parts)
      (old : Outside L C) (reason : Why) (new : Outside L C) : Type 0 where
    pub works :
        Works Act (stands_at coming tells from old) reason (stands_at coming tells to new)
    pub began : Begins hall opening number from
    pub ended : IsOf hall opening number to
    pub legal : Legal opening to.seen
    pub own :
        AreOwnOf number (turns_in from (coming old.clock) works.serves.visits to
        (coming new.clock) works.serves.chain) to.mine

  stood : (hall : TableId) (opening : Opening) (number : ℕ) (from to : Parts)
      (old : Outside L C) (reason : Why) (new : Outside L C) → Begins hall opening number from
      → Works Act (stands_at coming tells from old) reason (stands_at coming tells to new)
      → Stood hall opening number from to old reason new
  stood hall opening number from to old reason new begins works =
      let turns = turns_in from (coming old.clock) works.serves.visits to (coming new.clock)
      works.serves.chain in
      let grew : Grew from turns to =
      grew_along from (coming old.clock) works.serves.visits to (coming new.clock)
      works.serves.chain in
      record {
        works = works;
        began = begins;
        ended = record {
          lock_is = grew.lock ∙ begins.of.lock_is;
          opening_is = grew.opening ∙ begins.of.opening_is;
          number_is = grew.number ∙ begins.of.number_is;
        };
        legal = grew.legal opening (grew.opening ∙ begins.of.opening_is)
            (subst (λ (seen : List Entry). Legal opening seen) (sym begins.seen) tt);
        own =
            subst (λ (mine : List Entry). AreOwnOf number turns mine)
            (sym (grew.mine ∙ ap (λ (mine : List Entry). mine ++ grew.own) begins.mine))
            (subst (λ (n : ℕ). AreOwnOf n turns grew.own) begins.of.number_is grew.are);
      }

  stands : (hall : TableId) (opening : Opening) (history : List Entry) (number : ℕ)
      (from to : Parts) (old : Outside L C) (reason : Why) (new : Outside L C)
      → Stood hall opening number from to old reason new → IsPrefix to.seen history
      → Stands coming tells hall opening history number old reason new
  stands hall opening history number from to old reason new s seen = record {
    from = from;
    to = to;
    works = s.works;
    began = s.began.of;
    ended = s.ended;
    nothing = (s.began.seen, s.began.mine);
    seen = seen;
    own = s.own;
  }

-- ---- desks at their posts

module _ {D : Type 0} (seat_of : D → Seat) where
  abbrev pub parts_at : D → Parts
  parts_at desk = parts_of (seat_of desk)

  module _ {L C : Type 0} (coming : C → Option (ℕ → ℕ)) (tells : L → Handle) where
    -- where a worker stands, as its desk's parts
    seen_at : (seat : Seat) (outside : Outside L C) (post : Post D L C)
        → IsAt seat_of seat outside post
        → stand (parts_at post.desk) (coming post.clock) (tells post.door)
        ≡ stands_at coming tells (parts_of seat) outside
    seen_at seat outside post is =
        ap (λ (s : Seat). stand (parts_of s) (coming post.clock) (tells post.door)) is.desk
        ∙ ap (λ (c : C). stand (parts_of seat) (coming c) (tells post.door)) is.clock
        ∙ ap (λ (l : L). stand (parts_of seat) (coming outside.clock) (tells l)) is.door

    works_at : (seat seat' : Seat) (outside outside' : Outside L C)
        (post post' : Post D L C) (reason : Why) → IsAt seat_of seat outside post
        → IsAt seat_of seat' outside' post'
        → Works (seen_by parts_at Act) (stand_of coming tells post) reason
        (stand_of coming tells post')
        → Works Act (stands_at coming tells (parts_of seat) outside) reason
        (stands_at coming tells (parts_of seat') outside')
    works_at seat seat' outside outside' post post' reason is is' works =
        subst (λ (s : Stand Parts). Works Act s reason
        (stands_at coming tells (parts_of seat') outside')) (seen_at seat outside post is)
        (subst (λ (s : Stand Parts). Works Act
        (stand (parts_at post.desk) (coming post.clock) (tells post.door)) reason s)
        (seen_at seat' outside' post' is')
        (works_through parts_at Act (stand_of coming tells post) reason
        (stand_of coming tells post') works))

    same_lock : (seat seat' : Seat) (outside outside' : Outside L C) (reason : Why)
        → Works Act (stands_at coming tells (parts_of seat) outside) reason
        (stands_at coming tells (parts_of seat') outside') → seat'.lock ≡ seat.lock
    same_lock seat seat' outside outside' reason works =
        let grew = grew_along (parts_of seat) (coming outside.clock) works.serves.visits
        (parts_of seat') (coming outside'.clock) works.serves.chain in
        cc grew.lock

    free_again : (hall : TableId) (seat seat' : Seat) (outside outside' : Outside L C)
        (post post' : Post D L C) (reason : Why) → IsFree hall seat
        → IsAt seat_of seat outside post → WasAt seat_of seat' outside' post'
        → Works (seen_by parts_at Act) (stand_of coming tells post) reason
        (stand_of coming tells post') → IsFree hall seat'
    free_again hall seat seat' outside outside' post post' reason free is is' works = (
      same_lock seat seat' outside outside' reason
          (works_at seat seat' outside outside' post post' reason is is'.0 works)
          ∙ free.0,
      is'.1,
    )

    -- all four seats are free again
    pub all_free_again : (hall : TableId) (seats : Four Seat) (outsides : Four (Outside L C))
        (crew : Crew D L C) (reasons : Reasons) (crew' : Crew D L C)
        (seats' : Four Seat) (outsides' : Four (Outside L C)) → AreFree hall seats
        → AreAt seat_of seats outsides crew
        → CrewWorks coming tells (seen_by parts_at Act) crew reasons crew'
        → WereAt seat_of seats' outsides' crew' → AreFree hall seats'
    all_free_again hall seats outsides crew reasons crew' seats' outsides' free are works left =
        record {
          first = free_again hall seats.first seats'.first outsides.first outsides'.first
              crew.first crew'.first reasons.first free.first are.first left.first works.first;
          second = free_again hall seats.second seats'.second outsides.second outsides'.second
              crew.second crew'.second reasons.second free.second are.second left.second
              works.second;
          third = free_again hall seats.third seats'.third outsides.third outsides'.third
              crew.third crew'.third reasons.third free.third are.third left.third works.third;
          fourth = free_again hall seats.fourth seats'.fourth outsides.fourth outsides'.fourth
              crew.fourth crew'.fourth reasons.fourth free.fourth are.fourth left.fourth
              works.fourth;
        }

    -- ---- the links

    is_in : (seat : Seat) (outside : Outside L C) (post : Post D L C)
        → IsAt seat_of seat outside post → (tells post.door).out ≡ None
        → (tells outside.door).out ≡ None
    is_in seat outside post is out = subst (λ (l : L). (tells l).out ≡ None) is.door out

    -- no link is out in the end
    pub all_in : (crew : Crew D L C) (reasons : Reasons) (crew' : Crew D L C)
        (seats' : Four Seat) (outsides' : Four (Outside L C))
        → CrewWorks coming tells (seen_by parts_at Act) crew reasons crew'
        → WereAt seat_of seats' outsides' crew' → AreIn tells outsides'
    all_in crew reasons crew' seats' outsides' works left = record {
      first = is_in seats'.first outsides'.first crew'.first left.first.0 works.first.serves.out;
      second =
          is_in seats'.second outsides'.second crew'.second left.second.0 works.second.serves.out;
      third = is_in seats'.third outsides'.third crew'.third left.third.0 works.third.serves.out;
      fourth =
          is_in seats'.fourth outsides'.fourth crew'.fourth left.fourth.0 works.fourth.serves.out;
    }

    -- ---- how the seats begin

    begins_first : (hall : TableId) (opening : Opening) (seat : Seat)
        → parts_of seat ≡ first_parts hall opening → Begins hall opening seat.number (parts_of seat)
    begins_first hall opening seat is = record {
      of = record {
        lock_is = ap (λ (p : Parts). p.lock) is;
        opening_is = ap (λ (p : Parts). p.opening) is;
        number_is = refl;
      };
      seen = ap (λ (p : Parts). p.seen) is;
      mine = ap (λ (p : Parts). p.mine) is;
    }

    begins_split : (hall : TableId) (opening : Opening) (number : ℕ) (from : Parts) (seat : Seat)
        → Begins hall opening number from → parts_of seat ≡ split_parts from seat.number
        → Begins hall opening seat.number (parts_of seat)
    begins_split hall opening number from seat b is = record {
      of = record {
        lock_is = ap (λ (p : Parts). p.lock) is ∙ b.of.lock_is;
        opening_is = ap (λ (p : Parts). p.opening) is ∙ b.of.opening_is;
        number_is = refl;
      };
      seen = ap (λ (p : Parts). p.seen) is ∙ b.seen;
      mine = ap (λ (p : Parts). p.mine) is;
    }

    stood_at : (hall : TableId) (opening : Opening) (seat seat' : Seat)
        (outside outside' : Outside L C) (post post' : Post D L C) (reason : Why)
        → Begins hall opening seat.number (parts_of seat) → IsAt seat_of seat outside post
        → WasAt seat_of seat' outside' post'
        → Works (seen_by parts_at Act) (stand_of coming tells post) reason
        (stand_of coming tells post')
        → Stood coming tells hall opening seat.number (parts_of seat) (parts_of seat') outside
        reason outside'
    stood_at hall opening seat seat' outside outside' post post' reason begins is is' works =
        stood coming tells hall opening seat.number (parts_of seat) (parts_of seat') outside reason
        outside' begins (works_at seat seat' outside outside' post post' reason is is'.0 works)

    -- ---- all four

    pub one_history : (hall : TableId) (opening : Opening) (from : Parts) (seats : Four Seat)
        (outsides : Four (Outside L C)) (crew : Crew D L C) (reasons : Reasons)
        (crew' : Crew D L C) (seats' : Four Seat) (outsides' : Four (Outside L C))
        (joined : Seat) (other : Opening) (history : List Entry) (told : Option (List Row))
        → AreSplit from seats → from ≡ first_parts hall opening
        → AreAt seat_of seats outsides crew
        → CrewWorks coming tells (seen_by parts_at Act) crew reasons crew'
        → WereAt seat_of seats' outsides' crew'
        → (parts_of joined).opening ≡ (parts_of seats'.first).opening
        → IsJoined seats' joined.seen → (parts_of joined).opening ≡ Some other
        → IsPrefix joined.seen history → Legal other history → ∥ IsKeptAt other history told ∥₁
        → OneHistory coming tells opening told outsides reasons outsides'
    one_history hall opening from seats outsides crew reasons crew' seats' outsides' joined other
        history told split is are works left same seen of begins legal kept =
        let b1 = begins_first hall opening seats.first (split.first ∙ is) in
        let b2 = begins_split hall opening seats.first.number (parts_of seats.first) seats.second
        b1 split.second in
        let b3 = begins_split hall opening seats.second.number (parts_of seats.second) seats.third
        b2 split.third in
        let b4 = begins_split hall opening seats.third.number (parts_of seats.third) seats.fourth
        b3 split.fourth in
        let s1 = stood_at hall opening seats.first seats'.first outsides.first outsides'.first
        crew.first crew'.first reasons.first b1 are.first left.first works.first in
        let s2 = stood_at hall opening seats.second seats'.second outsides.second outsides'.second
        crew.second crew'.second reasons.second b2 are.second left.second works.second in
        let s3 = stood_at hall opening seats.third seats'.third outsides.third outsides'.third
        crew.third crew'.third reasons.third b3 are.third left.third works.third in
        let s4 = stood_at hall opening seats.fourth seats'.fourth outsides.fourth outsides'.fourth
        crew.fourth crew'.fourth reasons.fourth b4 are.fourth left.fourth works.fourth in
        let one = one_opening opening other (parts_of seats'.first).opening
        (parts_of joined).opening same s1.ended.opening_is of in
        let begun : (own : List Entry) → IsPrefix own joined.seen → IsPrefix own history =
        λ own it. prefix-trans own joined.seen history it begins in
        record {
          hall = hall;
          history = history;
          legal = subst (λ (o : Opening). Legal o history) one legal;
          kept = subst (λ (o : Opening). ∥ IsKeptAt o history told ∥₁) one kept;
          numbers = record {
            first = seats.first.number;
            second = seats.second.number;
            third = seats.third.number;
            fourth = seats.fourth.number;
          };
          rise_first = split.above_first;
          rise_second = split.above_second;
          rise_third = split.above_third;
          first = stands coming tells hall opening history seats.first.number
              (parts_of seats.first) (parts_of seats'.first) outsides.first reasons.first
              outsides'.first s1 (begun seats'.first.seen seen.first);
          second = stands coming tells hall opening history seats.second.number
              (parts_of seats.second) (parts_of seats'.second) outsides.second reasons.second
              outsides'.second s2 (begun seats'.second.seen seen.second);
          third = stands coming tells hall opening history seats.third.number
              (parts_of seats.third) (parts_of seats'.third) outsides.third reasons.third
              outsides'.third s3 (begun seats'.third.seen seen.third);
          fourth = stands coming tells hall opening history seats.fourth.number
              (parts_of seats.fourth) (parts_of seats'.fourth) outsides.fourth reasons.fourth
              outsides'.fourth s4 (begun seats'.fourth.seen seen.fourth);
        }
