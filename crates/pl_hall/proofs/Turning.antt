-- What a turn of the service makes of a seat.
use Rattle.std.proofs.Common.{◌≡◌, ◌≢◌, ◌<◌, ◌≤◌, ◌+◌, ◌-◌, ◌==◌, ◌++◌, ℕ, Bool, true, false, max}
use Rattle.std.proofs.Common.{if◌then◌else◌, List, [], ◌∷◌, Option}
use Rattle.std.proofs.Common.{Some, None, Result, Ok, Err, IfOk, IsErrOf, OnErr, OnOk, IfSome, refl}
use Rattle.std.proofs.Common.{sym, ap, subst, eq-eqb}
use Rattle.std.proofs.Common.{◌∙◌, inl, inr, append-nil, arith, length}
use Rattle.std.specs.Option.{option_map}
use mathlib.Core.List.{IsPrefix}
use Rattle.atomic_table.specs.Seated.{TableId}
use Rattle.pl_base.specs.Counts.{last_count, one_more}
use Rattle.pl_base.specs.declared.digest.Digest.{Digest}
use Rattle.pl_base.specs.declared.memory.Memory.{Memory}
use Rattle.pl_base.specs.declared.row.Row.{Row}
use Rattle.pl_service.specs.Below.pl_compilation.specs.Made.{IsMadeOf}
use Rattle.pl_service.specs.Below.pl_core.specs.State.{State}
use Rattle.pl_facts.specs.declared.entry.Entry.{Entry}
use Rattle.pl_facts.specs.declared.fact.Fact.{Fact}
use Rattle.pl_hall.specs.Opening.{IsBegunAt}
use Rattle.pl_hall.specs.Seats.{IsAheadHere, IsFree, Passes, WantsHere, parts_of}
use Rattle.pl_service.specs.Below.pl_core.specs.Below.pl_history.specs.History.{Opening, log_of}
use Rattle.pl_service.specs.Below.pl_core.specs.Below.pl_history.specs.Legal.{Legal}
use Rattle.pl_service.specs.Below.pl_core.specs.Below.pl_history.specs.Made.{WantsFor}
use Rattle.pl_keeper.specs.Keeping.{WhereTold}
use Rattle.pl_keeper.specs.declared.fault.KeeperFault.{KeeperFault}
use Rattle.pl_keeper.specs.declared.fault.KeeperFault.TheVariants as fails
use Rattle.pl_keeper.specs.declared.keeper.Keeper.{Ghosts}
use Rattle.pl_requests.specs.declared.call.Call.{Call}
use Rattle.pl_requests.specs.declared.reply.Reply.{Reply}
use Rattle.pl_service.specs.Ahead.{IsAhead}
use Rattle.pl_service.specs.Begun.{IsBegun, IsUnopened}
use Rattle.pl_service.specs.Desk.{Keeps, Parts, Serves}
use Rattle.pl_service.specs.Past.{Answers, IsLegal, Past, lifted, log, past_of, recorded}
use Rattle.pl_service.specs.Rows.{AreSame}
use Rattle.pl_service.specs.declared.ahead.Ahead.{Ahead}
use Rattle.pl_service.specs.declared.fault.OpenFault.TheVariants as fault
use Rattle.pl_service.specs.declared.service.Service.{Service}
use Rattle.pl_snapshots.specs.declared.snapshot.Snapshot.{Snapshot}
use Rattle.pl_turn.proofs.Beginnings.{own-grows, own-stays, prefix-same, prefix-trans}
use Rattle.pl_turn.specs.History.{Adds, entries_of, faults_since}
use Rattle.pl_turn.specs.Places.{Place, first_place, given_back, having_taken}

abbrev pub names : Entry → ℕ
names entry = entry.seat

abbrev pub as_opened : Opening → State
as_opened opening = record { opening = opening; entries = []; pending = [] }

-- ---- the entry of a call

pub recorded_adds : (seat : ℕ) (before after : List Entry) (call : Call) (added : List Fact)
    → after ≡ before ++ recorded seat before call added → Adds names seat before after
recorded_adds seat before after call [] is = inl (is ∙ append-nil before)
recorded_adds seat before after call (fact ∷ more) is = inr (
  record {
    number = length before + 1;
    seat = seat;
    call = call;
    facts = fact ∷ more;
  },
  refl,
  is,
)

pub recorded_own : (seat : ℕ) (before after mine mine' : List Entry) (call : Call)
    (added : List Fact) → after ≡ before ++ recorded seat before call added
    → mine ≡ entries_of names seat before → mine' ≡ entries_of names seat after
    → mine' ≡ mine ++ recorded seat before call added
recorded_own seat before after mine mine' call [] is own own' =
    own-stays names seat before after mine mine' (is ∙ append-nil before) own own'
    ∙ sym (append-nil mine)
recorded_own seat before after mine mine' call (fact ∷ more) is own own' =
    let entry : Entry = record {
      number = length before + 1;
      seat = seat;
      call = call;
      facts = fact ∷ more;
    } in
    own-grows names seat before after mine mine' entry refl is own own'

-- ---- faults

none_since : (faults since : ℕ) → faults ≤ faults + since
none_since faults since = omega arith

apart : (more : ℕ) → (more == 18446744073709551615) ≡ false → more ≢ 18446744073709551615
apart more at = λ same. cc (sym at ∙ eq-eqb more 18446744073709551615 same)

one_since : (count more : ℕ) (last : Bool) → (more == 18446744073709551615) ≡ last
    → count ≤ last_count → more ≡ one_more count
    → 0 < (if last then max 1 (more - count) else more - count)
one_since count more true at within is = omega arith
one_since count more false at within is =
    omega (arith, is, within, apart more at)

adds_fault : (faults count more : ℕ) → count ≤ last_count → more ≡ one_more count
    → faults < faults + faults_since count more
adds_fault faults count more within is =
    omega (arith, one_since count more (more == 18446744073709551615) refl within is)

-- a keeper that stays counts the same
pub count_same : {K : Type 0} (counts : K → ℕ) (old new : K) → new ≡ old → counts old ≤ counts new
count_same counts old new is = le_by (counts old) (counts new) (ap counts is)
  where
    le_by : (n m : ℕ) → m ≡ n → n ≤ m
    le_by n m same = omega (arith, same)

count_le : (old new : ℕ) → new ≡ old → old ≤ new
count_le old new is = omega (arith, is)

count_up : (old new : ℕ) → old ≤ last_count → new ≡ one_more old → old ≤ new
count_up old new within is = omega (arith, within, is)

-- by the result of a call
pub count_by_result : (old new : ℕ) (result : Result Reply KeeperFault) → old ≤ last_count
    → OnOk result (new ≡ old) → (IsErrOf result fails.Failed → new ≡ one_more old)
    → (IsErrOf result fails.Memory → new ≡ old) → old ≤ new
count_by_result old new (Ok reply) within quiet failed memory = count_le old new quiet
count_by_result old new (Err fails.Failed) within quiet failed memory =
    count_up old new within (failed refl)
count_by_result old new (Err fails.Memory) within quiet failed memory =
    count_le old new (memory refl)

-- ---- a turn

-- a value that was taken by a seat, whose label and beginning are the seat's, and its count
pub record Took {K : Type 0} {tells : Ghosts K} (old between : Place Entry State)
    (taken : Service K tells) (count : ℕ) : Type 0 where
  pub label : old.label ≡ Some (as_opened taken.core.opening)
  pub begins : IsPrefix old.seen taken.core.entries
  pub mine : old.mine ≡ entries_of names old.number taken.core.entries
  pub seat : between ≡ having_taken taken.core.entries count old

pub took_by : {K : Type 0} {tells : Ghosts K} (old between : Place Entry State)
    (taken : Service K tells) (count : ℕ)
    → old.label ≡ Some (as_opened taken.core.opening) → IsPrefix old.seen taken.core.entries
    → old.mine ≡ entries_of names old.number taken.core.entries
    → between ≡ having_taken taken.core.entries count old → Took old between taken count
took_by old between taken count label begins mine seat = record {
  label = label;
  begins = begins;
  mine = mine;
  seat = seat;
}

opening_is : (seat : Place Entry State) (opening other : Opening)
    → seat.label ≡ Some (as_opened opening) → (parts_of seat).opening ≡ Some other
    → opening ≡ other
opening_is seat opening other label told =
    let same : Some opening ≡ Some other =
    sym (ap (λ (l : Option State). option_map (λ (state : State). state.opening) l) label)
    ∙ told in
    cc same

module _ {K : Type 0} {tells : Ghosts K} (old between : Place Entry State)
    (taken : Service K tells) (count : ℕ) (took : Took old between taken count) where
  pub adds_there : (after : List Entry) → Adds names old.number taken.core.entries after
      → Adds names between.number between.seen after
  adds_there after adds =
      subst (λ (s : Place Entry State). Adds names s.number s.seen after) (sym took.seat) adds

  pub lock_there : between.lock ≡ old.lock
  lock_there = ap (λ (s : Place Entry State). s.lock) took.seat

  pub turn_there : between.turn ≡ true
  turn_there = ap (λ (s : Place Entry State). s.turn) took.seat

  pub label_there : (given : Service K tells) → given.core.opening ≡ taken.core.opening
      → between.label ≡ Some (as_opened given.core.opening)
  label_there given same =
      ap (λ (s : Place Entry State). s.label) took.seat ∙ took.label
      ∙ ap (λ (o : Opening). Some (as_opened o)) (sym same)

  pub count_there : (more : ℕ) → count ≤ more → between.taken ≤ more
  count_there more is =
      subst (λ n. n ≤ more) (sym (ap (λ (s : Place Entry State). s.taken) took.seat)) is

  pub ahead_there : (call : Call) (ahead : Option Ahead)
      → IfSome ahead (IsAheadHere (parts_of old) call)
      → IfSome ahead (IsAhead (past_of taken) call)
  ahead_there call None is = tt
  ahead_there call (Some ahead) is = record {
    before = old.seen;
    begins = took.begins;
    wants =
        subst (λ (o : Opening). WantsFor (log_of o old.seen) call (Some ahead.snapshot))
        (sym (opening_is old taken.core.opening is.0.0 took.label is.0.1)) is.0.2;
    made = is.1;
  }

  module _ (new : Place Entry State) (given : Service K tells) (more : ℕ)
      (opening_same : given.core.opening ≡ taken.core.opening)
      (given_is : new ≡ given_back names given.core.entries more between) where
    whole : new ≡ given_back names given.core.entries more
        (having_taken taken.core.entries count old)
    whole = given_is
        ∙ ap (λ (s : Place Entry State). given_back names given.core.entries more s) took.seat

    pub free : (hall : TableId) → IsFree hall old → IsFree hall new
    free hall is = (
      ap (λ (s : Place Entry State). s.lock) whole ∙ is.0,
      ap (λ (s : Place Entry State). s.turn) whole,
    )

    pub keeps : IsLegal (past_of given) → IsPrefix taken.core.entries given.core.entries
        → Keeps (parts_of old) (parts_of new)
    keeps legal longer =
        subst (λ (s : Place Entry State). Keeps (parts_of old) (parts_of s)) (sym whole)
        (record {
          lock = refl;
          opening = refl;
          number = refl;
          begins =
              prefix-trans old.seen taken.core.entries given.core.entries took.begins longer;
          legal = λ opening is.
              subst (λ (o : Opening). Legal o given.core.entries)
              (opening_same ∙ opening_is old taken.core.opening opening took.label is) legal;
          turns = omega arith;
          turned = λ lock is. omega arith;
          faults = omega arith;
        })

    -- where the count rose, or stands at its last value
    pub risen : count ≤ last_count → more ≡ one_more count
        → (parts_of old).faults < (parts_of new).faults
    risen within is =
        subst (λ (s : Place Entry State). old.faults < s.faults) (sym whole)
        (adds_fault old.faults count more within is)

    pub same_mine : given.core.entries ≡ taken.core.entries
        → (parts_of new).mine ≡ (parts_of old).mine
    same_mine same =
        ap (λ (s : Place Entry State). s.mine) whole
        ∙ own-stays names old.number taken.core.entries given.core.entries old.mine
        (entries_of names old.number given.core.entries) same took.mine refl

    pub serves : (number : ℕ) (call : Call) (reply : Reply) → number ≡ old.number
        → Answers number (past_of taken) (lifted (past_of taken) call) reply (past_of given)
        → Serves (parts_of old) call reply (parts_of new)
    serves number call reply is answers =
        let told : Answers old.number (past_of taken) (lifted (past_of taken) call) reply
        (past_of given) =
        subst (λ (n : ℕ). Answers n (past_of taken) (lifted (past_of taken) call) reply
        (past_of given)) is answers in
        let there : Answers old.number (past_of taken) (lifted (past_of taken) call) reply
        (record { opening = taken.core.opening; entries = given.core.entries }) =
        subst (λ (o : Opening). Answers old.number (past_of taken)
        (lifted (past_of taken) call) reply
        (record { opening = o; entries = given.core.entries })) opening_same told in
        subst (λ (s : Place Entry State). Serves (parts_of old) call reply (parts_of s))
        (sym whole)
        (record {
          opening = taken.core.opening;
          label =
              ap (λ (l : Option State). option_map (λ (state : State). state.opening) l)
              took.label;
          found = taken.core.entries;
          begins = took.begins;
          alone = λ none. absurd (cc none);
          answers = there;
          mine =
              recorded_own old.number taken.core.entries given.core.entries old.mine
              (entries_of names old.number given.core.entries)
              (lifted (past_of taken) call) there.added there.entries took.mine refl;
        })

    -- what is wanted behind what the seat has seen then
    pub wants_here : (call : Call) (wanted : Option Snapshot)
        → past_of given ≡ past_of taken → WantsFor (log (past_of taken)) call wanted
        → IfSome wanted (WantsHere (parts_of new) call)
    wants_here call None same wants = tt
    wants_here call (Some snapshot) same wants =
        subst (λ (s : Place Entry State). WantsHere (parts_of s) call snapshot) (sym whole) (
          taken.core.opening,
          ap (λ (l : Option State). option_map (λ (state : State). state.opening) l) took.label,
          subst (λ (entries : List Entry). WantsFor (log_of taken.core.opening entries) call
              (Some snapshot)) (sym (ap (λ (past : Past). past.entries) same)) wants,
        )

-- ---- what is given back

-- a service answered, or it stays
pub adds : {K : Type 0} {tells : Ghosts K} (number : ℕ) (taken given : Service K tells)
    (call : Call) (result : Result Reply KeeperFault)
    → IfOk result (λ reply. Answers number (past_of taken) (lifted (past_of taken) call) reply
    (past_of given)) → OnErr result (past_of given ≡ past_of taken)
    → Adds names number taken.core.entries given.core.entries
adds number taken given call (Ok reply) answers same =
    recorded_adds number taken.core.entries given.core.entries (lifted (past_of taken) call)
    answers.added answers.entries
adds number taken given call (Err fault) answers same =
    inl (ap (λ (past : Past). past.entries) same)

pub number_by : {K : Type 0} {tells : Ghosts K} (old between : Place Entry State)
    (taken : Service K tells) (count : ℕ) (number : ℕ) → number ≡ between.number
    → between ≡ having_taken taken.core.entries count old → number ≡ old.number
number_by old between taken count number is seat =
    is ∙ ap (λ (s : Place Entry State). s.number) seat

pub added_by : {K : Type 0} {tells : Ghosts K} (old between : Place Entry State)
    (taken given : Service K tells) (count : ℕ) (number : ℕ) (call : Call)
    (result : Result Reply KeeperFault) → number ≡ between.number
    → between ≡ having_taken taken.core.entries count old
    → IfOk result (λ reply. Answers number (past_of taken) (lifted (past_of taken) call) reply
    (past_of given)) → OnErr result (past_of given ≡ past_of taken)
    → Adds names old.number taken.core.entries given.core.entries
added_by old between taken given count number call result is seat answers same =
    subst (λ (n : ℕ). Adds names n taken.core.entries given.core.entries)
    (number_by old between taken count number is seat)
    (adds number taken given call result answers same)

pub longer : (number : ℕ) (before after : List Entry) → Adds names number before after
    → IsPrefix before after
longer number before after (inl same) = prefix-same before after (sym same)
longer number before after (inr one) = (one.0 ∷ [], sym one.2)

-- by the result of the call
module _ {K : Type 0} {tells : Ghosts K} (old between : Place Entry State)
    (taken : Service K tells) (count : ℕ) (took : Took old between taken count)
    (new : Place Entry State) (given : Service K tells) (more : ℕ)
    (opening_same : given.core.opening ≡ taken.core.opening)
    (given_is : new ≡ given_back names given.core.entries more between) where
  pub serves_if : (number : ℕ) (call : Call) (result : Result Reply KeeperFault)
      → number ≡ old.number
      → IfOk result (λ reply. Answers number (past_of taken) (lifted (past_of taken) call) reply
      (past_of given))
      → IfOk result (λ reply. Serves (parts_of old) call reply (parts_of new))
  serves_if number call (Ok reply) is told =
      serves old between taken count took new given more opening_same given_is number call reply is
      told
  serves_if number call (Err fault) is told = tt

  pub risen_if : count ≤ last_count → more ≡ one_more count
      → (parts_of old).faults < (parts_of new).faults
  risen_if within is =
      risen old between taken count took new given more opening_same given_is within is

  pub same_if : (result : Result Reply KeeperFault) → OnErr result (past_of given ≡ past_of taken)
      → OnErr result ((parts_of new).mine ≡ (parts_of old).mine)
  same_if (Ok reply) told = tt
  same_if (Err fault) told =
      same_mine old between taken count took new given more opening_same given_is
      (ap (λ (past : Past). past.entries) told)

  pub wants_if : (call : Call) (result : Result (Option Snapshot) Memory)
      → past_of given ≡ past_of taken
      → IfOk result (WantsFor (log (past_of taken)) call)
      → IfOk result (λ wanted. IfSome wanted (WantsHere (parts_of new) call))
  wants_if call (Ok wanted) same told =
      wants_here old between taken count took new given more opening_same given_is call wanted same
      told
  wants_if call (Err memory) same told = tt

-- what is compiled of what a call wanted
pub ahead_is : (seat : Parts) (call : Call) (snapshot : Snapshot) (ahead : Ahead)
    → ahead.snapshot ≡ snapshot → WantsHere seat call snapshot → IsMadeOf snapshot ahead.made
    → IsAheadHere seat call ahead
ahead_is seat call snapshot ahead is wants made = (
  subst (λ (s : Snapshot). WantsHere seat call s) (sym is) wants,
  subst (λ (s : Snapshot). IsMadeOf s ahead.made) (sym is) made,
)

-- ---- two turns for one call

pub passes_none : (a : Parts) → Passes a a
passes_none a = record {
  lock = refl;
  opening = refl;
  number = refl;
  mine = refl;
  begins = prefix-same a.seen a.seen refl;
  alone = λ none. refl;
  turns = omega arith;
  faults = omega arith;
}

pub passes_turn : (a b : Parts) (lock : TableId) → a.lock ≡ Some lock → Keeps a b → b.mine ≡ a.mine
    → Passes a b
passes_turn a b lock is k mine = record {
  lock = k.lock;
  opening = k.opening;
  number = k.number;
  mine = mine;
  begins = k.begins;
  alone = λ none. absurd (cc (sym is ∙ none));
  turns = k.turns;
  faults = k.faults;
}

pub keeps_both : (a b c : Parts) → Passes a b → Keeps b c → Keeps a c
keeps_both a b c p k = record {
  lock = k.lock ∙ p.lock;
  opening = k.opening ∙ p.opening;
  number = k.number ∙ p.number;
  begins = prefix-trans a.seen b.seen c.seen p.begins k.begins;
  legal = k.legal;
  turns = omega (arith, p.turns, k.turns);
  turned = λ lock is. omega (arith, p.turns, k.turned lock (p.lock ∙ is));
  faults = omega (arith, p.faults, k.faults);
}

pub faults_both : (a b c : Parts) → Passes a b → b.faults < c.faults → a.faults < c.faults
faults_both a b c p risen = omega (arith, p.faults, risen)

-- an answer at a number, with what is the desk's own by it
abbrev AnswersAs : Past → Past → Call → Reply → List Entry → List Entry → ℕ → Type 0
AnswersAs before after call reply mine more number =
    (answers : Answers number before call reply after)
    × (more ≡ mine ++ recorded number before.entries call answers.added)

pub serves_both : (a b c : Parts) (call : Call) (reply : Reply) → Passes a b
    → Serves b call reply c → Serves a call reply c
serves_both a b c call reply p s =
    let before : Past = record { opening = s.opening; entries = s.found } in
    let after : Past = record { opening = s.opening; entries = c.seen } in
    let here = lifted before call in
    let there : AnswersAs before after here reply a.mine c.mine b.number = (
      s.answers,
      s.mine ∙ ap (λ (m : List Entry). m ++ recorded b.number s.found here s.answers.added) p.mine,
    ) in
    let both : AnswersAs before after here reply a.mine c.mine a.number =
    subst (λ (n : ℕ). AnswersAs before after here reply a.mine c.mine n) p.number there in
    record {
      opening = s.opening;
      label = sym p.opening ∙ s.label;
      found = s.found;
      begins = prefix-trans a.seen b.seen s.found p.begins s.begins;
      alone = λ none. s.alone (p.lock ∙ none) ∙ p.alone none;
      answers = both.0;
      mine = both.1;
    }

-- ---- a hall begins

pub nothing_yet : {K : Type 0} {tells : Ghosts K} (service : Service K tells) (admin : Digest)
    (told : Option (List Row)) → IsBegun admin told (past_of service) → service.core.entries ≡ []
nothing_yet service admin told begun = begun.opened.entries

past_is : {K : Type 0} {tells : Ghosts K} (service : Service K tells)
    → service.core.entries ≡ [] → past_of service ≡
    record { opening = service.core.opening; entries = [] }
past_is service none = ap (λ (entries : List Entry). let past : Past =
    record { opening = service.core.opening; entries = entries } in past) none

pub begun_at : {K : Type 0} (tells : Ghosts K) (admin : Digest) (given : K)
    (service : Service K tells) (seat : Place Entry State) (lock : TableId)
    → seat ≡ first_place lock (as_opened service.core.opening)
    → WhereTold (tells.held given) (tells.held service.keeper) AreSame
    → IsBegun admin (tells.held service.keeper) (past_of service)
    → IsBegunAt tells admin given lock (parts_of seat)
begun_at tells admin given service seat lock is rows begun = record {
  opening = service.core.opening;
  seat_is = ap (λ (s : Place Entry State). parts_of s) is;
  keeper = service.keeper;
  rows = rows;
  begun = subst (λ (past : Past). IsBegun admin (tells.held service.keeper) past)
      (past_is service begun.opened.entries) begun;
}

pub first_free : (seat : Place Entry State) (lock : TableId) (state : State)
    → seat ≡ first_place lock state → IsFree lock seat
first_free seat lock state is =
    (ap (λ (s : Place Entry State). s.lock) is, ap (λ (s : Place Entry State). s.turn) is)

-- where there was no memory for the lock, the keeper comes back
pub no_lock : {K : Type 0} (tells : Ghosts K) (admin : Digest) (given : K)
    (service : Service K tells) (keeper : K) → service.keeper ≡ keeper
    → WhereTold (tells.held given) (tells.held service.keeper) AreSame
    → tells.faults service.keeper ≡ tells.faults given
    → IsUnopened tells admin given (record { fault = fault.Memory; keeper = keeper })
no_lock {K = K} tells admin given service keeper is rows quiet =
    subst (λ (k : K). IsUnopened tells admin given (record { fault = fault.Memory; keeper = k })) is
    (record { rows = rows; fails = quiet })
