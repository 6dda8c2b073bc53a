-- What is kept beside the stages that want exclusive resources and those that hold them.
use Rattle.std.specs.Prelude.{◌≡◌, ◌↔◌, ◌==◌, ◌&&◌, ℕ, Bool, true, false, List, Contains}
use Rattle.std.specs.Prelude.{is_some, length, unwrap_or}
use Rattle.std.specs.BTreeMap.{BTreeMap, get, is_at}
use Rattle.std.specs.BTreeSet.{BTreeSet, contains}
use Rattle.std.specs.List.{list_any}
use Rattle.std.specs.Ordering.{nat_cmp, ordering_then}
use Rattle.std.specs.declared.cmp.Ordering.{Ordering}
use Rattle.pl_base.specs.contracts.resource.ResourceKeyOrd.TheImpl as key_order
use Rattle.pl_base.specs.declared.outcome.Behaviour.{Behaviour}
use Rattle.pl_base.specs.declared.outcome.Behaviour.TheVariants.{RunLatest, Sequential}
use Rattle.pl_base.specs.declared.resource.ResourceKey.{ResourceKey}
use Rattle.pl_lines.specs.Lines.{stands}
use Rattle.pl_locks.specs.Kept as kept
use Rattle.pl_locks.specs.Locks.{GivesWay, IsSuperseded, MayStart}
use Rattle.pl_locks.specs.declared.contender.Contender.{Contender}
use Rattle.pl_lock_queues.specs.contracts.names.StageNameOrd.TheImpl as name_order
use Rattle.pl_lock_queues.specs.declared.names.StageName.{StageName}

-- ---- orders

-- the number of a run, and a position in it
abbrev pub Place : Type 0
Place = ℕ × ℕ

-- by run, then by position
abbrev pub place_cmp : Place → Place → Ordering
place_cmp a b = ordering_then (nat_cmp a.0 b.0) (nat_cmp a.1 b.1)

-- by kind, then by name
abbrev pub key_cmp : ResourceKey → ResourceKey → Ordering
key_cmp = (key_order.ghosts).cmp

-- by pipeline, then by the stage's name
abbrev pub name_cmp : StageName → StageName → Ordering
name_cmp = (name_order.ghosts).cmp

abbrev pub IsOrdered : List Contender → Type 0
IsOrdered stages = kept.IsOrdered stages

-- ---- stages at places

abbrev pub place_of : Contender → Place
place_of stage = (stage.run, stage.position)

abbrev pub is_here : Place → Contender → Bool
is_here place stage = is_at (place_cmp (place_of stage)) place

abbrev pub among : List ResourceKey → ResourceKey → Bool
among keys key = list_any (λ own. is_at (key_cmp own) key) keys

-- the place in the line of one of some resources
abbrev pub stand_at : List ResourceKey → Place → ResourceKey → Place → Bool
stand_at keys place key p = among keys key && is_at (place_cmp place) p

-- the stage wants the resource
abbrev pub wants : ResourceKey → Contender → Bool
wants key stage = among stage.resources key

-- the stage at the place wants the resource
abbrev pub waits_at : ResourceKey → Place → Contender → Bool
waits_at key place stage = stand_at stage.resources (place_of stage) key place

-- the stage at the place wants no resource
abbrev pub is_free_at : Place → Contender → Bool
is_free_at place stage = (length stage.resources == 0) && is_here place stage

abbrev pub name_of : Contender → StageName
name_of stage = record { pipeline = stage.pipeline; name = stage.name }

-- of these stages only the latest is to run
abbrev pub is_latest : Behaviour → Bool
is_latest RunLatest = true
is_latest Sequential = false

-- the stage is the one of that name, of which only the latest is to run
abbrev pub is_named : StageName → Contender → Bool
is_named key stage = is_latest stage.behaviour && is_at (name_cmp (name_of stage)) key

-- and it is at the place
abbrev pub is_named_at : StageName → Place → Contender → Bool
is_named_at key place stage = is_named key stage && is_here place stage

-- one of the stages is at the place, and gives way to one of them
abbrev pub IsSupersededAt : List Contender → Place → Type 0
IsSupersededAt eligible place = (stage : Contender) × Contains eligible stage
    × (place_of stage ≡ place) × IsSuperseded eligible stage

-- one of the eligible stages is at the place, and gives way to that one
abbrev pub GivesWayAt : List Contender → Contender → Place → Type 0
GivesWayAt eligible later place = (stage : Contender) × Contains eligible stage
    × (place_of stage ≡ place) × GivesWay stage later

-- one of the eligible stages is at the place, and nothing stands in its way
abbrev pub MayStartAt : List Contender → List Contender → Place → Type 0
MayStartAt eligible holders place = (stage : Contender) × Contains eligible stage
    × (place_of stage ≡ place) × MayStart eligible holders stage

-- ---- the queues

-- whether a resource is marked as held
abbrev pub marked : BTreeMap ResourceKey Bool → ResourceKey → Bool
marked marks key = unwrap_or (get key_cmp marks key) false

-- those that give way
abbrev pub AreGivingWay : List Contender → BTreeSet Place → Type 0
AreGivingWay eligible superseded = (place : Place) →
    (contains place_cmp superseded place ≡ true) ↔ IsSupersededAt eligible place

-- which stages wait for which resource, in order; which want none; and which give way
pub record AreWaiting (eligible : List Contender) (lines : BTreeMap ResourceKey (BTreeSet Place))
    (free superseded : BTreeSet Place) : Type 0 where
  pub waiting : (key : ResourceKey) (place : Place) →
      stands key_cmp place_cmp lines key place ≡ list_any (waits_at key place) eligible
  pub idle : (place : Place) → contains place_cmp free place ≡ list_any (is_free_at place) eligible
  pub giving_way : AreGivingWay eligible superseded

-- which stages, of which only the latest is to run, are there by which name
abbrev pub AreNamed : List Contender → BTreeMap StageName (BTreeSet Place) → Type 0
AreNamed eligible names = (key : StageName) (place : Place) →
    stands name_cmp place_cmp names key place ≡ list_any (is_named_at key place) eligible

-- which resources are held, with a mark for each that a stage waits for or holds
pub record AreMarked (eligible holders : List Contender) (marks : BTreeMap ResourceKey Bool)
    : Type 0 where
  pub held : (key : ResourceKey) → marked marks key ≡ list_any (wants key) holders
  pub wanted : (key : ResourceKey) → list_any (wants key) eligible ≡ true →
      is_some (get key_cmp marks key) ≡ true
  pub owned : (key : ResourceKey) → list_any (wants key) holders ≡ true →
      is_some (get key_cmp marks key) ≡ true
