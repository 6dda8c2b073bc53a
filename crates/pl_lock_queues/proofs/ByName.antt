-- What gives way to a stage stands in the line of its name.
use Rattle.std.proofs.Common.{◌≡◌, true, List, Option, Some, None, sym, ap, ◌∙◌, subst}
use Rattle.std.specs.BTreeMap.{is_at}
use Rattle.std.specs.List.{list_any}
use Rattle.std.specs.Ordering.{is_eq}
use Rattle.std.specs.Cmp.{tied_itself}
use Rattle.std.specs.Option.{MatchOption}
use Rattle.std.proofs.lemmas.Bool.{and_from}
use Rattle.pl_locks.specs.declared.contender.Contender.{Contender}
use Rattle.pl_lock_queues.specs.contracts.names.StageNameOrd.TheImpl.Laws as name_laws
use Rattle.pl_lock_queues.specs.declared.names.StageName.{StageName}
use Rattle.pl_lock_queues.specs.Queues.{GivesWayAt, Place, is_here, is_latest, is_named}
use Rattle.pl_lock_queues.specs.Queues.{is_named_at, name_cmp, name_of, place_of}
use Rattle.pl_lock_queues.proofs.Moving.{tested}
use Rattle.pl_lock_queues.proofs.Orders.{place_itself}

name_itself : (name : StageName) → is_at (name_cmp name) name ≡ true
name_itself name = ap is_eq (tied_itself name_laws.total-law name)

-- those that give way are of the later one's name
pub is_of_name : (eligible : List Contender) (later : Contender) (name : StageName) →
    name ≡ name_of later → (p : Place) → GivesWayAt eligible later p →
    list_any (is_named_at name p) eligible ≡ true
is_of_name eligible later name is p (x, in_x, here, gives) =
    let same : name_of x ≡ name =
    sym (is ∙ (λ i. record { pipeline = gives.pipeline i; name = gives.name i })) in
    let own : is_at (name_cmp (name_of x)) name ≡ true =
    subst (λ (n : StageName). is_at (name_cmp (name_of x)) n ≡ true) same
    (name_itself (name_of x)) in
    tested (is_named_at name p) eligible x in_x (and_from (is_named name x) (is_here p x)
    (and_from (is_latest x.behaviour) (is_at (name_cmp (name_of x)) name)
    (ap is_latest gives.behaviour) own)
    (subst (λ (q : Place). is_here q x ≡ true) here (place_itself (place_of x))))

pub matched : {A : Type 0} (o : Option A) (P R : Type 0) (Q S : A → Type 0) → (P → R) →
    ((x : A) → Q x → S x) → MatchOption o P Q → MatchOption o R S
matched None P R Q S none some h = none h
matched (Some x) P R Q S none some h = some x h
