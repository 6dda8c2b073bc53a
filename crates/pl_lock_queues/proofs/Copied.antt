-- Stages that come in their order, each behind the others.
use Rattle.std.proofs.Common.{◌≡◌, ◌<◌, ◌+◌, ℕ, List, [], ◌∷◌, ◌++◌, get_or, length, take, drop}
use Rattle.std.proofs.Common.{sym, ap, ◌∙◌, subst, arith, ⊎_elim}
use Rattle.std.specs.List.{insert}
use Rattle.std.proofs.lemmas.Bool.{cases_lt}
use Rattle.std.proofs.lemmas.List.{drop_all, get_or-take, get_or_default, length-take, take_all}
use Rattle.std.proofs.lemmas.List.{take_more}
use Rattle.std.proofs.lemmas.List.Edits.{get_or-insert_above, get_or-insert_at, length-insert}
use Rattle.pl_locks.specs.Kept.{IsAbsent, IsOrdered, IsPutIn}
use Rattle.pl_locks.specs.Locks.{Precedes}
use Rattle.pl_locks.specs.declared.contender.Contender.{Contender}
use Rattle.pl_locks.proofs.Ordered.{differs}
use Rattle.pl_lock_queues.proofs.Orders.{both_before}

-- what all others precede is put at the end
put_last : (old new : List Contender) (stage : Contender) →
    ((k : ℕ) (d : Contender) → k < length old → Precedes (get_or old k d) stage) →
    IsPutIn stage old new → new ≡ old ++ stage ∷ []
put_last old new stage before put =
    let place = put.place in
    let ordered : IsOrdered (insert old place stage) = subst IsOrdered put.is put.ordered in
    ⊎_elim (λ below.
    let here = get_or old place stage in
    let pair : Precedes (get_or (insert old place stage) place stage)
    (get_or (insert old place stage) (place + 1) stage) =
    ordered place (place + 1) stage (omega arith)
    (omega (arith, length-insert old place stage put.within)) in
    let behind : Precedes stage here =
    subst (λ (x : Contender). Precedes x here)
    (get_or-insert_at old place stage stage put.within)
    (subst (Precedes (get_or (insert old place stage) place stage))
    (get_or-insert_above old place stage stage place (omega arith) put.within) pair) in
    let ahead : Precedes here stage = before place stage below in
    absurd (both_before stage.run here.run stage.position here.position behind ahead))
    (λ rest.
    put.is ∙ ap (λ l. l ++ stage ∷ drop place old) (take_all place old (omega arith))
    ∙ ap (λ l. old ++ stage ∷ l) (drop_all place old (omega arith)))
    (cases_lt place (length old))

module _ (stages : List Contender) (i : ℕ) (stage : Contender) (ordered : IsOrdered stages)
    (within : i < length stages) (here : stage ≡ get_or stages i stage) where
  ahead : (k : ℕ) (d : Contender) → k < i → Precedes (get_or (take i stages) k d) stage
  ahead k d below =
      subst (λ (x : Contender). Precedes x stage) (sym (get_or-take i stages k d below))
      (subst (Precedes (get_or stages k d))
      (get_or_default stages i d stage within ∙ sym here) (ordered k i d below within))

  pub last_absent : IsAbsent stage.run stage.position (take i stages)
  last_absent = λ k d below (r, p).
      differs (get_or (take i stages) k d) stage (ahead k d (omega (arith, length-take i stages, below)))
      (sym r, sym p)

  pub last_put : (new : List Contender) → IsPutIn stage (take i stages) new →
      new ≡ take (i + 1) stages
  last_put new put =
      put_last (take i stages) new stage
      (λ k d below. ahead k d (omega (arith, length-take i stages, below))) put
      ∙ ap (λ (x : Contender). take i stages ++ x ∷ []) here
      ∙ sym (take_more stages i stage within)
