-- While no resource of an eligible stage is held, one of them may start.
use Rattle.std.proofs.Common.{◌≡◌, ◌≢◌, ◌-◌, ◌<◌, ℕ, zero, suc, List, [], ◌∷◌, get_or, length, refl}
use Rattle.std.proofs.Common.{sym, ◌∙◌, subst, arith, inl}
use Rattle.std.specs.List.{All}
use Rattle.std.proofs.lemmas.List.{get_or_default}
use Rattle.pl_locks.specs.declared.contender.Contender.{Contender}
use Rattle.pl_locks.specs.Locks.{IsHeld, IsSuperseded, MayStart, Precedes}
use Rattle.pl_locks.specs.Kept.{IsOrdered}
use Rattle.pl_locks.proofs.Ordered.{lower}

-- where none may start, each is superseded: the first that isn't could start
none_stands : (eligible holders : List Contender) → IsOrdered eligible →
    All (λ stage. IsHeld holders stage → ⊥) eligible →
    All (λ stage. MayStart eligible holders stage → ⊥) eligible → (n j : ℕ) (d : Contender) →
    j < n → j < length eligible → (IsSuperseded eligible (get_or eligible j d) → ⊥) → ⊥
none_stands eligible holders ordered unheld none zero j d below within stands = omega arith
none_stands eligible holders ordered unheld none (suc n) j d below within stands =
    none j d within (record {
      stands = stands;
      unheld = unheld j d within;
      first = λ (i, other, bound, is, comes).
          let P : Contender → Type 0 = λ x. Precedes x (get_or eligible j d) in
          let there : other ≡ get_or eligible i d = sym is ∙ get_or_default eligible i other d
          bound in
          let earlier : i < j = lower eligible i j d ordered bound (subst P there comes.precedes) in
          none_stands eligible holders ordered unheld none n i other (omega arith) bound
          (λ superseded. comes.stands (subst (IsSuperseded eligible) is superseded));
    })

-- the last of the list is of the latest run
last_stands : (eligible : List Contender) (d : Contender) → IsOrdered eligible →
    0 < length eligible → IsSuperseded eligible (get_or eligible (length eligible - 1) d) → ⊥
last_stands eligible d ordered some (k, later, within, is, gives) =
    let last = length eligible - 1 in
    let P : Contender → Type 0 = λ x. Precedes (get_or eligible last d) x in
    let there : later ≡ get_or eligible k d = sym is ∙ get_or_default eligible k later d within in
    let behind : last < k = lower eligible last k d ordered (omega arith)
    (subst P there (inl gives.run)) in
    omega arith

pub progress : (eligible holders : List Contender) → IsOrdered eligible → eligible ≢ [] →
    All (λ stage. IsHeld holders stage → ⊥) eligible →
    All (λ stage. MayStart eligible holders stage → ⊥) eligible → ⊥
progress [] holders ordered some unheld none = some refl
progress (stage ∷ stages) holders ordered some unheld none =
    let eligible = stage ∷ stages in
    none_stands eligible holders ordered unheld none (length eligible) (length eligible - 1) stage
    (omega arith) (omega arith) (last_stands eligible stage ordered (omega arith))
