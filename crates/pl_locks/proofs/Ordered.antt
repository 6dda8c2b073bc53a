-- Lists of stages that ascend by run and position.
use Rattle.std.proofs.Common.{◌≡◌, ◌<◌, ◌≤◌, ℕ, zero, suc, List, [], ◌∷◌, get_or, length, take}
use Rattle.std.proofs.Common.{drop, sym, ap, ◌∙◌, subst, arith, ◌⊎◌, inl, inr, ⊎_elim}
use Rattle.std.specs.List.{All, AllPairs, Contains, insert}
use Rattle.std.proofs.lemmas.Bool.{cases_lt}
use Rattle.std.proofs.lemmas.List.{get_or_default}
use Rattle.std.proofs.lemmas.List.Elements.{All-append, All-cons, All-drop, All-take}
use Rattle.std.proofs.lemmas.List.Kept.{AllPairs-cons}
use Rattle.pl_locks.specs.declared.contender.Contender.{Contender}
use Rattle.pl_locks.specs.Locks.{IsAt, Precedes}
use Rattle.pl_locks.specs.Kept.{IsAbsent, IsOrdered}

transitive : (left middle right : Contender) → Precedes left middle → Precedes middle right →
    Precedes left right
transitive left middle right h k = grind arith

irreflexive : (stage : Contender) → Precedes stage stage → ⊥
irreflexive stage h = ⊎_elim (λ run. omega arith) (λ same. omega arith) h

-- what precedes a stage isn't of its run at its position
pub differs : (left right : Contender) → Precedes left right → IsAt left.run left.position right → ⊥
differs left right h at = ⊎_elim (λ run. omega arith) (λ same. omega arith) h

-- of two stages that aren't of one run and position, one precedes
precedes_else : (left right : Contender) → (Precedes left right → ⊥) →
    (IsAt right.run right.position left → ⊥) → Precedes right left
precedes_else left right not_before not_same = grind arith

pub neither_precedes : (left right : Contender) → (Precedes left right → ⊥) →
    (Precedes right left → ⊥) → IsAt left.run left.position right
neither_precedes left right not_before not_behind = (grind arith, grind arith)

-- a list stays in order when something goes in between those that it is in order with
AllPairs-insert : {X : Type 0} (R : X → X → Type 0) (xs : List X) (i : ℕ) (y : X) →
    i ≤ length xs → AllPairs R xs → ((k : ℕ) (d : X) → k < i → R (get_or xs k d) y) →
    ((k : ℕ) (d : X) → i ≤ k → k < length xs → R y (get_or xs k d)) → AllPairs R (insert xs i y)
AllPairs-insert R xs zero y le pairs below above =
    AllPairs-cons R y xs (λ k d h. above k d (omega arith) h) pairs
AllPairs-insert R [] (suc i) y le pairs below above = absurd (omega arith)
AllPairs-insert R (x ∷ xs) (suc i) y le pairs below above =
    let behind : All (R x) xs = λ k d h. pairs 0 (suc k) d (omega arith) (omega arith) in
    AllPairs-cons R x (insert xs i y)
    (All-append (R x) (take i xs) (y ∷ drop i xs) (All-take (R x) i xs behind)
    (All-cons (R x) y (drop i xs) (below 0 x (omega arith)) (All-drop (R x) i xs behind)))
    (AllPairs-insert R xs i y (omega arith)
    (λ j k d h l. pairs (suc j) (suc k) d (omega arith) (omega arith))
    (λ k d h. below (suc k) d (omega arith))
    (λ k d low h. above (suc k) d (omega arith) (omega arith)))

-- a stage in its place among those of other runs and positions
pub ordered_insert : (stages : List Contender) (place : ℕ) (stage : Contender) →
    place ≤ length stages → IsOrdered stages → IsAbsent stage.run stage.position stages →
    ((k : ℕ) (d : Contender) → k < place → Precedes (get_or stages k d) stage) →
    ((d : Contender) → place < length stages → Precedes (get_or stages place d) stage → ⊥) →
    IsOrdered (insert stages place stage)
ordered_insert stages place stage le ordered absent below above =
    AllPairs-insert Precedes stages place stage le ordered below (λ k d low within.
    let here = get_or stages place d in
    let behind : Precedes stage here =
    precedes_else here stage (above d (omega arith)) (absent place d (omega arith)) in
    ⊎_elim (λ later. transitive stage here (get_or stages k d) behind
    (ordered place k d later within))
    (λ same. let P : ℕ → Type 0 = λ n. Precedes stage (get_or stages n d) in
    let e : place ≡ k = omega arith in subst P e behind) (cases_lt place k))

-- of two places the one of the earlier stage is the lower
pub lower : (stages : List Contender) (i j : ℕ) (d : Contender) → IsOrdered stages →
    i < length stages → Precedes (get_or stages i d) (get_or stages j d) → i < j
lower stages i j d ordered within before =
    let left = get_or stages i d in
    ⊎_elim (λ below. below)
    (λ rest. ⊎_elim
    (λ later. absurd (irreflexive left
    (transitive left (get_or stages j d) left before (ordered j i d later within))))
    (λ still. let P : ℕ → Type 0 = λ n. Precedes left (get_or stages n d) in
    let e : j ≡ i = omega arith in absurd (irreflexive left (subst P e before))) (cases_lt j i))
    (cases_lt i j)

-- where a fact holds of no stage before it, a stage is the least of which it may hold
pub least_of : (P : Contender → Type 0) (stages : List Contender) (i : ℕ) (stage : Contender) →
    IsOrdered stages → stage ≡ get_or stages i stage →
    ((k : ℕ) (d : Contender) → k < i → P (get_or stages k d) → ⊥) →
    (other : Contender) → Contains stages other → P other → Precedes other stage → ⊥
least_of P stages i stage ordered is none other (k, below, at) holds before =
    let there : other ≡ get_or stages k stage = sym at ∙ get_or_default stages k other stage
    below in
    let Q : Contender → Type 0 = λ x. Precedes x (get_or stages i stage) in
    let R : Contender → Type 0 = λ x. Precedes other x in
    none k stage (lower stages k i stage ordered below (subst Q there (subst R is before)))
    (subst P there holds)

-- a run and a position name one stage of the list
pub same_at : (stages : List Contender) (left right : Contender) → IsOrdered stages →
    Contains stages left → Contains stages right → IsAt left.run left.position right → left ≡ right
same_at stages left right ordered (i, below, is) (j, within, at) same =
    let there : get_or stages i right ≡ left = sym (get_or_default stages i left right below) ∙
    is in
    let apart : (h : Precedes left right ⊎ Precedes right left) → ⊥ =
    λ h. ⊎_elim (λ l. differs left right l same)
    (λ r. differs right left r (sym same.0, sym same.1)) h in
    let before : (m n : ℕ) (x y : Contender) → m < n → n < length stages →
    get_or stages m right ≡ x → get_or stages n right ≡ y → Precedes x y =
    λ m n x y less bound ex ey. rw (← ex, ← ey) (ordered m n right less bound) in
    ⊎_elim (λ less. absurd (apart (inl (before i j left right less within there at))))
    (λ rest. ⊎_elim (λ more. absurd (apart (inr (before j i right left more below at there))))
    (λ still. let e : i ≡ j = omega arith in sym there ∙ ap (λ n. get_or stages n right) e ∙ at)
    (cases_lt j i))
    (cases_lt i j)
