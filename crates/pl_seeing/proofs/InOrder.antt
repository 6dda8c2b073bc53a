-- What is seen of rows that are in order.
use Rattle.std.proofs.Common.{◌≡◌, ℕ, zero, suc, ◌+◌, List, [], ◌∷◌, length, get_or, refl, ap, ◌∙◌}
use Rattle.std.proofs.Common.{arith}
use Rattle.pl_base.specs.declared.row.Row.{Row}
use Rattle.pl_keeper.specs.Keeping.{comes_before, IsInOrder}
use Rattle.pl_seeing.specs.Seeing.{AreSeen}
use Rattle.pl_torn.specs.Seen.{AreInOrder}
use Rattle.pl_torn.specs.declared.seen.Seen.{Seen}

lengths : (rows : List Row) (all : List Seen) → AreSeen rows all → length all ≡ length rows
lengths [] [] seen = refl
lengths [] (one ∷ all) seen = absurd seen
lengths (row ∷ rows) [] seen = absurd seen
lengths (row ∷ rows) (one ∷ all) seen = ap suc (lengths rows all seen.1)

same_at : (rows : List Row) (all : List Seen) → AreSeen rows all → (k : ℕ) (d : Seen) →
    (get_or all k d).row.now ≡ get_or rows k d.row.now
same_at [] [] seen k d = refl
same_at [] (one ∷ all) seen k d = absurd seen
same_at (row ∷ rows) [] seen k d = absurd seen
same_at (row ∷ rows) (one ∷ all) seen zero d = seen.0.same
same_at (row ∷ rows) (one ∷ all) seen (suc k) d = same_at rows all seen.1 k d

pub in_order : (rows : List Row) (all : List Seen) → IsInOrder rows → AreSeen rows all →
    AreInOrder all
in_order rows all order seen k d low high =
    (λ i. comes_before (same_at rows all seen (k + 1) d i) (same_at rows all seen k d i)) ∙
    order k d.row.now low (omega (arith, high, lengths rows all seen))
