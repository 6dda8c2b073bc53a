-- What was written and what was read, a piece more.
use Rattle.std.proofs.Common.{◌≡◌, ℕ, ◌+◌, ◌≤◌, List, [], ◌∷◌, ◌++◌, Option, Some, None, take, drop}
use Rattle.std.proofs.Common.{length, refl, ap, sym, ◌∙◌, arith}
use Rattle.std.specs.Prelude.{min}
use Rattle.std.proofs.Math.Nat.{min-le_left, min-le_right}
use Rattle.std.proofs.Math.Seq.{take-add}
use Rattle.std.proofs.lemmas.List.{append_assoc, length-take}
use Rattle.pl_base.specs.Streams.{with_end, with_front}

end_more :
    (held : Option (List ℕ)) (front back : List ℕ) →
    with_end (with_end held front) back ≡ with_end held (front ++ back)
end_more None front back = refl
end_more (Some bytes) front back = ap Some (append_assoc bytes front back)

pub front_more :
    (left : Option (List ℕ)) (front back : List ℕ) →
    with_front front (with_front back left) ≡ with_front (front ++ back) left
front_more None front back = refl
front_more (Some rest) front back = ap Some (sym (append_assoc front back rest))

pub wrote_more :
    (start between new : Option (List ℕ)) (bytes piece : List ℕ) (at count : ℕ) →
    between ≡ with_end start (take at bytes) → piece ≡ drop at bytes →
    new ≡ with_end between (take count piece) → new ≡ with_end start (take (at + count) bytes)
wrote_more start between new bytes piece at count so_far is more =
    more
    ∙ (ap (λ held. with_end held (take count piece)) so_far
    ∙ (end_more start (take at bytes) (take count piece)
    ∙ ap (with_end start)
    (ap (λ piece. take at bytes ++ take count piece) is ∙ sym (take-add at count bytes))))

pub read_more :
    (old between new : Option (List ℕ)) (bytes more : List ℕ) → old ≡ with_front bytes between →
    between ≡ with_front more new → old ≡ with_front (bytes ++ more) new
read_more old between new bytes more so_far next =
    so_far ∙ (ap (with_front bytes) next ∙ front_more new bytes more)

pub none_read : (left : Option (List ℕ)) → left ≡ with_front [] left
none_read None = refl
none_read (Some rest) = refl

-- ---- how much a piece may be

pub taken_most : (count : ℕ) (xs : List ℕ) → length (take count xs) ≤ count
taken_most count xs = omega (arith, length-take count xs, min-le_left count (length xs))

pub room_within : (room a b : ℕ) → room ≡ min a b → room ≤ b
room_within room a b is = omega (arith, min-le_right a b, is)
