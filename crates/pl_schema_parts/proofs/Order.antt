-- Reading in order, where a loop over the items stops.
use Rattle.std.proofs.Common.{◌≡◌, ℕ, ◌+◌, ◌<◌, ◌≤◌, Bool, List, [], ◌∷◌, ◌++◌, length, get_or}
use Rattle.std.proofs.Common.{drop, refl, sym, ap, ◌∙◌}
use Rattle.std.specs.Prelude.{Result, Ok, Err}
use Rattle.std.proofs.lemmas.List.{at_drop_more, at_drop_all}
use Rattle.pl_schema_parts.specs.declared.fault.PlacedFault.{PlacedFault}
use Rattle.pl_schema_parts.specs.declared.fault.PlacedFault.TheVariants.{Refused, Memory}
use Rattle.pl_schema_parts.specs.declared.fault.SchemaCode.{SchemaCode}
use Rattle.pl_schema_parts.specs.Gives.{Fault, Refuses}
use Rattle.pl_schema_parts.specs.Rows.{in_order, in_turn}
use Rattle.pl_reading.specs.Steps.{◌>>=◌}
use Rattle.pl_schema_parts.specs.Names.{is_taken}

pub stop : {S X : Type 0} (read : S → X → Result S Fault) (start made : S) (xs : List X) (i : ℕ)
    (x : X) (fault : PlacedFault SchemaCode)
    → in_order read start xs ≡ in_order read made (drop i xs) → i < length xs → x ≡ get_or xs i x →
    Refuses fault (read made x) → Refuses fault (in_order read start xs)
stop read start made xs i x Memory so_far within is refuses = tt
stop read start made xs i x (Refused code place) so_far within is refuses =
    so_far ∙ at_drop_more (in_order read made) xs i x within ∙ ap
    (λ r. r >>= λ next. in_order read next (drop (i + 1) xs)) (ap (read made) (sym is)
    ∙ refuses)

pub go_on : {S X : Type 0} (read : S → X → Result S Fault) (start made next : S) (xs : List X)
    (i : ℕ) (x : X)
    → in_order read start xs ≡ in_order read made (drop i xs) → i < length xs → x ≡ get_or xs i x →
    read made x ≡ Ok next → in_order read start xs ≡ in_order read next (drop (i + 1) xs)
go_on read start made next xs i x so_far within is reads =
    so_far ∙ at_drop_more (in_order read made) xs i x within ∙ ap
    (λ r. r >>= λ next. in_order read next (drop (i + 1) xs)) (ap (read made) (sym is) ∙ reads)

-- an item that is read beside the names of those before it
pub next_turn : {X Y : Type 0} (make : (List ℕ → Bool) → X → Result Y Fault) (names : List Y →
    List (List ℕ)) (taken : List ℕ → Bool) (ys : List Y) (xs : List X) (i : ℕ) (x : X) (y : Y)
    → taken ≡ is_taken (names ys) → i < length xs → x ≡ get_or xs i x → make taken x ≡ Ok y
    → in_turn (λ made item. make (is_taken (names made)) item) ys (drop i xs) ≡ in_turn
    (λ made item. make (is_taken (names made)) item) (ys ++ y ∷ []) (drop (i + 1) xs)
next_turn make names taken ys xs i x y same within is gives =
    at_drop_more (in_turn (λ made item. make (is_taken (names made)) item) ys) xs i x within
    ∙ ap (λ r. r >>= λ one. in_turn (λ made item. make (is_taken (names made)) item)
    (ys ++ one ∷ []) (drop (i + 1) xs))
    (ap (λ (t : List ℕ → Bool). make t (get_or xs i x)) (sym same) ∙ ap (make taken) (sym is)
    ∙ gives)
