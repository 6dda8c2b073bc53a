-- What was resolved leads to itself.
use Rattle.std.proofs.Common.{inl, inr, ◌≡◌, ℕ, Bool, true, false, Option, Some, None, List, []}
use Rattle.std.proofs.Common.{◌∷◌}
use Rattle.std.proofs.Common.{◌++◌, refl, ap, sym, ◌∙◌, arith, subst}
use Rattle.std.specs.Prelude.{◌==◌, All, codes, if◌then◌else◌, nat_eq}
use Rattle.std.specs.List.{onto_first, AllByRecursion as Each}
use Rattle.std.specs.Option.{option_map, option_and_then}
use Rattle.std.proofs.lemmas.Bool.{cases_Bool, false≢true}
use Rattle.std.proofs.lemmas.Bool.Decides.{nat_tests}
use Rattle.std.proofs.lemmas.List.{append-nil, append_assoc}
use Rattle.std.proofs.lemmas.List.Elements.{All-from_recursion}
use Rattle.std.proofs.lemmas.List.Splits.{slice_split_none, slice_split_at}
use Rattle.pl_base.specs.Texts.{is}
use Rattle.pl_paths.specs.Laws.{IsName, HasNoDots, IsResolved}
use Rattle.pl_paths.specs.Paths.{slash, inner, parts, segments_of, led, path_of, parent}
use Rattle.pl_paths.specs.Paths.{walked, walked_on, from_file}

-- ---- segments without a `/`

abbrev IsSlashless : List ℕ → Type 0
IsSlashless segment = Each (λ byte. (byte == slash) ≡ false) segment

onto :
    (segments : List (List ℕ)) (byte : ℕ) → (byte == slash) ≡ false → Each IsSlashless segments →
    Each IsSlashless (onto_first byte segments)
onto [] byte other all = ((other, tt), tt)
onto (segment ∷ segments) byte other (first, rest) = ((other, first), rest)

parts_slashless : (path : List ℕ) → Each IsSlashless (parts path)
parts_slashless [] = (tt, tt)
parts_slashless (byte ∷ path) =
    elim (cases_Bool (byte == slash)) [
      | inl here ↦ rw here (tt, parts_slashless path)
      | inr other ↦ rw other (onto (parts path) byte other (parts_slashless path))
    ]

-- ---- segments that lead on

abbrev IsGood : List ℕ → Type 0
IsGood segment =
    (is segment (codes ".") ≡ false)
    × (is segment (codes "..") ≡ false)
    × IsSlashless segment

some_is : {X : Type 0} {a b : X} → Some a ≡ Some b → a ≡ b
some_is same = cc

good_append :
    (before : List (List ℕ)) (segment : List ℕ) → Each IsGood before → IsGood segment →
    Each IsGood (before ++ segment ∷ [])
good_append [] segment all good = (good, tt)
good_append (first ∷ before) segment (one, all) good = (one, good_append before segment all good)

parent_by :
    (segment : List ℕ) (rest : Option (List (List ℕ))) (next : List (List ℕ)) → IsGood segment →
    ((front : List (List ℕ)) → rest ≡ Some front → Each IsGood front) →
    option_map (λ front. segment ∷ front) rest ≡ Some next → Each IsGood next
parent_by segment None next good keeps is = cc
parent_by segment (Some front) next good keeps is =
    subst (Each IsGood) (some_is is) (good, keeps front refl)

parent_good :
    (before next : List (List ℕ)) → Each IsGood before → parent before ≡ Some next →
    Each IsGood next
parent_good [] next good is = cc
parent_good (segment ∷ []) next good is = subst (Each IsGood) (some_is is) tt
parent_good (segment ∷ second ∷ before) next (first, good) is =
    parent_by segment (parent (second ∷ before)) next first
    (λ front front_is. parent_good (second ∷ before) front good front_is) is

walked_by :
    (dot dots : Bool) (before next : List (List ℕ)) (segment : List ℕ) →
    is segment (codes ".") ≡ dot → is segment (codes "..") ≡ dots →
    Each IsGood before → IsSlashless segment →
    (if dot then Some before else if dots then parent before else Some (before ++ segment ∷ []))
    ≡ Some next →
    Each IsGood next
walked_by true dots before next segment one two good slashless is =
    subst (Each IsGood) (some_is is) good
walked_by false true before next segment one two good slashless is =
    parent_good before next good is
walked_by false false before next segment one two good slashless is =
    subst (Each IsGood) (some_is is) (good_append before segment good (one, two, slashless))

on_by :
    (step : Option (List (List ℕ))) (segments done : List (List ℕ)) →
    ((next : List (List ℕ)) → step ≡ Some next → Each IsGood next) →
    ((next : List (List ℕ)) → Each IsGood next → walked_on next segments ≡ Some done →
    Each IsGood done) →
    option_and_then (λ next. walked_on next segments) step ≡ Some done → Each IsGood done
on_by None segments done keeps goes_on is = cc
on_by (Some next) segments done keeps goes_on is = goes_on next (keeps next refl) is

walked_good :
    (before segments done : List (List ℕ)) → Each IsGood before → Each IsSlashless segments →
    walked_on before segments ≡ Some done → Each IsGood done
walked_good before [] done good slashless is = subst (Each IsGood) (some_is is) good
walked_good before (segment ∷ segments) done good (first, rest) is =
    on_by (walked before segment) segments done
    (λ next next_is. walked_by _ _ before next segment refl refl good first next_is)
    (λ next next_good next_is. walked_good next segments done next_good rest next_is)
    is

names_walk :
    (before segments : List (List ℕ)) → Each IsGood segments →
    walked_on before segments ≡ Some (before ++ segments)
names_walk before [] good = ap (λ all. Some all) (sym (append-nil before))
names_walk before (segment ∷ segments) ((dot, dots, slashless), rest) =
    rw dot (rw dots (names_walk (before ++ segment ∷ []) segments rest
    ∙ ap (λ all. Some all) (append_assoc before (segment ∷ []) segments)))

-- ---- the segments of a path that segments make

split_led :
    (segment : List ℕ) (segments : List (List ℕ)) → Each IsGood (segment ∷ segments) →
    parts (segment ++ led segments) ≡ segment ∷ segments
split_led segment [] ((dot, dots, slashless), rest) =
    ap parts (append-nil segment)
    ∙ slice_split_none (λ byte. byte == slash) segment (All-from_recursion _ segment slashless)
split_led segment (next ∷ segments) ((dot, dots, slashless), rest) =
    slice_split_at (λ byte. byte == slash) segment slash (next ++ led segments)
    (All-from_recursion _ segment slashless) refl
    ∙ ap (λ all. segment ∷ all) (split_led next segments rest)

segments_again :
    (segment : List ℕ) (segments : List (List ℕ)) → Each IsGood (segment ∷ segments) →
    segments_of (path_of (segment ∷ segments)) ≡ segment ∷ segments
segments_again segment segments good = split_led segment segments good

-- ---- the laws

same_text : (text : List ℕ) → is text text ≡ true
same_text [] = refl
same_text (byte ∷ text) =
    let here : nat_eq byte byte ≡ true = grind (arith, nat_tests) in rw here (same_text text)

differs : (text other : List ℕ) → is text other ≡ false → ¬ (text ≡ other)
differs text other unlike same =
    false≢true (sym unlike ∙ (ap (λ text. is text other) same ∙ same_text other))

names : (segments : List (List ℕ)) → Each IsGood segments → Each IsName segments
names [] good = tt
names (segment ∷ segments) ((dot, dots, slashless), rest) =
    ((differs segment (codes ".") dot, differs segment (codes "..") dots), names segments rest)

names_of : (done : List (List ℕ)) → Each IsGood done → All IsName (segments_of (path_of done))
names_of [] good =
    All-from_recursion IsName ([] ∷ [])
    ((differs [] (codes ".") refl, differs [] (codes "..") refl), tt)
names_of (segment ∷ segments) good =
    subst (All IsName) (sym (segments_again segment segments good))
    (All-from_recursion IsName (segment ∷ segments) (names (segment ∷ segments) good))

again :
    (file : List ℕ) (done : List (List ℕ)) → Each IsGood done →
    from_file file (path_of done) ≡ Some (path_of done)
again file [] good = refl
again file (segment ∷ segments) good =
    rw (segments_again segment segments good) (rw (names_walk [] (segment ∷ segments) good) refl)

-- what holds of all good segments holds of the path that was found
by_done :
    (P : List ℕ → Type 0) (walked : Option (List (List ℕ))) (found : List ℕ) →
    ((done : List (List ℕ)) → Each IsGood done → P (path_of done)) →
    ((done : List (List ℕ)) → walked ≡ Some done → Each IsGood done) →
    option_map path_of walked ≡ Some found → P found
by_done P None found holds good is = cc
by_done P (Some done) found holds good is =
    subst P (some_is is) (holds done (good done refl))

good_found :
    (path : List ℕ) (done : List (List ℕ)) → walked_on [] (segments_of path) ≡ Some done →
    Each IsGood done
good_found path done is =
    walked_good [] (segments_of path) done tt (parts_slashless (inner path)) is

pub has_no_dots : (path : List ℕ) → HasNoDots path
has_no_dots path found is =
    by_done (λ found. All IsName (segments_of found)) (walked_on [] (segments_of path)) found
    names_of (good_found path) is

pub is_resolved : (file path : List ℕ) → IsResolved file path
is_resolved file path found is =
    by_done (λ found. from_file file found ≡ Some found) (walked_on [] (segments_of path)) found
    (again file) (good_found path) is
