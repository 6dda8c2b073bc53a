-- Texts cut into pieces.
use Rattle.std.proofs.Common.{◌≡◌, ℕ, ◌+◌, ◌<◌, ◌≤◌, Bool, true, false, ◌&&◌, Ok, Err, List, []}
use Rattle.std.proofs.Common.{◌∷◌, ◌++◌, length, get_or, drop, map, encode_utf8, encode_utf8_all}
use Rattle.std.proofs.Common.{refl, ap, sym, ◌∙◌, append_assoc, append-nil, arith, length-append}
use Rattle.std.specs.List.{list_all}
use Rattle.std.proofs.lemmas.List.{at_drop_more, at_drop_all}
use Rattle.std.proofs.lemmas.List.Folds.{list_all-append}
use Rattle.std.proofs.lemmas.Bool.{le-leb, lt-leb}
use Rattle.pl_texts.specs.declared.fault.TextFault.TheVariants.{TooLong}
use Rattle.pl_texts.specs.Bound.{fits, all_bounded}
use Rattle.pl_texts.specs.Pieces.{cut, onto, pieces}

-- what was read of a piece in front of the rest of it
abbrev pub begun : List ℕ → List (List ℕ) → List (List ℕ)
begun piece [] = piece ∷ []
begun piece (rest ∷ others) = (piece ++ rest) ∷ others

-- there is a first piece
abbrev HasFirst : List (List ℕ) → Type 0
HasFirst pieces = (first : List ℕ) × (others : List (List ℕ)) × (pieces ≡ first ∷ others)

cut_step :
    (separates : ℕ → Bool) (character : ℕ) (text : List ℕ) (test : Bool) →
    separates character ≡ test → HasFirst (cut separates text) →
    HasFirst (cut separates (character ∷ text))
cut_step separates character text true e (first, others, is) = ([], cut separates text, rw e refl)
cut_step separates character text false e (first, others, is) =
    (character ∷ first, others, rw e (ap (onto character) is))

cut_some : (separates : ℕ → Bool) (text : List ℕ) → HasFirst (cut separates text)
cut_some separates [] = ([], [], refl)
cut_some separates (character ∷ text) = cut_step separates character text (separates character) refl
    (cut_some separates text)

begun_empty :
    (pieces : List (List ℕ)) → HasFirst pieces →
    begun [] (map encode_utf8_all pieces) ≡ map encode_utf8_all pieces
begun_empty pieces (first, others, is) = rw is refl

pub begun_nothing :
    (separates : ℕ → Bool) (text : List ℕ) →
    begun [] (map encode_utf8_all (cut separates text)) ≡ map encode_utf8_all (cut separates text)
begun_nothing separates text = begun_empty (cut separates text) (cut_some separates text)

-- one character more of a piece
begun_more :
    (piece : List ℕ) (character : ℕ) (rest : List (List ℕ)) →
    begun piece (map encode_utf8_all (onto character rest)) ≡ begun (piece ++ encode_utf8 character)
    (map encode_utf8_all rest)
begun_more piece character [] = ap (λ text. (piece ++ text) ∷ [])
    (append-nil (encode_utf8 character))
begun_more piece character (first ∷ others) = ap (λ text. text ∷ map encode_utf8_all others)
    (sym (append_assoc piece (encode_utf8 character) (encode_utf8_all first)))

cut_here :
    (separates : ℕ → Bool) (text : List ℕ) (at character : ℕ) → at < length text →
    character ≡ get_or text at character → separates character ≡ true →
    cut separates (drop at text) ≡ [] ∷ cut separates (drop (at + 1) text)
cut_here separates text at character within is separated =
    at_drop_more (cut separates) text at character within ∙
    (ap (λ first. cut separates (first ∷ drop (at + 1) text)) (sym is) ∙ rw separated refl)

cut_later :
    (separates : ℕ → Bool) (text : List ℕ) (at character : ℕ) → at < length text →
    character ≡ get_or text at character → separates character ≡ false →
    cut separates (drop at text) ≡ onto character (cut separates (drop (at + 1) text))
cut_later separates text at character within is stays =
    at_drop_more (cut separates) text at character within ∙
    (ap (λ first. cut separates (first ∷ drop (at + 1) text)) (sym is) ∙ rw stays refl)

-- ---- a turn of the loop

pub ends_piece :
    (separates : ℕ → Bool) (text : List ℕ) (at character : ℕ) (whole made longer : List (List ℕ))
    (piece : List ℕ) →
    (at < length text) × (character ≡ get_or text at character) → separates character ≡ true →
    longer ≡ made ++ piece ∷ [] →
    whole ≡ made ++ begun piece (map encode_utf8_all (cut separates (drop at text))) →
    whole ≡ longer ++ begun [] (map encode_utf8_all (cut separates (drop (at + 1) text)))
ends_piece separates text at character whole made longer piece turn separated longer_is whole_is =
    let rest = map encode_utf8_all (cut separates (drop (at + 1) text)) in
    let e : whole ≡ made ++ (piece ++ []) ∷ rest = whole_is ∙
    ap (λ cut. made ++ begun piece (map encode_utf8_all cut))
    (cut_here separates text at character turn.0 turn.1 separated) in
    e ∙ (ap (λ text. made ++ text ∷ rest) (append-nil piece) ∙
    (sym (append_assoc made (piece ∷ []) rest) ∙ (ap (λ front. front ++ rest) (sym longer_is) ∙
    ap (λ more. longer ++ more) (sym (begun_nothing separates (drop (at + 1) text))))))

pub goes_on_piece :
    (separates : ℕ → Bool) (text : List ℕ) (at character : ℕ) (whole made : List (List ℕ))
    (piece longer : List ℕ) →
    (at < length text) × (character ≡ get_or text at character) → separates character ≡ false →
    longer ≡ piece ++ encode_utf8 character →
    whole ≡ made ++ begun piece (map encode_utf8_all (cut separates (drop at text))) →
    whole ≡ made ++ begun longer (map encode_utf8_all (cut separates (drop (at + 1) text)))
goes_on_piece separates text at character whole made piece longer turn stays longer_is whole_is =
    let rest = cut separates (drop (at + 1) text) in
    whole_is ∙
    (ap (λ cut. made ++ begun piece (map encode_utf8_all cut))
    (cut_later separates text at character turn.0 turn.1 stays) ∙
    (ap (λ pieces. made ++ pieces) (begun_more piece character rest) ∙
    ap (λ piece. made ++ begun piece (map encode_utf8_all rest)) (sym longer_is)))

past_begun :
    (piece : List ℕ) (rest : List (List ℕ)) → 65536 < length piece →
    list_all fits (begun piece rest) ≡ false
past_begun piece [] past = rw (lt-leb (length piece) 65536 past) refl
past_begun piece (first ∷ others) past =
    let more : 65536 < length (piece ++ first) = omega (arith, length-append piece first) in
    rw (lt-leb (length (piece ++ first)) 65536 more) refl

and_false : (b : Bool) → (b && false) ≡ false
and_false true = refl
and_false false = refl

pub past_piece :
    (separates : ℕ → Bool) (text : List ℕ) (at character : ℕ) (whole made : List (List ℕ))
    (piece : List ℕ) →
    (at < length text) × (character ≡ get_or text at character) → separates character ≡ false →
    65536 < length piece + length (encode_utf8 character) →
    whole ≡ made ++ begun piece (map encode_utf8_all (cut separates (drop at text))) →
    all_bounded whole ≡ Err TooLong
past_piece separates text at character whole made piece turn stays past whole_is =
    let e = goes_on_piece separates text at character whole made piece (piece ++
    encode_utf8 character) turn stays refl whole_is in
    let rest = map encode_utf8_all (cut separates (drop (at + 1) text)) in
    let p = past_begun (piece ++ encode_utf8 character) rest
    (omega (arith, length-append piece (encode_utf8 character))) in
    let q : list_all fits whole ≡ false = ap (list_all fits) e ∙
    (list_all-append fits made (begun (piece ++ encode_utf8 character) rest) ∙
    (ap (λ b. list_all fits made && b) p ∙ and_false (list_all fits made))) in
    rw q refl

pub fits_more :
    (made longer : List (List ℕ)) (piece : List ℕ) → list_all fits made ≡ true →
    length piece ≤ 65536 → longer ≡ made ++ piece ∷ [] → list_all fits longer ≡ true
fits_more made longer piece made_fits piece_fits longer_is =
    ap (list_all fits) longer_is ∙ (list_all-append fits made (piece ∷ []) ∙
    rw (made_fits, le-leb (length piece) 65536 piece_fits) refl)

pub last_piece :
    (separates : ℕ → Bool) (text : List ℕ) (at : ℕ) (whole made longer : List (List ℕ))
    (piece : List ℕ) →
    at ≡ length text → list_all fits made ≡ true → length piece ≤ 65536 →
    longer ≡ made ++ piece ∷ [] →
    whole ≡ made ++ begun piece (map encode_utf8_all (cut separates (drop at text))) →
    all_bounded whole ≡ Ok longer
last_piece separates text at whole made longer piece ended made_fits piece_fits longer_is whole_is =
    let e : whole ≡ longer = whole_is ∙
    (ap (λ cut. made ++ begun piece (map encode_utf8_all cut))
    (at_drop_all (cut separates) text at (omega (arith, ended))) ∙
    (ap (λ text. made ++ text ∷ []) (append-nil piece) ∙ sym longer_is)) in
    let f = fits_more made longer piece made_fits piece_fits longer_is in
    ap all_bounded e ∙ rw f refl
