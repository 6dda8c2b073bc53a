-- The end of an expression, found by a count of bytes.
use Rattle.std.proofs.Common.{◌≡◌, ℕ, suc, IsUtf8, IsCharBoundary, length-append, ◌+◌, ◌-◌, ◌<◌}
use Rattle.std.proofs.Common.{◌≤◌, Bool, true, false, not, ◌&&◌, Option, Some, None, List, [], ◌∷◌}
use Rattle.std.proofs.Common.{◌++◌, length, get_or, take, drop, refl, ap, sym, ◌∙◌, inl, inr, arith}
use Rattle.std.specs.Option.{option_map}
use Rattle.std.proofs.lemmas.List.{at_drop_more, at_drop_all, take_rest, get_or-drop, drop-drop}
use Rattle.std.proofs.lemmas.List.{length-take}
use Rattle.std.proofs.lemmas.Bool.{cases_Bool, false≢true}
use Rattle.std.proofs.lemmas.Bool.Decides.{Decides-eqb}
use Rattle.std.proofs.lemmas.Slice.Eq.{starts_is}
use Rattle.std.proofs.Math.Seq.{drop-append_seam, take-append_seam}
use Rattle.std.proofs.lemmas.Str.{IsCharBoundary-before_ascii}
use Rattle.pl_texts.proofs.Bytes.{boundary_behind_ascii}
use Rattle.pl_template.specs.Splitting.{split_of}
use Rattle.pl_texts.specs.Matching.{begins}
use Rattle.pl_template.specs.Cutting.{closing, closes, is_quoted_behind, before_closing}

nowhere : (quoted : Bool) → closes quoted [] ≡ false
nowhere true = refl
nowhere false = refl

pub here : (quoted : Bool) (text : List ℕ) → closes quoted text ≡ true →
    before_closing quoted text ≡ Some []
unfolding before_closing
here quoted [] closed = let none = nowhere quoted in cc
here quoted (byte ∷ text) closed = rw closed refl

pub later : (quoted : Bool) (byte : ℕ) (text : List ℕ) → closes quoted (byte ∷ text) ≡ false →
    before_closing quoted (byte ∷ text) ≡ option_map (λ inside. byte ∷ inside)
    (before_closing (is_quoted_behind byte quoted) text)
unfolding before_closing
later quoted byte text open_ = rw open_ refl

-- the end so many bytes further on
abbrev pub end_behind : ℕ → Bool → List ℕ → Option ℕ
end_behind count quoted text =
    option_map (λ more. count + more) (option_map length (before_closing quoted text))

one_more : (count byte : ℕ) (found : Option (List ℕ)) →
    option_map (λ more. count + more)
    (option_map length (option_map (λ inside. byte ∷ inside) found)) ≡ option_map
    (λ more. (count + 1) + more) (option_map length found)
one_more count byte None = refl
one_more count byte (Some inside) = ap Some (omega arith)

-- the test of a turn
tested : (test quoted : Bool) (text : List ℕ) (count : ℕ) →
    test ≡ closes quoted (take (length text - count) (drop count text)) →
    closes quoted (drop count text) ≡ test
tested test quoted text count e = ap (closes quoted) (sym (take_rest text count)) ∙ sym e

pub end_here : (text : List ℕ) (count : ℕ) (quoted : Bool) (whole : Option ℕ) →
    true ≡ closes quoted (take (length text - count) (drop count text)) →
    whole ≡ end_behind count quoted (drop count text) → Some count ≡ whole
end_here text count quoted whole test whole_is =
    sym (whole_is
    ∙ (ap (λ found. option_map (λ more. count + more) (option_map length found))
    (here quoted (drop count text) (tested true quoted text count test))
    ∙ ap Some (omega arith)))

pub end_later : (text : List ℕ) (count : ℕ) (quoted next : Bool) (whole : Option ℕ) →
    count < length text → false ≡ closes quoted (take (length text - count) (drop count text)) →
    next ≡ is_quoted_behind (get_or text count 0) quoted →
    whole ≡ end_behind count quoted (drop count text) →
    whole ≡ end_behind (count + 1) next (drop (count + 1) text)
end_later text count quoted next whole within test next_is whole_is =
    let e : drop count text ≡ get_or text count 0 ∷ drop (count + 1) text =
    at_drop_more (λ rest. rest) text count 0 within in
    let opened : closes quoted (get_or text count 0 ∷ drop (count + 1) text) ≡ false =
    ap (closes quoted) (sym e) ∙ tested false quoted text count test in
    whole_is
    ∙ (ap (end_behind count quoted) e
    ∙ (ap (λ found. option_map (λ more. count + more) (option_map length found))
    (later quoted (get_or text count 0) (drop (count + 1) text) opened)
    ∙ (one_more count (get_or text count 0)
    (before_closing (is_quoted_behind (get_or text count 0) quoted) (drop (count + 1) text))
    ∙ ap (λ open_. end_behind (count + 1) open_ (drop (count + 1) text)) (sym next_is))))

nothing_left : (quoted : Bool) → before_closing quoted [] ≡ None
unfolding before_closing
nothing_left quoted = refl

pub end_nowhere : (text : List ℕ) (count : ℕ) (quoted : Bool) (whole : Option ℕ) →
    length text ≤ count → whole ≡ end_behind count quoted (drop count text) → None ≡ whole
end_nowhere text count quoted whole ended whole_is =
    sym (whole_is
    ∙ (at_drop_all (end_behind count quoted) text count ended
    ∙ ap (λ found. option_map (λ more. count + more) (option_map length found))
    (nothing_left quoted)))

second : (a b : Bool) → (a && b) ≡ true → b ≡ true
second true b e = e
second false b e = absurd (false≢true e)

in_front : (text : List ℕ) → begins text closing ≡ true → text ≡ closing ++ drop 2 text
in_front text begun = (starts_is Decides-eqb text closing (begins text closing) refl).0 begun

stands_in_front : (quoted : Bool) (text : List ℕ) → closes quoted text ≡ true →
    text ≡ closing ++ drop 2 text
stands_in_front quoted text closed =
    in_front text (second (not quoted) (begins text closing) closed)

pub longer : (byte : ℕ) (found : Option (List ℕ)) (inside : List ℕ) →
    option_map (λ inside. byte ∷ inside) found ≡ Some inside →
    (more : List ℕ) × (found ≡ Some more) × (inside ≡ byte ∷ more)
longer byte None inside e = absurd (cc)
longer byte (Some more) inside e = (more, refl, cc)

one_longer : (byte : ℕ) (text more : List ℕ) →
    text ≡ more ++ (closing ++ drop (length more + 2) text) →
    byte ∷ text ≡ (byte ∷ more) ++ (closing ++ drop (length (byte ∷ more) + 2) (byte ∷ text))
one_longer byte text more e =
    let count : suc (length more) + 2 ≡ suc (length more + 2) = omega arith in
    ap (λ rest. byte ∷ rest) e ∙ ap (λ n. byte ∷ (more ++ (closing ++ drop n (byte ∷ text))))
    (sym count)

-- an expression's text, its `}}`, and what stands behind them are the text
pub round : (text : List ℕ) (quoted : Bool) (inside : List ℕ) →
    before_closing quoted text ≡ Some inside →
    text ≡ inside ++ (closing ++ drop (length inside + 2) text)
round [] quoted inside e = let none = nothing_left quoted in absurd (cc)
round (byte ∷ text) quoted inside e =
    elim (cases_Bool (closes quoted (byte ∷ text))) [
      | inl closed ↦
          let none : inside ≡ [] = let at = here quoted (byte ∷ text) closed in cc in
          rw none (stands_in_front quoted (byte ∷ text) closed)
      | inr opened ↦
          let more = longer byte _ inside (sym (later quoted byte text opened) ∙ e) in
          rw more.2
          (one_longer byte text more.0
          (round text (is_quoted_behind byte quoted) more.0 more.1))
    ]

-- what a count of bytes before the end tells
pub record IsEnd (text : List ℕ) (count : ℕ) : Type 0 where
  pub inside : before_closing false text ≡ Some (take count text)
  pub behind : drop count text ≡ closing ++ drop (count + 2) text
  pub within : count + 2 ≤ length text

counted : (text : List ℕ) (count : ℕ) (found : Option (List ℕ)) →
    Some count ≡ option_map length found →
    (inside : List ℕ) × (found ≡ Some inside) × (count ≡ length inside)
counted text count None e = absurd (cc)
counted text count (Some inside) e = (inside, refl, cc)

pub is_end : (text : List ℕ) (count : ℕ) →
    Some count ≡ option_map length (before_closing false text) → IsEnd text count
is_end text count e =
    let found = counted text count _ e in
    let rest = closing ++ drop (length found.0 + 2) text in
    let whole : text ≡ found.0 ++ rest = round text false found.0 found.1 in
    let front : take count text ≡ found.0 = ap (λ n. take n text) found.2
    ∙ (ap (take (length found.0)) whole ∙ take-append_seam found.0 rest) in
    let back : drop count text ≡ rest = ap (λ n. drop n text) found.2
    ∙ (ap (drop (length found.0)) whole ∙ drop-append_seam found.0 rest) in
    record {
      inside = found.1 ∙ ap Some (sym front);
      behind = back ∙ ap (λ n. closing ++ drop (n + 2) text) (sym found.2);
      within =
          let sizes : length text ≡ length found.0 + (2 + length (drop (length found.0 + 2) text)) =
          ap length whole
          ∙ (length-append found.0 rest
          ∙ ap (λ n. length found.0 + n)
          (length-append closing (drop (length found.0 + 2) text))) in
          omega (arith, sizes, found.2);
    }

pub may_cut_before : (text : List ℕ) (count : ℕ) → IsEnd text count → IsCharBoundary text count
may_cut_before text count end =
    let byte : get_or text count 0 ≡ 125 = ap (λ n. get_or text n 0) (omega arith)
    ∙ (sym (get_or-drop count text 0 0) ∙ ap (λ rest. get_or rest 0 0) end.behind) in
    IsCharBoundary-before_ascii text count (omega (arith, end.within)) (omega (arith, byte))

pub begins_closing : (text rest : List ℕ) (count : ℕ) → IsEnd text count → rest ≡ drop count text →
    begins rest closing ≡ true
begins_closing text rest count end rest_is = ap (λ rest. begins rest closing) (rest_is ∙ end.behind)

pub may_cut_behind : (text : List ℕ) → begins text closing ≡ true → IsUtf8 text →
    IsCharBoundary text 2
may_cut_behind text begun utf8 =
    let text_is = in_front text begun in
    let byte : get_or text 1 0 ≡ 125 = ap (λ text. get_or text 1 0) text_is in
    let size : length text ≡ 2 + length (drop 2 text) =
    ap length text_is ∙ length-append closing (drop 2 text) in
    boundary_behind_ascii text 2 utf8 (omega (arith, size)) (λ _. omega (arith, byte))

pub is_split : (text inside rest behind : List ℕ) (count : ℕ) → IsEnd text count →
    inside ≡ take count text → rest ≡ drop count text → behind ≡ drop 2 rest →
    Some (inside, behind) ≡ split_of text
is_split text inside rest behind count end inside_is rest_is behind_is =
    let size : length (take count text) ≡ count = length-take count text
    ∙ omega (arith, end.within) in
    let last : behind ≡ drop (count + 2) text =
    behind_is ∙ (ap (drop 2) rest_is ∙ drop-drop 2 count text) in
    ap (λ inside. Some (inside, behind)) inside_is
    ∙ (ap (λ behind. Some (take count text, behind)) last
    ∙ (ap (λ n. Some (take count text, drop (n + 2) text)) (sym size)
    ∙ ap (option_map (λ inside. (inside, drop (length inside + 2) text))) (sym end.inside)))
