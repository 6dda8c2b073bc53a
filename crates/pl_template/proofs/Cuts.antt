-- The pieces of a text are those that the rules give.
use Rattle.std.proofs.Common.{◌≡◌, ◌+◌, ℕ, zero, suc, ◌≤◌, Bool, true, false}
use Rattle.std.proofs.Common.{Option, Some, None, List, [], ◌∷◌, ◌++◌, length, drop, refl, ap}
use Rattle.std.proofs.Common.{sym, ◌∙◌, inl, inr, arith, length-append, append-nil}
use Rattle.std.proofs.Common.{subst}
use Rattle.std.specs.Option.{option_map}
use Rattle.std.proofs.lemmas.List.{drop-drop}
use Rattle.std.proofs.Math.Seq.{drop-append_seam}
use Rattle.std.proofs.lemmas.Bool.{cases_Bool}
use Rattle.std.proofs.lemmas.Bool.Decides.{Decides-eqb}
use Rattle.std.proofs.lemmas.Slice.Eq.{starts_is}
use Rattle.pl_texts.specs.Matching.{begins}
use Rattle.pl_template.specs.declared.forms.Piece.{Piece}
use Rattle.pl_template.specs.declared.forms.Piece.TheVariants.{Expression}
use Rattle.pl_template.specs.Cutting.{opening, closing, closes, holds_opening, is_quoted_behind}
use Rattle.pl_template.specs.Cutting.{before_closing, onto, pieces_of}
use Rattle.pl_template.specs.Splitting.{split_of, literal, prefixed, continued}
use Rattle.pl_template.specs.Laws.{IsInside, IsCut, rest, expression, written}
use Rattle.pl_template.proofs.Closing.{here, later, longer, round}
use Rattle.pl_template.proofs.Pieces.{at_opening, at_other, no_pieces, onto_literal, onto_rest}
use Rattle.pl_template.proofs.Pieces.{both, not_yet, cut_front, cut_rest}

-- ---- expressions: what stands behind the `}}` doesn't count

same_front : (quoted : Bool) (byte : ℕ) (inside first other : List ℕ) →
    closes quoted (byte ∷ (inside ++ (closing ++ first))) ≡ closes quoted
    (byte ∷ (inside ++ (closing ++ other)))
same_front quoted byte [] first other = refl
same_front quoted byte (next ∷ inside) first other = refl

closed_at : (quoted : Bool) (text inside : List ℕ) → closes quoted text ≡ true →
    before_closing quoted text ≡ Some inside → inside ≡ []
closed_at quoted text inside closed e = let at = here quoted text closed in cc

same_inside : (quoted : Bool) (inside first other : List ℕ) →
    before_closing quoted (inside ++ (closing ++ first)) ≡ Some inside →
    before_closing quoted (inside ++ (closing ++ other)) ≡ Some inside
same_inside quoted [] first other e =
    elim (cases_Bool (closes quoted (closing ++ first))) [
      | inl closed ↦ here quoted (closing ++ other) closed
      | inr opened ↦ let more =
          longer 125 _ [] (sym (later quoted 125 (125 ∷ first) opened) ∙ e) in absurd (cc)
    ]
same_inside quoted (byte ∷ inside) first other e =
    elim (cases_Bool (closes quoted (byte ∷ (inside ++ (closing ++ first))))) [
      | inl closed ↦ let none = closed_at quoted _ (byte ∷ inside) closed e in absurd (cc)
      | inr opened ↦
          let more =
          longer byte _ (byte ∷ inside)
          (sym (later quoted byte (inside ++ (closing ++ first)) opened) ∙ e) in
          let is : inside ≡ more.0 = cc in
          later quoted byte (inside ++ (closing ++ other))
          (sym (same_front quoted byte inside first other) ∙ opened)
          ∙ ap (option_map (λ inside. byte ∷ inside))
          (same_inside (is_quoted_behind byte quoted) inside first other
          (more.1 ∙ ap Some (sym is)))
    ]

split_inside : (inside behind : List ℕ) → IsInside inside →
    split_of (inside ++ (closing ++ behind)) ≡ Some (inside, behind)
split_inside inside behind ends =
    let e : before_closing false (inside ++ (closing ++ behind)) ≡ Some inside =
    same_inside false inside [] behind ends in
    let back : drop (length inside + 2) (inside ++ (closing ++ behind)) ≡ behind =
    sym (drop-drop 2 (length inside) (inside ++ (closing ++ behind)))
    ∙ ap (drop 2) (drop-append_seam inside (closing ++ behind)) in
    rw e (ap (λ rest. Some (inside, rest)) back)

pub is_inside : (text inside : List ℕ) → before_closing false text ≡ Some inside → IsInside inside
is_inside text inside e =
    let whole = round text false inside e in
    same_inside false inside (drop (length inside + 2) text) []
    (ap (before_closing false) (sym whole) ∙ e)

-- ---- the rules give what is cut, and nothing else

pub pieces_are : (text : List ℕ) (pieces : List Piece) → IsCut text pieces →
    pieces_of text ≡ Some pieces
pieces_are _ _ (rest text plain) = cut_rest text plain
pieces_are _ _ (expression front inside behind pieces plain ends cut) =
    cut_front front (inside ++ (closing ++ behind)) plain
    ∙ (ap (λ parts. prefixed (literal front) (continued parts)) (split_inside inside behind ends)
    ∙ ap (λ found. prefixed (literal front) (prefixed (Expression inside ∷ []) found))
    (pieces_are behind pieces cut))

one_more : (byte : ℕ) (text : List ℕ) (pieces : List Piece) → IsCut text pieces →
    begins (byte ∷ text) opening ≡ false → IsCut (byte ∷ text) (onto byte pieces)
one_more byte _ _ (rest text plain) other =
    rw (onto_rest byte text)
    (rest (byte ∷ text) (both (begins (byte ∷ text) opening) (holds_opening text) other plain))
one_more byte _ _ (expression front inside behind pieces plain ends cut) other =
    rw (onto_literal byte front inside pieces)
    (expression (byte ∷ front) inside behind pieces
    (both (begins (byte ∷ front) opening) (holds_opening front) (not_yet (byte ∷ front) _ other)
    plain) ends cut)

mapped : (byte : ℕ) (found : Option (List Piece)) (pieces : List Piece) →
    option_map (onto byte) found ≡ Some pieces →
    (more : List Piece) × (found ≡ Some more) × (pieces ≡ onto byte more)
mapped byte None pieces e = absurd (cc)
mapped byte (Some more) pieces e = (more, refl, cc)

begun : (first : Piece) (found : Option (List Piece)) (pieces : List Piece) →
    prefixed (first ∷ []) found ≡ Some pieces →
    (more : List Piece) × (found ≡ Some more) × (pieces ≡ first ∷ more)
begun first None pieces e = absurd (cc)
begun first (Some more) pieces e = (more, refl, cc)

at_expression : (text : List ℕ) (pieces : List Piece) (found : Option (List ℕ)) →
    before_closing false text ≡ found →
    continued (option_map (λ inside. (inside, drop (length inside + 2) text)) found) ≡ Some pieces →
    ((behind : List ℕ) (more : List Piece) → length behind ≤ length text →
    pieces_of behind ≡ Some more → IsCut behind more) → IsCut (opening ++ text) pieces
at_expression text pieces None found e go = absurd (cc)
at_expression text pieces (Some inside) found e go =
    let behind = drop (length inside + 2) text in
    let more = begun (Expression inside) (pieces_of behind) pieces e in
    let whole : text ≡ inside ++ (closing ++ behind) = round text false inside found in
    let shorter : length behind ≤ length text =
    omega (
      arith,
      ap length whole,
      length-append inside (closing ++ behind),
      length-append
          closing behind,
    ) in
    let cut : IsCut (opening ++ (inside ++ (closing ++ behind))) (Expression inside ∷ more.0) =
    expression [] inside behind more.0 refl (is_inside text inside found)
    (go behind more.0 shorter more.1) in
    rw more.2 (let P : List ℕ → Type 0 =
    λ text. IsCut (opening ++ text) (Expression inside ∷ more.0) in subst P (sym whole) cut)

cut_in : (turns : ℕ) (text : List ℕ) (pieces : List Piece) → length text ≤ turns →
    pieces_of text ≡ Some pieces → IsCut text pieces
cut_in turns [] pieces within e = let none : pieces ≡ [] = let at =
    no_pieces in cc in rw none (rest [] refl)
cut_in zero (byte ∷ text) pieces within e = absurd (omega (arith, within))
cut_in (suc turns) (byte ∷ text) pieces within e =
    elim (cases_Bool (begins (byte ∷ text) opening)) [
      | inl begun ↦
          let more = drop (length opening) (byte ∷ text) in
          let whole : byte ∷ text ≡ opening ++ more =
          (starts_is Decides-eqb (byte ∷ text) opening (begins (byte ∷ text) opening) refl).0
          begun in
          let size = length-append opening more in
          rw whole
          (at_expression more pieces (before_closing false more) refl
          (sym (ap pieces_of whole ∙ at_opening more) ∙ e)
          (λ behind rest less found. cut_in turns behind rest
          (omega (arith, less, within, ap length whole, size)) found))
      | inr other ↦
          let more = mapped byte (pieces_of text) pieces (sym (at_other byte text other) ∙ e) in
          rw more.2
          (one_more byte text more.0 (cut_in turns text more.0 (omega (arith, within)) more.1)
          other)
    ]

pub are_cut : (text : List ℕ) (pieces : List Piece) → pieces_of text ≡ Some pieces →
    IsCut text pieces
are_cut text pieces e = cut_in (length text) text pieces (omega arith) e

-- what was cut is written again

written_literal : (text : List ℕ) → written (literal text) ≡ text
written_literal [] = refl
written_literal (byte ∷ text) = append-nil (byte ∷ text)

written_front : (front : List ℕ) (pieces : List Piece) →
    written (literal front ++ pieces) ≡ front ++ written pieces
written_front [] pieces = refl
written_front (byte ∷ front) pieces = refl

pub written_again : (text : List ℕ) (pieces : List Piece) → IsCut text pieces →
    written pieces ≡ text
written_again _ _ (rest text plain) = written_literal text
written_again _ _ (expression front inside behind pieces plain ends cut) =
    written_front front (Expression inside ∷ pieces)
    ∙ ap (λ text. front ++ (opening ++ (inside ++ (closing ++ text))))
    (written_again behind pieces cut)
