-- Each form of a scalar, by the rules.
use Rattle.std.proofs.Common.{◌≡◌, ◌↔◌, ◌⊎◌, ℕ, ◌+◌, length, drop, if◌then◌else◌, true, false}
use Rattle.std.proofs.Common.{Option, Some, None, List, [], ◌∷◌, ◌++◌, refl, ap, sym, ◌∙◌, inl, inr}
use Rattle.std.proofs.Common.{subst}
use Rattle.std.specs.Option.{option_map}
use Rattle.std.proofs.lemmas.Bool.{cases_Bool}
use Rattle.pl_template.specs.declared.forms.Piece.{Piece}
use Rattle.pl_template.specs.declared.forms.Piece.TheVariants.{Literal, Expression}
use Rattle.pl_template.specs.declared.forms.ScalarForm.{ScalarForm}
use Rattle.pl_template.specs.declared.forms.ScalarForm.TheVariants.{Plain, Whole, Joined, Unclosed}
use Rattle.pl_template.specs.Cutting.{opening, closing, holds_opening, before_closing, pieces_of}
use Rattle.pl_template.specs.Splitting.{literal, prefixed, continued}
use Rattle.pl_template.specs.Forms.{form_of, form_of_pieces}
use Rattle.pl_template.specs.Laws.{IsLiteral, IsInside, IsCut, rest, expression}
use Rattle.pl_template.proofs.Pieces.{at_opening, cut_rest}
use Rattle.pl_template.proofs.Cuts.{is_inside, pieces_are, are_cut, written_again}

judged : (text : List ℕ) (form : ScalarForm) → form_of text ≡ form →
    (form_of_pieces (pieces_of text) ≡ form) ⊎ (holds_opening text ≡ false) × (form ≡ Plain)
judged text form e =
    elim (cases_Bool (holds_opening text)) [
      | inl some ↦ inl (sym (ap (λ b. if b then form_of_pieces (pieces_of text) else Plain) some)
          ∙ e)
      | inr none ↦ inr (
        none,
        sym e ∙ ap (λ b. if b then form_of_pieces (pieces_of text) else Plain)
            none,
      )
    ]

opened : (text : List ℕ) → holds_opening text ≡ true →
    form_of text ≡ form_of_pieces (pieces_of text)
opened text some = rw some refl

-- ---- what the form tells of the pieces

abbrev Tells : ScalarForm → Option (List Piece) → Type 0
Tells Plain found = ⊥
Tells (Whole inside) found = found ≡ Some (Expression inside ∷ [])
Tells (Joined pieces) found = found ≡ Some pieces
Tells Unclosed found = found ≡ None

told : (found : Option (List Piece)) → Tells (form_of_pieces found) found
told None = refl
told (Some []) = refl
told (Some (Literal text ∷ pieces)) = refl
told (Some (Expression inside ∷ [])) = refl
told (Some (Expression inside ∷ next ∷ pieces)) = refl

tells : (found : Option (List Piece)) (form : ScalarForm) → form_of_pieces found ≡ form →
    Tells form found
tells found form e = let P : ScalarForm → Type 0 =
    λ form. Tells form found in subst P e (told found)

-- ---- plain

pub plain_iff : (text : List ℕ) → (form_of text ≡ Plain) ↔ IsLiteral text
plain_iff text = (
  (λ e. elim (judged text Plain e) [
    | inl found ↦ absurd (tells (pieces_of text) Plain found)
    | inr
        none ↦ none.0
  ]),
  λ none. rw none refl,
)

-- ---- whole

not_literal : (text inside : List ℕ) (pieces : List Piece) →
    literal text ≡ Expression inside ∷ pieces → ⊥
not_literal [] inside pieces e = absurd (cc)
not_literal (byte ∷ text) inside pieces e = absurd (cc)

begins_some : (text inside : List ℕ) (pieces : List Piece) →
    pieces_of text ≡ Some (Expression inside ∷ pieces) → holds_opening text ≡ true
begins_some text inside pieces e =
    elim (cases_Bool (holds_opening text)) [
      | inl some ↦ some
      | inr none ↦ let is : literal text ≡ Expression inside ∷ pieces = let at =
          cut_rest text none in cc in absurd (not_literal text inside pieces is)
    ]

first_inside : (text inside : List ℕ) (found : Option (List ℕ)) (pieces : List Piece) →
    before_closing false text ≡ found →
    continued (option_map (λ inside. (inside, drop (length inside + 2) text)) found) ≡ Some
    (Expression inside ∷ pieces) → IsInside inside
first_inside text inside None pieces at e = absurd (cc)
first_inside text inside (Some other) pieces at e =
    let is : other ≡ inside =
    first other inside (pieces_of (drop (length other + 2) text)) pieces e in
    is_inside text inside (at ∙ ap Some is)
  where
    first : (other inside : List ℕ) (found : Option (List Piece)) (pieces : List Piece) →
        prefixed (Expression other ∷ []) found ≡ Some (Expression inside ∷ pieces) → other ≡ inside
    first other inside None pieces e = absurd (cc)
    first other inside (Some more) pieces e = cc

pub whole_iff : (text inside : List ℕ) →
    (form_of text ≡ Whole inside) ↔ (IsInside inside × (text ≡ opening ++ (inside ++ closing)))
whole_iff text inside = (there, back)
  where
    there : form_of text ≡ Whole inside → IsInside inside × (text ≡ opening ++ (inside ++ closing))
    there e =
        elim (judged text (Whole inside) e) [
          | inl found ↦
              let pieces : pieces_of text ≡ Some (Expression inside ∷ []) =
              tells (pieces_of text) (Whole inside) found in
              let whole : text ≡ opening ++ (inside ++ closing) =
              sym (written_again text _ (are_cut text _ pieces)) in (
                first_inside (inside ++ closing) inside _ [] refl
                    (sym (ap pieces_of whole ∙ at_opening (inside ++ closing)) ∙ pieces),
                whole,
              )
          | inr none ↦ absurd (cc)
        ]

    back : IsInside inside × (text ≡ opening ++ (inside ++ closing)) → form_of text ≡ Whole inside
    back (ends, whole) =
        let pieces : pieces_of text ≡ Some (Expression inside ∷ []) =
        ap pieces_of whole
        ∙ pieces_are _ _ (expression [] inside [] [] refl ends (rest [] refl)) in
        opened text (begins_some text inside [] pieces) ∙ ap form_of_pieces pieces

-- ---- joined, unclosed

pub joined_is : (text : List ℕ) (pieces : List Piece) → form_of text ≡ Joined pieces →
    IsCut text pieces
joined_is text pieces e =
    elim (judged text (Joined pieces) e) [
      | inl found ↦ are_cut text pieces (tells (pieces_of text) (Joined pieces) found)
      | inr none ↦ absurd (cc)
    ]

pub unclosed_iff : (text : List ℕ) →
    (form_of text ≡ Unclosed) ↔ ((pieces : List Piece) → ¬ IsCut text pieces)
unclosed_iff text = (there, back (pieces_of text) refl)
  where
    there : form_of text ≡ Unclosed → (pieces : List Piece) → ¬ IsCut text pieces
    there e pieces cut =
        elim (judged text Unclosed e) [
          | inl found ↦ let none = tells (pieces_of text) Unclosed found in let some =
              pieces_are text pieces cut in absurd (cc)
          | inr none ↦ absurd (cc)
        ]

    back : (found : Option (List Piece)) → pieces_of text ≡ found →
        ((pieces : List Piece) → ¬ IsCut text pieces) → form_of text ≡ Unclosed
    back (Some pieces) at none = absurd (none pieces (are_cut text pieces at))
    back None at none =
        elim (cases_Bool (holds_opening text)) [
          | inl some ↦ opened text some ∙ ap form_of_pieces at
          | inr nothing ↦ let some = cut_rest text nothing in absurd (cc)
        ]
