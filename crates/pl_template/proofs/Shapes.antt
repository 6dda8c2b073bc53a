-- The form of a scalar, by its first expression and its pieces.
use Rattle.std.proofs.Common.{◌≡◌, ◌≢◌, ◌+◌, ℕ, ◌<◌, true, Option, Some, None, List, [], ◌∷◌}
use Rattle.std.proofs.Common.{◌++◌, length, drop, refl, ap, sym, ◌∙◌, inl, inr, arith}
use Rattle.std.specs.Option.{option_map}
use Rattle.std.specs.Str.Pattern.{FindsText, SplitsAroundMatch}
use Rattle.std.proofs.lemmas.Bool.{cases_Bool}
use Rattle.std.proofs.lemmas.Bool.Decides.{Decides-eqb}
use Rattle.std.proofs.lemmas.Slice.Eq.{starts_is}
use Rattle.pl_texts.specs.Matching.{begins}
use Rattle.pl_texts.proofs.Contained.{contained}
use Rattle.pl_template.specs.declared.forms.Piece.{Piece}
use Rattle.pl_template.specs.declared.forms.Piece.TheVariants.{Literal, Expression}
use Rattle.pl_template.specs.declared.forms.ScalarForm.TheVariants.{Plain, Whole, Joined, Unclosed}
use Rattle.pl_template.specs.Cutting.{opening, holds_opening, onto, pieces_of}
use Rattle.pl_template.specs.Splitting.{split_of, literal, prefixed, continued}
use Rattle.pl_template.specs.Forms.{form_of, form_of_pieces}
use Rattle.pl_template.proofs.Pieces.{at_other, at_opening, no_pieces, through, parts, is_literal}

holds_some : (text front behind : List ℕ) → SplitsAroundMatch (FindsText opening) text front
    behind → holds_opening text ≡ true
holds_some text front behind cut =
    sym (contained true text opening
    ((λ _. (front, behind, (parts text front behind cut).whole)), λ _. refl))

pub plain : (text : List ℕ) → FindsText opening text None → Plain ≡ form_of text
plain text finds = rw (is_literal text finds) refl

with_pieces : (text front behind : List ℕ) (found : Option (List Piece)) →
    SplitsAroundMatch (FindsText opening) text front behind → pieces_of text ≡ found →
    form_of text ≡ form_of_pieces found
with_pieces text front behind found cut found_is =
    rw (holds_some text front behind cut) (ap form_of_pieces found_is)

first_piece : (text front behind : List ℕ) (parts : Option (List ℕ × List ℕ)) →
    SplitsAroundMatch (FindsText opening) text front behind → parts ≡ split_of behind →
    pieces_of text ≡ prefixed (literal front) (continued parts)
first_piece text front behind parts cut parts_is = through text front behind cut
    ∙ ap (λ parts. prefixed (literal front) (continued parts)) (sym parts_is)

pub unclosed : (text front behind : List ℕ) → SplitsAroundMatch (FindsText opening) text front
    behind → None ≡ split_of behind → Unclosed ≡ form_of text
unclosed text front behind cut parts =
    sym (with_pieces text front behind None cut (first_piece text front behind None cut parts))

pub not_cut : (text front behind : List ℕ) → SplitsAroundMatch (FindsText opening) text front
    behind → None ≡ pieces_of text → Unclosed ≡ form_of text
not_cut text front behind cut none = sym (with_pieces text front behind None cut (sym none))

empty : (text : List ℕ) → length text ≡ 0 → text ≡ []
empty [] e = refl
empty (byte ∷ text) e = absurd (omega (arith, e))

pub whole : (text front behind inside rest copy : List ℕ) →
    SplitsAroundMatch (FindsText opening) text front behind →
    Some (inside, rest) ≡ split_of behind → length front + length rest ≡ 0 → copy ≡ inside →
    Whole copy ≡ form_of text
whole text front behind inside rest copy cut parts alone copy_is =
    let front_is : front ≡ [] = empty front (omega (arith, alone)) in
    let rest_is : rest ≡ [] = empty rest (omega (arith, alone)) in
    let pieces : pieces_of text ≡ Some (Expression inside ∷ []) =
    first_piece text front behind _ cut parts
    ∙ (ap (λ front. prefixed (literal front) (prefixed (Expression inside ∷ []) (pieces_of rest)))
    front_is
    ∙ (ap (λ rest. prefixed [] (prefixed (Expression inside ∷ []) (pieces_of rest))) rest_is
    ∙ ap (λ found. prefixed [] (prefixed (Expression inside ∷ []) found)) no_pieces)) in
    ap Whole copy_is ∙ sym (with_pieces text front behind _ cut pieces)

-- ---- several pieces

something : (byte : ℕ) (found : Option (List Piece)) → option_map (onto byte) found ≢ Some []
something byte None e = absurd (cc)
something byte (Some []) e = absurd (cc)
something byte (Some (Literal text ∷ pieces)) e = absurd (cc)
something byte (Some (Expression inside ∷ pieces)) e = absurd (cc)

continued_some : (parts : Option (List ℕ × List ℕ)) → continued parts ≢ Some []
continued_some None e = absurd (cc)
continued_some (Some parts) e = more (pieces_of parts.1) e
  where
    more : (found : Option (List Piece)) → prefixed (Expression parts.0 ∷ []) found ≢ Some []
    more None e = absurd (cc)
    more (Some pieces) e = absurd (cc)

some_text : (text : List ℕ) → 0 < length text → pieces_of text ≢ Some []
some_text [] some e = absurd (omega (arith, some))
some_text (byte ∷ text) some e =
    elim (cases_Bool (begins (byte ∷ text) opening)) [
      | inl here ↦
          let rest = drop (length opening) (byte ∷ text) in
          let split : byte ∷ text ≡ opening ++ rest =
          (starts_is Decides-eqb (byte ∷ text) opening (begins (byte ∷ text) opening) refl).0
          here in
          continued_some (split_of rest) (sym (ap pieces_of split ∙ at_opening rest) ∙ e)
      | inr other ↦ something byte (pieces_of text) (sym (at_other byte text other) ∙ e)
    ]

several : (front inside : List ℕ) (found : Option (List Piece)) (pieces : List Piece) →
    Some pieces ≡ prefixed (literal front) (prefixed (Expression inside ∷ []) found) →
    (length front ≡ 0 → found ≢ Some []) → form_of_pieces (Some pieces) ≡ Joined pieces
several front inside None pieces e more = absurd (cc)
several [] inside (Some []) pieces e more = absurd (more refl refl)
several [] inside (Some (next ∷ rest)) pieces e more =
    let is : pieces ≡ Expression inside ∷ next ∷ rest = cc in rw is refl
several (byte ∷ front) inside (Some rest) pieces e more =
    let is : pieces ≡ Literal (byte ∷ front) ∷ Expression inside ∷ rest = cc in rw is refl

pub joined : (text front behind inside rest : List ℕ) (pieces : List Piece) →
    SplitsAroundMatch (FindsText opening) text front behind →
    Some (inside, rest) ≡ split_of behind → (length front + length rest ≡ 0 → ⊥) →
    Some pieces ≡ pieces_of text → Joined pieces ≡ form_of text
joined text front behind inside rest pieces cut parts more pieces_is =
    sym (with_pieces text front behind (Some pieces) cut (sym pieces_is)
    ∙ several front inside (pieces_of rest) pieces (pieces_is
    ∙ first_piece text front behind _ cut parts)
    (λ no_front. some_text rest (omega (arith, more, no_front))))
