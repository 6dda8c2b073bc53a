-- A text cut into pieces, from one `${{` to the next.
use Rattle.std.proofs.Common.{◌≡◌, ◌≢◌, ℕ, zero, suc, ◌+◌, ◌<◌, ◌≤◌, Bool, true, false, ◌&&◌, ◌||◌}
use Rattle.std.proofs.Common.{Option, Some, None}
use Rattle.std.proofs.Common.{List, [], ◌∷◌, ◌++◌, length, drop, refl, ap, sym, ◌∙◌, inl, inr}
use Rattle.std.proofs.Common.{arith, append_assoc}
use Rattle.std.specs.Option.{option_map}
use Rattle.std.specs.Str.Pattern.{FindsText, SplitsAroundMatch}
use Rattle.std.proofs.lemmas.Bool.Decides.{Decides-eqb}
use Rattle.std.proofs.lemmas.Slice.Eq.{starts_is}
use Rattle.pl_texts.specs.Matching.{begins}
use Rattle.pl_template.specs.declared.forms.Piece.{Piece}
use Rattle.pl_template.specs.declared.forms.Piece.TheVariants.{Expression}
use Rattle.pl_template.specs.Cutting.{opening, before_closing, onto, followed, pieces_behind}
use Rattle.pl_template.specs.Cutting.{pieces_of}
use Rattle.std.proofs.lemmas.List.{take-append-drop}
use Rattle.std.proofs.lemmas.Bool.{cases_Bool, false≢true}
use Rattle.pl_template.specs.Laws.{IsLiteral}
use Rattle.pl_template.specs.Cutting.{holds_opening}
use Rattle.pl_template.specs.Splitting.{split_of, literal, prefixed, continued}

untrue : (b : Bool) → (b ≡ true → ⊥) → b ≡ false
untrue true h = absurd (h refl)
untrue false h = refl

-- what std's search finds, by the test
lacking : (text : List ℕ) → ((rest : List ℕ) → text ≢ opening ++ rest) → begins text opening ≡ false
lacking text lacks =
    untrue (begins text opening)
    (λ is. lacks _ ((starts_is Decides-eqb text opening (begins text opening) refl).0 is))

pub passes : (passed : ℕ) (text : List ℕ) → pieces_behind passed text ≡ pieces_of (drop passed text)
unfolding pieces_behind
passes zero text = refl
passes (suc passed) [] = refl
passes (suc passed) (byte ∷ text) = passes passed text

pub no_pieces : pieces_of [] ≡ Some []
unfolding pieces_behind
no_pieces = refl

pub at_other : (byte : ℕ) (text : List ℕ) → begins (byte ∷ text) opening ≡ false →
    pieces_of (byte ∷ text) ≡ option_map (onto byte) (pieces_of text)
unfolding pieces_behind
at_other byte text other = rw other refl

followed_is : (behind : List ℕ) (found : Option (List ℕ)) →
    followed found (λ passed. pieces_behind passed (123 ∷ 123 ∷ behind)) ≡ continued
    (option_map (λ inside. (inside, drop (length inside + 2) behind)) found)
followed_is behind None = refl
followed_is behind (Some inside) =
    let count : length inside + 4 ≡ suc (suc (length inside + 2)) = omega arith in
    ap (option_map (λ pieces. Expression inside ∷ pieces))
    (passes (length inside + 4) (123 ∷ 123 ∷ behind)
    ∙ ap (λ n. pieces_of (drop n (123 ∷ 123 ∷ behind))) count)

pub at_opening : (behind : List ℕ) → pieces_of (opening ++ behind) ≡ continued (split_of behind)
unfolding pieces_behind
at_opening behind = followed_is behind (before_closing false behind)

pub onto_literal : (byte : ℕ) (bytes : List ℕ) (inside : List ℕ) (pieces : List Piece) →
    onto byte (literal bytes ++ Expression inside ∷ pieces) ≡ literal (byte ∷ bytes) ++ Expression
    inside ∷ pieces
onto_literal byte [] inside pieces = refl
onto_literal byte (next ∷ bytes) inside pieces = refl

pub onto_rest : (byte : ℕ) (text : List ℕ) → onto byte (literal text) ≡ literal (byte ∷ text)
onto_rest byte [] = refl
onto_rest byte (next ∷ text) = refl

-- ---- literals

neither : (a b : Bool) → (a || b) ≡ false → (a ≡ false) × (b ≡ false)
neither true b e = absurd (false≢true (sym e))
neither false b e = (refl, e)

pub both : (a b : Bool) → a ≡ false → b ≡ false → (a || b) ≡ false
both true b x y = x
both false b x y = y

and_false : (a : Bool) → (a && false) ≡ false
and_false true = refl
and_false false = refl

and_later : (a b : Bool) → b ≡ false → (a && b) ≡ false
and_later a b e = rw e (and_false a)

-- an opening that stands in front of the rest stands in the literal alone
begins_longer : (front more : List ℕ) → begins front opening ≡ true →
    begins (front ++ more) opening ≡ true
begins_longer front more begun =
    let whole = (starts_is Decides-eqb front opening (begins front opening) refl).0 begun in
    (starts_is Decides-eqb (front ++ more) opening (begins (front ++ more) opening) refl).1
    (drop (length opening) front ++ more)
    (ap (λ front. front ++ more) whole ∙ append_assoc opening (drop (length opening) front) more)

pub not_yet : (front more : List ℕ) → begins (front ++ more) opening ≡ false →
    begins front opening ≡ false
not_yet front more other =
    elim (cases_Bool (begins front opening)) [
      | inl begun ↦ absurd (false≢true (sym other ∙ begins_longer front more begun))
      | inr other ↦ other
    ]

-- none begins in a literal and ends behind it
not_across : (byte : ℕ) (front more : List ℕ) → begins (byte ∷ front) opening ≡ false →
    begins (byte ∷ (front ++ (opening ++ more))) opening ≡ false
not_across byte [] more other = and_false _
not_across byte (next ∷ []) more other = and_later _ _ (and_false _)
not_across byte (next ∷ last ∷ front) more other = other

onto_more : (byte : ℕ) (front : List ℕ) (found : Option (List ℕ × List ℕ)) →
    option_map (onto byte) (prefixed (literal front) (continued found)) ≡ prefixed
    (literal (byte ∷ front)) (continued found)
onto_more byte front None = refl
onto_more byte front (Some parts) = more (pieces_of parts.1)
  where
    more : (found : Option (List Piece)) →
        option_map (onto byte)
        (prefixed (literal front) (prefixed (Expression parts.0 ∷ []) found)) ≡ prefixed
        (literal (byte ∷ front)) (prefixed (Expression parts.0 ∷ []) found)
    more None = refl
    more (Some pieces) = ap Some (onto_literal byte front parts.0 pieces)

no_front : (found : Option (List Piece)) → found ≡ prefixed [] found
no_front None = refl
no_front (Some pieces) = refl

pub cut_front : (front more : List ℕ) → IsLiteral front →
    pieces_of (front ++ (opening ++ more)) ≡ prefixed (literal front) (continued (split_of more))
cut_front [] more plain = at_opening more ∙ no_front (continued (split_of more))
cut_front (byte ∷ front) more plain =
    let tests = neither (begins (byte ∷ front) opening) (holds_opening front) plain in
    at_other byte (front ++ (opening ++ more)) (not_across byte front more tests.0)
    ∙ (ap (option_map (onto byte)) (cut_front front more tests.1)
    ∙ onto_more byte front (split_of more))

pub cut_rest : (text : List ℕ) → IsLiteral text → pieces_of text ≡ Some (literal text)
cut_rest [] plain = no_pieces
cut_rest (byte ∷ text) plain =
    let tests = neither (begins (byte ∷ text) opening) (holds_opening text) plain in
    at_other byte text tests.0
    ∙ (ap (option_map (onto byte)) (cut_rest text tests.1) ∙ ap Some (onto_rest byte text))

-- ---- what std's search finds

literal_from : (front more : List ℕ) →
    ((at : ℕ) → at < length front → begins (drop at (front ++ more)) opening ≡ false) →
    IsLiteral front
literal_from [] more none = refl
literal_from (byte ∷ front) more none =
    both (begins (byte ∷ front) opening) (holds_opening front)
    (not_yet (byte ∷ front) more (none 0 (omega arith)))
    (literal_from front more (λ at below. none (suc at) (omega (arith, below))))

none_in : (text : List ℕ) →
    ((at : ℕ) → at ≤ length text → begins (drop at text) opening ≡ false) → IsLiteral text
none_in [] none = refl
none_in (byte ∷ text) none =
    both (begins (byte ∷ text) opening) (holds_opening text) (none 0 (omega arith))
    (none_in text (λ at within. none (suc at) (omega (arith, within))))

pub is_literal : (text : List ℕ) → FindsText opening text None → IsLiteral text
is_literal text finds = none_in text (λ at within. lacking (drop at text) (finds at within))

pub record Parts (text front behind : List ℕ) : Type 0 where
  pub whole : text ≡ front ++ (opening ++ behind)
  pub plain : IsLiteral front
  pub shorter : length behind < length text

pub parts : (text front behind : List ℕ) →
    SplitsAroundMatch (FindsText opening) text front behind → Parts text front behind
parts text front behind (at, until, finds, front_is, behind_is, ordered, size, rest_size) =
    let whole : text ≡ front ++ (opening ++ behind) =
    sym (take-append-drop at text)
    ∙ (ap (λ front. front ++ drop at text) (sym front_is)
    ∙ ap (λ rest. front ++ rest) (finds.1.split ∙ ap (λ rest. opening ++ rest) (sym behind_is))) in
    record {
      whole = whole;
      plain = literal_from front (opening ++ behind) (λ place below.
          ap (λ text. begins (drop place text) opening) (sym whole)
          ∙ lacking (drop place text) (finds.0 place (omega (arith, below, size))));
      shorter = omega (arith, rest_size, finds.1.ends);
    }

-- up to the first `${{` and through its expression
pub through : (text front behind : List ℕ) →
    SplitsAroundMatch (FindsText opening) text front behind →
    pieces_of text ≡ prefixed (literal front) (continued (split_of behind))
through text front behind cut =
    let split = parts text front behind cut in
    ap pieces_of split.whole ∙ cut_front front behind split.plain

without : (text : List ℕ) → FindsText opening text None → pieces_of text ≡ Some (literal text)
without text finds = cut_rest text (is_literal text finds)

-- ---- a turn of the loop, whose invariant is `made`

prefixed_twice : (first next : List Piece) (found : Option (List Piece)) →
    prefixed first (prefixed next found) ≡ prefixed (first ++ next) found
prefixed_twice first next None = refl
prefixed_twice first next (Some pieces) = ap Some (sym (append_assoc first next pieces))

pub from_nothing : (found : Option (List Piece)) (pieces : List Piece) → pieces ≡ [] →
    found ≡ prefixed pieces found
from_nothing None pieces e = refl
from_nothing (Some more) pieces e = ap (λ pieces. Some (pieces ++ more)) (sym e)

pub goes_on : (whole : Option (List Piece)) (made longer longest : List Piece)
    (rest front behind inside after last : List ℕ) →
    SplitsAroundMatch (FindsText opening) rest front behind →
    Some (inside, after) ≡ split_of behind → longer ≡ made ++ literal front →
    longest ≡ longer ++ Expression inside ∷ [] → last ≡ after →
    whole ≡ prefixed made (pieces_of rest) → whole ≡ prefixed longest (pieces_of last)
goes_on whole made longer longest rest front behind inside after last cut parts longer_is longest_is
    last_is whole_is =
    whole_is
    ∙ (ap (prefixed made) (through rest front behind cut
    ∙ ap (λ parts. prefixed (literal front) (continued parts)) (sym parts))
    ∙ (prefixed_twice made (literal front) (prefixed (Expression inside ∷ []) (pieces_of after))
    ∙ (prefixed_twice (made ++ literal front) (Expression inside ∷ []) (pieces_of after)
    ∙ (ap (λ front. prefixed (front ++ Expression inside ∷ []) (pieces_of after)) (sym longer_is)
    ∙ (ap (λ pieces. prefixed pieces (pieces_of after)) (sym longest_is)
    ∙ ap (λ rest. prefixed longest (pieces_of rest)) (sym last_is))))))

pub breaks_off : (whole : Option (List Piece)) (made : List Piece) (rest front behind : List ℕ) →
    SplitsAroundMatch (FindsText opening) rest front behind → None ≡ split_of behind →
    whole ≡ prefixed made (pieces_of rest) → None ≡ whole
breaks_off whole made rest front behind cut parts whole_is =
    sym (whole_is
    ∙ ap (prefixed made) (through rest front behind cut
    ∙ ap (λ parts. prefixed (literal front) (continued parts)) (sym parts)))

pub ends : (whole : Option (List Piece)) (made longer : List Piece) (rest : List ℕ) →
    FindsText opening rest None → longer ≡ made ++ literal rest →
    whole ≡ prefixed made (pieces_of rest) → Some longer ≡ whole
ends whole made longer rest finds longer_is whole_is =
    ap Some longer_is ∙ sym (whole_is ∙ ap (prefixed made) (without rest finds))
