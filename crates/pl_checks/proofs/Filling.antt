-- Which texts fill a pattern, piece by piece.
use Rattle.std.proofs.Common.{◌≡◌, ◌≢◌, ◌<◌, ◌≤◌, ◌+◌, ◌-◌, ℕ, suc, false, List, [], ◌∷◌, ◌++◌}
use Rattle.std.proofs.Common.{length, get_or, take, drop, refl, sym, ap, ◌∙◌, arith, append_assoc}
use Rattle.std.proofs.Common.{nat_eq}
use Rattle.std.proofs.lemmas.List.{take-append-drop}
use Rattle.std.proofs.Math.Seq.{drop-append_seam, drop-append-add}
use Rattle.std.proofs.lemmas.Bool.Decides.{nat_tests}
use Rattle.pl_checks.specs.Patterns.{filled, Matches, MatchesEnd}

-- a text without a star
abbrev pub IsPlain : List ℕ → Type 0
IsPlain text = (i : ℕ) → i < length text → get_or text i 0 ≢ 42

plain_head : (byte : ℕ) (text : List ℕ) → IsPlain (byte ∷ text) → nat_eq byte 42 ≡ false
plain_head byte text plain =
    let other : byte ≢ 42 = plain 0 (omega arith) in grind (arith, nat_tests)

plain_tail : (byte : ℕ) (text : List ℕ) → IsPlain (byte ∷ text) → IsPlain text
plain_tail byte text plain i below = plain (suc i) (omega arith)

-- a piece without a star is filled as it stands
pub plain_filled : (piece : List ℕ) (texts : List (List ℕ)) → IsPlain piece →
    filled piece texts ≡ piece
plain_filled [] texts plain = refl
plain_filled (byte ∷ piece) [] plain =
    rw (plain_head byte piece plain) (ap (λ rest. byte ∷ rest) (plain_filled piece [] (plain_tail
    byte piece plain)))
plain_filled (byte ∷ piece) (text ∷ texts) plain =
    rw (plain_head byte piece plain) (ap (λ rest. byte ∷ rest) (plain_filled piece (text ∷ texts)
    (plain_tail byte piece plain)))

-- a star behind a piece is filled by the next text
star_filled : (piece rest text : List ℕ) (texts : List (List ℕ)) → IsPlain piece →
    filled (piece ++ 42 ∷ rest) (text ∷ texts) ≡ piece ++ (text ++ filled rest texts)
star_filled [] rest text texts plain = refl
star_filled (byte ∷ piece) rest text texts plain =
    rw (plain_head byte piece plain) (ap (λ rest. byte ∷ rest) (star_filled piece rest text texts
    (plain_tail byte piece plain)))

star_unfilled : (piece rest : List ℕ) → IsPlain piece →
    filled (piece ++ 42 ∷ rest) [] ≡ piece ++ filled rest []
star_unfilled [] rest plain = refl
star_unfilled (byte ∷ piece) rest plain =
    rw (plain_head byte piece plain) (ap (λ rest. byte ∷ rest) (star_unfilled piece rest
    (plain_tail byte piece plain)))

-- a pattern without a star matches itself alone
pub plain_matches : (pattern text : List ℕ) → IsPlain pattern → Matches pattern text →
    text ≡ pattern
plain_matches pattern text plain (texts, is) = is ∙ plain_filled pattern texts plain

pub matches_plain : (pattern text : List ℕ) → IsPlain pattern → text ≡ pattern →
    Matches pattern text
matches_plain pattern text plain is = ([], is ∙ sym (plain_filled pattern [] plain))

-- what a pattern matches begins with the piece before its first star, and ends with what the rest
-- matches
pub star_matches : (piece rest text : List ℕ) → IsPlain piece → Matches (piece ++ 42 ∷ rest) text →
    (after : List ℕ) × (text ≡ piece ++ after) × MatchesEnd rest after
star_matches piece rest text plain ([], is) =
    (filled rest [], is ∙ star_unfilled piece rest plain, ([], filled rest [], refl, ([], refl)))
star_matches piece rest text plain (next ∷ texts, is) = (
  next ++ filled rest texts,
  is
      ∙ star_filled piece rest next texts plain,
  (next, filled rest texts, refl, (texts, refl)),
)

pub matches_star : (piece rest text after : List ℕ) → IsPlain piece → text ≡ piece ++ after →
    MatchesEnd rest after →
    Matches (piece ++ 42 ∷ rest) text
matches_star piece rest text after plain is (front, end, whole, (texts, fills)) = (
  front ∷ texts,
  is ∙ ap (λ a. piece ++ a) (whole ∙ ap (λ e. front ++ e) fills)
      ∙ sym (star_filled piece rest front texts plain),
)

-- what matches the end of a text matches the end of a longer one
pub longer : (pattern front text whole : List ℕ) → whole ≡ front ++ text →
    MatchesEnd pattern text → MatchesEnd pattern whole
longer pattern front text whole is (before, end, cut, matches) = (
  front ++ before,
  end,
  is ∙ ap (λ t. front ++ t) cut
      ∙ sym (append_assoc front before end),
  matches,
)

-- of two places of a piece the first leaves the longer rest
first_leaves : (f g piece a b : List ℕ) → f ++ (piece ++ a) ≡ g ++ (piece ++ b) →
    length f ≤ length g →
    (x : List ℕ) × (a ≡ x ++ b)
first_leaves f g piece a b same before =
    let k = length g - length f in
    let far : length g + length piece ≡ length f + (length piece + k) = omega arith in
    let right = drop-append-add g (piece ++ b) (length piece) ∙ drop-append_seam piece b in
    let left = drop-append-add f (piece ++ a) (length piece + k) ∙ drop-append-add piece a k in
    let rest : drop k a ≡ b = sym left ∙ ap (λ n. drop n (f ++ (piece ++ a))) (sym far)
    ∙ ap (drop (length g + length piece)) same ∙ right in
    (take k a, sym (take-append-drop k a) ∙ ap (λ r. take k a ++ r) rest)

-- a pattern without a star matches the end of what ends with it
pub plain_end : (pattern text : List ℕ) → IsPlain pattern → MatchesEnd pattern text →
    (front : List ℕ) × (text ≡ front ++ pattern)
plain_end pattern text plain (front, rest, is, matches) =
    (front, is ∙ ap (λ r. front ++ r) (plain_matches pattern rest plain matches))

pub end_plain : (pattern text front : List ℕ) → IsPlain pattern → text ≡ front ++ pattern →
    MatchesEnd pattern text
end_plain pattern text front plain is = (
  front,
  pattern,
  is,
  matches_plain pattern pattern plain
      refl,
)

-- what ends as a pattern with a star says has the piece before the star
pub star_end : (piece rest text : List ℕ) → IsPlain piece → MatchesEnd (piece ++ 42 ∷ rest) text →
    (front after : List ℕ) × (text ≡ front ++ (piece ++ after)) × MatchesEnd rest after
star_end piece rest text plain (front, end, is, matches) =
    let m = star_matches piece rest end plain matches in
    (front, m.0, is ∙ ap (λ e. front ++ e) m.1, m.2)

-- at the first place of the piece nothing is lost
pub first_end : (piece rest text front after : List ℕ) → IsPlain piece →
    text ≡ front ++ (piece ++ after) →
    ((other more : List ℕ) → text ≡ other ++ (piece ++ more) → length front ≤ length other) →
    MatchesEnd (piece ++ 42 ∷ rest) text → MatchesEnd rest after
first_end piece rest text front after plain is first matches =
    let m = star_end piece rest text plain matches in
    let x = first_leaves front m.0 piece after m.1 (sym is ∙ m.2) (first m.0 m.1 m.2) in
    longer rest x.0 m.1 after x.1 m.3

pub end_first : (piece rest text front after : List ℕ) → IsPlain piece →
    text ≡ front ++ (piece ++ after) →
    MatchesEnd rest after → MatchesEnd (piece ++ 42 ∷ rest) text
end_first piece rest text front after plain is matches =
    (front, piece ++ after, is, matches_star piece rest (piece ++ after) after plain refl matches)
