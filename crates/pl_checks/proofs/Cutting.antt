-- What std's searches in texts say of patterns.
use Rattle.std.proofs.Common.{◌≡◌, ◌≤◌, ◌↔◌, ℕ, Bool, true, false, Some, None, Bor, List, ◌++◌}
use Rattle.std.proofs.Common.{length, take, drop, refl, sym, ap, ◌∙◌, subst, arith, ⊎_elim, lit<}
use Rattle.std.specs.Bool.{IsTrue, MatchBool}
use Rattle.std.specs.Str.Pattern.{FindsText, FindsTextPrefix, FindsTextSuffix, HasSuffixMatch}
use Rattle.std.specs.Str.Pattern.{SplitsAroundMatch, StripsPrefix}
use Rattle.std.proofs.lemmas.Bool.{cases_lt, false≢true}
use Rattle.std.proofs.lemmas.List.{append_cancel_left, take-append-drop}
use Rattle.std.proofs.lemmas.Str.Pattern.{split_parts, split_text_parts, IsSplitOnceResult}
use Rattle.std.proofs.Math.Seq.{drop-append_seam}
use Rattle.pl_checks.specs.Patterns.{Matches, MatchesEnd}
use Rattle.pl_checks.proofs.Filling.{IsPlain, star_matches, matches_star, star_end, first_end}
use Rattle.pl_checks.proofs.Filling.{end_first, plain_end, end_plain}

-- a text that is cut at the first place of a piece
pub found : (piece text : List ℕ) (x : Bor (List ℕ) × Bor (List ℕ)) →
    SplitsAroundMatch (FindsText piece) text x.0.now x.1.now →
    (text ≡ x.0.now ++ (piece ++ x.1.now)) ×
    ((other more : List ℕ) → text ≡ other ++ (piece ++ more) → length x.0.now ≤ length other)
found piece text x (i, j, (before, here), front, back, order, width, rest) = (
  sym (take-append-drop i text) ∙ ap (λ t. take i text ++ t) here.split
      ∙ ap (λ f. f ++ (piece ++ drop j text)) (sym front)
      ∙ ap (λ b. x.0.now ++ (piece ++ b)) (sym back),
  λ other more is. ⊎_elim
      (λ sooner. absurd (before (length other) (omega arith) more (ap (drop (length other)) is
      ∙ drop-append_seam other (piece ++ more))))
      (λ later. omega arith) (cases_lt (length other) i),
)

-- a step of the search: behind the first place of the piece before a star the rest is sought
pub step : (pattern text : List ℕ) (cut at : Bor (List ℕ) × Bor (List ℕ)) →
    IsSplitOnceResult 42 pattern (Some cut) →
    SplitsAroundMatch (FindsText cut.0.now) text at.0.now at.1.now →
    MatchesEnd pattern text ↔ MatchesEnd cut.1.now at.1.now
step pattern text cut at cuts finds =
    let parts = split_parts 42 pattern (Some cut) cuts (lit< tt) in
    let place = found cut.0.now text at finds in (
      λ m. first_end cut.0.now cut.1.now text at.0.now at.1.now parts.1 place.0 place.1
          (subst (λ p. MatchesEnd p text) parts.0 m),
      λ m. subst (λ p. MatchesEnd p text) (sym parts.0) (end_first cut.0.now cut.1.now text
          at.0.now at.1.now parts.1 place.0 m),
    )

-- where the piece isn't found, nothing matches
pub lost : (pattern text : List ℕ) (cut : Bor (List ℕ) × Bor (List ℕ)) →
    IsSplitOnceResult 42 pattern (Some cut) →
    FindsText cut.0.now text None → MatchesEnd pattern text → ⊥
lost pattern text cut cuts none m =
    let parts = split_parts 42 pattern (Some cut) cuts (lit< tt) in
    let e = star_end cut.0.now cut.1.now text parts.1 (subst (λ p. MatchesEnd p text) parts.0 m) in
    split_text_parts cut.0.now text None none e.0 e.1 e.2

-- without a star the text has to end with the pattern
pub ending : (r : Bool) (pattern text : List ℕ) → IsPlain pattern →
    MatchBool r (HasSuffixMatch (FindsTextSuffix pattern) text) (FindsTextSuffix pattern text
    None) →
    (r ≡ true) ↔ MatchesEnd pattern text
ending true pattern text plain (n, (size, is, cut), within, rest) = (
  λ _. end_plain pattern text
      _ plain is,
  λ _. refl,
)
ending false pattern text plain none = (
  λ h. absurd (false≢true h),
  λ m. let e = plain_end
      pattern text plain m in absurd (none e.0 e.1),
)

-- a text that begins with the piece before the first star matches where the rest matches its end
pub begun : (pattern text : List ℕ) (cut : Bor (List ℕ) × Bor (List ℕ)) (after : List ℕ) →
    IsSplitOnceResult 42 pattern (Some cut) →
    StripsPrefix (FindsTextPrefix cut.0.now) text after →
    Matches pattern text ↔ MatchesEnd cut.1.now after
begun pattern text cut after cuts (n, (size, is, edge), rest, width) =
    let parts = split_parts 42 pattern (Some cut) cuts (lit< tt) in
    let whole : text ≡ cut.0.now ++ after = is ∙ ap (λ r. cut.0.now ++ r) (sym rest) in (
      λ m. let s = star_matches cut.0.now cut.1.now text parts.1 (subst (λ p. Matches p text)
          parts.0 m) in
          subst (MatchesEnd cut.1.now) (append_cancel_left cut.0.now s.0 after (sym s.1
          ∙ whole)) s.2,
      λ m. subst (λ p. Matches p text) (sym parts.0) (matches_star cut.0.now cut.1.now text after
          parts.1 whole m),
    )

-- a text that begins otherwise matches nothing
pub not_begun : (pattern text : List ℕ) (cut : Bor (List ℕ) × Bor (List ℕ)) →
    IsSplitOnceResult 42 pattern (Some cut) →
    FindsTextPrefix cut.0.now text None → Matches pattern text → ⊥
not_begun pattern text cut cuts none m =
    let parts = split_parts 42 pattern (Some cut) cuts (lit< tt) in
    let s = star_matches cut.0.now cut.1.now text parts.1 (subst (λ p. Matches p text) parts.0 m) in
    none s.0 s.1

-- an answer about a pattern and a text holds of their equals
pub carried : (X : Type 0) (r : Bool) (pattern text wanted given : List ℕ) → pattern ≡ wanted →
    text ≡ given →
    Matches pattern text ↔ X → IsTrue r ↔ X → IsTrue r ↔ Matches wanted given
carried X r pattern text wanted given is same matches answer =
    let P : List ℕ → Type 0 = λ p. Matches p text in
    let Q : List ℕ → Type 0 = λ t. Matches wanted t in (
      λ h. subst Q same (subst P is (matches.1 (answer.0 h))),
      λ m. answer.1 (matches.0 (subst P (sym is) (subst Q (sym same) m))),
    )
