-- Lines that begin with no blank, and lines of which nothing is left.
use Rattle.std.proofs.Common.{◌≡◌, ℕ, ◌+◌, false, ◌==◌, ◌&&◌, ◌||◌, not, cond, [], ◌∷◌, length}
use Rattle.std.proofs.Common.{drop, sym, ap, ◌∙◌, arith}
use Rattle.std.specs.List.{position_or_len}
use Rattle.std.proofs.lemmas.Bool.Decides.{nat_tests}
use Rattle.pl_line.specs.Rows.{Row}
use Rattle.pl_reading.specs.Bytes.{is_blank, begins_with}
use Rattle.pl_line.specs.Left.{behind, is_bare, is_comment, is_empty}

module _ (row : Row) (c : ℕ) (first : row.text ≡ c ∷ drop 1 row.text) (other : is_blank c ≡ false)
  where
    same_text : (behind 0 row).text ≡ row.text
    unfolding behind
    same_text =
        let none : position_or_len (λ x. not (is_blank x)) row.text ≡ 0 =
        ap (position_or_len (λ x. not (is_blank x))) first ∙
        ap (λ b. cond (not (not b)) (1 + position_or_len (λ x. not (is_blank x))
        (drop 1 row.text)) 0) other
        in
        let at : 0 + position_or_len (λ x. not (is_blank x)) row.text ≡ 0 = omega (arith, none) in
        ap (λ n. drop n row.text) at

    pub not_bare : false ≡ is_bare row
    not_bare =
        let some : (length (c ∷ drop 1 row.text) == 0) ≡ false = grind (arith, nat_tests) in
        sym (ap (λ t. length t == 0 && row.whole) (same_text ∙ first) ∙ ap (λ b. b && row.whole) some)

    pub comment_at : (c == 35) ≡ is_comment row
    comment_at = sym (ap (begins_with 35) (same_text ∙ first))

    pub empty_at : (c == 35) ≡ is_empty row
    empty_at = comment_at ∙ ap (λ b. b || is_comment row) not_bare

-- where nothing is left of a line, it is bare if that is its end
pub bare_end : (row : Row) → row.text ≡ [] → row.whole ≡ is_bare row
unfolding behind
bare_end row none =
    sym (ap (λ t. length (drop (0 + position_or_len (λ x. not (is_blank x)) (drop 0 t)) t) == 0 &&
    row.whole) none)
