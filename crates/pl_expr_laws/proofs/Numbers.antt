-- Numbers and versions by what is found of their digits.
use Rattle.std.proofs.Common.{◌≡◌, ℕ, Bool, true, false, cond, ◌==◌, List, length, map, ap, ◌∙◌}
use Rattle.std.specs.List.{prefix_len}
use Rattle.std.specs.Char.{is_ascii_digit}
use Rattle.pl_reading.specs.Bytes.{digits_of, number_of}
use Rattle.pl_expr.specs.declared.expr.Expr.{Expr}
use Rattle.pl_expr.specs.declared.fault.ExprCode.TheVariants.{BadChar, Fraction}
use Rattle.pl_expr.specs.Numerals.{skip, signed, runs_of, behind_runs, segments_of}
use Rattle.pl_expr.specs.Grammar.{Read, stop, number_read, version_read, unsigned_at, signed_at}

-- without a sign
unfoldable pub unsigned_by : List ℕ → List (List ℕ) → List ℕ → List ℕ → List ℕ → Read Expr
unsigned_by bytes runs digits rest behind =
    cond (length runs == 1) (number_read bytes rest (signed false (number_of digits)))
    (cond (length runs == 2) (stop Fraction bytes) (version_read bytes behind
    (segments_of (map number_of runs))))

pub unsigned_is :
    (bytes : List ℕ) (runs : List (List ℕ)) (digits rest behind : List ℕ) → runs_of bytes ≡ runs →
    digits_of bytes ≡ digits → skip is_ascii_digit bytes ≡ rest → behind_runs bytes ≡ behind →
    unsigned_at bytes ≡ unsigned_by bytes runs digits rest behind
unfolding unsigned_at unsigned_by
unsigned_is bytes runs digits rest behind e f g h =
    ap (λ all. unsigned_by bytes all (digits_of bytes) (skip is_ascii_digit bytes)
    (behind_runs bytes)) e ∙ (ap (λ xs. unsigned_by bytes runs xs (skip is_ascii_digit bytes)
    (behind_runs bytes)) f ∙ (ap (λ xs. unsigned_by bytes runs digits xs (behind_runs bytes))
    g ∙ ap (unsigned_by bytes runs digits rest) h))

-- behind a minus
unfoldable pub signed_by : List ℕ → List ℕ → Bool → ℕ → List ℕ → List ℕ → Read Expr
signed_by bytes body two count digits rest =
    cond (count == 0) (stop BadChar body) (cond two (stop Fraction bytes) (number_read bytes rest
    (signed true (number_of digits))))

pub signed_is :
    (bytes body : List ℕ) (count : ℕ) (digits rest : List ℕ) →
    prefix_len is_ascii_digit body ≡ count → digits_of body ≡ digits →
    skip is_ascii_digit body ≡ rest →
    signed_at bytes body ≡ signed_by bytes body (length (runs_of body) == 2) count digits rest
unfolding signed_at signed_by
signed_is bytes body count digits rest e f g =
    ap (λ n. signed_by bytes body (length (runs_of body) == 2) n (digits_of body)
    (skip is_ascii_digit body)) e ∙ (ap (λ xs. signed_by bytes body (length (runs_of body) == 2)
    count xs (skip is_ascii_digit body)) f ∙
    ap (signed_by bytes body (length (runs_of body) == 2) count digits) g)
