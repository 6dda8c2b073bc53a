-- A text without a `$` holds no expression.
use Rattle.std.proofs.Common.{◌≡◌, ℕ, Bool, false, ◌==◌, List, [], ◌∷◌, take, refl, sym}
use Rattle.std.proofs.lemmas.Bool.{or_parts, or_from, and_left, eqb-true, eqb-false}
use Rattle.std.proofs.lemmas.Bool.{false_from_ne_true}
use Rattle.std.specs.Cmp.Lexicographic.{pointwise}
use Rattle.std.specs.List.{list_any}
use Rattle.std.specs.Prelude.{nat_eq}
use Rattle.pl_texts.specs.Matching.{begins, holds}
use Rattle.pl_template.specs.declared.forms.ScalarForm.TheVariants.{Plain}
use Rattle.pl_template.specs.Cutting.{opening, holds_opening}
use Rattle.pl_template.specs.Forms.{form_of}

abbrev has_dollar : List ℕ → Bool
has_dollar text = list_any (λ byte. byte == 36) text

pub unheld : (text : List ℕ) → has_dollar text ≡ false → false ≡ holds_opening text
unheld [] none = refl
unheld (byte ∷ text) none =
    let parts = or_parts (byte == 36) (has_dollar text) none in
    let first : nat_eq 36 byte ≡ false =
    false_from_ne_true (nat_eq 36 byte)
    (λ is. eqb-false byte 36 parts.0 (sym (eqb-true 36 byte is))) in
    sym (or_from (begins (byte ∷ text) opening) (holds text opening)
    (and_left (nat_eq 36 byte) (pointwise nat_eq (123 ∷ 123 ∷ []) (take 2 text)) first)
    (sym (unheld text parts.1)))

pub plain_without : (text : List ℕ) → has_dollar text ≡ false → Plain ≡ form_of text
plain_without text none = rw (sym (unheld text none)) refl
