-- Texts before they are read.
use Rattle.std.proofs.Common.{◌≡◌, ℕ, ◌<◌, ◌≤◌, true, false, not, cond, List, [], ◌∷◌, Result}
use Rattle.std.proofs.Common.{length, sym, ap, subst, ◌∙◌, inl, inr, arith}
use Rattle.std.specs.Prelude.{nat_lt, ◌==◌, chars, encode_utf8_all}
use Rattle.std.specs.Str.{IsUtf8, is_utf8}
use Rattle.std.proofs.lemmas.Bool.{cases_Bool}
use Rattle.std.proofs.lemmas.Bool.Decides.{nat_tests}
use Rattle.std.proofs.lemmas.Str.{IsUtf8-from_is_utf8, is_utf8-from_IsUtf8, length-le-encodes}
use Rattle.std.proofs.lemmas.Str.{encodes-chars}
use Rattle.pl_base.specs.declared.place.FileKey.{FileKey}
use Rattle.pl_base.specs.declared.node.Node.{Node}
use Rattle.pl_base.specs.declared.place.Place.{Place}
use Rattle.pl_line.specs.declared.code.YamlCode.{YamlCode}
use Rattle.pl_line.specs.declared.code.YamlCode.TheVariants as codes_of
use Rattle.pl_yaml.specs.declared.fault.YamlFault.{YamlFault}
use Rattle.pl_line.specs.Rows.{rows_of, without_mark}
use Rattle.pl_yaml.specs.Spells.{spells, refused, placed, document}
use Rattle.pl_yaml.specs.Answers.{Answers}

mark_less : (cs : List ℕ) → length (without_mark cs) ≤ length cs
mark_less [] = omega arith
mark_less (c ∷ cs) = elim (c == 0xfeff) as (λ b. length (cond b cs (c ∷ cs)) ≤ length (c ∷ cs))
    [ true ↦ omega arith | false ↦ omega arith ]

-- no more characters than bytes
pub few_characters :
    (text : List ℕ) → IsUtf8 text → length (without_mark (chars text)) ≤ length text
few_characters text utf8 =
    let all : length (encode_utf8_all (chars text)) ≡ length text =
    ap length (encodes-chars text utf8) in
    omega (arith, mark_less (chars text), length-le-encodes (chars text), all)

large_test : (n : ℕ) → 262144 < n → nat_lt 262144 n ≡ true
large_test n large = grind (arith, nat_tests)

small_test : (n : ℕ) → n ≤ 262144 → nat_lt 262144 n ≡ false
small_test n small = grind (arith, nat_tests)

pub large_spells :
    (file : FileKey) (text : List ℕ) → 262144 < length text →
    spells file text ≡ refused file codes_of.TooLarge 1 1
unfolding spells
large_spells file text large =
    ap (λ b. cond b (refused file codes_of.TooLarge 1 1)
    (cond (not (is_utf8 text)) (refused file codes_of.NotUtf8 1 1)
    (placed file (document file (rows_of (chars text))))))
    (large_test (length text) large)

no_text : (text : List ℕ) → ¬ (IsUtf8 text) → is_utf8 text ≡ false
no_text text other = elim (cases_Bool (is_utf8 text))
    [ inl yes_utf8 ↦ absurd (other (IsUtf8-from_is_utf8 text yes_utf8)) | inr no_utf8 ↦ no_utf8 ]

pub other_spells :
    (file : FileKey) (text : List ℕ) → length text ≤ 262144 → ¬ (IsUtf8 text) →
    spells file text ≡ refused file codes_of.NotUtf8 1 1
unfolding spells
other_spells file text small other =
    ap (λ b. cond b (refused file codes_of.TooLarge 1 1)
    (cond (not (is_utf8 text)) (refused file codes_of.NotUtf8 1 1)
    (placed file (document file (rows_of (chars text))))))
    (small_test (length text) small)
    ∙ ap (λ b. cond (not b) (refused file codes_of.NotUtf8 1 1)
    (placed file (document file (rows_of (chars text))))) (no_text text other)

pub whole_spells :
    (file : FileKey) (text same : List ℕ) → length text ≤ 262144 → (same ≡ text) × IsUtf8 text →
    spells file text ≡ placed file (document file (rows_of (chars same)))
unfolding spells
whole_spells file text same small utf8 =
    ap (λ b. cond b (refused file codes_of.TooLarge 1 1)
    (cond (not (is_utf8 text)) (refused file codes_of.NotUtf8 1 1)
    (placed file (document file (rows_of (chars text))))))
    (small_test (length text) small)
    ∙ ap (λ b. cond (not b) (refused file codes_of.NotUtf8 1 1)
    (placed file (document file (rows_of (chars text))))) (is_utf8-from_IsUtf8 text utf8.1)
    ∙ ap (λ t. placed file (document file (rows_of (chars t)))) (sym utf8.0)

pub answers_along :
    (result : Result Node YamlFault) (spelled same : Result Node (YamlCode × Place)) →
    spelled ≡ same → Answers result same → Answers result spelled
answers_along result spelled same is answers =
    subst (λ (s : Result Node (YamlCode × Place)). Answers result s) (sym is) answers
