-- Variables put among others one by one.
use Rattle.std.proofs.Common.{◌≡◌, ◌≢◌, ℕ, suc, ◌+◌, ◌<◌, ◌==◌, false, Option, Some, None, List, []}
use Rattle.std.proofs.Common.{◌∷◌, ◌++◌, length, get_or, take, drop, lit<, map, fold, refl, ap, sym}
use Rattle.std.proofs.Common.{◌∙◌, inl, inr, arith, append_assoc, append-nil}
use Rattle.std.specs.List.{filter_map, cons_option}
use Rattle.std.proofs.lemmas.List.{at_drop_more, take-append-drop}
use Rattle.std.specs.Str.Pattern.{RFindsChar, SplitsAroundMatch}
use Rattle.std.proofs.lemmas.Str.Pattern.{NoCharPasses-char, drop_at_char}
use Rattle.std.proofs.lemmas.Bool.{cases_Bool}
use Rattle.std.proofs.lemmas.Bool.Decides.{nat_tests}
use Rattle.pl_base.specs.declared.value.MarkedNode.{MarkedNode}
use Rattle.pl_base.specs.declared.value.MarkedPair.{MarkedPair}
use Rattle.pl_frame.specs.declared.frame.Variable.{Variable}
use Rattle.pl_frame.specs.Placing.{placed_if}
use Rattle.pl_frame.specs.Variables.{pair_variable, item_variable, placed, last_segment}

pub pairs_next : (pairs : List MarkedPair) (at : ℕ) (pair : MarkedPair)
    (whole old new : List Variable) (later : Variable) →
    at < length pairs → pair ≡ get_or pairs at pair → later ≡ pair_variable pair →
    new ≡ placed old later →
    whole ≡ fold placed old (map pair_variable (drop at pairs)) →
    whole ≡ fold placed new (map pair_variable (drop (at + 1) pairs))
pairs_next pairs at pair whole old new later within item later_is new_is whole_is =
    whole_is
    ∙ (at_drop_more (λ rest. fold placed old (map pair_variable rest)) pairs at pair within
    ∙ (ap (λ pair. fold placed (placed old (pair_variable pair))
    (map pair_variable (drop (at + 1) pairs))) (sym item)
    ∙ (ap (λ later. fold placed (placed old later) (map pair_variable (drop (at + 1) pairs)))
    (sym later_is)
    ∙ ap (λ all. fold placed all (map pair_variable (drop (at + 1) pairs))) (sym new_is))))

one_or_none : (old : List Variable) (found : Option Variable) (rest : List Variable) →
    fold placed old (cons_option found rest) ≡ fold placed (placed_if old found) rest
one_or_none old None rest = refl
one_or_none old (Some later) rest = refl

pub items_next : (items : List MarkedNode) (at : ℕ) (item : MarkedNode)
    (whole old new : List Variable) →
    at < length items → item ≡ get_or items at item → new ≡ placed_if old (item_variable item) →
    whole ≡ fold placed old (filter_map item_variable (drop at items)) →
    whole ≡ fold placed new (filter_map item_variable (drop (at + 1) items))
items_next items at item whole old new within there new_is whole_is =
    whole_is
    ∙ (at_drop_more (λ rest. fold placed old (filter_map item_variable rest)) items at item within
    ∙ (ap (λ item. fold placed old (filter_map item_variable (item ∷ drop (at + 1) items)))
    (sym there)
    ∙ (one_or_none old (item_variable item) (filter_map item_variable (drop (at + 1) items))
    ∙ ap (λ all. fold placed all (filter_map item_variable (drop (at + 1) items))) (sym new_is))))

-- ---- the last segment

slash : (byte : ℕ) → byte ≢ 47 → (byte == 47) ≡ false
slash byte other = grind (arith, nat_tests)

pub whole_segment : (segment text : List ℕ) →
    ((at : ℕ) → at < length text → get_or text at 0 ≢ 47) →
    last_segment segment text ≡ segment ++ text
whole_segment segment [] none = sym (append-nil segment)
whole_segment segment (byte ∷ text) none =
    rw (slash byte (none 0 (omega arith)))
    (whole_segment (segment ++ byte ∷ []) text (λ at within. none (suc at) (omega (arith, within)))
    ∙ append_assoc segment (byte ∷ []) text)

pub behind_slash : (segment front last : List ℕ) →
    last_segment segment (front ++ 47 ∷ last) ≡ last_segment [] last
behind_slash segment [] last = refl
behind_slash segment (byte ∷ front) last =
    elim (cases_Bool (byte == 47)) [
      | inl here ↦ rw here (behind_slash [] front last)
      | inr other ↦ rw other (behind_slash (segment ++ byte ∷ []) front last)
    ]

pub without_slash : (name : List ℕ) → RFindsChar 47 name None → last_segment [] name ≡ name
without_slash name none =
    whole_segment [] name (λ at within. NoCharPasses-char 47 name at none (lit< tt) within)

pub last_of : (name front last : List ℕ) → SplitsAroundMatch (RFindsChar 47) name front last →
    last_segment [] name ≡ last
last_of name front last (at, until, finds, front_is, last_is, ordered, front_length, last_length) =
    let whole : name ≡ take at name ++ (47 ∷ drop until name) =
    sym (take-append-drop at name)
    ∙ ap (λ rest. take at name ++ rest) (drop_at_char 47 name at until finds.1 (lit< tt)) in
    ap (last_segment []) whole
    ∙ (behind_slash [] (take at name) (drop until name)
    ∙ (without_slash (drop until name) finds.0
    ∙ sym last_is))

-- ---- three in turn

pub three : (before one two all : List Variable) (a b c a_is b_is c_is : Variable) →
    one ≡ placed before a → two ≡ placed one b → all ≡ placed two c →
    a ≡ a_is → b ≡ b_is → c ≡ c_is → all ≡ fold placed before (a_is ∷ b_is ∷ c_is ∷ [])
three before one two all a b c a_is b_is c_is first second third x y z =
    third
    ∙ (ap (λ two. placed two c) (second ∙ ap (λ one. placed one b) first)
    ∙ (ap (λ a. placed (placed (placed before a) b) c) x
    ∙ (ap (λ b. placed (placed (placed before a_is) b) c) y
    ∙ ap (placed (placed (placed before a_is) b_is)) z)))
