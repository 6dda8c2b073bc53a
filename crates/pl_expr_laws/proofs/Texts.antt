-- Texts that are the same up to a place and the byte there: primaries, tails and whole expressions.
use Rattle.std.proofs.Common.{◌≡◌, ℕ, zero, suc, ◌<◌, ◌≤◌, ◌⊎◌, inl, inr, Bool, true, false, cond}
use Rattle.std.proofs.Common.{◌&&◌, ◌||◌, ◌==◌, nat_le, nat_lt, not, Option, Some, None, Ok, Err}
use Rattle.std.proofs.Common.{List, [], ◌∷◌, length, drop, refl, ap, sym, subst, ◌∙◌, arith}
use Rattle.std.specs.Char.{is_ascii_digit}
use Rattle.std.proofs.lemmas.List.{length-drop}
use Rattle.std.proofs.lemmas.Bool.Decides.{nat_tests}
use Rattle.pl_reading.specs.Bytes.{begins_with}
use Rattle.pl_base.specs.declared.value.Value.{Str}
use Rattle.pl_expr.specs.declared.expr.Expr.{Expr}
use Rattle.pl_expr.specs.declared.expr.Expr.TheVariants.{Lit, Index, Project}
use Rattle.pl_expr.specs.declared.expr.Function.{Function}
use Rattle.pl_expr.specs.declared.expr.Mode.{Mode}
use Rattle.pl_expr.specs.declared.fault.ExprCode.TheVariants.{BadChar, UnclosedString}
use Rattle.pl_expr.specs.declared.fault.ExprCode.TheVariants.{UnknownFunction, TooDeep, Fraction}
use Rattle.pl_expr.specs.declared.scan.Front.{Front}
use Rattle.pl_expr.specs.declared.scan.Front.TheVariants as fronts
use Rattle.pl_expr.specs.Numerals.{is_blank, skip, goes_on}
use Rattle.pl_expr.specs.Trees.{depth_of, is_projection}
use Rattle.pl_expr.specs.Functions.{named}
use Rattle.pl_expr.specs.Grammar.{Fault, Read, stop, begins_name, is_name_byte, is_word, word_of}
use Rattle.pl_expr.specs.Grammar.{behind_word, unquoted, string_read, signed_at, called, word_at}
use Rattle.pl_expr.specs.Grammar.{front_of, primary_by, primary_at, names_at, index_at, member_at}
use Rattle.pl_expr.specs.Grammar.{tail_at, begins_tail, begins_member, deep_fault, tails_at}
use Rattle.pl_expr.specs.Grammar.{expression_at, text_at, inner_of}
use Rattle.pl_expr.proofs.Again.{room_test}
use Rattle.pl_expr.proofs.Reading.{tails_deep, tails_end, tails_goes, text_is}
use Rattle.pl_expr.proofs.Sound.{primary_none}
use Rattle.pl_expr_laws.proofs.Within.{AllWithin, within_if, string_within, signed_within}
use Rattle.pl_expr_laws.proofs.Within.{tail_within, names_short, Opens, opens_short, deep_within}
use Rattle.pl_expr_laws.proofs.Within.{tails_within, expression_within, text_within}
use Rattle.pl_expr_laws.proofs.Deeper.{lone_dot, tails_last}
use Rattle.pl_expr_laws.proofs.Places.{Place, one, two, word_same, Skips, SkipsTo, Names}
use Rattle.pl_expr_laws.proofs.Places.{same_names, past_names, dot_names, names_place}
use Rattle.pl_expr_laws.proofs.Alike.{Alike, same, past, failed, Nearly, alike, opens, Inner}
use Rattle.pl_expr_laws.proofs.Alike.{alike_bind, nearly_bind, alike_if, nearly_if, refused}
use Rattle.pl_expr_laws.proofs.Alike.{dropped, string_alike, signed_alike, unsigned_nearly}
use Rattle.pl_expr_laws.proofs.Alike.{word_nearly, blanks_open, dot_opens, place, starts}

-- what a primary begins with, by the tests of its first bytes
abbrev begins : Bool → Bool → Bool → Bool → Front
begins quote name digit dot = cond quote fronts.Quote (cond name fronts.Word
    (cond digit fronts.Digits (cond dot fronts.Fraction fronts.Nothing)))

module _ (at : Place) where
  abbrev ours : List ℕ → List ℕ
  ours = one at

  abbrev theirs : List ℕ → List ℕ
  theirs = two at

  -- ---- primaries

  -- What a primary begins with is the same, or there is none here.
  front_place :
      (front : List ℕ) →
      (front_of (ours front) ≡ front_of (theirs front)) ⊎
      ((front_of (ours front) ≡ fronts.Nothing) ⊎ (front_of (ours front) ≡ fronts.Fraction))
  unfolding front_of
  front_place [] = by (at.byte == 39) (begins_name at.byte)
      (is_ascii_digit at.byte || (at.byte == 45)) (goes_on (at.byte ∷ at.here))
      (goes_on (at.byte ∷ at.there))
    where
      by :
          (quote name digit dot again : Bool) →
          (begins quote name digit dot ≡ begins quote name digit again) ⊎
          ((begins quote name digit dot ≡ fronts.Nothing) ⊎
          (begins quote name digit dot ≡ fronts.Fraction))
      by true name digit dot again = inl refl
      by false true digit dot again = inl refl
      by false false true dot again = inl refl
      by false false false true again = inr (inr refl)
      by false false false false again = inr (inl refl)
  front_place (x ∷ []) = inl refl
  front_place (x ∷ z ∷ front) = inl refl

  -- where nothing begins a primary here, nothing does there
  nothing_fails :
      (mode : Mode) (room : Bool) (deeper : List ℕ → Read Expr) (front : List ℕ) →
      front_of (ours front) ≡ fronts.Nothing →
      (fault : Fault) × (primary_at mode room deeper (theirs front) ≡ Err fault)
  unfolding primary_at front_of
  nothing_fails mode room deeper [] e = by (at.byte == 39) (begins_name at.byte)
      (is_ascii_digit at.byte || (at.byte == 45)) (goes_on (at.byte ∷ at.here))
      (goes_on (at.byte ∷ at.there)) e
    where
      by :
          (quote name digit dot again : Bool) → begins quote name digit dot ≡ fronts.Nothing →
          (fault : Fault) × (primary_by mode room deeper (at.byte ∷ at.there) (begins quote name
          digit again) ≡ Err fault)
      by true name digit dot again e = absurd (cc (e))
      by false true digit dot again e = absurd (cc (e))
      by false false true dot again e = absurd (cc (e))
      by false false false true again e = absurd (cc (e))
      by false false false false true e = ((Fraction, length (at.byte ∷ at.there)), refl)
      by false false false false false e = ((BadChar, length (at.byte ∷ at.there)), refl)
  nothing_fails mode room deeper (x ∷ []) e = (
    (BadChar, length (theirs (x ∷ []))),
    ap
        (primary_by mode room deeper (theirs (x ∷ []))) e,
  )
  nothing_fails mode room deeper (x ∷ z ∷ front) e = (
    (BadChar, length (theirs (x ∷ z ∷ front))),
    ap
        (primary_by mode room deeper (theirs (x ∷ z ∷ front))) e,
  )

  primary_nearly :
      (mode : Mode) (inner deeper : List ℕ → Read Expr) → Inner at inner deeper → (front : List ℕ) →
      Nearly at (primary_at mode true inner (ours front)) (primary_at mode true deeper
      (theirs front))
  unfolding primary_at
  primary_nearly mode inner deeper both front = by (front_of (ours front)) refl (front_place front)
    where
      quote :
          (front : List ℕ) →
          Alike at (string_read (ours front) true (unquoted (drop 1 (ours front))))
          (string_read (theirs front) true (unquoted (drop 1 (theirs front))))
      quote [] = past _ _ (string_within (length at.here) (at.byte ∷ at.here) true (omega arith))
      quote (x ∷ front) = string_alike at (ours (x ∷ front)) (theirs (x ∷ front)) front

      minus :
          (front : List ℕ) →
          Alike at (signed_at (ours front) (drop 1 (ours front))) (signed_at (theirs front)
          (drop 1 (theirs front)))
      minus [] = past _ _ (signed_within (length at.here) (at.byte ∷ at.here) at.here (omega arith))
      minus (x ∷ front) = signed_alike at (ours (x ∷ front)) (theirs (x ∷ front)) front

      by :
          (begins : Front) → front_of (ours front) ≡ begins →
          (front_of (ours front) ≡ front_of (theirs front)) ⊎
          ((front_of (ours front) ≡ fronts.Nothing) ⊎
          (front_of (ours front) ≡ fronts.Fraction)) →
          Nearly at (primary_by mode true inner (ours front) (front_of (ours front)))
          (primary_by mode true deeper (theirs front) (front_of (theirs front)))
      by fronts.Fraction e found = alike _ _ (rw e (refused at Fraction (ours front) _ refl))
      by fronts.Nothing e found = let fails = nothing_fails mode true deeper front e in
          alike _ _ (rw fails.1 (failed _ fails.0))
      by fronts.Quote e (inl equal) = alike _ _ (rw (sym equal, e) (quote front))
      by fronts.Word e (inl equal) = rw (sym equal, e) (word_nearly at mode inner deeper both front)
      by fronts.Digits e (inl equal) = rw (sym equal, e) (nearly_if at (begins_with 45 (ours front))
          (begins_with 45 (theirs front)) (starts at 45 front) (alike _ _ (minus front))
          (unsigned_nearly at front))
      by kind e (inr (inl nothing)) = let fails = nothing_fails mode true deeper front nothing in
          alike _ _ (rw fails.1 (failed _ fails.0))
      by kind e (inr (inr fraction)) = alike _ _ (rw fraction (refused at Fraction (ours front) _
          refl))

  -- where no leaf may stand
  shallow_alike :
      (mode : Mode) (room : Bool) (inner deeper : List ℕ → Read Expr) (front : List ℕ) →
      Alike at (primary_at mode false inner (ours front)) (primary_at mode room deeper
      (theirs front))
  unfolding primary_at word_at
  shallow_alike mode room inner deeper front = by (front_of (ours front)) refl
    where
      quote :
          (second : Read Expr) (found : Option (List ℕ × List ℕ)) →
          Alike at (string_read (ours front) false found) second
      quote second None = refused at UnclosedString (ours front) second refl
      quote second (Some read) = refused at TooDeep (ours front) second refl

      call :
          (second : Read Expr) (rest : List ℕ) (found : Option Function) →
          Alike at (called inner (ours front) false rest found) second
      call second rest None = refused at UnknownFunction (ours front) second refl
      call second rest (Some function) = refused at TooDeep (ours front) second refl

      word :
          (second : Read Expr) (b : Bool) (rest : List ℕ) (found : Option Function) →
          Alike at (cond b (called inner (ours front) false rest found) (stop TooDeep (ours front)))
          second
      word second true rest found = call second rest found
      word second false rest found = refused at TooDeep (ours front) second refl

      by :
          (begins : Front) → front_of (ours front) ≡ begins →
          Alike at (primary_by mode false inner (ours front) (front_of (ours front)))
          (primary_by mode room deeper (theirs front) (front_of (theirs front)))
      by fronts.Quote e = rw e (quote _ (unquoted (drop 1 (ours front))))
      by fronts.Word e = rw e (word _ (begins_with 40 (skip is_blank (behind_word (ours front))))
          (drop 1 (skip is_blank (behind_word (ours front)))) (named mode (word_of (ours front))))
      by fronts.Digits e = rw e (refused at TooDeep (ours front) _ refl)
      by fronts.Fraction e = rw e (refused at Fraction (ours front) _ refl)
      by fronts.Nothing e = let fails = nothing_fails mode room deeper front e in
          rw fails.1 (failed _ fails.0)

  -- ---- tails

  index_alike :
      (inner deeper : List ℕ → Read Expr) → Inner at inner deeper → (tree : Expr) (front : List ℕ) →
      Alike at (index_at inner tree (ours front)) (index_at deeper tree (theirs front))
  unfolding index_at
  index_alike inner deeper both tree front =
      alike_bind at (inner (ours front)) (deeper (theirs front)) _ _ (both.reads front)
      (λ index left e. alike_if at (begins_with 93 (ours left)) (begins_with 93 (theirs left))
      (starts at 93 left) (dropped at (Index tree index) left)
      (failed _ (BadChar, length (theirs left)))) (λ index left short. within_if
      (length at.here) (begins_with 93 left) _ _ (λ bracket. omega (
        arith,
        short,
        length-drop 1
            left,
      )) (λ stray told. short))

  member_nearly :
      (tree : Expr) (front : List ℕ) →
      Nearly at (member_at tree (ours front)) (member_at tree (theirs front))
  unfolding member_at
  member_nearly tree front =
      nearly_if at (begins_with 42 (ours front)) (begins_with 42 (theirs front))
      (starts at 42 front) (star front) (alike _ _ (alike_if at (is_word (ours front))
      (is_word (theirs front)) (word_same at front) (word (place at is_name_byte front))
      (failed _ (BadChar, length (theirs front)))))
    where
      named_so :
          (first second : List (List ℕ) × List ℕ) → Names at first second →
          Nearly at (Ok (Project tree first.0, first.1)) (Ok (Project tree second.0, second.1))
      named_so first second (same_names names left e f) =
          rw (e, f) (alike _ _ (same (Project tree names) left))
      named_so first second (past_names short) = alike _ _ (past _ _ short)
      named_so first second (dot_names e dot) = opens (Project tree first.0) first.1 _
          (subst (Opens (length at.here)) (sym e) (dot_opens at dot))

      star :
          (front : List ℕ) →
          Nearly at (Ok (
            Project tree (names_at (length (ours front)) [] (drop 1 (ours front))).0,
            (names_at (length (ours front)) [] (drop 1 (ours front))).1,
          ))
          (Ok (
            Project tree (names_at (length (theirs front)) [] (drop 1 (theirs front))).0,
            (names_at (length (theirs front)) [] (drop 1 (theirs front))).1,
          ))
      star [] = alike _ _ (past _ _ (names_short (length (at.byte ∷ at.here)) [] at.here))
      star (x ∷ front) = named_so _ _ (names_place at (length (ours (x ∷ front)))
          (length (theirs (x ∷ front))) [] front (omega arith) (omega arith))

      word :
          SkipsTo at is_name_byte front →
          Alike at (Ok (Index tree (Lit (Str (word_of (ours front)))), behind_word (ours front)))
          (Ok (Index tree (Lit (Str (word_of (theirs front)))), behind_word (theirs front)))
      word (inl skips) = rw (skips.1.first, skips.1.second, skips.1.taken)
          (same (Index tree (Lit (Str (word_of (theirs front))))) skips.0)
      word (inr short) = past _ _ short

  tail_nearly :
      (inner deeper : List ℕ → Read Expr) → Inner at inner deeper → (tree : Expr) (front : List ℕ) →
      Nearly at (tail_at inner tree (ours front)) (tail_at deeper tree (theirs front))
  unfolding tail_at
  tail_nearly inner deeper both tree [] = alike _ _ (past _ _ (tail_within inner both.within
      (length at.here) tree (at.byte ∷ at.here) (omega arith)))
  tail_nearly inner deeper both tree (x ∷ front) = nearly_if at (x == 91) (x == 91) refl
      (alike _ _ (index_alike inner deeper both tree front)) (member_nearly tree front)

  member_same : (front : List ℕ) → begins_member (ours front) ≡ begins_member (theirs front)
  member_same [] = refl
  member_same (x ∷ front) = refl

  deep_alike :
      (deeper : List ℕ → Read Expr) (deep others : ℕ) (tree : Expr) (front : List ℕ) →
      Alike at (Err (deep_fault tree (ours front))) (tails_at deeper deep others tree
      (theirs front))
  unfolding deep_fault
  deep_alike deeper deep others tree [] = past _ _ (deep_within (length at.here) tree
      (at.byte ∷ at.here) (λ dot. omega arith))
  deep_alike deeper deep others tree (x ∷ front) = by (is_projection tree) (x == 46)
      (begins_member (ours front)) refl refl refl
    where
      by :
          (projection dot member : Bool) → is_projection tree ≡ projection → (x == 46) ≡ dot →
          begins_member (ours front) ≡ member →
          Alike at (Err (cond (projection && (dot && not member)) (BadChar, length (ours front))
          (TooDeep, length (skip is_blank (ours (x ∷ front)))))) (tails_at deeper deep others
          tree (theirs (x ∷ front)))
      by true true false projection dot none = rw (lone_dot deeper deep others tree
          (theirs (x ∷ front)) projection dot (sym (member_same front) ∙ none))
          (failed _ (BadChar, length (theirs front)))
      by true true true projection dot member = refused at TooDeep
          (skip is_blank (ours (x ∷ front))) _ refl
      by true false member projection dot e = refused at TooDeep (skip is_blank (ours (x ∷ front)))
          _ refl
      by false dot member projection e f = refused at TooDeep (skip is_blank (ours (x ∷ front))) _
          refl

  tail_same : (front : List ℕ) → begins_tail (ours front) ≡ begins_tail (theirs front)
  tail_same [] = refl
  tail_same (x ∷ front) = refl

  tails_alike :
      (inner deeper : List ℕ → Read Expr) → Inner at inner deeper → (depth deep turns others : ℕ) →
      depth ≤ deep → turns ≤ others → (tree : Expr) (front : List ℕ) →
      Alike at (tails_at inner depth turns tree (ours front)) (tails_at deeper deep others tree
      (theirs front))
  unfolding tails_at
  tails_alike inner deeper both depth deep zero others within few tree front =
      by (place at is_blank front)
    where
      ends :
          (left : List ℕ) → Skips at is_blank front left → (b : Bool) →
          begins_tail (ours left) ≡ b →
          Alike at (tails_at inner depth zero tree (ours front)) (tails_at deeper deep others tree
          (theirs front))
      ends left skips true tail = rw (tails_last inner depth tree (ours front)
          (ap begins_tail skips.first ∙ tail)) (deep_alike deeper deep others tree front)
      ends left skips false none = rw (
        tails_end inner depth zero tree (ours front)
            (ap begins_tail skips.first ∙ none),
        tails_end deeper deep others tree (theirs front)
            (ap begins_tail skips.second ∙ (sym (tail_same left) ∙ none)),
        skips.first,
        skips.second,
      )
          (same tree left)

      by :
          SkipsTo at is_blank front →
          Alike at (tails_at inner depth zero tree (ours front)) (tails_at deeper deep others tree
          (theirs front))
      by (inl skips) = ends skips.0 skips.1 (begins_tail (ours skips.0)) refl
      by (inr short) = past _ _ (tails_within inner both.within (length at.here) depth zero tree
          (ours front) (blanks_open at front short))
  tails_alike inner deeper both depth deep (suc turns) zero within few tree front =
      absurd (omega (arith, few))
  tails_alike inner deeper both depth deep (suc turns) (suc others) within few tree front =
      by (tails_alike inner deeper both depth deep turns others within (omega (arith, few)))
      (place at is_blank front)
    where
      tails :
          ((tree : Expr) (front : List ℕ) → Alike at (tails_at inner depth turns tree (ours front))
          (tails_at deeper deep others tree (theirs front))) →
          (left : List ℕ) → Skips at is_blank front left → begins_tail (ours left) ≡ true →
          (depth ≤ depth_of tree) ⊎ (depth_of tree < depth) →
          Alike at (tails_at inner depth (suc turns) tree (ours front)) (tails_at deeper deep
          (suc others) tree (theirs front))
      tails next left skips tail (inl full) = rw (tails_deep inner depth (suc turns) tree
          (ours front) (ap begins_tail skips.first ∙ tail) full) (deep_alike deeper deep
          (suc others) tree front)
      tails next left skips tail (inr room) =
          rw (
            tails_goes inner depth turns tree (ours front) (ap begins_tail skips.first ∙ tail)
                room,
            tails_goes deeper deep others tree (theirs front) (ap begins_tail skips.second ∙
                (sym (tail_same left) ∙ tail)) (omega (arith, room, within)),
            skips.first,
            skips.second,
          ) (nearly_bind at (tail_at inner tree (ours left)) (tail_at deeper tree
          (theirs left)) _ _ (tail_nearly inner deeper both tree left) (λ tree left e. next tree
          left) (λ tree left open_left. tails_within inner both.within (length at.here) depth
          turns tree left open_left))

      ends :
          ((tree : Expr) (front : List ℕ) → Alike at (tails_at inner depth turns tree (ours front))
          (tails_at deeper deep others tree (theirs front))) →
          (left : List ℕ) → Skips at is_blank front left → (b : Bool) →
          begins_tail (ours left) ≡ b →
          Alike at (tails_at inner depth (suc turns) tree (ours front)) (tails_at deeper deep
          (suc others) tree (theirs front))
      ends next left skips true tail = tails next left skips tail
          (by_depth (nat_le depth (depth_of tree)) refl)
        where
          by_depth :
              (b : Bool) → nat_le depth (depth_of tree) ≡ b →
              (depth ≤ depth_of tree) ⊎ (depth_of tree < depth)
          by_depth true e = inl (grind (arith, nat_tests))
          by_depth false e = inr (grind (arith, nat_tests))
      ends next left skips false none = rw (
        tails_end inner depth (suc turns) tree (ours front)
            (ap begins_tail skips.first ∙ none),
        tails_end deeper deep (suc others) tree
            (theirs front) (ap begins_tail skips.second ∙ (sym (tail_same left) ∙ none)),
        skips.first,
        skips.second,
      ) (same tree left)

      by :
          ((tree : Expr) (front : List ℕ) → Alike at (tails_at inner depth turns tree (ours front))
          (tails_at deeper deep others tree (theirs front))) →
          SkipsTo at is_blank front →
          Alike at (tails_at inner depth (suc turns) tree (ours front)) (tails_at deeper deep
          (suc others) tree (theirs front))
      by next (inl skips) = ends next skips.0 skips.1 (begins_tail (ours skips.0)) refl
      by next (inr short) = past _ _ (tails_within inner both.within (length at.here) depth
          (suc turns) tree (ours front) (blanks_open at front short))

  -- ---- texts

  pub text_alike :
      (mode : Mode) (depth deep : ℕ) → depth ≤ deep → (front : List ℕ) →
      Alike at (text_at mode depth (ours front)) (text_at mode deep (theirs front))
  unfolding text_at expression_at AllWithin
  text_alike mode zero deep within front = rw (text_is mode deep (theirs front))
      (by (place at is_blank front))
    where
      by :
          SkipsTo at is_blank front →
          Alike at (text_at mode zero (ours front)) (expression_at mode deep (inner_of mode deep)
          (theirs front))
      by (inl skips) = rw (skips.1.first, skips.1.second) (alike_bind at (primary_at mode false
          (λ rest. stop BadChar rest) (ours skips.0)) _ _ _ (shallow_alike mode (nat_lt 0 deep)
          (λ rest. stop BadChar rest) (inner_of mode deep) skips.0) (λ tree left e. absurd
          (primary_none mode (λ rest. stop BadChar rest) (ours skips.0) (tree, ours left) e))
          (λ tree left short. tails_within (λ rest. stop BadChar rest) (λ bound bytes room told.
          room) (length at.here) 0 0 tree left (opens_short (length at.here) left short)))
      by (inr short) = past _ _ (expression_within mode 0 (λ rest. stop BadChar rest)
          (λ bound bytes room told. room) (length at.here) (ours front) short)
  text_alike mode (suc depth) zero within front = absurd (omega (arith, within))
  text_alike mode (suc depth) (suc deep) within front =
      by (record {
        within = text_within mode depth;
        reads = text_alike mode depth deep
            (omega (arith, within));
      }) (place at is_blank front)
    where
      by :
          Inner at (text_at mode depth) (text_at mode deep) → SkipsTo at is_blank front →
          Alike at (text_at mode (suc depth) (ours front)) (text_at mode (suc deep) (theirs front))
      by both (inl skips) =
          rw (
            skips.1.first,
            skips.1.second,
            room_test (suc depth) (omega arith),
            room_test
                (suc deep) (omega arith),
          ) (nearly_bind at (primary_at mode true (text_at mode depth)
          (ours skips.0)) (primary_at mode true (text_at mode deep) (theirs skips.0)) _ _
          (primary_nearly mode (text_at mode depth) (text_at mode deep) both skips.0)
          (λ tree left e. tails_alike (text_at mode depth) (text_at mode deep) both (suc depth)
          (suc deep) (suc depth) (suc deep) within within tree left) (λ tree left open_left.
          tails_within (text_at mode depth) both.within (length at.here) (suc depth) (suc depth)
          tree left open_left))
      by both (inr short) = past _ _ (expression_within mode (suc depth) (text_at mode depth)
          both.within (length at.here) (ours front) short)
