-- Each tree that is read is one that the grammar gives.
use Rattle.std.proofs.Common.{◌≡◌, ◌≢◌, ℕ, zero, suc, ◌+◌, ◌^◌, ◌<◌, ◌≤◌, ◌⊎◌, inl, inr, Bool, true}
use Rattle.std.proofs.Common.{false, cond, ◌&&◌, ◌||◌, ◌==◌, nat_eq, nat_lt, nat_le, Option, Some}
use Rattle.std.proofs.Common.{None, Result, Ok, Err, List, [], ◌∷◌, ◌++◌, length, drop, take, map}
use Rattle.std.proofs.Common.{codes, ℤ, pos, neg_ℤ, refl, ap, sym, subst, ◌∙◌, rules, arith}
use Rattle.std.specs.List.{prefix_len, list_all, find}
use Rattle.std.specs.Char.{is_ascii_digit}
use Rattle.std.specs.Cmp.Lexicographic.{pointwise}
use Rattle.std.proofs.lemmas.List.{length-map}
use Rattle.std.proofs.lemmas.Bool.{and_parts, false≢true, eqb-false}
use Rattle.std.proofs.lemmas.Bool.Decides.{nat_tests}
use Rattle.pl_base.specs.declared.value.Value.{Value, Bool as Truth, Number, Version, Str}
use Rattle.pl_expr.specs.declared.expr.Expr.{Expr, the_lemmas}
use Rattle.pl_expr.specs.declared.expr.Expr.TheVariants.{Lit, Root, Index, Project, Call}
use Rattle.pl_expr.specs.declared.expr.Expr.TheVariants as variants
use Rattle.pl_expr.specs.declared.expr.Expr.TheOpen.{Expr-F}
use Rattle.pl_expr.specs.declared.expr.Expr.TheOpen as layer
use Rattle.pl_expr.specs.declared.expr.Expr.TheViews.{out-Expr, roll-Expr}
use Rattle.pl_expr.specs.declared.expr.Function.{Function}
use Rattle.pl_expr.specs.declared.expr.Mode.{Mode}
use Rattle.pl_expr.specs.declared.fault.ExprCode.TheVariants.{Fraction, BadChar, BadCount, TooDeep}
use Rattle.pl_expr.specs.declared.fault.ExprCode.TheVariants.{Trailing}
use Rattle.pl_expr.specs.declared.scan.Front.{Front}
use Rattle.pl_expr.specs.declared.scan.Front.TheVariants as front
use Rattle.pl_base.specs.Folding.{folded}
use Rattle.pl_expr.specs.Numerals.{is_blank, skip, signed, goes_on, more_runs, runs_of, behind_runs}
use Rattle.pl_expr.specs.Numerals.{is_segment, segments_of}
use Rattle.pl_reading.specs.Bytes.{digits_of, number_of, begins_with}
use Rattle.pl_expr.specs.Trees.{depth_of, deepest}
use Rattle.pl_expr.specs.Functions.{name_of, most_of, stands_in, takes, may_follow, named, names}
use Rattle.pl_expr.specs.Functions.{all_functions}
use Rattle.pl_expr.specs.Grammar.{Fault, Read, stop, begins_name, is_name_byte, is_word, word_of}
use Rattle.pl_expr.specs.Grammar.{behind_word, unquoted, string_read, number_read, version_read}
use Rattle.pl_expr.specs.Grammar.{unsigned_at, signed_at, number_at, word_tree, behind_argument}
use Rattle.pl_expr.specs.Grammar.{arguments_at, call_at, called, word_at, front_of, primary_by}
use Rattle.pl_expr.specs.Grammar.{primary_at, names_at, index_at, member_at, tail_at, begins_tail}
use Rattle.pl_expr.specs.Grammar.{deep_fault, tails_at, expression_at, text_at, text_whole, placed}
use Rattle.pl_expr.specs.Grammar.{parses}
use Rattle.pl_reading.specs.Steps.{◌>>=◌}
use Rattle.pl_expr.specs.Given.{IsName, AreNames, IsNumber, IsVersion, IsLiteral, AreGiven}
use Rattle.pl_expr.specs.Given.{IsGivenBy, IsGiven}
use Rattle.pl_expr.proofs.Again.{layer_is, depth_index, depth_project, depth_call, depth_lit}
use Rattle.pl_expr.proofs.Again.{depth_root}

-- ---- what an Ok came from

pub bind_ok :
    {A B : Type 0} (read : Result A Fault) (next : A → Result B Fault) (found : B) →
    (read >>= next) ≡ Ok found → (value : A) × ((read ≡ Ok value) × (next value ≡ Ok found))
bind_ok (Ok value) next found e = (value, (refl, e))
bind_ok (Err fault) next found e = absurd (cc)

pub chosen :
    {A : Type 0} (test : Bool) (x y z : A) → cond test x y ≡ z →
    ((test ≡ true) × (x ≡ z)) ⊎ ((test ≡ false) × (y ≡ z))
chosen true x y z e = inl (refl, e)
chosen false x y z e = inr (refl, e)

no_stop : {A : Type 0} {P : Type 0} (fault : Fault) (found : A) → Err fault ≡ Ok found → P
no_stop fault found e = absurd (cc)

abbrev pub done : {A : Type 0} → A → List ℕ → Read A
done value rest = Ok (value, rest)

pub same_first :
    {A B : Type 0} (read : Result (A × B) Fault) (x y : A) (xs ys : B) → read ≡ Ok (x, xs) →
    read ≡ Ok (y, ys) → x ≡ y
same_first {A} {B} read x y xs ys first second =
    let p : A × B = (x, xs) in
    let q : A × B = (y, ys) in
    let e : p ≡ q = cc in
    ap (λ (r : A × B). r.0) e

-- ---- a tree that is given is given at its own depth

pub positive : (x : Expr-F Expr) → 0 < depth_of (roll-Expr x)
positive (layer.Lit value) = omega (arith, ap depth_of (variants.rolls-Lit value) ∙ depth_lit value)
positive (layer.Root name) = omega (arith, ap depth_of (variants.rolls-Root name) ∙ depth_root name)
positive (layer.Index of at) = omega (
  arith,
  ap depth_of (variants.rolls-Index of at) ∙
      depth_index of at,
)
positive (layer.Project of members) =
    omega (arith, ap depth_of (variants.rolls-Project of members) ∙ depth_project of members)
positive (layer.Call function trees) =
    omega (arith, ap depth_of (variants.rolls-Call function trees) ∙ depth_call function trees)

tight_all :
    (IsPart IsOther : Expr → Type 0) (depth : ℕ) →
    ((tree : Expr) → IsPart tree → depth_of tree ≤ depth → IsOther tree) → (trees : List Expr) →
    AreGiven IsPart trees → deepest (map depth_of trees) ≤ depth → AreGiven IsOther trees
tight_all IsPart IsOther depth parts [] given within = tt
tight_all IsPart IsOther depth parts (tree ∷ trees) given within = (
  parts tree given.0 (omega (arith, within)),
  tight_all IsPart IsOther depth parts trees given.1
      (omega (arith, within)),
)

tight_layer :
    (mode : Mode) (IsPart IsOther : Expr → Type 0) (depth : ℕ) →
    ((tree : Expr) → IsPart tree → depth_of tree ≤ depth → IsOther tree) → (x : Expr-F Expr) →
    IsGivenBy mode IsPart x → depth_of (roll-Expr x) ≤ suc depth → IsGivenBy mode IsOther x
tight_layer mode IsPart IsOther depth parts (layer.Lit value) given within = given
tight_layer mode IsPart IsOther depth parts (layer.Root name) given within = given
tight_layer mode IsPart IsOther depth parts (layer.Index of at) given within =
    let e = ap depth_of (variants.rolls-Index of at) ∙ depth_index of at in
    (parts of given.0 (omega (arith, e, within)), parts at given.1 (omega (arith, e, within)))
tight_layer mode IsPart IsOther depth parts (layer.Project of members) given within =
    let e = ap depth_of (variants.rolls-Project of members) ∙ depth_project of members in
    (parts of given.0 (omega (arith, e, within)), given.1)
tight_layer mode IsPart IsOther depth parts (layer.Call function trees) given within =
    let e = ap depth_of (variants.rolls-Call function trees) ∙ depth_call function trees in (
      given.0,
      given.1,
      tight_all IsPart IsOther depth parts trees given.2
          (omega (arith, e, within)),
    )

tight :
    (mode : Mode) (bound depth : ℕ) (tree : Expr) → IsGiven mode bound tree →
    depth_of tree ≤ depth → IsGiven mode depth tree
tight mode zero depth tree given within = absurd given
tight mode (suc bound) zero tree given within =
    let e = ap depth_of (layer_is tree (out-Expr tree) refl) in
    absurd (omega (arith, e, positive (out-Expr tree), within))
tight mode (suc bound) (suc depth) tree given within =
    let e = ap depth_of (layer_is tree (out-Expr tree) refl) in
    tight_layer mode (IsGiven mode bound) (IsGiven mode depth) depth
    (λ part is fits. tight mode bound depth part is fits) (out-Expr tree) given
    (omega (arith, e, within))

-- ---- given trees are made of given parts

given_lit :
    (mode : Mode) (depth : ℕ) (value : Value) → IsLiteral value →
    IsGiven mode (suc depth) (Lit value)
given_lit mode depth value is = subst (IsGivenBy mode (IsGiven mode depth)) (sym (opened value)) is
  where
    opened : (value : Value) → out-Expr (Lit value) ≡ layer.Lit value
    opened value = search (rules, the_lemmas)

given_root :
    (mode : Mode) (depth : ℕ) (name : List ℕ) → IsName name → word_tree name ≡ Root name →
    IsGiven mode (suc depth) (Root name)
given_root mode depth name is alone = subst (IsGivenBy mode (IsGiven mode depth))
    (sym (opened name)) (is, alone)
  where
    opened : (name : List ℕ) → out-Expr (Root name) ≡ layer.Root name
    opened name = search (rules, the_lemmas)

given_index :
    (mode : Mode) (depth : ℕ) (of at : Expr) → IsGiven mode depth of → IsGiven mode depth at →
    IsGiven mode (suc depth) (Index of at)
given_index mode depth of at is_of is_at = subst (IsGivenBy mode (IsGiven mode depth))
    (sym (opened of at)) (is_of, is_at)
  where
    opened : (of at : Expr) → out-Expr (Index of at) ≡ layer.Index of at
    opened of at = search (rules, the_lemmas)

given_project :
    (mode : Mode) (depth : ℕ) (of : Expr) (members : List (List ℕ)) → IsGiven mode depth of →
    AreNames members → IsGiven mode (suc depth) (Project of members)
given_project mode depth of members is_of are = subst (IsGivenBy mode (IsGiven mode depth))
    (sym (opened of members)) (is_of, are)
  where
    opened :
        (of : Expr) (members : List (List ℕ)) →
        out-Expr (Project of members) ≡ layer.Project of members
    opened of members = search (rules, the_lemmas)

given_call :
    (mode : Mode) (depth : ℕ) (function : Function) (trees : List Expr) →
    stands_in mode function ≡ true → takes function (length trees) ≡ true →
    AreGiven (IsGiven mode depth) trees → IsGiven mode (suc depth) (Call function trees)
given_call mode depth function trees stands fits are = subst (IsGivenBy mode (IsGiven mode depth))
    (sym (opened function trees)) (stands, fits, are)
  where
    opened :
        (function : Function) (trees : List Expr) →
        out-Expr (Call function trees) ≡ layer.Call function trees
    opened function trees = search (rules, the_lemmas)

-- ---- names

pub all_front :
    (test : ℕ → Bool) (bytes : List ℕ) → list_all test (take (prefix_len test bytes) bytes) ≡ true
all_front test [] = refl
all_front test (byte ∷ bytes) = by (all_front test bytes) (test byte) refl
  where
    by :
        list_all test (take (prefix_len test bytes) bytes) ≡ true → (b : Bool) → test byte ≡ b →
        list_all test (take (prefix_len test (byte ∷ bytes)) (byte ∷ bytes)) ≡ true
    by others true e =
        let n : 1 + prefix_len test bytes ≡ suc (prefix_len test bytes) = omega arith in
        rw e (rw n (rw e others))
    by others false e = rw e refl

name_byte : (byte : ℕ) → begins_name byte ≡ true → is_name_byte byte ≡ true
name_byte byte begins = grind (arith, nat_tests)

pub word_is : (bytes : List ℕ) → is_word bytes ≡ true → IsName (word_of bytes)
word_is [] begins = absurd (false≢true begins)
word_is (byte ∷ bytes) begins =
    let e : word_of (byte ∷ bytes) ≡ byte ∷ take (prefix_len is_name_byte bytes) bytes =
    rw (name_byte byte begins)
    (ap (λ n. take n (byte ∷ bytes)) (let n : 1 + prefix_len is_name_byte bytes ≡
    suc (prefix_len is_name_byte bytes) = omega arith in n)) in
    (ap is_word e ∙ begins, all_front is_name_byte (byte ∷ bytes))

names_append :
    (read : List (List ℕ)) (name : List ℕ) → AreNames read → IsName name →
    AreNames (read ++ name ∷ [])
names_append [] name are is = (is, tt)
names_append (first ∷ read) name are is = (are.0, names_append read name are.1 is)

pub names_named :
    (turns : ℕ) (read : List (List ℕ)) (bytes : List ℕ) → AreNames read →
    AreNames (names_at turns read bytes).0
unfolding names_at
names_named zero read bytes are = are
names_named (suc turns) read bytes are =
    by (λ more. names_named turns (read ++ word_of (drop 1 bytes) ∷ []) (behind_word (drop 1 bytes))
    more) (begins_with 46 bytes && is_word (drop 1 bytes)) refl
  where
    by :
        (AreNames (read ++ word_of (drop 1 bytes) ∷ []) →
        AreNames (names_at turns (read ++ word_of (drop 1 bytes) ∷ [])
        (behind_word (drop 1 bytes))).0) →
        (b : Bool) → (begins_with 46 bytes && is_word (drop 1 bytes)) ≡ b →
        AreNames
        (cond b (names_at turns (read ++ word_of (drop 1 bytes) ∷ []) (behind_word (drop 1 bytes)))
        (read, bytes)).0
    by others true e =
        others (names_append read (word_of (drop 1 bytes)) are
        (word_is (drop 1 bytes) (and_parts (begins_with 46 bytes) (is_word (drop 1 bytes)) e).1))
    by others false e = are

-- ---- literals

number_signed :
    (negative : Bool) (number : ℕ) (found : ℤ) → signed negative number ≡ Some found →
    IsNumber found
number_signed true number found e =
    by (chosen (nat_le number (2 ^ 63)) (Some (neg_ℤ (pos number))) None (Some found) e)
  where
    within : (number : ℕ) → nat_le number (2 ^ 63) ≡ true → IsNumber (neg_ℤ (pos number))
    within zero fits = omega arith
    within (suc number) fits = let small : suc number ≤ 2 ^ 63 = grind (arith, nat_tests) in
        omega (arith, small)

    by :
        ((nat_le number (2 ^ 63) ≡ true) × (Some (neg_ℤ (pos number)) ≡ Some found)) ⊎
        ((nat_le number (2 ^ 63) ≡ false) × (None ≡ Some found)) →
        IsNumber found
    by (inl parts) = let same : neg_ℤ (pos number) ≡ found = cc (parts.1) in
        subst IsNumber same (within number parts.0)
    by (inr parts) = absurd (cc (parts.1))
number_signed false number found e =
    by (chosen (nat_lt number (2 ^ 63)) (Some (pos number)) None (Some found) e)
  where
    by :
        ((nat_lt number (2 ^ 63) ≡ true) × (Some (pos number) ≡ Some found)) ⊎
        ((nat_lt number (2 ^ 63) ≡ false) × (None ≡ Some found)) →
        IsNumber found
    by (inl parts) = let same : pos number ≡ found = cc (parts.1) in
        subst IsNumber same (let test = parts.0 in grind (arith, nat_tests))
    by (inr parts) = absurd (cc (parts.1))

pub number_given :
    (mode : Mode) (depth : ℕ) (bytes rest : List ℕ) (negative : Bool) (number : ℕ) (tree : Expr)
    (behind : List ℕ) →
    number_read bytes rest (signed negative number) ≡ Ok (tree, behind) →
    IsGiven mode (suc depth) tree
number_given mode depth bytes rest negative number tree behind e = by (signed negative number) refl
    e
  where
    by :
        (found : Option ℤ) → signed negative number ≡ found →
        number_read bytes rest found ≡ Ok (tree, behind) → IsGiven mode (suc depth) tree
    by None is read = absurd (cc (read))
    by (Some found) is read = subst (IsGiven mode (suc depth))
        (same_first (number_read bytes rest (Some found)) (Lit (Number found)) tree rest behind refl
        read) (given_lit mode depth (Number found) (number_signed negative number found is))

pub more_runs_few : (more : ℕ) (bytes : List ℕ) → length (more_runs more bytes) ≤ more
unfolding more_runs
more_runs_few zero bytes = omega arith
more_runs_few (suc more) bytes =
    by (goes_on bytes) (more_runs_few more (skip is_ascii_digit (drop 1 bytes)))
  where
    by :
        (b : Bool) → length (more_runs more (skip is_ascii_digit (drop 1 bytes))) ≤ more →
        length
        (cond b (digits_of (drop 1 bytes) ∷ more_runs more (skip is_ascii_digit (drop 1 bytes)))
        []) ≤ suc more
    by true few = omega (arith, few)
    by false few = omega arith

version_given :
    (mode : Mode) (depth : ℕ) (bytes rest : List ℕ) (tree : Expr) (behind : List ℕ) →
    length (runs_of bytes) ≢ 1 → length (runs_of bytes) ≢ 2 →
    version_read bytes rest (segments_of (map number_of (runs_of bytes))) ≡ Ok (tree, behind) →
    IsGiven mode (suc depth) tree
version_given mode depth bytes rest tree behind one two e =
    by (chosen (list_all is_segment (map number_of (runs_of bytes)))
    (Some (map number_of (runs_of bytes))) None _ refl) e
  where
    by :
        ((list_all is_segment (map number_of (runs_of bytes)) ≡ true) ×
        (Some (map number_of (runs_of bytes)) ≡ segments_of (map number_of (runs_of bytes)))) ⊎
        ((list_all is_segment (map number_of (runs_of bytes)) ≡ false) ×
        (None ≡ segments_of (map number_of (runs_of bytes)))) →
        version_read bytes rest (segments_of (map number_of (runs_of bytes))) ≡ Ok (tree, behind) →
        IsGiven mode (suc depth) tree
    by (inl parts) read =
        let count : length (map number_of (runs_of bytes)) ≡ length (runs_of bytes) =
        length-map (runs_of bytes) number_of in
        let few = more_runs_few 3 (skip is_ascii_digit bytes) in
        let three : 2 < length (map number_of (runs_of bytes)) = omega (arith, count, one, two) in
        let four : length (map number_of (runs_of bytes)) ≤ 4 = omega (arith, count, few) in
        let is : IsVersion (map number_of (runs_of bytes)) = (three, four, parts.0) in
        let again : version_read bytes rest (Some (map number_of (runs_of bytes))) ≡
        Ok (tree, behind) = ap (version_read bytes rest) parts.1 ∙ read in
        subst (IsGiven mode (suc depth))
        (same_first (version_read bytes rest (Some (map number_of (runs_of bytes))))
        (Lit (Version (map number_of (runs_of bytes)))) tree rest behind refl again)
        (given_lit mode depth (Version (map number_of (runs_of bytes))) is)
    by (inr parts) read =
        let again : version_read bytes rest None ≡ Ok (tree, behind) = ap (version_read bytes rest)
        parts.1 ∙ read in
        absurd (cc (again))

unsigned_given :
    (mode : Mode) (depth : ℕ) (bytes : List ℕ) (tree : Expr) (behind : List ℕ) →
    unsigned_at bytes ≡ Ok (tree, behind) → IsGiven mode (suc depth) tree
unfolding unsigned_at
unsigned_given mode depth bytes tree behind e = by (chosen (length (runs_of bytes) == 1) _ _ _ e)
  where
    two_runs :
        ((length (runs_of bytes) == 2) ≡ true) ×
        (stop {A = Expr × List ℕ} Fraction bytes ≡ Ok (tree, behind)) ⊎
        ((length (runs_of bytes) == 2) ≡ false) ×
        (version_read bytes (behind_runs bytes) (segments_of (map number_of (runs_of bytes))) ≡
        Ok (tree, behind)) →
        length (runs_of bytes) ≢ 1 → IsGiven mode (suc depth) tree
    two_runs (inl parts) one = absurd (cc (parts.1))
    two_runs (inr parts) one = version_given mode depth bytes (behind_runs bytes) tree behind one
        (eqb-false _ _ parts.0) parts.1

    by :
        ((length (runs_of bytes) == 1) ≡ true) ×
        (number_read bytes (skip is_ascii_digit bytes)
        (signed false (number_of (digits_of bytes))) ≡ Ok (tree, behind)) ⊎
        ((length (runs_of bytes) == 1) ≡ false) ×
        (cond (length (runs_of bytes) == 2) (stop Fraction bytes)
        (version_read bytes (behind_runs bytes) (segments_of (map number_of (runs_of bytes)))) ≡
        Ok (tree, behind)) →
        IsGiven mode (suc depth) tree
    by (inl parts) = number_given mode depth bytes (skip is_ascii_digit bytes) false
        (number_of (digits_of bytes)) tree behind parts.1
    by (inr parts) = two_runs (chosen (length (runs_of bytes) == 2) _ _ _ parts.1)
        (eqb-false _ _ parts.0)

signed_given :
    (mode : Mode) (depth : ℕ) (bytes body : List ℕ) (tree : Expr) (behind : List ℕ) →
    signed_at bytes body ≡ Ok (tree, behind) → IsGiven mode (suc depth) tree
unfolding signed_at
signed_given mode depth bytes body tree behind e =
    by (chosen (prefix_len is_ascii_digit body == 0) _ _ _ e)
  where
    two_runs :
        ((length (runs_of body) == 2) ≡ true) ×
        (stop {A = Expr × List ℕ} Fraction bytes ≡ Ok (tree, behind)) ⊎
        ((length (runs_of body) == 2) ≡ false) ×
        (number_read bytes (skip is_ascii_digit body) (signed true (number_of (digits_of body))) ≡
        Ok (tree, behind)) →
        IsGiven mode (suc depth) tree
    two_runs (inl parts) = absurd (cc (parts.1))
    two_runs (inr parts) = number_given mode depth bytes (skip is_ascii_digit body) true
        (number_of (digits_of body)) tree behind parts.1

    by :
        ((prefix_len is_ascii_digit body == 0) ≡ true) ×
        (stop {A = Expr × List ℕ} BadChar body ≡ Ok (tree, behind)) ⊎
        ((prefix_len is_ascii_digit body == 0) ≡ false) ×
        (cond (length (runs_of body) == 2) (stop Fraction bytes)
        (number_read bytes (skip is_ascii_digit body) (signed true (number_of (digits_of body)))) ≡
        Ok (tree, behind)) →
        IsGiven mode (suc depth) tree
    by (inl parts) = absurd (cc (parts.1))
    by (inr parts) = two_runs (chosen (length (runs_of body) == 2) _ _ _ parts.1)

pub digits_given :
    (mode : Mode) (depth : ℕ) (bytes : List ℕ) (tree : Expr) (behind : List ℕ) →
    number_at bytes ≡ Ok (tree, behind) → IsGiven mode (suc depth) tree
digits_given mode depth bytes tree behind e = by (chosen (begins_with 45 bytes) _ _ _ e)
  where
    by :
        (begins_with 45 bytes ≡ true) × (signed_at bytes (drop 1 bytes) ≡ Ok (tree, behind)) ⊎
        (begins_with 45 bytes ≡ false) × (unsigned_at bytes ≡ Ok (tree, behind)) →
        IsGiven mode (suc depth) tree
    by (inl parts) = signed_given mode depth bytes (drop 1 bytes) tree behind parts.1
    by (inr parts) = unsigned_given mode depth bytes tree behind parts.1

pub text_given :
    (mode : Mode) (depth : ℕ) (bytes : List ℕ) (read : Option (List ℕ × List ℕ)) (tree : Expr)
    (behind : List ℕ) →
    string_read bytes true read ≡ Ok (tree, behind) → IsGiven mode (suc depth) tree
text_given mode depth bytes None tree behind e = absurd (cc (e))
text_given mode depth bytes (Some read) tree behind e = subst (IsGiven mode (suc depth))
    (same_first (string_read bytes true (Some read)) (Lit (Str read.0)) tree read.1 behind refl e)
    (given_lit mode depth (Str read.0) tt)

pub word_given :
    (mode : Mode) (depth : ℕ) (word : List ℕ) → IsName word →
    IsGiven mode (suc depth) (word_tree word)
unfolding word_tree
word_given mode depth word is = by (pointwise nat_eq (folded (codes "true")) (folded word))
    (pointwise nat_eq (folded (codes "false")) (folded word)) refl
  where
    by :
        (first second : Bool) →
        word_tree word ≡ cond first (Lit (Truth true))
        (cond second (Lit (Truth false)) (Root word)) →
        IsGiven mode (suc depth) (word_tree word)
    by true second e = subst (IsGiven mode (suc depth)) (sym e)
        (given_lit mode depth (Truth true) tt)
    by false true e = subst (IsGiven mode (suc depth)) (sym e)
        (given_lit mode depth (Truth false) tt)
    by false false e = subst (IsGiven mode (suc depth)) (sym e) (given_root mode depth word is e)

-- ---- calls

found_stands :
    (mode : Mode) (word : List ℕ) (functions : List Function) (function : Function) →
    find (names mode word) functions ≡ Some function → stands_in mode function ≡ true
found_stands mode word [] function e = absurd (cc (e))
found_stands mode word (first ∷ functions) function e =
    by (λ others. found_stands mode word functions function others)
    (chosen (names mode word first) _ _ _ e)
  where
    by :
        (find (names mode word) functions ≡ Some function → stands_in mode function ≡ true) →
        ((names mode word first ≡ true) × (Some first ≡ Some function)) ⊎
        ((names mode word first ≡ false) × (find (names mode word) functions ≡ Some function)) →
        stands_in mode function ≡ true
    by others (inl parts) =
        let same : first ≡ function = cc (parts.1) in
        ap (stands_in mode) (sym same) ∙
        (and_parts (pointwise nat_eq (folded (name_of first)) (folded word))
        (stands_in mode first) parts.0).1
    by others (inr parts) = others parts.1

named_stands :
    (mode : Mode) (word : List ℕ) (function : Function) → named mode word ≡ Some function →
    stands_in mode function ≡ true
unfolding named
named_stands mode word function e = found_stands mode word all_functions function e

behind_takes :
    (function : Function) (count : ℕ) (bytes : List ℕ) (more : Bool) (rest : List ℕ) →
    behind_argument function count bytes ≡ Ok (more, rest) → more ≡ false →
    takes function count ≡ true
unfolding behind_argument
behind_takes function count bytes more rest e last = by (chosen (begins_with 44 bytes) _ _ _ e)
  where
    comma :
        (may_follow (most_of function) count ≡ true) ×
        (done true (drop 1 bytes) ≡ Ok (more, rest)) ⊎ (may_follow (most_of function) count ≡
        false) × (stop {A = Bool × List ℕ} BadCount bytes ≡ Ok (more, rest)) →
        takes function count ≡ true
    comma (inl parts) =
        absurd
        (false≢true (sym (same_first (done true (drop 1 bytes)) true more (drop 1 bytes) rest refl
        parts.1 ∙ last)))
    comma (inr parts) = absurd (cc (parts.1))

    paren :
        (takes function count ≡ true) × (done false (drop 1 bytes) ≡ Ok (more, rest)) ⊎
        (takes function count ≡ false) ×
        (stop {A = Bool × List ℕ} BadCount bytes ≡ Ok (more, rest)) →
        takes function count ≡ true
    paren (inl parts) = parts.0
    paren (inr parts) = absurd (cc (parts.1))

    other :
        (begins_with 41 bytes ≡ true) ×
        (cond (takes function count) (done false (drop 1 bytes))
        (stop {A = Bool × List ℕ} BadCount bytes) ≡ Ok (more, rest)) ⊎
        (begins_with 41 bytes ≡ false) ×
        (stop {A = Bool × List ℕ} BadChar bytes ≡ Ok (more, rest)) →
        takes function count ≡ true
    other (inl parts) = paren (chosen (takes function count) _ _ _ parts.1)
    other (inr parts) = absurd (cc (parts.1))

    by :
        (begins_with 44 bytes ≡ true) ×
        (cond (may_follow (most_of function) count) (done true (drop 1 bytes))
        (stop {A = Bool × List ℕ} BadCount bytes) ≡ Ok (more, rest)) ⊎
        (begins_with 44 bytes ≡ false) ×
        (cond (begins_with 41 bytes) (cond (takes function count) (done false (drop 1 bytes))
        (stop {A = Bool × List ℕ} BadCount bytes)) (stop {A = Bool × List ℕ} BadChar bytes) ≡
        Ok (more, rest)) →
        takes function count ≡ true
    by (inl parts) = comma (chosen (may_follow (most_of function) count) _ _ _ parts.1)
    by (inr parts) = other (chosen (begins_with 41 bytes) _ _ _ parts.1)

given_append :
    (IsPart : Expr → Type 0) (read : List Expr) (tree : Expr) → AreGiven IsPart read → IsPart tree →
    AreGiven IsPart (read ++ tree ∷ [])
given_append IsPart [] tree are is = (is, tt)
given_append IsPart (first ∷ read) tree are is = (are.0, given_append IsPart read tree are.1 is)

arguments_given :
    (IsPart : Expr → Type 0) (inner : List ℕ → Read Expr) →
    ((bytes : List ℕ) (read : Expr × List ℕ) → inner bytes ≡ Ok read → IsPart read.0) →
    (function : Function) (turns : ℕ) (read : List Expr) (bytes : List ℕ) (all : List Expr)
    (rest : List ℕ) →
    AreGiven IsPart read → arguments_at inner function turns read bytes ≡ Ok (all, rest) →
    AreGiven IsPart all × (takes function (length all) ≡ true)
unfolding arguments_at
arguments_given IsPart inner sound function zero read bytes all rest are e = absurd (cc (e))
arguments_given IsPart inner sound function (suc turns) read bytes all rest are e =
    let one = bind_ok (inner bytes) _ (all, rest) e in
    let two = bind_ok (behind_argument function (length (read ++ one.0.0 ∷ [])) one.0.1) _
    (all, rest) one.1.1 in
    let longer = given_append IsPart read one.0.0 are (sound bytes one.0 one.1.0) in
    by one.0.0 two.0 (behind_takes function (length (read ++ one.0.0 ∷ [])) one.0.1 two.0.0 two.0.1
    two.1.0) longer (λ more. arguments_given IsPart inner sound function turns (read ++
    one.0.0 ∷ []) two.0.1 all rest longer more) (chosen two.0.0 _ _ _ two.1.1)
  where
    by :
        (argument : Expr) (next : Bool × List ℕ) →
        (next.0 ≡ false → takes function (length (read ++ argument ∷ [])) ≡ true) →
        AreGiven IsPart (read ++ argument ∷ []) →
        (arguments_at inner function turns (read ++ argument ∷ []) next.1 ≡ Ok (all, rest) →
        AreGiven IsPart all × (takes function (length all) ≡ true)) →
        (next.0 ≡ true) × (arguments_at inner function turns (read ++ argument ∷ []) next.1 ≡
        Ok (all, rest)) ⊎ (next.0 ≡ false) ×
        (done (read ++ argument ∷ []) next.1 ≡ Ok (all, rest)) →
        AreGiven IsPart all × (takes function (length all) ≡ true)
    by argument next fits are others (inl parts) = others parts.1
    by argument next fits are others (inr parts) =
        let same : read ++ argument ∷ [] ≡ all = same_first (done (read ++ argument ∷ []) next.1)
        (read ++ argument ∷ []) all next.1 rest refl parts.1 in (
          subst (AreGiven IsPart) same are,
          ap (λ xs. takes function (length xs)) (sym same) ∙
              fits parts.0,
        )

call_given :
    (mode : Mode) (depth : ℕ) (inner : List ℕ → Read Expr) →
    ((bytes : List ℕ) (read : Expr × List ℕ) → inner bytes ≡ Ok read → IsGiven mode depth read.0) →
    (function : Function) (bytes : List ℕ) (tree : Expr) (rest : List ℕ) →
    stands_in mode function ≡ true → call_at inner function bytes ≡ Ok (tree, rest) →
    IsGiven mode (suc depth) tree
unfolding call_at
call_given mode depth inner sound function bytes tree rest stands e =
    by (chosen (begins_with 41 bytes) _ _ _ e)
  where
    none :
        (takes function 0 ≡ true) × (done (Call function []) (drop 1 bytes) ≡ Ok (tree, rest)) ⊎
        (takes function 0 ≡ false) × (stop {A = Expr × List ℕ} BadCount bytes ≡ Ok (tree, rest)) →
        IsGiven mode (suc depth) tree
    none (inl parts) = subst (IsGiven mode (suc depth))
        (same_first (done (Call function []) (drop 1 bytes)) (Call function []) tree (drop 1 bytes)
        rest refl parts.1) (given_call mode depth function [] stands parts.0 tt)
    none (inr parts) = absurd (cc (parts.1))

    some :
        (read : List Expr × List ℕ) →
        arguments_at inner function (length bytes) [] bytes ≡ Ok read →
        done (Call function read.0) read.1 ≡ Ok (tree, rest) → IsGiven mode (suc depth) tree
    some read found same =
        let given = arguments_given (IsGiven mode depth) inner sound function (length bytes) []
        bytes read.0 read.1 tt found in
        subst (IsGiven mode (suc depth)) (same_first (done (Call function read.0) read.1)
        (Call function read.0) tree read.1 rest refl same)
        (given_call mode depth function read.0 stands given.1 given.0)

    by :
        (begins_with 41 bytes ≡ true) ×
        (cond (takes function 0) (done (Call function []) (drop 1 bytes))
        (stop {A = Expr × List ℕ} BadCount bytes) ≡ Ok (tree, rest)) ⊎
        (begins_with 41 bytes ≡ false) ×
        ((arguments_at inner function (length bytes) [] bytes >>=
        λ read. done (Call function read.0) read.1) ≡ Ok (tree, rest)) →
        IsGiven mode (suc depth) tree
    by (inl parts) = none (chosen (takes function 0) _ _ _ parts.1)
    by (inr parts) = let one = bind_ok (arguments_at inner function (length bytes) [] bytes) _
        (tree, rest) parts.1 in some one.0 one.1.0 one.1.1

called_given :
    (mode : Mode) (depth : ℕ) (inner : List ℕ → Read Expr) →
    ((bytes : List ℕ) (read : Expr × List ℕ) → inner bytes ≡ Ok read → IsGiven mode depth read.0) →
    (bytes behind word : List ℕ) (found : Option Function) (tree : Expr) (rest : List ℕ) →
    named mode word ≡ found → called inner bytes true behind found ≡ Ok (tree, rest) →
    IsGiven mode (suc depth) tree
called_given mode depth inner sound bytes behind word None tree rest is e = absurd (cc (e))
called_given mode depth inner sound bytes behind word (Some function) tree rest is e =
    call_given mode depth inner sound function behind tree rest (named_stands mode word function is)
    e

-- ---- primaries

names_given :
    (mode : Mode) (depth : ℕ) (inner : List ℕ → Read Expr) →
    ((bytes : List ℕ) (read : Expr × List ℕ) → inner bytes ≡ Ok read → IsGiven mode depth read.0) →
    (bytes : List ℕ) (tree : Expr) (rest : List ℕ) → is_word bytes ≡ true →
    word_at mode true inner bytes ≡ Ok (tree, rest) → IsGiven mode (suc depth) tree
unfolding word_at
names_given mode depth inner sound bytes tree rest begins e =
    by (chosen (begins_with 40 (skip is_blank (behind_word bytes))) _ _ _ e)
  where
    by :
        (begins_with 40 (skip is_blank (behind_word bytes)) ≡ true) ×
        (called inner bytes true (drop 1 (skip is_blank (behind_word bytes)))
        (named mode (word_of bytes)) ≡ Ok (tree, rest)) ⊎
        (begins_with 40 (skip is_blank (behind_word bytes)) ≡ false) ×
        (done (word_tree (word_of bytes)) (behind_word bytes) ≡ Ok (tree, rest)) →
        IsGiven mode (suc depth) tree
    by (inl parts) = called_given mode depth inner sound bytes
        (drop 1 (skip is_blank (behind_word bytes))) (word_of bytes) (named mode (word_of bytes))
        tree rest refl parts.1
    by (inr parts) = subst (IsGiven mode (suc depth))
        (same_first (done (word_tree (word_of bytes)) (behind_word bytes))
        (word_tree (word_of bytes)) tree (behind_word bytes) rest refl parts.1)
        (word_given mode depth (word_of bytes) (word_is bytes begins))

pub front_is_word : (bytes : List ℕ) → front_of bytes ≡ front.Word → is_word bytes ≡ true
unfolding front_of
front_is_word [] e = absurd (cc (e))
front_is_word (byte ∷ bytes) e = by (byte == 39) (begins_name byte) (is_ascii_digit byte ||
    (byte == 45)) (goes_on (byte ∷ bytes)) e
  where
    by :
        (quote name digit dot : Bool) →
        cond quote front.Quote
        (cond name front.Word (cond digit front.Digits (cond dot front.Fraction front.Nothing))) ≡
        front.Word →
        name ≡ true
    by true name digit dot e = absurd (cc (e))
    by false true digit dot e = refl
    by false false true dot e = absurd (cc (e))
    by false false false true e = absurd (cc (e))
    by false false false false e = absurd (cc (e))

pub primary_given :
    (mode : Mode) (depth : ℕ) (inner : List ℕ → Read Expr) →
    ((bytes : List ℕ) (read : Expr × List ℕ) → inner bytes ≡ Ok read → IsGiven mode depth read.0) →
    (bytes : List ℕ) (tree : Expr) (rest : List ℕ) →
    primary_at mode true inner bytes ≡ Ok (tree, rest) → IsGiven mode (suc depth) tree
unfolding primary_at
primary_given mode depth inner sound bytes tree rest e = by (front_of bytes) refl e
  where
    by :
        (begins : Front) → front_of bytes ≡ begins →
        primary_by mode true inner bytes begins ≡ Ok (tree, rest) → IsGiven mode (suc depth) tree
    by front.Quote is e = text_given mode depth bytes (unquoted (drop 1 bytes)) tree rest e
    by front.Word is e = names_given mode depth inner sound bytes tree rest (front_is_word bytes is)
        e
    by front.Digits is e = digits_given mode depth bytes tree rest e
    by front.Fraction is e = absurd (cc (e))
    by front.Nothing is e = absurd (cc (e))

-- where no leaf may stand, no primary is read
pub primary_none :
    (mode : Mode) (inner : List ℕ → Read Expr) (bytes : List ℕ) (read : Expr × List ℕ) →
    primary_at mode false inner bytes ≡ Ok read → ⊥
unfolding primary_at word_at
primary_none mode inner bytes read e = by (front_of bytes) e
  where
    texts : (found : Option (List ℕ × List ℕ)) → string_read bytes false found ≡ Ok read → ⊥
    texts None e = cc (e)
    texts (Some found) e = cc (e)

    calls :
        (found : Option Function) (behind : List ℕ) →
        called inner bytes false behind found ≡ Ok read → ⊥
    calls None behind e = cc (e)
    calls (Some found) behind e = cc (e)

    word :
        (test : Bool) →
        cond test (called inner bytes false (drop 1 (skip is_blank (behind_word bytes)))
        (named mode (word_of bytes))) (stop TooDeep bytes) ≡ Ok read →
        ⊥
    word true e = calls (named mode (word_of bytes)) (drop 1 (skip is_blank (behind_word bytes))) e
    word false e = cc (e)

    by : (begins : Front) → primary_by mode false inner bytes begins ≡ Ok read → ⊥
    by front.Quote e = texts (unquoted (drop 1 bytes)) e
    by front.Word e = word (begins_with 40 (skip is_blank (behind_word bytes))) e
    by front.Digits e = cc (e)
    by front.Fraction e = cc (e)
    by front.Nothing e = cc (e)

-- ---- tails

index_given :
    (mode : Mode) (depth : ℕ) (inner : List ℕ → Read Expr) →
    ((bytes : List ℕ) (read : Expr × List ℕ) → inner bytes ≡ Ok read → IsGiven mode depth read.0) →
    (of : Expr) → IsGiven mode depth of → (bytes : List ℕ) (read : Expr × List ℕ) →
    index_at inner of bytes ≡ Ok read → IsGiven mode (suc depth) read.0
unfolding index_at
index_given mode depth inner sound of is bytes read e =
    let one = bind_ok (inner bytes) _ read e in
    by one.0 (sound bytes one.0 one.1.0) (chosen (begins_with 93 one.0.1) _ _ _ one.1.1)
  where
    by :
        (index : Expr × List ℕ) → IsGiven mode depth index.0 →
        (begins_with 93 index.1 ≡ true) × (done (Index of index.0) (drop 1 index.1) ≡ Ok read) ⊎
        (begins_with 93 index.1 ≡ false) × (stop {A = Expr × List ℕ} BadChar index.1 ≡ Ok read) →
        IsGiven mode (suc depth) read.0
    by index given (inl parts) = subst (IsGiven mode (suc depth))
        (same_first (done (Index of index.0) (drop 1 index.1)) (Index of index.0) read.0
        (drop 1 index.1) read.1 refl parts.1) (given_index mode depth of index.0 is given)
    by index given (inr parts) = absurd (cc (parts.1))

-- a given tree leaves room for a leaf
leaf_given :
    (mode : Mode) (depth : ℕ) (of : Expr) → IsGiven mode depth of → (text : List ℕ) →
    IsGiven mode depth (Lit (Str text))
leaf_given mode zero of is text = absurd is
leaf_given mode (suc depth) of is text = given_lit mode depth (Str text) tt

member_given :
    (mode : Mode) (depth : ℕ) (of : Expr) → IsGiven mode depth of →
    (bytes : List ℕ) (read : Expr × List ℕ) → member_at of bytes ≡ Ok read →
    IsGiven mode (suc depth) read.0
unfolding member_at
member_given mode depth of is bytes read e = by (chosen (begins_with 42 bytes) _ _ _ e)
  where
    members : List (List ℕ) × List ℕ
    members = names_at (length bytes) [] (drop 1 bytes)

    name :
        (is_word bytes ≡ true) × (done (Index of (Lit (Str (word_of bytes)))) (behind_word bytes) ≡
        Ok read) ⊎ (is_word bytes ≡ false) × (stop {A = Expr × List ℕ} BadChar bytes ≡ Ok read) →
        IsGiven mode (suc depth) read.0
    name (inl parts) = subst (IsGiven mode (suc depth))
        (same_first (done (Index of (Lit (Str (word_of bytes)))) (behind_word bytes))
        (Index of (Lit (Str (word_of bytes)))) read.0 (behind_word bytes) read.1 refl parts.1)
        (given_index mode depth of (Lit (Str (word_of bytes))) is
        (leaf_given mode depth of is (word_of bytes)))
    name (inr parts) = absurd (cc (parts.1))

    by :
        (begins_with 42 bytes ≡ true) ×
        (done (Project of (names_at (length bytes) [] (drop 1 bytes)).0)
        (names_at (length bytes) [] (drop 1 bytes)).1 ≡ Ok read) ⊎ (begins_with 42 bytes ≡ false) ×
        (cond (is_word bytes) (done (Index of (Lit (Str (word_of bytes)))) (behind_word bytes))
        (stop {A = Expr × List ℕ} BadChar bytes) ≡ Ok read) →
        IsGiven mode (suc depth) read.0
    by (inl parts) = subst (IsGiven mode (suc depth))
        (same_first (done (Project of (names_at (length bytes) [] (drop 1 bytes)).0)
        (names_at (length bytes) [] (drop 1 bytes)).1)
        (Project of (names_at (length bytes) [] (drop 1 bytes)).0) read.0
        (names_at (length bytes) [] (drop 1 bytes)).1 read.1 refl parts.1)
        (given_project mode depth of (names_at (length bytes) [] (drop 1 bytes)).0 is
        (names_named (length bytes) [] (drop 1 bytes) tt))
    by (inr parts) = name (chosen (is_word bytes) _ _ _ parts.1)

tail_given :
    (mode : Mode) (depth : ℕ) (inner : List ℕ → Read Expr) →
    ((bytes : List ℕ) (read : Expr × List ℕ) → inner bytes ≡ Ok read → IsGiven mode depth read.0) →
    (of : Expr) → IsGiven mode depth of → (bytes : List ℕ) (read : Expr × List ℕ) →
    tail_at inner of bytes ≡ Ok read → IsGiven mode (suc depth) read.0
unfolding tail_at
tail_given mode depth inner sound of is bytes read e = by (chosen (begins_with 91 bytes) _ _ _ e)
  where
    by :
        (begins_with 91 bytes ≡ true) × (index_at inner of (drop 1 bytes) ≡ Ok read) ⊎
        (begins_with 91 bytes ≡ false) × (member_at of (drop 1 bytes) ≡ Ok read) →
        IsGiven mode (suc depth) read.0
    by (inl parts) = index_given mode depth inner sound of is (drop 1 bytes) read parts.1
    by (inr parts) = member_given mode depth of is (drop 1 bytes) read parts.1

tails_given :
    (mode : Mode) (depth : ℕ) (inner : List ℕ → Read Expr) →
    ((bytes : List ℕ) (read : Expr × List ℕ) → inner bytes ≡ Ok read → IsGiven mode depth read.0) →
    (turns : ℕ) (tree : Expr) (bytes : List ℕ) (read : Expr × List ℕ) →
    IsGiven mode (suc depth) tree → tails_at inner (suc depth) turns tree bytes ≡ Ok read →
    IsGiven mode (suc depth) read.0
unfolding tails_at
tails_given mode depth inner sound zero tree bytes read is e =
    by (chosen (begins_tail (skip is_blank bytes)) _ _ _ e)
  where
    by :
        (begins_tail (skip is_blank bytes) ≡ true) × (Err (deep_fault tree bytes) ≡ Ok read) ⊎
        (begins_tail (skip is_blank bytes) ≡ false) × (done tree (skip is_blank bytes) ≡ Ok read) →
        IsGiven mode (suc depth) read.0
    by (inl parts) = absurd (cc (parts.1))
    by (inr parts) = subst (IsGiven mode (suc depth)) (same_first (done tree (skip is_blank bytes))
        tree read.0 (skip is_blank bytes) read.1 refl parts.1) is
tails_given mode depth inner sound (suc turns) tree bytes read is e =
    by (λ next given more. tails_given mode depth inner sound turns next.0 next.1 read given more)
    (chosen (begins_tail (skip is_blank bytes)) _ _ _ e)
  where
    deeper :
        ((next : Expr × List ℕ) → IsGiven mode (suc depth) next.0 →
        tails_at inner (suc depth) turns next.0 next.1 ≡ Ok read →
        IsGiven mode (suc depth) read.0) →
        (nat_le (suc depth) (depth_of tree) ≡ true) × (Err (deep_fault tree bytes) ≡ Ok read) ⊎
        (nat_le (suc depth) (depth_of tree) ≡ false) ×
        ((tail_at inner tree (skip is_blank bytes) >>= λ next. tails_at inner (suc depth) turns
        next.0 next.1) ≡ Ok read) →
        IsGiven mode (suc depth) read.0
    deeper others (inl parts) = absurd (cc (parts.1))
    deeper others (inr parts) =
        let one = bind_ok (tail_at inner tree (skip is_blank bytes)) _ read parts.1 in
        let test = parts.0 in
        let within : depth_of tree ≤ depth = shallow depth (depth_of tree) test in
        others one.0 (tail_given mode depth inner sound tree (tight mode (suc depth) depth tree is
        within) (skip is_blank bytes) one.0 one.1.0) one.1.1
      where
        shallow : (depth deep : ℕ) → nat_le (suc depth) deep ≡ false → deep ≤ depth
        shallow depth deep test = let less : deep < suc depth = grind (arith, nat_tests) in
            omega arith

    by :
        ((next : Expr × List ℕ) → IsGiven mode (suc depth) next.0 →
        tails_at inner (suc depth) turns next.0 next.1 ≡ Ok read →
        IsGiven mode (suc depth) read.0) →
        (begins_tail (skip is_blank bytes) ≡ true) ×
        (cond (nat_le (suc depth) (depth_of tree)) (Err (deep_fault tree bytes))
        (tail_at inner tree (skip is_blank bytes) >>= λ next. tails_at inner (suc depth) turns
        next.0 next.1) ≡ Ok read) ⊎ (begins_tail (skip is_blank bytes) ≡ false) ×
        (done tree (skip is_blank bytes) ≡ Ok read) →
        IsGiven mode (suc depth) read.0
    by others (inl parts) = deeper others (chosen (nat_le (suc depth) (depth_of tree)) _ _ _
        parts.1)
    by others (inr parts) = subst (IsGiven mode (suc depth))
        (same_first (done tree (skip is_blank bytes)) tree read.0 (skip is_blank bytes) read.1 refl
        parts.1) is

-- ---- whole texts

text_is_given :
    (mode : Mode) (depth : ℕ) (bytes : List ℕ) (read : Expr × List ℕ) →
    text_at mode depth bytes ≡ Ok read → IsGiven mode depth read.0
unfolding text_at expression_at
text_is_given mode zero bytes read e =
    let one = bind_ok (primary_at mode false (λ rest. stop BadChar rest) (skip is_blank bytes)) _
    read e in
    absurd (primary_none mode (λ rest. stop BadChar rest) (skip is_blank bytes) one.0 one.1.0)
text_is_given mode (suc depth) bytes read e =
    let room : nat_lt 0 (suc depth) ≡ true = grind (arith, nat_tests) in
    let f = rw room at e in
    let one = bind_ok (primary_at mode true (text_at mode depth) (skip is_blank bytes))
    (λ first. tails_at (text_at mode depth) (suc depth) (suc depth) first.0 first.1) read f in
    let sound : (bytes : List ℕ) (read : Expr × List ℕ) → text_at mode depth bytes ≡ Ok read →
    IsGiven mode depth read.0 = text_is_given mode depth in
    tails_given mode depth (text_at mode depth) sound (suc depth) one.0.0 one.0.1 read
    (primary_given mode depth (text_at mode depth) sound (skip is_blank bytes) one.0.0 one.0.1
    one.1.0) one.1.1

-- the tree of a whole text
abbrev pub read_whole : Expr → Result Expr Fault
read_whole tree = Ok tree

whole_given :
    (mode : Mode) (bytes : List ℕ) (tree : Expr) → text_whole mode bytes ≡ Ok tree →
    IsGiven mode 50 tree
unfolding text_whole
whole_given mode bytes tree e =
    let one = bind_ok (text_at mode 50 bytes) _ tree e in
    by one.0 (text_is_given mode 50 bytes one.0 one.1.0)
    (chosen (length one.0.1 == 0) _ _ _ one.1.1)
  where
    by :
        (read : Expr × List ℕ) → IsGiven mode 50 read.0 →
        ((length read.1 == 0) ≡ true) × (read_whole read.0 ≡ Ok tree) ⊎
        ((length read.1 == 0) ≡ false) × (stop {A = Expr} Trailing read.1 ≡ Ok tree) →
        IsGiven mode 50 tree
    by read is (inl parts) = let same : read.0 ≡ tree = cc (parts.1) in subst (IsGiven mode 50) same
        is
    by read is (inr parts) = absurd (cc (parts.1))

pub placed_ok :
    (bytes : List ℕ) (found : Result Expr Fault) (tree : Expr) → placed bytes found ≡ Ok tree →
    found ≡ Ok tree
placed_ok bytes (Ok found) tree e = e
placed_ok bytes (Err fault) tree e = absurd (cc (e))

-- A text's tree is one that the grammar gives.
pub parses_given :
    (mode : Mode) (bytes : List ℕ) (tree : Expr) → parses mode bytes ≡ Ok tree →
    IsGiven mode 50 tree
unfolding parses
parses_given mode bytes tree e =
    whole_given mode bytes tree (placed_ok bytes (text_whole mode bytes) tree e)
