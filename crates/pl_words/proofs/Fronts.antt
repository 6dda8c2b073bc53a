-- Words as options, gone over from the first one on.
use Rattle.std.proofs.Common.{◌≡◌, ℕ, ◌≤◌, ◌-◌, ◌||◌, ◌&&◌, Bool, true, false, List, [], ◌∷◌, length}
use Rattle.std.proofs.Common.{map, take, drop, Option, Some, None, String, Global, string_bytes}
use Rattle.std.proofs.Common.{slice_index_or, refl, sym, ap, ◌∙◌, subst, arith}
use Rattle.std.proofs.Common.{Bor, not}
use Rattle.std.specs.Prelude.{◌==◌, find, if◌then◌else◌}
use Rattle.std.specs.List.{list_any}
use Rattle.std.specs.Option.{IfSome, is_some, option_map, option_map_or}
use Rattle.std.proofs.lemmas.Bool.{false≢true}
use Rattle.std.proofs.lemmas.List.{take_rest}
use Rattle.pl_words.specs.Options.{Given, and_more, are_once, begins_as_an_option, has_equals}
use Rattle.pl_words.specs.Options.{is_given, is_named, is_word, joined, joined_in, options_of, value_of}

abbrev pub bytes_of : List (String Global) → List (List ℕ)
bytes_of words = map (λ word. string_bytes word) words

abbrev pub Found : Type 0
Found = Option (List Given)

-- where words are options, the front's are it and the others
pub parted :
    (one : Given) (rest : Found) (options : List Given) → and_more one rest ≡ Some options →
    (others : List Given) × (rest ≡ Some others) × (options ≡ one ∷ others)
parted one None options is = absurd (false≢true (ap is_some is))
parted one (Some others) options is = (others, refl, cc)

-- What is told of all options is told of those of a rest.
abbrev pub Keeps : {X : Type 0} → (List Given → X) → Found → Found → Type 0
Keeps told all rest =
    (options : List Given) → all ≡ Some options →
    (others : List Given) × (rest ≡ Some others) × (told options ≡ told others)

abbrev pub Judges : {X : Type 0} → (List Given → X) → Found → X → Type 0
Judges told all answer = IfSome all (λ options. answer ≡ told options)

pub all_yet : {X : Type 0} (told : List Given → X) (all : Found) → Keeps told all all
all_yet told all options is = (options, is, refl)

judged :
    {X : Type 0} (told : List Given → X) (all : Found) (answer : X) →
    ((options : List Given) → all ≡ Some options → answer ≡ told options) → Judges told all answer
judged told None answer each = tt
judged told (Some options) answer each = each options refl

-- the rest holds a word that is no option
pub at_none :
    {X : Type 0} (told : List Given → X) (all rest : Found) (answer : X) → Keeps told all rest →
    rest ≡ None → Judges told all answer
at_none told all rest answer keeps is =
    judged told all answer (λ options all_is. absurd (false≢true (ap is_some (sym is
    ∙ (keeps options all_is).1))))

pub at_end :
    {X : Type 0} (told : List Given → X) (all rest : Found) (answer : X) → Keeps told all rest →
    rest ≡ Some [] → answer ≡ told [] → Judges told all answer
at_end told all rest answer keeps is says =
    judged told all answer (λ options all_is.
    let kept = keeps options all_is in
    says ∙ (ap told (some_is (sym is ∙ kept.1)) ∙ sym kept.2))
  where
    some_is : {a b : List Given} → Some a ≡ Some b → a ≡ b
    some_is is = cc

-- the front tells it
pub found :
    {X : Type 0} (told : List Given → X) (one : Given) (all rest behind : Found) (answer : X) →
    Keeps told all rest → rest ≡ and_more one behind →
    ((others : List Given) → answer ≡ told (one ∷ others)) → Judges told all answer
found told one all rest behind answer keeps is says =
    judged told all answer (λ options all_is.
    let kept = keeps options all_is in
    let parts = parted one behind kept.0 (sym is ∙ kept.1) in
    says parts.0 ∙ (ap told (sym parts.2) ∙ sym kept.2))

-- the front tells nothing of it
pub past :
    {X : Type 0} (told : List Given → X) (one : Given) (all rest behind : Found) →
    Keeps told all rest → rest ≡ and_more one behind →
    ((others : List Given) → told (one ∷ others) ≡ told others) → Keeps told all behind
past told one all rest behind keeps is says options all_is =
    let kept = keeps options all_is in
    let parts = parted one behind kept.0 (sym is ∙ kept.1) in
    (parts.0, parts.1, kept.2 ∙ (ap told parts.2 ∙ says parts.0))

-- ---- what the fronts are

pub nothing :
    (words : List (String Global)) → (length words == 0) ≡ true →
    options_of (bytes_of words) ≡ Some []
nothing [] none = refl
nothing (word ∷ words) none = absurd (grind (arith, none))

pub not_joined : (word : List ℕ) → None ≡ joined_in word → has_equals word ≡ false
not_joined word is = go (has_equals word) refl is
  where
    go :
        (b : Bool) → has_equals word ≡ b → None ≡ (if b then Some (joined word) else None) →
        has_equals word ≡ false
    go true e is = absurd (false≢true (ap is_some is))
    go false e is = e

pub is_joined :
    (word : List ℕ) (one : Given) → Some one ≡ joined_in word →
    (has_equals word ≡ true) × (joined word ≡ one)
is_joined word one is = go (has_equals word) refl is
  where
    go :
        (b : Bool) → has_equals word ≡ b → Some one ≡ (if b then Some (joined word) else None) →
        (has_equals word ≡ true) × (joined word ≡ one)
    go true e is = (e, cc)
    go false e is = absurd (false≢true (ap is_some (sym is)))

-- a name and its value in one word
pub one_word :
    (words : List (String Global)) (word : String Global) (one : Given) → 1 ≤ length words →
    word ≡ slice_index_or words 0 word → Some one ≡ joined_in (string_bytes word) →
    options_of (bytes_of words)
    ≡ and_more one (options_of (bytes_of (take (length words - 1) (drop 1 words))))
one_word [] word one some is_word is = absurd (omega (arith, some))
one_word (x ∷ []) word one some is_word is =
    let joins = is_joined (string_bytes x) one
    (subst (λ w. Some one ≡ joined_in (string_bytes w)) is_word is) in
    rw joins.0 (ap (λ g. Some (g ∷ [])) joins.1)
one_word (x ∷ y ∷ words) word one some is_word is =
    let joins = is_joined (string_bytes x) one
    (subst (λ w. Some one ≡ joined_in (string_bytes w)) is_word is) in
    rw (take_rest (x ∷ y ∷ words) 1, joins.0)
    (ap (λ g. and_more g (options_of (bytes_of (y ∷ words)))) joins.1)

-- a name, and its value in a word of its own
pub two_words :
    (name : List ℕ) (words : List (String Global)) (value : String Global) → 1 ≤ length words →
    value ≡ slice_index_or words 0 value → has_equals name ≡ false →
    begins_as_an_option (string_bytes value) ≡ false →
    options_of (name ∷ bytes_of words)
    ≡ and_more (record { name = name; value = string_bytes value })
    (options_of (bytes_of (take (length words - 1) (drop 1 words))))
two_words name [] value some is_value apart begins = absurd (omega (arith, some))
two_words name (x ∷ words) value some is_value apart begins =
    let is : begins_as_an_option (string_bytes x) ≡ false =
    subst (λ v. begins_as_an_option (string_bytes v) ≡ false) is_value begins in
    rw (take_rest (x ∷ words) 1, apart, is)
    (ap (λ v. and_more (record { name = name; value = string_bytes v })
    (options_of (bytes_of words))) (sym is_value))

-- ---- the value of an option

pub value_here :
    (name : List ℕ) (one : Given) (others : List Given) → is_named name one ≡ true →
    Some one.value ≡ value_of name (one ∷ others)
value_here name one others is =
    ap (λ b. option_map (λ (o : Given). o.value)
    (if b then Some one else find (is_named name) others)) (sym is)

pub value_past :
    (name : List ℕ) (one : Given) (others : List Given) → is_named name one ≡ false →
    value_of name (one ∷ others) ≡ value_of name others
value_past name one others is =
    ap (λ b. option_map (λ (o : Given). o.value)
    (if b then Some one else find (is_named name) others)) is

-- ---- options that have one of these names, each once

abbrev pub once : List (List ℕ) → Found → Bool
once names all = option_map_or (are_once names) all false

abbrev pub is_among : List ℕ → List (List ℕ) → Bool
is_among name names = list_any (λ one. is_word one name) names

pub among :
    (name : List ℕ) (names : List (Bor (List ℕ))) →
    is_among name (map (λ one. one.now) names) ≡ list_any (λ one. is_word one.now name) names
among name [] = refl
among name (one ∷ more) = ap (λ b. is_word one.now name || b) (among name more)

module _ (names : List (List ℕ)) (one : Given) (rest : Found) where
  -- the front has another name
  pub of_another_name :
      (behind : Found) → rest ≡ and_more one behind → is_among one.name names ≡ false →
      false ≡ once names rest
  of_another_name None is apart = ap (once names) (sym is)
  of_another_name (Some others) is apart =
      ap (λ b. b && (not (is_given one.name others) && are_once names others)) (sym apart)
      ∙ ap (once names) (sym is)

  -- the front's name comes again
  pub again :
      (behind : Found) → rest ≡ and_more one behind → is_among one.name names ≡ true →
      Judges (is_given one.name) behind true → false ≡ once names rest
  again None is there twice = ap (once names) (sym is)
  again (Some others) is there twice =
      ap (λ b. not b && are_once names others) twice
      ∙ ap (λ b. b && (not (is_given one.name others) && are_once names others)) (sym there)
      ∙ ap (once names) (sym is)

  -- it doesn't
  pub once_more :
      (behind : Found) → rest ≡ and_more one behind → is_among one.name names ≡ true →
      Judges (is_given one.name) behind false → once names rest ≡ once names behind
  once_more None is there fresh = ap (once names) is
  once_more (Some others) is there fresh =
      ap (once names) is
      ∙ ap (λ b. b && (not (is_given one.name others) && are_once names others)) there
      ∙ ap (λ b. not b && are_once names others) (sym fresh)
