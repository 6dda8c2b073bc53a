-- Words that are parted by a comma and a space, one more.
use Rattle.std.proofs.Common.{◌≡◌, ℕ, ◌+◌, ◌<◌, List, [], ◌∷◌, ◌++◌, length, take, get_or, refl}
use Rattle.std.proofs.Common.{sym, ap, subst, ◌∙◌, append_assoc, append-nil, Option, Some, None}
use Rattle.std.specs.Prelude.{codes, flat_map, slice_get}
use Rattle.std.specs.List.{cons_option, join_by}
use Rattle.std.proofs.lemmas.Grind.{flat_map-append}
use Rattle.std.proofs.lemmas.List.{take_more}
use Rattle.std.proofs.lemmas.List.Elements.{filter_map-append}
use Rattle.pl_base.specs.declared.resource.ResourceKey.{ResourceKey}
use Rattle.pl_plan_report.specs.Lists.{names_at, use_text}

abbrev pub comma : List ℕ
comma = codes ", "

-- what stands between these and the next one
abbrev pub before_next : {X : Type 0} → List X → List ℕ
before_next [] = []
before_next (x ∷ xs) = comma

-- the text once these were put behind another one, and what stands before the next one
pub record Comes {X : Type 0} (told : X → List ℕ) (old : List ℕ) (xs : List X)
    (new before : List ℕ) : Type 0 where
  pub text : new ≡ old ++ join_by told comma xs
  pub next : before ≡ before_next xs

pub join_by-more : {X : Type 0} (told : X → List ℕ) (xs : List X) (x : X) →
    join_by told comma (xs ++ x ∷ []) ≡ join_by told comma xs ++ (before_next xs ++ told x)
join_by-more told [] x = append-nil (told x)
join_by-more told (y ∷ ys) x =
    ap (λ (rest : List ℕ). told y ++ rest)
    (flat_map-append (λ z. comma ++ told z) ys (x ∷ [])
    ∙ ap (λ (last : List ℕ). flat_map (λ z. comma ++ told z) ys ++ last)
    (append-nil (comma ++ told x)))
    ∙ sym (append_assoc (told y) (flat_map (λ z. comma ++ told z) ys) (comma ++ told x))

next_is_comma : {X : Type 0} (xs : List X) (x : X) → comma ≡ before_next (xs ++ x ∷ [])
next_is_comma [] x = refl
next_is_comma (y ∷ ys) x = refl

pub one_more : {X : Type 0} (told : X → List ℕ) (old : List ℕ) (xs : List X) (x : X)
    (new before last : List ℕ) → Comes told old xs new before →
    last ≡ (new ++ before) ++ told x → Comes told old (xs ++ x ∷ []) last comma
one_more told old xs x new before last comes is = record {
  text = is
      ∙ (append_assoc new before (told x)
      ∙ (ap (λ (start : List ℕ). start ++ (before ++ told x)) comes.text
      ∙ (append_assoc old (join_by told comma xs) (before ++ told x)
      ∙ ap (λ (end : List ℕ). old ++ end)
      (ap (λ (next : List ℕ). join_by told comma xs ++ (next ++ told x)) comes.next
      ∙ sym (join_by-more told xs x)))));
  next = next_is_comma xs x;
}

-- ---- resources, one more

pub one_use_more : (old : List ℕ) (keys : List ResourceKey) (i : ℕ) (key : ResourceKey)
    (new before last : List ℕ) → i < length keys → key ≡ get_or keys i key →
    Comes use_text old (take i keys) new before → last ≡ (new ++ before) ++ use_text key →
    Comes use_text old (take (i + 1) keys) last comma
one_use_more old keys i key new before last within is comes grown =
    let P : List ResourceKey → Type 0 = λ all. Comes use_text old all last comma in
    subst P (sym (take_more keys i key within
    ∙ ap (λ (one : ResourceKey). take i keys ++ one ∷ []) (sym is)))
    (one_more use_text old (take i keys) key new before last comes grown)

-- ---- names at places, one place more

abbrev itself : List ℕ → List ℕ
itself name = name

abbrev those : List (List ℕ) → List ℕ → ℕ → List (List ℕ)
those names places i = names_at names (take i places)

place_more : (names : List (List ℕ)) (places : List ℕ) (i : ℕ) (found : Option (List ℕ)) →
    i < length places → found ≡ slice_get names (get_or places i 0) →
    those names places (i + 1) ≡ those names places i ++ cons_option found []
place_more names places i found within is =
    ap (names_at names) (take_more places i 0 within)
    ∙ (filter_map-append (slice_get names) (take i places) (get_or places i 0 ∷ [])
    ∙ ap (λ (one : Option (List ℕ)). those names places i ++ cons_option one []) (sym is))

pub one_name_more : (old : List ℕ) (names : List (List ℕ)) (places : List ℕ) (i : ℕ)
    (name new before last after : List ℕ) → i < length places →
    Some name ≡ slice_get names (get_or places i 0) →
    Comes itself old (those names places i) new before → last ≡ (new ++ before) ++ name →
    after ≡ comma → Comes itself old (those names places (i + 1)) last after
one_name_more old names places i name new before last after within is comes grown parts =
    let P : List (List ℕ) → Type 0 = λ all. Comes itself old all last comma in
    let Q : List ℕ → Type 0 = λ next. Comes itself old (those names places (i + 1)) last next in
    subst Q (sym parts) (subst P (sym (place_more names places i (Some name) within is))
    (one_more itself old (those names places i) name new before last comes grown))

pub no_name_more : (old : List ℕ) (names : List (List ℕ)) (places : List ℕ) (i : ℕ)
    (new before last after : List ℕ) → i < length places →
    None ≡ slice_get names (get_or places i 0) →
    Comes itself old (those names places i) new before → last ≡ new → after ≡ before →
    Comes itself old (those names places (i + 1)) last after
no_name_more old names places i new before last after within is comes same next =
    let all : those names places (i + 1) ≡ those names places i =
    place_more names places i None within is ∙ append-nil (those names places i) in
    let P : List (List ℕ) → Type 0 = λ now. Comes itself old now last after in
    subst P (sym all) (record { text = same ∙ comes.text; next = next ∙ comes.next })
