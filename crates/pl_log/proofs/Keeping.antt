-- What is kept stays what it is when an item comes, and when the last one goes.
use Rattle.std.proofs.Common.{◌≡◌, ◌<◌, ◌≤◌, ◌+◌, ◌^◌, ℕ, suc, Bool, true, cond, List}
use Rattle.std.proofs.Common.{[], ◌∷◌, ◌++◌, length, Option, None, Some, is_some, unwrap_or}
use Rattle.std.proofs.Common.{refl, sym, ap, ◌∙◌, subst, arith}
use Rattle.std.proofs.lemmas.List.{length_push, length-map, map-append}
use Rattle.pl_log.specs.Keys.{Named, File, Pipeline, Resource, Principal, Agent, Run, Stage, Job}
use Rattle.pl_log.specs.Keys.{SecondNamed, Token, Taker, Queue, names}
use Rattle.pl_log.specs.Kept.{IsKept, IsTied, is_about, is_also_about, item_of, items_of, link_of}
use Rattle.pl_log.specs.Kept.{second_number, has_second_row}
use Rattle.pl_log.specs.Latest.{last_number}
use Rattle.pl_log.specs.Rows.{number_at, has_row_at, second_number_at, has_second_row_at}
use Rattle.pl_log.specs.declared.kept.Kept.{Kept}
use Rattle.pl_log.specs.declared.kept.Link.TheVariants.{First, Second}
use Rattle.pl_log.specs.declared.rows.Rows.{Rows}
use Rattle.pl_log.specs.declared.second_rows.SecondRows.{SecondRows}
use Rattle.pl_log.proofs.Chains.{last_number_le, last_number_push, leads_front, leads_push}
use Rattle.pl_log.proofs.Chains.{linked_front, linked_last, linked_push, tied_back, tied_push}
use Rattle.pl_log.proofs.Naming.{exact_key, exact_name, key_itself, second_itself}

-- ---- a number that isn't 0 has a row

some_there : (o : Option ℕ) (n : ℕ) → unwrap_or o 0 ≡ suc n → is_some o ≡ true
some_there None n h = absurd (cc)
some_there (Some m) n h = refl

row_there : (rows : Rows) (key : Named) (n : ℕ) → number_at rows key ≡ suc n →
    has_row_at rows key ≡ true
row_there rows (File key) n h = some_there _ n h
row_there rows (Pipeline name) n h = some_there _ n h
row_there rows (Resource key) n h = some_there _ n h
row_there rows (Principal name) n h = some_there _ n h
row_there rows (Agent name) n h = some_there _ n h
row_there rows (Run run) n h = some_there _ n h
row_there rows (Stage run stage) n h = some_there _ n h
row_there rows (Job run stage job) n h = some_there _ n h

second_row_there : (rows : SecondRows) (key : SecondNamed) (n : ℕ) →
    second_number_at rows key ≡ suc n → has_second_row_at rows key ≡ true
second_row_there rows (Token token) n h = some_there _ n h
second_row_there rows (Taker name) n h = some_there _ n h
second_row_there rows Queue n h = refl

-- the number of what passes is that of the last item, where that passes
tied_last : {Q X : Type 0} (about : Q → X → Bool) (number : Q → ℕ) (xs : List X) (x : X) (key : Q) →
    IsTied about number (xs ++ x ∷ []) → about key x ≡ true → number key ≡ suc (length xs)
tied_last about number xs x key tied passes = tied key ∙ last_number_push (about key) xs x
    ∙ ap (λ b. cond b (suc (length xs)) (last_number (about key) xs)) passes

pub items_push : {X : Type 0} (kept : List (Kept X)) (k : Kept X) →
    items_of (kept ++ k ∷ []) ≡ items_of kept ++ k.item ∷ []
items_push kept k = map-append item_of kept (k ∷ [])

module _ {X : Type 0} (named : X → Named) (second : X → Option SecondNamed) where
  pub last_has_row :
      (rows : Rows) (second_rows : SecondRows) (front : List (Kept X)) (k : Kept X) →
      IsKept named second rows second_rows (front ++ k ∷ []) → has_row_at rows (named k.item) ≡ true
  last_has_row rows second_rows front k h =
      let P : List X → Type 0 = IsTied (is_about named) (number_at rows) in
      row_there rows (named k.item) (length (items_of front))
      (tied_last (is_about named) (number_at rows) (items_of front) k.item (named k.item)
      (subst P (items_push front k) h.tied) (key_itself (named k.item)))

  pub last_has_second_row :
      (rows : Rows) (second_rows : SecondRows) (front : List (Kept X)) (k : Kept X) →
      IsKept named second rows second_rows (front ++ k ∷ []) →
      has_second_row second_rows (second k.item) ≡ true
  last_has_second_row rows second_rows front k h = go (second k.item) refl
    where
      P : List X → Type 0
      P = IsTied (is_also_about second) (second_number_at second_rows)

      go : (one : Option SecondNamed) → second k.item ≡ one → has_second_row second_rows one ≡ true
      go None is = refl
      go (Some key) is = second_row_there second_rows key (length (items_of front))
          (tied_last (is_also_about second) (second_number_at second_rows) (items_of front) k.item
          key
          (subst P (items_push front k) h.second_tied)
          (ap (λ one. names one key) is ∙ second_itself key))

  second_le : (second_rows : SecondRows) (items : List X) (one : Option SecondNamed) →
      IsTied (is_also_about second) (second_number_at second_rows) items →
      second_number second_rows one ≤ length items
  second_le second_rows items None tied = omega arith
  second_le second_rows items (Some key) tied =
      let is = tied key in
      let le = last_number_le (is_also_about second key) items in
      omega arith

  -- numbers are those of items
  pub number_within : (rows : Rows) (second_rows : SecondRows) (kept : List (Kept X)) →
      IsKept named second rows second_rows kept → (key : Named) →
      number_at rows key ≤ length kept
  number_within rows second_rows kept h key =
      let is = h.tied key in
      let le = last_number_le (is_about named key) (items_of kept) in
      let len : length (items_of kept) ≡ length kept = length-map kept item_of in
      omega arith

  pub second_number_within : (rows : Rows) (second_rows : SecondRows) (kept : List (Kept X)) →
      IsKept named second rows second_rows kept → (key : SecondNamed) →
      second_number_at second_rows key ≤ length kept
  second_number_within rows second_rows kept h key =
      let is = h.second_tied key in
      let le = last_number_le (is_also_about second key) (items_of kept) in
      let len : length (items_of kept) ≡ length kept = length-map kept item_of in
      omega arith

  -- rows with the same numbers
  pub kept_same : (rows new_rows : Rows) (second_rows new_second_rows : SecondRows)
      (kept : List (Kept X)) → IsKept named second rows second_rows kept →
      ((key : Named) → number_at new_rows key ≡ number_at rows key) →
      ((key : SecondNamed) →
      second_number_at new_second_rows key ≡ second_number_at second_rows key) →
      IsKept named second new_rows new_second_rows kept
  kept_same rows new_rows second_rows new_second_rows kept h same second_same = record {
    tied = λ key. same key ∙ h.tied key;
    second_tied = λ key. second_same key ∙ h.second_tied key;
    linked = h.linked;
    second_linked = h.second_linked;
    leads = h.leads;
    few = h.few;
  }

  -- the same list in other words
  pub kept_as : (rows : Rows) (second_rows : SecondRows) (kept other : List (Kept X)) →
      kept ≡ other → IsKept named second rows second_rows kept →
      IsKept named second rows second_rows other
  kept_as rows second_rows kept other is h =
      let P : List (Kept X) → Type 0 = IsKept named second rows second_rows in
      subst P is h

  pub kept_of : (rows : Rows) (second_rows : SecondRows) (kept other : List (Kept X)) →
      other ≡ kept → IsKept named second rows second_rows kept →
      IsKept named second rows second_rows other
  kept_of rows second_rows kept other is h = kept_as rows second_rows kept other (sym is) h

  -- no item, and no number
  pub kept_nothing : (rows : Rows) (second_rows : SecondRows) (kept : List (Kept X)) →
      kept ≡ [] → ((key : Named) → number_at rows key ≡ 0) →
      ((key : SecondNamed) → second_number_at second_rows key ≡ 0) →
      IsKept named second rows second_rows kept
  kept_nothing rows second_rows kept none zeros second_zeros =
      kept_of rows second_rows [] kept none (record {
        tied = zeros;
        second_tied = second_zeros;
        linked = λ key i d within passes. absurd (omega (arith, within));
        second_linked = λ key i d within passes. absurd (omega (arith, within));
        leads = λ link i d within. absurd (omega (arith, within));
        few = omega arith;
      })

  -- one item more
  pub kept_push :
      (rows new_rows : Rows) (second_rows new_second_rows : SecondRows) (kept : List (Kept X))
      (k : Kept X) (n : ℕ) →
      IsKept named second rows second_rows kept → n ≡ length kept + 1 → n < 2 ^ 32 →
      k.before ≡ number_at rows (named k.item) →
      k.second_before ≡ second_number second_rows (second k.item) →
      ((key : Named) → number_at new_rows key ≡
      cond (is_about named key k.item) n (number_at rows key)) →
      ((key : SecondNamed) → second_number_at new_second_rows key ≡
      cond (is_also_about second key k.item) n (second_number_at second_rows key)) →
      IsKept named second new_rows new_second_rows (kept ++ k ∷ [])
  kept_push rows new_rows second_rows new_second_rows kept k n h is small before second_before
      set second_set =
      let items = items_of kept in
      let len : length items ≡ length kept = length-map kept item_of in
      let number : n ≡ suc (length items) = omega arith in
      let P : List X → Type 0 = IsTied (is_about named) (number_at new_rows) in
      let Q : List X → Type 0 =
      IsTied (is_also_about second) (second_number_at new_second_rows) in
      record {
        tied = subst P (sym (items_push kept k)) (tied_push (is_about named) (number_at rows)
            (number_at new_rows) items k.item h.tied
            (λ key. set key ∙
            ap (λ m. cond (is_about named key k.item) m (number_at rows key)) number));
        second_tied = subst Q (sym (items_push kept k)) (tied_push (is_also_about second)
            (second_number_at second_rows) (second_number_at new_second_rows) items k.item
            h.second_tied
            (λ key. second_set key ∙
            ap (λ m. cond (is_also_about second key k.item) m (second_number_at second_rows key))
            number));
        linked = λ key. linked_push item_of (link_of First) (is_about named key) kept k
            (h.linked key) (λ passes. before ∙ h.tied (named k.item) ∙
            ap (λ q. last_number (is_about named q) items) (exact_key (named k.item) key passes));
        second_linked = λ key. linked_push item_of (link_of Second) (is_also_about second key) kept
            k
            (h.second_linked key) (λ passes. second_before ∙
            ap (second_number second_rows) (exact_name (second k.item) key passes) ∙
            h.second_tied key);
        leads = elim [
          | First ↦ leads_push (link_of First) kept k (h.leads First)
              (let le = last_number_le (is_about named (named k.item)) items in
              let at = h.tied (named k.item) in omega arith)
          | Second ↦ leads_push (link_of Second) kept k (h.leads Second)
              (let le = second_le second_rows items (second k.item) h.second_tied in omega arith)
        ];
        few = let more = length_push kept k in omega arith;
      }

  -- the last item goes
  pub kept_pop :
      (rows new_rows : Rows) (second_rows new_second_rows : SecondRows) (front : List (Kept X))
      (k : Kept X) →
      IsKept named second rows second_rows (front ++ k ∷ []) →
      ((key : Named) → number_at new_rows key ≡
      cond (is_about named key k.item) k.before (number_at rows key)) →
      ((key : SecondNamed) → second_number_at new_second_rows key ≡
      cond (is_also_about second key k.item) k.second_before (second_number_at second_rows key)) →
      IsKept named second new_rows new_second_rows front
  kept_pop rows new_rows second_rows new_second_rows front k h set second_set =
      let items = items_of front in
      let P : List X → Type 0 = IsTied (is_about named) (number_at rows) in
      let Q : List X → Type 0 =
      IsTied (is_also_about second) (second_number_at second_rows) in
      record {
        tied = tied_back (is_about named) (number_at rows) (number_at new_rows) items k.item
            k.before
            (subst P (items_push front k) h.tied)
            (λ key passes. linked_last item_of (link_of First) (is_about named key) front k
            (h.linked key) passes) set;
        second_tied = tied_back (is_also_about second) (second_number_at second_rows)
            (second_number_at new_second_rows) items k.item k.second_before
            (subst Q (items_push front k) h.second_tied)
            (λ key passes. linked_last item_of (link_of Second) (is_also_about second key) front k
            (h.second_linked key) passes) second_set;
        linked = λ key. linked_front item_of (link_of First) (is_about named key) front k
            (h.linked key);
        second_linked = λ key. linked_front item_of (link_of Second) (is_also_about second key)
            front k (h.second_linked key);
        leads = λ link. leads_front (link_of link) front k (h.leads link);
        few = let more = length_push front k in let small = h.few in omega arith;
      }
