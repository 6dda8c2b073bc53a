-- What marks and lines have after one key more.
use Rattle.std.proofs.Common.{◌≡◌, ◌<◌, ◌+◌, ◌&&◌, ◌||◌, Bool, true, false, cond, not, ℕ, List, [], ◌∷◌}
use Rattle.std.proofs.Common.{drop, get_or, length, take, is_some, refl, sym, ap, ◌∙◌, subst, ⊎_elim}
use Rattle.std.proofs.Common.{Option, None, Some, unwrap_or}
use Rattle.std.specs.BTreeMap.{BTreeMap, get, is_at}
use Rattle.std.specs.List.{list_any}
use Rattle.std.proofs.lemmas.Bool.{or_cases}
use Rattle.std.proofs.lemmas.List.{take-append-drop}
use Rattle.std.proofs.lemmas.List.Folds.{list_any-append, list_any_at, list_any_more}
use Rattle.pl_base.specs.declared.resource.ResourceKey.{ResourceKey}
use Rattle.pl_locks.specs.declared.contender.Contender.{Contender}
use Rattle.pl_lock_queues.specs.Queues.{Place, among, key_cmp, marked, place_cmp, stand_at, wants}
use Rattle.pl_lock_queues.proofs.Bools.{both_more, cond_either, either_false, none_more}
use Rattle.pl_lock_queues.proofs.Bools.{part_false}
use Rattle.pl_lock_queues.proofs.Orders.{key_itself, same_key}

-- ---- one mark

none_marked : (o : Option Bool) → is_some o ≡ false → unwrap_or o false ≡ false
none_marked None h = refl
none_marked (Some b) h = absurd (cc)

-- a mark that is made where none is says as little as none
pub made_same : (own : ResourceKey) (old new : BTreeMap ResourceKey Bool) →
    is_some (get key_cmp old own) ≡ false → ((other : ResourceKey) → get key_cmp new other
    ≡ cond (is_at (key_cmp own) other) (Some false) (get key_cmp old other)) →
    (other : ResourceKey) → marked new other ≡ marked old other
made_same own old new none is other =
    ap (λ (o : Option Bool). unwrap_or o false) (is other)
    ∙ by_key (is_at (key_cmp own) other) refl
  where
    by_key : (b : Bool) → is_at (key_cmp own) other ≡ b →
        unwrap_or (cond b (Some false) (get key_cmp old other)) false ≡ marked old other
    by_key true at = sym (subst (λ (k : ResourceKey). unwrap_or (get key_cmp old k) false ≡ false)
        (same_key own other at) (none_marked (get key_cmp old own) none))
    by_key false at = refl

-- a mark that is set was there
pub kept_at : (own : ResourceKey) (old new : BTreeMap ResourceKey Bool) (held : Bool) →
    is_some (get key_cmp old own) ≡ true → ((other : ResourceKey) → get key_cmp new other
    ≡ cond (is_at (key_cmp own) other) (Some held) (get key_cmp old other)) →
    (other : ResourceKey) → is_some (get key_cmp new other) ≡ is_some (get key_cmp old other)
kept_at own old new held some is other =
    ap (λ (o : Option Bool). is_some o) (is other) ∙ by_key (is_at (key_cmp own) other) refl
  where
    by_key : (b : Bool) → is_at (key_cmp own) other ≡ b →
        is_some (cond b (Some held) (get key_cmp old other)) ≡ is_some (get key_cmp old other)
    by_key true at = sym (subst (λ (k : ResourceKey). is_some (get key_cmp old k) ≡ true)
        (same_key own other at) some)
    by_key false at = refl

-- ---- one key more

module _ (keys : List ResourceKey) (i : ℕ) (own : ResourceKey) (within : i < length keys)
    (is : own ≡ get_or keys i own) where
  -- one key more
  pub among_more : (other : ResourceKey) → among (take (i + 1) keys) other
      ≡ (among (take i keys) other || is_at (key_cmp own) other)
  among_more other = list_any_more (λ k. is_at (key_cmp k) other) keys i own within
      ∙ ap (λ k. among (take i keys) other || is_at (key_cmp k) other) (sym is)

  pub own_among : among keys own ≡ true
  own_among = list_any_at (λ k. is_at (key_cmp k) own) keys i own within
      (ap (λ k. is_at (key_cmp k) own) (sym is) ∙ key_itself own)

  pub made_more : (marks new : BTreeMap ResourceKey Bool) →
      ((other : ResourceKey) → is_some (get key_cmp marks other) ≡ true →
      is_some (get key_cmp new other) ≡ true) → is_some (get key_cmp new own) ≡ true →
      ((other : ResourceKey) → among (take i keys) other ≡ true →
      is_some (get key_cmp marks other) ≡ true) → (other : ResourceKey) →
      among (take (i + 1) keys) other ≡ true → is_some (get key_cmp new other) ≡ true
  made_more marks new kept ok made other h =
      ⊎_elim (λ before. kept other (made other before))
      (λ here. subst (λ (k : ResourceKey). is_some (get key_cmp new k) ≡ true)
      (same_key own other here) ok)
      (or_cases (among (take i keys) other) (is_at (key_cmp own) other)
      (sym (among_more other) ∙ h))

  -- a mark more that says held
  pub held_more : (was now new : ResourceKey → Bool) → ((other : ResourceKey) →
      new other ≡ cond (among (own ∷ []) other) true (now other)) → ((other : ResourceKey) →
      now other ≡ (was other || among (take i keys) other)) → (other : ResourceKey) →
      new other ≡ (was other || among (take (i + 1) keys) other)
  held_more was now new step so_far other =
      step other
      ∙ held (is_at (key_cmp own) other) (was other) (among (take i keys) other) (now other)
      (so_far other)
      ∙ ap (λ b. was other || b) (sym (among_more other))
    where
      held : (b w a n : Bool) → n ≡ (w || a) → cond (b || false) true n ≡ (w || (a || b))
      held true true a n h = refl
      held true false true n h = refl
      held true false false n h = refl
      held false w a n h = h ∙ ap (λ x. w || x) (sym (either_false a))

  -- a mark more that is made anew
  pub anew_more : (holders : List Contender) (was now new : ResourceKey → Bool) →
      ((other : ResourceKey) → new other
      ≡ cond (among (own ∷ []) other) (list_any (wants own) holders) (now other)) →
      ((other : ResourceKey) → now other
      ≡ cond (among (take i keys) other) (list_any (wants other) holders) (was other)) →
      (other : ResourceKey) → new other
      ≡ cond (among (take (i + 1) keys) other) (list_any (wants other) holders) (was other)
  anew_more holders was now new step so_far other =
      step other ∙ by_key (is_at (key_cmp own) other) refl
      ∙ ap (λ b. cond b (list_any (wants other) holders) (was other)) (sym (among_more other))
    where
      by_key : (b : Bool) → is_at (key_cmp own) other ≡ b →
          cond (b || false) (list_any (wants own) holders) (now other)
          ≡ cond (among (take i keys) other || b) (list_any (wants other) holders) (was other)
      by_key true at =
          ap (λ k. list_any (wants k) holders) (same_key own other at)
          ∙ sym (cond_either (among (take i keys) other) (list_any (wants other) holders)
          (was other))
      by_key false at = so_far other ∙ ap (λ b. cond b (list_any (wants other) holders) (was other))
          (sym (either_false (among (take i keys) other)))

  -- a place in one line more
  pub stands_more : (place : Place) (was now new : ResourceKey → Place → Bool) →
      ((key : ResourceKey) (p : Place) → new key p
      ≡ (now key p || (is_at (key_cmp own) key && is_at (place_cmp place) p))) →
      ((key : ResourceKey) (p : Place) → now key p
      ≡ (was key p || stand_at (take i keys) place key p)) →
      (key : ResourceKey) (p : Place) → new key p
      ≡ (was key p || stand_at (take (i + 1) keys) place key p)
  stands_more place was now new step so_far key p =
      let at = is_at (place_cmp place) p in
      step key p ∙ ap (λ s. s || (is_at (key_cmp own) key && at)) (so_far key p)
      ∙ both_more (was key p) (among (take i keys) key) (is_at (key_cmp own) key) at
      ∙ ap (λ a. was key p || (a && at)) (sym (among_more key))

  -- and in one line less
  pub stands_less : (place : Place) (was now new : ResourceKey → Place → Bool) →
      ((key : ResourceKey) (p : Place) → new key p
      ≡ (now key p && not (is_at (key_cmp own) key && is_at (place_cmp place) p))) →
      ((key : ResourceKey) (p : Place) → now key p
      ≡ (was key p && not (stand_at (take i keys) place key p))) →
      (key : ResourceKey) (p : Place) → new key p
      ≡ (was key p && not (stand_at (take (i + 1) keys) place key p))
  stands_less place was now new step so_far key p =
      let at = is_at (place_cmp place) p in
      step key p ∙ ap (λ s. s && not (is_at (key_cmp own) key && at)) (so_far key p)
      ∙ none_more (was key p) (among (take i keys) key) (is_at (key_cmp own) key) at
      ∙ ap (λ a. was key p && not (a && at)) (sym (among_more key))

  -- a place that couldn't be put into one line more
  pub stands_else : (place : Place) (was now new : ResourceKey → Place → Bool) →
      ((key : ResourceKey) (p : Place) → new key p ≡ now key p) →
      ((key : ResourceKey) (p : Place) → now key p
      ≡ (was key p || stand_at (take i keys) place key p)) →
      (key : ResourceKey) (p : Place) → stand_at keys place key p ≡ false →
      new key p ≡ was key p
  stands_else place was now new same so_far key p none =
      let test : ResourceKey → Bool = λ k. is_at (key_cmp k) key in
      let split : among keys key ≡ (list_any test (take i keys) || list_any test (drop i keys)) =
      ap (list_any test) (sym (take-append-drop i keys))
      ∙ list_any-append test (take i keys) (drop i keys) in
      let at = is_at (place_cmp place) p in
      same key p ∙ so_far key p
      ∙ ap (λ b. was key p || b) (part_false (among (take i keys) key)
      (list_any test (drop i keys)) at (sym (ap (λ b. b && at) split) ∙ none))
      ∙ either_false (was key p)
