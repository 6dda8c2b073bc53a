-- The marks once a stage more, or one less, is eligible or holds.
use Rattle.std.proofs.Common.{◌≡◌, ◌<◌, ◌||◌, ℕ, Bool, true, false, cond, not, List, get_or, length}
use Rattle.std.proofs.Common.{is_some, refl, sym, ap, ◌∙◌, subst, ⊎_elim}
use Rattle.std.specs.BTreeMap.{BTreeMap, get}
use Rattle.std.specs.List.{Contains, list_any, remove}
use Rattle.std.proofs.lemmas.Bool.{or_cases}
use Rattle.std.proofs.lemmas.List.{get_or_default}
use Rattle.std.proofs.lemmas.List.Kept.{AllPairs-filter}
use Rattle.pl_base.specs.Firsts.{IsFirstAt}
use Rattle.pl_base.specs.declared.resource.ResourceKey.{ResourceKey}
use Rattle.pl_locks.specs.Kept.{IsOrdered, IsPutIn, is_at, without}
use Rattle.pl_locks.specs.Locks.{IsAt, Precedes}
use Rattle.pl_locks.specs.declared.contender.Contender.{Contender}
use Rattle.pl_locks.proofs.Moved.{Contains-from_filter, remove_at}
use Rattle.pl_lock_queues.specs.Queues.{AreMarked, among, key_cmp, marked, wants}
use Rattle.pl_lock_queues.proofs.Moving.{any_put, any_removed, found, tested}

module _ (eligible holders : List Contender) (marks : BTreeMap ResourceKey Bool)
    (are : AreMarked eligible holders marks) where
  pub more_marks : (new : BTreeMap ResourceKey Bool) →
      ((key : ResourceKey) → marked new key ≡ marked marks key) →
      ((key : ResourceKey) → is_some (get key_cmp marks key) ≡ true →
      is_some (get key_cmp new key) ≡ true) → AreMarked eligible holders new
  more_marks new same kept = record {
    held = λ key. same key ∙ are.held key;
    wanted = λ key h. kept key (are.wanted key h);
    owned = λ key h. kept key (are.owned key h);
  }

  pub entered_marks : (stage : Contender) (more : List Contender) →
      ((key : ResourceKey) → among stage.resources key ≡ true →
      is_some (get key_cmp marks key) ≡ true) → IsPutIn stage eligible more →
      AreMarked more holders marks
  entered_marks stage more made put = record {
    held = are.held;
    wanted = λ key h. ⊎_elim (are.wanted key) (made key)
        (or_cases (list_any (wants key) eligible) (wants key stage)
        (sym (ap (list_any (wants key)) put.is ∙ any_put (wants key) eligible put.place stage) ∙ h));
    owned = are.owned;
  }

  pub joined_marks : (stage : Contender) (more : List Contender)
      (new : BTreeMap ResourceKey Bool) → ((key : ResourceKey) → among stage.resources key ≡ true →
      is_some (get key_cmp marks key) ≡ true) → ((key : ResourceKey) → marked new key
      ≡ (marked marks key || among stage.resources key)) → ((key : ResourceKey) →
      is_some (get key_cmp new key) ≡ is_some (get key_cmp marks key)) →
      IsPutIn stage holders more → AreMarked eligible more new
  joined_marks stage more new made held kept put = record {
    held = λ key. held key ∙ ap (λ b. b || wants key stage) (are.held key)
        ∙ sym (ap (list_any (wants key)) put.is ∙ any_put (wants key) holders put.place stage);
    wanted = λ key h. kept key ∙ are.wanted key h;
    owned = λ key h. kept key ∙ ⊎_elim (are.owned key) (made key)
        (or_cases (list_any (wants key) holders) (wants key stage)
        (sym (ap (list_any (wants key)) put.is ∙ any_put (wants key) holders put.place stage) ∙ h));
  }

  still_wanted : (key : ResourceKey) (run position : ℕ) (stages : List Contender) →
      list_any (wants key) (without run position stages) ≡ true → list_any (wants key) stages ≡ true
  still_wanted key run position stages h =
      let (one, there, w) = found (wants key) (without run position stages) h in
      tested (wants key) stages one
      (Contains-from_filter (λ stage. not (is_at run position stage)) stages one there) w

  pub left_marks : (run position : ℕ) (left : List Contender) →
      left ≡ without run position eligible → AreMarked left holders marks
  left_marks run position left is = record {
    held = are.held;
    wanted = λ key h. are.wanted key (still_wanted key run position eligible
        (sym (ap (list_any (wants key)) is) ∙ h));
    owned = are.owned;
  }

  pub released_marks : (stage : Contender) (at : ℕ) (left : List Contender)
      (new : BTreeMap ResourceKey Bool) → at < length holders → stage ≡ get_or holders at stage →
      left ≡ remove holders at → left ≡ without stage.run stage.position holders →
      ((key : ResourceKey) → marked new key
      ≡ cond (among stage.resources key) (list_any (wants key) left) (marked marks key)) →
      ((key : ResourceKey) → is_some (get key_cmp new key) ≡ is_some (get key_cmp marks key)) →
      AreMarked eligible left new
  released_marks stage at left new within here is others anew kept = record {
    held = λ key. anew key ∙ by_key key (wants key stage) refl;
    wanted = λ key h. kept key ∙ are.wanted key h;
    owned = λ key h. kept key ∙ are.owned key (still_wanted key stage.run stage.position holders
        (sym (ap (list_any (wants key)) others) ∙ h));
  }
    where
      by_key : (key : ResourceKey) (b : Bool) → wants key stage ≡ b →
          cond b (list_any (wants key) left) (marked marks key) ≡ list_any (wants key) left
      by_key key true w = refl
      by_key key false w = are.held key
          ∙ sym (ap (list_any (wants key)) is
          ∙ any_removed (wants key) holders at stage within
          (ap (wants key) (sym here) ∙ w))

  -- the marks that a holder's resources have
  pub own_marks : (stage : Contender) → Contains holders stage → (key : ResourceKey) →
      among stage.resources key ≡ true → is_some (get key_cmp marks key) ≡ true
  own_marks stage there key w = are.owned key (tested (wants key) holders stage there w)

-- ---- a stage that is taken out

still_ordered : (run position : ℕ) (stages left : List Contender) →
    left ≡ without run position stages → IsOrdered stages → IsOrdered left
still_ordered run position stages left is ordered =
    subst IsOrdered (sym is) (AllPairs-filter Precedes (λ stage. not (is_at run position stage))
    stages ordered)

-- what is left, and that it was there
pub taken_out : (stages left : List Contender) (at : ℕ) (stage : Contender) → IsOrdered stages →
    at < length stages → stage ≡ get_or stages at stage → left ≡ remove stages at →
    (left ≡ without stage.run stage.position stages) × IsOrdered left × Contains stages stage
taken_out stages left at stage ordered within here is =
    let itself : (d : Contender) → get_or stages at d ≡ stage =
    λ d. get_or_default stages at d stage within ∙ sym here in
    let out : left ≡ without stage.run stage.position stages =
    is ∙ remove_at stage.run stage.position stages at ordered within (λ d. (
      ap (λ (x : Contender). x.run) (itself d),
      ap (λ (x : Contender). x.position) (itself d),
    )) in (
      out,
      still_ordered stage.run stage.position stages left out ordered,
      (at, within, sym here),
    )

-- the same by the run and the position at which it was found
pub found_out : (stages left : List Contender) (run position : ℕ) (stage : Contender) →
    IsAt run position stage → left ≡ without stage.run stage.position stages →
    left ≡ without run position stages
found_out stages left run position stage (r, p) is =
    is ∙ ap (λ n. without n stage.position stages) r ∙ ap (λ n. without run n stages) p

pub found_at : (stages : List Contender) (run position at : ℕ) (stage : Contender) →
    IsFirstAt (IsAt run position) stages at → stage ≡ get_or stages at stage →
    IsAt run position stage
found_at stages run position at stage first here =
    subst (IsAt run position) (sym here) (first.here stage)
