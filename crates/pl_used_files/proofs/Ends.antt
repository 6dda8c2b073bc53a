-- Files that were called, among those that are used in the end.
use Rattle.std.proofs.Common.{◌≡◌, ℕ, zero, suc, ◌<◌, Bool, true, false, cond, Ok}
use Rattle.std.proofs.Common.{List, [], ◌∷◌, ◌++◌, length, refl, sym, subst, arith}
use Rattle.std.specs.Prelude.{Contains, filter, not, nat_le, ◌||◌}
use Rattle.std.specs.List.{AllByRecursion as Each, slice_index_or}
use Rattle.std.proofs.lemmas.Bool.{false≢true}
use Rattle.pl_base.specs.declared.place.FileKey.{FileKey}
use Rattle.pl_base.specs.declared.place.Place.{Place}
use Rattle.pl_base.specs.Texts.{is}
use Rattle.pl_directives.specs.declared.fault.ExpandProblem.TheVariants.{TooManyFiles}
use Rattle.pl_directives.specs.Complaints.{refused}
use Rattle.pl_origins.proofs.SameFile.{same_key}
use Rattle.pl_calls.specs.Reaching.{same_file, is_called, called_then}
use Rattle.pl_eval_laws.proofs.Lists.{each_front, each_back, each_implies}
use Rattle.pl_origins.proofs.Steps.{Gives}
use Rattle.pl_expand.specs.Tree.{used_files}

-- ---- what stands in a list

pub first_in : {X : Type 0} (x : X) (xs : List X) → Contains (x ∷ xs) x
first_in x xs = (0, omega arith, refl)

later_in :
    {X : Type 0} (first : X) (xs : List X) (x : X) → Contains xs x → Contains (first ∷ xs) x
later_in first xs x (at, within, is) = (suc at, omega (arith, within), is)

-- ---- one file

-- ---- the files that are used in the end

module _ (final : List FileKey) where
  abbrev pub AreUsed : List FileKey → Type 0
  AreUsed used = Each (Contains final) used

  called_by :
      (key one : FileKey) (used : List FileKey) → Contains final one →
      (is_called key used ≡ true → Contains final key) →
      (b : Bool) → same_file key one ≡ b → (b || is_called key used) ≡ true → Contains final key
  called_by key one used first later true same called =
      subst (Contains final) (sym (same_key key one same)) first
  called_by key one used first later false other called = later called

  called_used :
      (key : FileKey) (used : List FileKey) → is_called key used ≡ true → AreUsed used →
      Contains final key
  called_used key [] called all = absurd (false≢true called)
  called_used key (one ∷ used) called all =
      called_by key one used all.0 (λ later. called_used key used later all.1)
      (same_file key one) refl called

  pub then_gives :
      (at : Place) (key : FileKey) (used : List FileKey) →
      Gives AreUsed (Unit {0}) used (called_then at key used) (λ none. Contains final key)
  then_gives at key used = by (is_called key used) refl
    where
      more : (b : Bool) → Gives AreUsed (Unit {0}) used
          (cond b (refused {X = Unit {0} × List FileKey} TooManyFiles at)
          (Ok (tt, used ++ key ∷ []))) (λ none. Contains final key)
      more true = tt
      more false = (
        λ all. each_front (Contains final) used (key ∷ []) all,
        λ all h. (each_back (Contains final) used (key ∷ []) all).0,
      )

      by : (b : Bool) → is_called key used ≡ b → Gives AreUsed (Unit {0}) used
          (cond b (Ok (tt, used))
          (cond (nat_le 100 (length used)) (refused {X = Unit {0} × List FileKey} TooManyFiles at)
          (Ok (tt, used ++ key ∷ [])))) (λ none. Contains final key)
      by true called = (λ all. all, λ all h. called_used key used called all)
      by false other = more (nat_le 100 (length used))

-- ---- all files that were called are among those that are used in the end

module _ (root : FileKey) where
  abbrev IsAnother : FileKey → Bool
  IsAnother key = not (same_file key root)

  shifted :
      (first : FileKey) (files : List FileKey) (key : FileKey) (at : ℕ) →
      at < length (root ∷ files) → slice_index_or (root ∷ files) at key ≡ key →
      Contains (root ∷ first ∷ files) key
  shifted first files key zero within is = (0, omega arith, is)
  shifted first files key (suc at) within is = (suc (suc at), omega (arith, within), is)

  pub all_used : (ends : List FileKey) → Each (Contains (used_files root ends)) ends
  all_used [] = tt
  all_used (key ∷ ends) = by (same_file key root) refl (all_used ends)
    where
      by : (b : Bool) → same_file key root ≡ b → Each (Contains (used_files root ends)) ends →
          Each (Contains (root ∷ cond (not b) (key ∷ filter IsAnother ends)
          (filter IsAnother ends))) (key ∷ ends)
      by true same all = (
        subst (Contains (used_files root ends)) (sym (same_key key root same))
            (first_in root (filter IsAnother ends)),
        all,
      )
      by false other all = (
        later_in root (key ∷ filter IsAnother ends) key (first_in key (filter IsAnother ends)),
        each_implies (Contains (used_files root ends))
            (Contains (root ∷ key ∷ filter IsAnother ends))
            (λ one stands. shifted key (filter IsAnother ends) one stands.0 stands.1 stands.2)
            ends all,
      )
