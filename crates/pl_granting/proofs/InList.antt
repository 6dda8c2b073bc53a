-- What is found first in a list of stages in order is the least.
use Rattle.std.proofs.Common.{◌≡◌, ◌+◌, ◌<◌, ◌≤◌, ℕ, List, ◌∷◌, Option, Some, None, drop, get_or}
use Rattle.std.proofs.Common.{length, refl, sym, ap, ◌∙◌, subst, arith, inl, inr}
use Rattle.std.specs.List.{Contains}
use Rattle.std.proofs.lemmas.List.{drop_more}
use Rattle.pl_base.specs.declared.resource.ResourceKey.{ResourceKey}
use Rattle.pl_locks.specs.Kept.{IsOrdered}
use Rattle.pl_locks.specs.Locks.{ComesFirst}
use Rattle.pl_locks.specs.declared.contender.Contender.{Contender}
use Rattle.pl_locks.proofs.Ordered.{least_of}
use Rattle.pl_granting.specs.Locked.{FirstHeld, HolderOf, IsHolderOf, IsLeastFirst}

module _ (holders : List Contender) (key : ResourceKey) (i : ℕ) where
  pub holder_found : (stage : Contender) → IsOrdered holders → i < length holders →
      stage ≡ get_or holders i stage →
      ((k : ℕ) (d : Contender) → k < i → Contains (get_or holders k d).resources key → ⊥) →
      Contains stage.resources key → IsHolderOf holders key stage
  holder_found stage ordered within is none contains = record {
    has = ((i, within, sym is), contains);
    least = λ other has. least_of (λ (one : Contender). Contains one.resources key) holders i stage
        ordered is none other has.0 has.1;
  }

  pub no_holder : length holders ≤ i →
      ((k : ℕ) (d : Contender) → k < i → Contains (get_or holders k d).resources key → ⊥) →
      HolderOf holders key None
  no_holder past none = λ stage ((k, below, at_k), contains).
      none k stage (omega (arith, below, past))
      (subst (λ (one : Contender). Contains one.resources key) (sym at_k) contains)

pub first_found : (eligible : List Contender) (stage : Contender) (i : ℕ) (other : Contender) →
    IsOrdered eligible → i < length eligible → other ≡ get_or eligible i other →
    ((k : ℕ) (d : Contender) → k < i → ComesFirst eligible (get_or eligible k d) stage → ⊥) →
    ComesFirst eligible other stage → IsLeastFirst eligible stage other
first_found eligible stage i other ordered within is none comes = record {
  is_eligible = (i, within, sym is);
  comes = comes;
  least = least_of (λ (one : Contender). ComesFirst eligible one stage) eligible i other ordered is
      none;
}

-- ---- key after key

module _ (holders : List Contender) (keys : List ResourceKey) (i : ℕ) (key : ResourceKey)
    (within : i < length keys) (is : key ≡ get_or keys i key)
    (left : (found : Option Contender) → FirstHeld holders (drop i keys) found →
    FirstHeld holders keys found) where
  rest : key ∷ drop (i + 1) keys ≡ drop i keys
  rest = ap (λ x. x ∷ drop (i + 1) keys) is ∙ sym (drop_more keys i key within)

  pub key_held : (stage : Contender) → IsHolderOf holders key stage →
      FirstHeld holders keys (Some stage)
  key_held stage holder = left (Some stage)
      (subst (λ ks. FirstHeld holders ks (Some stage)) rest (inl (stage, refl, holder)))

  pub key_unheld : HolderOf holders key None → (found : Option Contender) →
      FirstHeld holders (drop (i + 1) keys) found → FirstHeld holders keys found
  key_unheld none found later = left found
      (subst (λ ks. FirstHeld holders ks found) rest (inr (none, later)))
