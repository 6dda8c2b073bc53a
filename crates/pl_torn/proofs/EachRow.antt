-- The rows one after the other.
use Rattle.std.proofs.Common.{◌≡◌, ℕ, ◌+◌, ◌<◌, ◌≤◌, true, false, List, [], ◌∷◌, ◌++◌, length, take}
use Rattle.std.proofs.Common.{drop, get_or, Option, Some, None, sym, ap, ◌∙◌}
use Rattle.std.proofs.lemmas.List.{at_drop_all, at_drop_more, take_more}
use Rattle.pl_base.specs.declared.digest.Digest.{Digest}
use Rattle.pl_changes.proofs.Places.{if_false, if_true}
use Rattle.pl_torn.specs.Torn.{is_bad, torn_from}
use Rattle.pl_torn.specs.declared.seen.Seen.{Seen}

module _ (admin : Digest) (all : List Seen) where
  -- what is left to be judged behind so many rows
  abbrev pub from : ℕ → Option Seen
  from at = torn_from admin all (take at all) (drop at all)

  module _ (at : ℕ) (one : Seen) (lt : at < length all) (is : one ≡ get_or all at one) where
    split : from at ≡ torn_from admin all (take at all) (one ∷ drop (at + 1) all)
    split = at_drop_more (λ rest. torn_from admin all (take at all) rest) all at one lt ∙
        ap (λ (x : Seen). torn_from admin all (take at all) (x ∷ drop (at + 1) all)) (sym is)

    pub hit : is_bad admin all (take at all) one ≡ true → from at ≡ Some one
    hit bad = split ∙ if_true (is_bad admin all (take at all) one) (Some one)
        (torn_from admin all (take at all ++ one ∷ []) (drop (at + 1) all)) bad

    more : take (at + 1) all ≡ take at all ++ one ∷ []
    more = take_more all at one lt ∙
        ap (λ (x : Seen). take at all ++ x ∷ []) (sym is)

    pub miss : is_bad admin all (take at all) one ≡ false → from (at + 1) ≡ from at
    miss good = ap (λ (front : List Seen). torn_from admin all front (drop (at + 1) all)) more ∙
        sym (split ∙ if_false (is_bad admin all (take at all) one) (Some one)
        (torn_from admin all (take at all ++ one ∷ []) (drop (at + 1) all)) good)

  pub ended : (at : ℕ) → length all ≤ at → from at ≡ None
  ended at past = at_drop_all (λ rest. torn_from admin all (take at all) rest) all at past
