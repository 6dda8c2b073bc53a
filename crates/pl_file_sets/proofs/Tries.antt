-- What tries tell.
use Rattle.std.proofs.Common.{◌≡◌, ◌-◌, ◌++◌, ◌∷◌, ℕ, Bool, true, false, cond, not, List, [], Option}
use Rattle.std.proofs.Common.{Some, None, Result, Ok, Err, rules, refl, sym, ap, subst, ◌∙◌}
use Rattle.std.proofs.lemmas.Bool.{true≢false}
use Rattle.std.specs.List.{filter}
use Rattle.std.specs.Prelude.{IfOk}
use Rattle.pl_base.specs.declared.place.FileKey.{FileKey}
use Rattle.pl_requests.specs.declared.settings.FileText.{FileText}
use Rattle.pl_file_sets.specs.declared.trie.Trie.{Trie, Leaf, Fork}
use Rattle.pl_file_sets.specs.declared.trie.Trie.{the_lemmas}
use Rattle.pl_file_sets.specs.Spread.{is_high, spread_of}
use Rattle.pl_file_sets.specs.Tries.{Tells, found, is_key, is_on_side, text_in, told_but}
use Rattle.pl_file_sets.proofs.Leaves.{by_sides, one_key, with_one, without_one}

pub found-leaf : (files : List FileText) (bit : ℕ) (key : FileKey) →
    found (Leaf files) bit key ≡ text_in key files
found-leaf files bit key = search (rules, the_lemmas)

pub found-fork : (low high : Trie) (bit : ℕ) (key : FileKey) →
    found (Fork low high) bit key
    ≡ cond (is_high bit (spread_of key)) (found high (bit - 1) key) (found low (bit - 1) key)
found-fork low high bit key = search (rules, the_lemmas)

-- a key on the other side is another
apart : (bit : ℕ) (name key : FileKey) (b : Bool) →
    is_high bit (spread_of name) ≡ b → (c : Bool) → is_high bit (spread_of key) ≡ c → ¬ (b ≡ c) →
    (same : Bool) → is_key key name ≡ same → is_key key name ≡ false
apart bit name key b name_is c key_is differ true same =
    absurd (differ (sym name_is
    ∙ ap (λ one. is_high bit (spread_of one)) (sym (one_key key name same)) ∙ key_is))
apart bit name key b name_is c key_is differ false same = same

module _ (bit : ℕ) (name : FileKey) (text : Option (List ℕ)) (low high new : Trie) where
  module _ (is : is_high bit (spread_of name) ≡ true)
      (tells : Tells (bit - 1) new (told_but name text (found high (bit - 1)))) where
    in_high : (key : FileKey) (h : Bool) → is_high bit (spread_of key) ≡ h →
        cond h (found new (bit - 1) key) (found low (bit - 1) key)
        ≡ cond (is_key key name) text (cond h (found high (bit - 1) key) (found low (bit - 1) key))
    in_high key true e = tells key
    in_high key false e = sym (ap (λ b. cond b text (found low (bit - 1) key))
        (apart bit name key true is false e true≢false (is_key key name) refl))

    pub changed_high : Tells bit (Fork low new) (told_but name text (found (Fork low high) bit))
    changed_high key = found-fork low new bit key ∙ in_high key (is_high bit (spread_of key)) refl
        ∙ ap (cond (is_key key name) text) (sym (found-fork low high bit key))

  module _ (is : is_high bit (spread_of name) ≡ false)
      (tells : Tells (bit - 1) new (told_but name text (found low (bit - 1)))) where
    in_low : (key : FileKey) (h : Bool) → is_high bit (spread_of key) ≡ h →
        cond h (found high (bit - 1) key) (found new (bit - 1) key)
        ≡ cond (is_key key name) text (cond h (found high (bit - 1) key) (found low (bit - 1) key))
    in_low key false e = tells key
    in_low key true e = sym (ap (λ b. cond b text (found high (bit - 1) key))
        (apart bit name key false is true e (λ f. true≢false (sym f)) (is_key key name) refl))

    pub changed_low : Tells bit (Fork new high) (told_but name text (found (Fork low high) bit))
    changed_low key = found-fork new high bit key ∙ in_low key (is_high bit (spread_of key)) refl
        ∙ ap (cond (is_key key name) text) (sym (found-fork low high bit key))

-- ---- a fork with one side changed, as it is made

module _ (bit below : ℕ) (name : FileKey) (text : Option (List ℕ))
    (trie low high side made left right : Trie) (is_fork : trie ≡ Fork low high)
    (below_is : below ≡ bit - 1)
    (tells : Tells below made (told_but name text (found side below))) where
  abbrev Told : Trie → Trie → Trie → Type 0
  Told l r old = Tells bit (Fork l r) (told_but name text (found old bit))

  tells_below : Tells (bit - 1) made (told_but name text (found side (bit - 1)))
  tells_below = subst (λ n. Tells n made (told_but name text (found side n))) below_is tells

  pub with_high : side ≡ high → left ≡ low → right ≡ made → is_high bit (spread_of name) ≡ true →
      Told left right trie
  with_high side_is left_is right_is is =
      subst (λ old. Told left right old) (sym is_fork)
      (subst (λ l. Told l right (Fork low high)) (sym left_is)
      (subst (λ r. Told low r (Fork low high)) (sym right_is)
      (changed_high bit name text low high made is
      (subst (λ s. Tells (bit - 1) made (told_but name text (found s (bit - 1)))) side_is
      tells_below))))

  pub with_low : side ≡ low → left ≡ made → right ≡ high → is_high bit (spread_of name) ≡ false →
      Told left right trie
  with_low side_is left_is right_is is =
      subst (λ old. Told left right old) (sym is_fork)
      (subst (λ l. Told l right (Fork low high)) (sym left_is)
      (subst (λ r. Told made r (Fork low high)) (sym right_is)
      (changed_low bit name text low high made is
      (subst (λ s. Tells (bit - 1) made (told_but name text (found s (bit - 1)))) side_is
      tells_below))))

-- ---- leaves

pub without_leaf : (bit : ℕ) (trie : Trie) (files others : List FileText) (name : FileKey) →
    trie ≡ Leaf files → others ≡ filter (λ file. not (is_key name file.key)) files →
    Tells bit (Leaf others) (told_but name None (found trie bit))
without_leaf bit trie files others name is others_are key =
    found-leaf others bit key ∙ ap (text_in key) others_are ∙ without_one files name key
    ∙ ap (cond (is_key key name) None)
    (sym (ap (λ one. found one bit key) is ∙ found-leaf files bit key))

pub leaf_tells : (bit : ℕ) (files : List FileText) → Tells bit (Leaf files) (λ key. text_in key files)
leaf_tells bit files key = found-leaf files bit key

-- files put behind others of other keys
pub more_tell : (bit : ℕ) (files more : List FileText) (file : FileText) (trie : Trie) →
    more ≡ filter (λ one. not (is_key file.key one.key)) files ++ file ∷ [] →
    Tells bit trie (λ key. text_in key more) →
    Tells bit trie (told_but file.key (Some file.text) (λ key. text_in key files))
more_tell bit files more file trie is tells key =
    tells key ∙ ap (text_in key) is ∙ with_one files file key

pub parted_tells : (bit : ℕ) (files : List FileText) (low high : Trie) (left right : List FileText) →
    low ≡ Leaf left → high ≡ Leaf right →
    left ≡ filter (λ file. is_on_side false bit file.key) files →
    right ≡ filter (λ file. is_on_side true bit file.key) files →
    Tells bit (Fork low high) (λ key. text_in key files)
parted_tells bit files low high left right is_low is_high_side is_left is_right key =
    found-fork low high bit key
    ∙ (λ i. cond (is_high bit (spread_of key))
    ((ap (λ t. found t (bit - 1) key) is_high_side ∙ found-leaf right (bit - 1) key
    ∙ ap (text_in key) is_right) i)
    ((ap (λ t. found t (bit - 1) key) is_low ∙ found-leaf left (bit - 1) key
    ∙ ap (text_in key) is_left) i))
    ∙ by_sides bit files key

pub more_in : {E : Type 0} (bit : ℕ) (files more : List FileText) (file : FileText)
    (made : Result Trie E) →
    more ≡ filter (λ one. not (is_key file.key one.key)) files ++ file ∷ [] →
    IfOk made (λ trie. Tells bit trie (λ key. text_in key more)) →
    IfOk made (λ trie. Tells bit trie (told_but file.key (Some file.text) (λ key. text_in key files)))
more_in bit files more file (Ok trie) is tells = more_tell bit files more file trie is tells
more_in bit files more file (Err e) is tells = tt
