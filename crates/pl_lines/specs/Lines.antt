-- Places in order, in a line for each key.
use Rattle.std.specs.Prelude.{◌≡◌, ◌&&◌, Bool, true, false}
use Rattle.std.specs.BTreeMap.{BTreeMap, get, is_at}
use Rattle.std.specs.BTreeSet.{BTreeSet, contains}
use Rattle.std.specs.Option.{option_map_or}
use Rattle.std.specs.declared.cmp.Ordering.{Ordering}
use Rattle.std.specs.declared.cmp.Ordering.TheVariants.{Less}

-- by the order of the keys, and by that of the places
module _ {K P : Type 0} (by_key : K → K → Ordering) (by_place : P → P → Ordering) where
  -- the place stands in the key's line
  abbrev pub stands : BTreeMap K (BTreeSet P) → K → P → Bool
  stands lines key place =
      option_map_or (λ line. contains by_place line place) (get by_key lines key) false

  -- it is this place in the line of this key
  abbrev pub is_one : K → P → K → P → Bool
  is_one key place other p = is_at (by_key key) other && is_at (by_place place) p

  -- it stands in the key's line, and none before it does
  pub record IsFirstIn (lines : BTreeMap K (BTreeSet P)) (key : K) (place : P) : Type 0 where
    pub there : stands lines key place ≡ true
    pub least : (other : P) → stands lines key other ≡ true → ¬ (by_place other place ≡ Less)
