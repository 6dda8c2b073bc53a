-- Which origin shows where a path comes from.
use Rattle.std.proofs.Common.{◌≡◌, List, [], ◌∷◌, map, sym, subst, ap, ◌∙◌, refl}
use denote.Ref.{Bor}
use Rattle.pl_base.specs.declared.origin.Crossing.{Crossing}
use Rattle.pl_base.specs.declared.origin.Origin.{Origin}
use Rattle.pl_extends.specs.Extending.{shown_by, shown}

pub shows_key :
    (items : List (Bor Crossing)) (key path : Origin) →
    map (λ item. item.now) items ≡ path.crossings → items ≡ [] → shown key path ≡ key
shows_key items key path is none =
    ap (λ crossings. shown_by crossings key path)
    (sym is ∙ ap (λ (items : List (Bor Crossing)). map (λ item. item.now) items) none)

pub shows_path :
    (items : List (Bor Crossing)) (first : Bor Crossing) (rest : List (Bor Crossing))
    (key path : Origin) →
    map (λ item. item.now) items ≡ path.crossings → items ≡ first ∷ rest →
    shown key path ≡ path
shows_path items first rest key path is some =
    ap (λ crossings. shown_by crossings key path)
    (sym is ∙ ap (λ (items : List (Bor Crossing)). map (λ item. item.now) items) some)
