use Rattle.std.proofs.Common.{◌≡◌, ℕ, length, take, ◌==◌}
use Rattle.std.specs.Ordering.{nat_cmp}
use Rattle.std.specs.BTreeSet.{contains}
use Rattle.std.specs.List.{list_any}
use Rattle.std.specs.Str.{chars}
use Rattle.pl_texts.proofs.splitting.characters_of.Given as goal

abbrev pub invariant-loop-character : goal.invariant-loop-character
invariant-loop-character l =
    (goal.iterator-loop-character).can_next l.character-iterator ×
    (goal.iterator-loop-character).is_finite l.character-iterator ×
    ((character : ℕ) → contains nat_cmp l.set character ≡ list_any (λ other. other == character)
    (take (length l.yielded) (chars l.text)))
