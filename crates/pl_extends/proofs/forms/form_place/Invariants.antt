use Rattle.std.proofs.Common.{◌≡◌, find, drop}
use Rattle.pl_extends.specs.Forms.{is_form}
use Rattle.pl_extends.proofs.forms.form_place.Given as goal

abbrev pub invariant-loop-pair : goal.invariant-loop-pair
invariant-loop-pair l =
    find (λ pair. is_form pair.key) l.pairs
    ≡ find (λ pair. is_form pair.key) (drop l.pair-index l.pair-items)
