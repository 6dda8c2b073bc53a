use Rattle.std.proofs.Common.{◌≡◌, find, drop}
use Rattle.pl_base.specs.Texts.{is}
use Rattle.pl_calls.proofs.reaching.repository_of.Given as goal

abbrev pub invariant-loop-one : goal.invariant-loop-one
invariant-loop-one l =
    find (λ one. is one.alias l.alias) l.repositories
    ≡ find (λ one. is one.alias l.alias) (drop l.one-index l.one-items)
