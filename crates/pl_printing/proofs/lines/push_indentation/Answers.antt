use Rattle.std.proofs.Common.{◌++◌, ◌∷◌, [], ap, sym, ◌∙◌, append_assoc}
use Rattle.pl_printing.specs.Levels.{spaces}
use Rattle.pl_printing.proofs.Entries.{spaces_more}
use Rattle.pl_printing.proofs.lines.push_indentation.Goals as goal

pub loop-done-preserved : goal.loop-done-preserved
loop-done-preserved c =
    let old = c.args.output.now.items in
    let done = c.loop-done._done in
    c.in_ok-extend_from_slice.ensures.items ∙ ap (λ xs. xs ++ 32 ∷ 32 ∷ []) c.loop-done.invariant
    ∙ append_assoc old (spaces done) (32 ∷ 32 ∷ []) ∙ ap (λ xs. old ++ xs) (sym (spaces_more done))
