use Rattle.std.proofs.Common.{◌++◌, ◌∷◌, [], List, not, ap, ◌∙◌}
use Rattle.std.specs.List.{filter}
use Rattle.pl_requests.specs.declared.settings.FileText.{FileText}
use Rattle.pl_file_sets.specs.Tries.{is_key}
use Rattle.pl_file_sets.proofs.Tries.{more_in}
use Rattle.pl_file_sets.proofs.trie.leaf_with.Goals as goal

pub returns : goal.returns
returns c =
    more_in c.args.bit c.args.files.now c.push.new.self c.args.file c.parted.result
    (c.in_ok-push.ensures.ok
    ∙ ap (λ (files : List FileText). files ++ c.args.file ∷ []) (c.in_ok-more.ensures
    ∙ ap (λ (file : FileText).
    filter (λ one. not (is_key file.key one.key)) c.as_slice.result.now) c.deref.ensures
    ∙ ap (filter (λ one. not (is_key c.args.file.key one.key))) c.as_slice.ensures))
    c.parted.ensures
