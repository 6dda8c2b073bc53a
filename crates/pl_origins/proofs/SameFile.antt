-- Keys of files that a test finds the same.
use Rattle.std.proofs.Common.{◌≡◌, true, sym}
use Rattle.std.specs.Cmp.Lexicographic.{same_text}
use Rattle.std.proofs.lemmas.Bool.{and_parts}
use Rattle.pl_base.specs.Texts.{is}
use Rattle.pl_base.specs.declared.place.FileKey.{FileKey}
use Rattle.pl_recursion.specs.Below.pl_calls.specs.Reaching.{same_file}

pub same_key : (left right : FileKey) → same_file left right ≡ true → left ≡ right
same_key left right same =
    let first = and_parts (is left.repo right.repo) _ same in
    let second = and_parts (is left.git_ref right.git_ref) (is left.path right.path) first.1 in
    let repo : left.repo ≡ right.repo = same_text left.repo right.repo (sym first.0) in
    let git_ref : left.git_ref ≡ right.git_ref =
    same_text left.git_ref right.git_ref (sym second.0) in
    let path : left.path ≡ right.path = same_text left.path right.path (sym second.1) in
    λ i. record { repo = repo i; git_ref = git_ref i; path = path i }
