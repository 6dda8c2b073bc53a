-- Files that are written are read again.
use Rattle.std.proofs.Common.{◌≡◌, ℕ, List, [], ◌∷◌, ◌++◌, All, None, Some, codes, flat_map}
use Rattle.std.proofs.Common.{ap, false, refl, sym, ◌∙◌, append_assoc, append-nil}
use Rattle.std.proofs.lemmas.List.Elements.{All-append, All-cons, All-head, All-nil}
use Rattle.std.proofs.lemmas.List.Elements.{All-tail}
use Rattle.std.specs.Prelude.{◌==◌}
use Rattle.std.specs.List.{slice_split}
use Rattle.pl_base.specs.declared.place.FileKey.{FileKey}
use Rattle.pl_bundle.specs.Bundles.{Files, files_in, is_space, joined, key_by}
use Rattle.pl_bundle.specs.Bundles.{key_of, lines_of, of_read}
use Rattle.pl_bundle.specs.Cuts.{Lacks}
use Rattle.pl_bundle.specs.Written.{CanStand, IsPart, IsPlain, WrittenIsRead, name_of}
use Rattle.pl_bundle.specs.Written.{with_feed, written, written_file}
use Rattle.pl_bundle.proofs.Cutting.{content_cut, content_whole, line_cut, parts_cut, parts_whole}

-- ---- a line that names a file

abbrev Differs : ℕ → ℕ → Type 0
Differs mark byte = (byte == mark) ≡ false

behind_space :
    (mark : ℕ) (part rest : List ℕ) → Lacks mark part → (32 == mark) ≡ false → Lacks mark rest →
    Lacks mark (part ++ 32 ∷ rest)
behind_space mark part rest lacks other more =
    All-append (Differs mark) part (32 ∷ rest) lacks
    (All-cons (Differs mark) 32 rest other more)

marks : (mark : ℕ) → (37 == mark) ≡ false → Lacks mark (codes "%%%")
marks mark other =
    All-cons (Differs mark) 37 (37 ∷ 37 ∷ []) other
    (All-cons (Differs mark) 37 (37 ∷ []) other
    (All-cons (Differs mark) 37 [] other (All-nil (Differs mark))))

no_feed :
    (key : FileKey) → IsPart key.repo → IsPart key.git_ref → IsPart key.path →
    Lacks 10 (name_of key)
no_feed key repo git_ref path =
    behind_space 10 (codes "%%%") (key.repo ++ 32 ∷ (key.git_ref ++ 32 ∷ key.path))
    (marks 10 refl) refl
    (behind_space 10 key.repo (key.git_ref ++ 32 ∷ key.path) repo.1 refl
    (behind_space 10 key.git_ref key.path git_ref.1 refl path.1))

named :
    (key : FileKey) → IsPart key.repo → IsPart key.git_ref → IsPart key.path →
    key_of (with_feed (name_of key)) ≡ Some key
named key repo git_ref path =
    ap (λ line. key_by (slice_split is_space line))
    (content_cut (name_of key) [] (no_feed key repo git_ref path))
    ∙ ap key_by
    (parts_cut (name_of key) (codes "%%%")
    (key.repo ++ 32 ∷ (key.git_ref ++ 32 ∷ key.path)) (refl, marks 32 refl)
    ∙ ap (λ parts. codes "%%%" ∷ parts)
    (parts_cut (key.repo ++ 32 ∷ (key.git_ref ++ 32 ∷ key.path)) key.repo
    (key.git_ref ++ 32 ∷ key.path) (refl, repo.0)
    ∙ ap (λ parts. key.repo ∷ parts)
    (parts_cut (key.git_ref ++ 32 ∷ key.path) key.git_ref key.path
    (refl, git_ref.0)
    ∙ ap (λ parts. key.git_ref ∷ parts) (parts_whole key.path path.0))))

-- ---- lines that name none

on_line : (line rest : List ℕ) → with_feed line ++ rest ≡ line ++ 10 ∷ rest
on_line line rest = append_assoc line (10 ∷ []) rest

-- what is read of a line that ends here, and of what stands behind it
line_read :
    (line rest : List ℕ) → Lacks 10 line →
    files_in (lines_of (with_feed line ++ rest))
    ≡ joined (with_feed line) (key_of (with_feed line)) (files_in (lines_of rest))
line_read line rest whole =
    ap (λ bytes. files_in (lines_of bytes)) (on_line line rest)
    ∙ ap files_in (line_cut line rest whole)

plain_line : (line : List ℕ) → IsPlain line → key_of (with_feed line) ≡ None
plain_line line plain =
    ap (λ line. key_by (slice_split is_space line))
    (content_cut line [] plain.0 ∙ sym (content_whole line plain.0))
    ∙ plain.1

abbrev before : List ℕ → Files → Files
before text read = (text ++ read.0, read.1)

text_read :
    (lines : List (List ℕ)) (rest : List ℕ) → All IsPlain lines →
    files_in (lines_of (flat_map with_feed lines ++ rest))
    ≡ before (flat_map with_feed lines) (files_in (lines_of rest))
text_read [] rest plain = refl
text_read (line ∷ lines) rest plain =
    let first = All-head IsPlain line lines plain in
    let text = flat_map with_feed lines in
    ap (λ bytes. files_in (lines_of bytes)) (append_assoc (with_feed line) text rest)
    ∙ (line_read line (text ++ rest) first.0
    ∙ (ap (λ key. joined (with_feed line) key (files_in (lines_of (text ++ rest))))
    (plain_line line first)
    ∙ (ap (before (with_feed line)) (text_read lines rest (All-tail IsPlain line lines plain))
    ∙ ap (λ front. (front, (files_in (lines_of rest)).1))
    (sym (append_assoc (with_feed line) text (files_in (lines_of rest)).0)))))

-- ---- files

file_read :
    (file : FileKey × List ℕ) (rest : List ℕ) → CanStand file →
    files_in (lines_of (written_file file ++ rest))
    ≡ ([], (file.0, file.1 ++ (files_in (lines_of rest)).0) ∷ (files_in (lines_of rest)).1)
file_read file rest stands =
    let name = name_of file.0 in
    let whole = no_feed file.0 stands.repo stands.git_ref stands.path in
    ap (λ bytes. files_in (lines_of bytes)) (append_assoc (with_feed name) file.1 rest)
    ∙ (line_read name (file.1 ++ rest) whole
    ∙ (ap (λ key. joined (with_feed name) key (files_in (lines_of (file.1 ++ rest))))
    (named file.0 stands.repo stands.git_ref stands.path)
    ∙ ap (joined (with_feed name) (Some file.0))
    (ap (λ text. files_in (lines_of (text ++ rest))) stands.text_is
    ∙ (text_read stands.lines rest stands.plain
    ∙ ap (λ text. before text (files_in (lines_of rest))) (sym stands.text_is)))))

all_read :
    (files : List (FileKey × List ℕ)) → All CanStand files →
    files_in (lines_of (written files)) ≡ ([], files)
all_read [] stand = refl
all_read (file ∷ files) stand =
    file_read file (written files) (All-head CanStand file files stand)
    ∙ (ap (λ read. ([], (file.0, file.1 ++ read.0) ∷ read.1))
    (all_read files (All-tail CanStand file files stand))
    ∙ ap (λ text. ([], (file.0, text) ∷ files)) (append-nil file.1))

pub written_is_read : WrittenIsRead
written_is_read files stand = ap of_read (all_read files stand)
