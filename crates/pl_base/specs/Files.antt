-- File texts by their keys.
use Rattle.std.specs.Prelude.{ℕ, List, refl}
use Rattle.std.specs.declared.cmp.Ordering.{Ordering}
use Rattle.std.specs.Ordering.{nat_cmp, ordering_then}
use Rattle.std.specs.Cmp.Lexicographic.{slice_cmp}
use Rattle.std.specs.Coded.{Coded, code_by, coded×, coded_list, coded_ℕ}
use Rattle.pl_base.specs.declared.place.FileKey.{FileKey}

-- a text's order: by its bytes
abbrev pub text_cmp : List ℕ → List ℕ → Ordering
text_cmp = slice_cmp nat_cmp

-- by repository, then by ref, then by path
abbrev pub file_cmp : FileKey → FileKey → Ordering
file_cmp a b = ordering_then (text_cmp a.repo b.repo) (ordering_then (text_cmp a.git_ref b.git_ref)
    (text_cmp a.path b.path))

-- a key as its three texts
abbrev pub coded_file : Coded FileKey
coded_file =
    code_by (List ℕ × (List ℕ × List ℕ))
    (coded× (coded_list coded_ℕ) (coded× (coded_list coded_ℕ) (coded_list coded_ℕ)))
    (λ key. (key.repo, (key.git_ref, key.path)))
    (λ texts. record { repo = texts.0; git_ref = texts.1.0; path = texts.1.1 })
    (λ _. refl)
