-- What a text of characters spells is the document of its rows.
use Rattle.std.proofs.Common.{◌≡◌, ℕ, true, List, length, refl, ap, sym, ◌∙◌}
use Rattle.std.specs.Prelude.{encode_utf8_all}
use Rattle.std.specs.Str.{is_utf8}
use Rattle.std.proofs.lemmas.Bool.{le-ltb}
use Rattle.std.proofs.lemmas.Str.{chars-encodes, is_utf8-from_IsUtf8}
use Rattle.pl_base.specs.declared.place.FileKey.{FileKey}
use Rattle.pl_line.specs.Rows.{rows_of}
use Rattle.pl_yaml.specs.Spells.{document, placed, spells}
use Rattle.pl_yaml_laws.specs.Texts.{IsText, spelled}

pub spelled_is : (file : FileKey) (text : List ℕ) → IsText text
    → spelled file text ≡ placed file (document file (rows_of text))
unfolding spells
spelled_is file text is =
    let bytes : List ℕ = encode_utf8_all text in
    let utf8 : is_utf8 bytes ≡ true = is_utf8-from_IsUtf8 bytes (text, (is.0, refl)) in
    let short = le-ltb 262144 (length bytes) is.1 in
    rw (short, utf8) (ap (λ cs. placed file (document file (rows_of cs))) (chars-encodes text is.0))

-- texts of the same rows spell the same
pub same_rows : (file : FileKey) (one two : List ℕ) → IsText one → IsText two
    → rows_of one ≡ rows_of two → spelled file one ≡ spelled file two
same_rows file one two is also same =
    spelled_is file one is
    ∙ (ap (λ rows. placed file (document file rows)) same ∙ sym (spelled_is file two also))
