-- What stands before the next line that names a file.
use Rattle.std.proofs.Common.{◌≡◌, ℕ, ◌+◌, ◌≤◌, List, ◌∷◌, ◌++◌, None, length, take, drop}
use Rattle.std.proofs.Common.{ap, sym, ◌∙◌, arith}
use Rattle.std.proofs.lemmas.List.{append_assoc, length-append, length-take-le, take-append-drop}
use Rattle.pl_bundle.specs.Bundles.{files_in, joined, key_of, lines_of}
use Rattle.pl_bundle.proofs.Cutting.{left, taken}

-- so many bytes stand before the first name, and what stands behind them is yet to be read
abbrev pub Met : List ℕ → ℕ → Type 0
Met bytes len =
    (len ≤ length bytes)
    × (((files_in (lines_of bytes)).0
    ≡ take len bytes ++ (files_in (lines_of (drop len bytes))).0)
    × ((files_in (lines_of bytes)).1 ≡ (files_in (lines_of (drop len bytes))).1))

line_read :
    (rest line : List ℕ) (lines : List (List ℕ)) → lines_of rest ≡ line ∷ lines →
    key_of line ≡ None →
    files_in (lines_of rest) ≡ (line ++ (files_in lines).0, (files_in lines).1)
line_read rest line lines same none =
    ap files_in same ∙ ap (λ key. joined line key (files_in lines)) none

-- ---- a line without a name is passed

module _ (bytes line rest : List ℕ) (len : ℕ) (within : len ≤ length bytes)
    (parts : drop len bytes ≡ line ++ rest) where
  whole : bytes ≡ (take len bytes ++ line) ++ rest
  whole =
      sym (take-append-drop len bytes)
      ∙ (ap (λ back. take len bytes ++ back) parts ∙ sym (append_assoc (take len bytes) line rest))

  reach : len + length line ≡ length (take len bytes ++ line)
  reach = omega (arith, length-append (take len bytes) line, length-take-le len bytes within)

  pub behind : drop (len + length line) bytes ≡ rest
  behind =
      ap (drop (len + length line)) whole
      ∙ left (take len bytes ++ line) rest (len + length line) reach

  pub before : take (len + length line) bytes ≡ take len bytes ++ line
  before =
      ap (take (len + length line)) whole
      ∙ taken (take len bytes ++ line) rest (len + length line) reach

  pub reached : len + length line ≤ length bytes
  reached =
      omega (arith, reach, ap length whole, length-append (take len bytes ++ line) rest)

pub passed :
    (bytes line rest : List ℕ) (len next : ℕ) → Met bytes len → next ≡ len + length line →
    drop len bytes ≡ line ++ rest → lines_of (drop len bytes) ≡ line ∷ lines_of rest →
    key_of line ≡ None → Met bytes next
passed bytes line rest len next (within, (front_is, files_are)) next_is parts lines none =
    let read = line_read (drop len bytes) line (lines_of rest) lines none in
    let back = files_in (lines_of rest) in
    let same : drop next bytes ≡ rest =
    ap (λ n. drop n bytes) next_is ∙ behind bytes line rest len within parts in
    let later : files_in (lines_of (drop next bytes)) ≡ back =
    ap (λ rest. files_in (lines_of rest)) same in (
      rw next_is (reached bytes line rest len within parts),
      (
        front_is
            ∙ (ap (λ files. take len bytes ++ files.0) read
            ∙ (sym (append_assoc (take len bytes) line back.0)
            ∙ (ap (λ front. front ++ back.0)
            (sym (ap (λ n. take n bytes) next_is ∙ before bytes line rest len within parts))
            ∙ ap (λ files. take next bytes ++ files.0) (sym later)))),
        files_are ∙ (ap (λ files. files.1) read ∙ ap (λ files. files.1) (sym later)),
      ),
    )
