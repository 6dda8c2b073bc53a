-- What names, repositories, refs, paths and keys of files may be.
use Rattle.std.specs.Prelude.{ℕ, nat_eq, nat_le, Bool, false, not, ◌==◌, ◌&&◌, ◌||◌, List}
use Rattle.std.specs.Prelude.{[], ◌∷◌, length, codes}
use Rattle.std.specs.Char.{is_control}
use Rattle.std.specs.List.{list_all, list_any, slice_split, starts_with}
use Rattle.std.specs.Str.{chars}
use Rattle.pl_base.specs.Texts.{is}
use Rattle.pl_base.specs.declared.place.FileKey.{FileKey}
use Rattle.pl_names.specs.Bytes.{slash}

-- from one byte to so many, and no control character (U+0000 to U+001F and U+007F to U+009F)
abbrev pub is_plain : ℕ → List ℕ → Bool
is_plain most text = not (nat_eq (length text) 0) && (nat_le (length text) most &&
    not (list_any is_control (chars text)))

-- the name of a pipeline, a resource, a principal, an agent, a pool, a capability, an argument
abbrev pub is_name : List ℕ → Bool
is_name text = is_plain 100 text

-- the label of a job: its name, and behind a dot its leg's where it has legs
abbrev pub is_label : List ℕ → Bool
is_label text = not (nat_eq (length text) 0) && not (list_any is_control (chars text))

abbrev pub is_repository : List ℕ → Bool
is_repository text = is_plain 64 text

-- a ref begins with `refs/`
abbrev pub is_ref : List ℕ → Bool
is_ref text = nat_le (length text) 128 && starts_with nat_eq text (codes "refs/")

-- a path is slashes, each with a segment behind it, which isn't empty, `.` or `..`
abbrev pub is_segment : List ℕ → Bool
is_segment text =
    not (is text (codes "") || (is text (codes ".") || is text (codes "..")))

abbrev pub are_segments : List ℕ → Bool
are_segments text = list_all is_segment (slice_split (λ byte. byte == slash) text)

abbrev pub has_segments : List ℕ → Bool
has_segments [] = false
has_segments (byte ∷ text) = byte == slash && are_segments text

abbrev pub is_path : List ℕ → Bool
is_path text = nat_le (length text) 256 && has_segments text

-- the key of a file
abbrev pub is_key : FileKey → Bool
is_key key = is_repository key.repo && (is_ref key.git_ref && is_path key.path)
