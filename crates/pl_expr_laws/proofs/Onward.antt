-- A fault at a byte that fits no text stays one, however the text goes on.
use Rattle.std.proofs.Common.{◌≡◌, ℕ, zero, suc, ◌+◌, ◌<◌, max, Bool, true, false, cond, ◌==◌, Ok}
use Rattle.std.proofs.Common.{Err, List, [], ◌∷◌, ◌++◌, length, take, refl, ap, sym, subst, ◌∙◌}
use Rattle.std.proofs.Common.{append_assoc, arith}
use Rattle.std.proofs.lemmas.List.{length-append}
use Rattle.pl_reading.specs.Steps.{◌>>=◌}
use Rattle.pl_expr.specs.declared.expr.Expr.{Expr}
use Rattle.pl_expr.specs.declared.fault.ExprCode.TheVariants.{Trailing}
use Rattle.pl_expr.specs.Trees.{depth_of}
use Rattle.pl_expr.specs.Grammar.{Fault, Read, stop, text_at, text_whole, parses}
use Rattle.pl_expr.specs.Spelling.{IsText}
use Rattle.pl_expr_laws.specs.Laws.{fits_no_text, NothingGoesOn}
use Rattle.pl_expr_laws.proofs.Complete.{whole_reads}
use Rattle.pl_expr_laws.proofs.Deeper.{placed_err}
use Rattle.pl_expr_laws.proofs.Places.{Place}
use Rattle.pl_expr_laws.proofs.Alike.{Alike, same, past, failed}
use Rattle.pl_expr_laws.proofs.Texts.{text_alike}

-- a text up to an offset, the byte there and what follows
cut :
    (offset : ℕ) (bytes : List ℕ) → offset < length bytes →
    (front : List ℕ) × ((byte : ℕ) × ((here : List ℕ) × ((bytes ≡ front ++ byte ∷ here) ×
    ((length front ≡ offset) × (take (offset + 1) bytes ≡ front ++ byte ∷ [])))))
cut offset [] inside = absurd (omega (arith, inside))
cut zero (byte ∷ bytes) inside = ([], (byte, (bytes, (refl, (refl, refl)))))
cut (suc offset) (byte ∷ bytes) inside =
    let others = cut offset bytes (omega (arith, inside)) in
    let more : suc offset + 1 ≡ suc (offset + 1) = omega arith in (
      byte ∷ others.0,
      (
        others.1.0,
        (
          others.1.1.0,
          (
            ap (λ xs. byte ∷ xs) others.1.1.1.0,
            (
              omega (arith, others.1.1.1.1.0),
              ap (λ n. take n (byte ∷ bytes)) more ∙
                  ap (λ xs. byte ∷ xs) others.1.1.1.1.1,
            ),
          ),
        ),
      ),
    )

final :
    (at : Place) (first second : Read Expr) (tree : Expr) (fault : Fault) → Alike at first second →
    second ≡ Ok (tree, []) →
    (first >>= λ read. cond (length read.1 == 0) (Ok read.0) (stop {A = Expr} Trailing read.1)) ≡
    Err fault →
    fits_no_text fault.0 ≡ true → length at.here < fault.1 → ⊥
final at _ _ tree fault (same value front) e f told place =
    let p : Expr × List ℕ = (value, front ++ at.byte ∷ at.there) in
    let q : Expr × List ℕ = (tree, []) in
    let equal : p ≡ q = cc in
    omega (
      arith,
      ap (λ (r : Expr × List ℕ). length r.1) equal,
      length-append front
          (at.byte ∷ at.there),
    )
final at _ _ tree fault (past (Ok read) second within) e f told place = by (length read.1 == 0) f
  where
    by : (b : Bool) → cond b (Ok read.0) (stop {A = Expr} Trailing read.1) ≡ Err fault → ⊥
    by true f = cc (f)
    by false f =
        let p : Fault = (Trailing, length read.1) in
        let equal : p ≡ fault = cc in
        omega (arith, ap (λ (r : Fault). r.1) equal, within, place)
final at _ _ tree fault (past (Err found) second within) e f told place =
    let equal : found ≡ fault = cc in
    let fits = within (ap (λ (r : Fault). fits_no_text r.0) equal ∙ told) in
    omega (arith, ap (λ (r : Fault). r.1) equal, fits, place)
final at _ _ tree fault (failed first found) e f told place = cc (e)

-- No text that begins with the bytes up to and with the place of such a fault is spelled by the
-- rules.
pub nothing_goes_on : NothingGoesOn
unfolding parses text_whole
nothing_goes_on mode bytes code offset e told inside more tree is =
    let found = placed_err bytes (text_whole mode bytes) code offset e in
    let parts = cut offset bytes inside in
    let front = parts.0 in
    let byte = parts.1.0 in
    let here = parts.1.1.0 in
    let at : Place = record { byte = byte; here = here; there = more } in
    let deep = max 50 (depth_of tree) in
    let text : take (offset + 1) bytes ++ more ≡ front ++ byte ∷ more = ap (λ xs. xs ++ more)
    parts.1.1.1.1.1 ∙ append_assoc front (byte ∷ []) more in
    let read : text_at mode deep (front ++ byte ∷ more) ≡ Ok (tree, []) = whole_reads mode deep
    (front ++ byte ∷ more) tree (subst (λ xs. IsText mode xs tree) text is) (omega arith) in
    let first : text_whole mode (front ++ byte ∷ here) ≡ Err found.0 = ap (text_whole mode)
    (sym parts.1.1.1.0) ∙ found.1.0 in
    let place : length here < found.0.1 = omega (
      arith,
      found.1.1.1,
      inside,
      parts.1.1.1.1.0,
      ap
          length parts.1.1.1.0,
      length-append front (byte ∷ here),
    ) in
    final at (text_at mode 50 (front ++ byte ∷ here)) (text_at mode deep (front ++ byte ∷ more))
    tree found.0 (text_alike at mode 50 deep (omega arith) front) read first (ap fits_no_text
    found.1.1.0 ∙ told) place
