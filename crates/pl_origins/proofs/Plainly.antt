-- Texts with an expression, and the places where they stand.
use Rattle.std.proofs.Common.{◌≡◌, ℕ, Bool, true, false, cond, List}
use Rattle.std.proofs.Common.{refl, ap, sym, subst}
use Rattle.std.specs.Prelude.{codes}
use Rattle.std.proofs.lemmas.Bool.{false≢true}
use Rattle.pl_base.specs.declared.place.Place.{Place}
use Rattle.pl_base.specs.declared.value.Value.{Str}
use Rattle.pl_template.specs.Cutting.{holds_opening, pieces_of}
use Rattle.pl_template.specs.Forms.{form_of, form_of_pieces}
use Rattle.pl_template.specs.Keys.{key_form_of, form_of_key}
use Rattle.pl_template.specs.declared.forms.ScalarForm.{ScalarForm}
use Rattle.pl_template.specs.declared.forms.ScalarForm.TheVariants.{Plain, Whole, Joined, Unclosed}
use Rattle.pl_template.specs.declared.forms.KeyForm.{KeyForm}
use Rattle.pl_template.specs.declared.forms.KeyForm.TheVariants as form
use Rattle.pl_eval_laws.specs.Marks.{key as key_said, scalar}
use Rattle.pl_origins.specs.Spots.{says, begins, a_scalar, a_key, first_key, first_value}
use Rattle.pl_origins.proofs.Nodes.{Site, Asks}

-- ---- texts that aren't plain

abbrev pub IsOther : ScalarForm → Type 0
IsOther Plain = ⊥
IsOther other = Unit {0}

abbrev pub IsOtherKey : KeyForm → Type 0
IsOtherKey form.Plain = ⊥
IsOtherKey other = Unit {0}

pub asks_unless : (text : List ℕ) (made : ScalarForm) → form_of text ≡ made → IsOther made →
    holds_opening text ≡ true
asks_unless text made is other = by (holds_opening text) is
  where
    by : (b : Bool) → cond b (form_of_pieces (pieces_of text)) Plain ≡ made → b ≡ true
    by true is = refl
    by false is = absurd (subst IsOther (sym is) other)

pub key_asks_unless : (key : List ℕ) (asked : KeyForm) → key_form_of key ≡ asked →
    IsOtherKey asked → holds_opening key ≡ true
key_asks_unless key asked is other = by (form_of key) refl is
  where
    by : (made : ScalarForm) → form_of key ≡ made → form_of_key made ≡ asked →
        holds_opening key ≡ true
    by Plain same is = absurd (subst IsOtherKey (sym is) other)
    by (Whole inside) same is = asks_unless key (Whole inside) same tt
    by (Joined pieces) same is = asks_unless key (Joined pieces) same tt
    by Unclosed same is = asks_unless key Unclosed same tt

pub plain_form : (text : List ℕ) → holds_opening text ≡ false → form_of text ≡ Plain
plain_form text is = by (holds_opening text) is
  where
    by : (b : Bool) → b ≡ false → cond b (form_of_pieces (pieces_of text)) Plain ≡ Plain
    by true is = absurd (false≢true (sym is))
    by false is = refl

pub plain_key : (key : List ℕ) → holds_opening key ≡ false → key_form_of key ≡ form.Plain
plain_key key is = ap form_of_key (plain_form key is)

-- ---- places where such a text stands

module _ (R : Site) (place : Place) where
  pub by_scalar : (text : List ℕ) → holds_opening text ≡ true →
      R.says place (scalar (Str text)) → Asks R place
  by_scalar text expression stands = record {
    text = text;
    written = says (scalar (Str text));
    is_in = a_scalar;
    stands = stands;
    expression = expression;
  }

  pub by_key : (key : List ℕ) → holds_opening key ≡ true → R.says place (key_said key) →
      Asks R place
  by_key key expression stands = record {
    text = key;
    written = says (key_said key);
    is_in = a_key;
    stands = stands;
    expression = expression;
  }

  pub by_first_key : (key : List ℕ) (at : Place) (text : List ℕ) → holds_opening key ≡ true →
      R.begins place (record { key = key; place = at; text = text }) → Asks R place
  by_first_key key at text expression stands = record {
    text = key;
    written = begins (record { key = key; place = at; text = text });
    is_in = first_key at text;
    stands = stands;
    expression = expression;
  }

  pub by_first_value : (at : Place) (text : List ℕ) → holds_opening text ≡ true →
      R.begins place (record { key = codes "template"; place = at; text = text }) → Asks R place
  by_first_value at text expression stands = record {
    text = text;
    written = begins (record { key = codes "template"; place = at; text = text });
    is_in = first_value at;
    stands = stands;
    expression = expression;
  }
