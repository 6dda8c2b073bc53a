-- No two principals of a legal history have one token.
use Rattle.std.proofs.Common.{◌≡◌, ◌&&◌, ℕ, Bool, true, false, true≢false, List, [], ◌∷◌, ◌++◌}
use Rattle.std.proofs.Common.{Option, Some, None, ◌⊎◌, inl, inr, refl, sym, ap, subst, ◌∙◌}
use Rattle.std.proofs.lemmas.Cmp.{nat_list_cmp_total, tied_itself}
use Rattle.std.specs.Cmp.Lexicographic.{same_text, texts_ties}
use Rattle.std.specs.Option.{option_and_then, option_map_or, option_or}
use Rattle.std.specs.Ordering.{is_eq}
use Rattle.std.specs.Prelude.{unwrap_or, if◌then◌else◌}
use Rattle.pl_base.specs.Files.{text_cmp}
use Rattle.pl_base.specs.Texts.{is}
use Rattle.pl_base.specs.declared.digest.Digest.{Digest}
use Rattle.pl_changes.proofs.Leading.{none_some}
use Rattle.pl_facts.specs.declared.entry.Entry.{Entry}
use Rattle.pl_facts.specs.declared.fact.Event.{Event}
use Rattle.pl_facts.specs.declared.fact.Event.TheVariants as event
use Rattle.pl_facts.specs.declared.fact.Fact.{Fact}
use Rattle.pl_history.specs.Claims.{IsOrderly}
use Rattle.pl_history.specs.History.{Opening, log_of}
use Rattle.pl_history.specs.Legal.{Legal}
use Rattle.pl_granting.specs.Below.pl_due.proofs.Standing.{both, second_of_two}
use Rattle.pl_granting.specs.Below.pl_settling.proofs.Behind.{touched, untouched}
use Rattle.pl_granting.specs.Below.pl_settling.proofs.Giving.{gives}
use Rattle.pl_granting.specs.Below.pl_settling.specs.Gives.{Gives}
use Rattle.pl_history.specs.Below.pl_queueing.specs.Queueing.{Made}
use Rattle.pl_history.specs.Below.pl_step.specs.Below.pl_settings.specs.Settings.{other_owner}
use Rattle.pl_journal.specs.About.{is_about, is_also_about, key_of, latest_about, second_of}
use Rattle.pl_journal.specs.Log.{Log}
use Rattle.pl_journal.specs.Settings.{admin, admin_principal, by, has_token, principal_set}
use Rattle.pl_journal.specs.Settings.{principal_told, principal_with, token_set}
use Rattle.pl_log.proofs.Naming.{exact_key}
use Rattle.pl_log.specs.Keys.{names, same_key}
use Rattle.pl_log.specs.Keys as key
use Rattle.pl_log.specs.Latest.{latest}
use Rattle.pl_requests.specs.declared.settings.PrincipalSetting.{PrincipalSetting}
use Rattle.pl_never_torn.specs.Owners.{AreApart}
use Rattle.pl_never_torn.specs.Rising.{NoneLater}
use Rattle.pl_never_torn.proofs.Naming.{passes}
use Rattle.pl_never_torn.proofs.Staying.{Keeps, Laws, stays}
use Rattle.pl_never_torn.proofs.Telling.{Tells}

-- ---- texts

pub same : (a b : List ℕ) → is_eq (text_cmp a b) ≡ true → a ≡ b
same a b e = same_text a b (sym (texts_ties a b ∙ e))

itself : (a b : List ℕ) → a ≡ b → is_eq (text_cmp a b) ≡ true
itself a b e =
    subst (λ c. is_eq (text_cmp a c) ≡ true) e (ap is_eq (tied_itself nat_list_cmp_total a))

-- texts that are the same have neither before the other
pub same_ties : (a b : List ℕ) → is a b ≡ is_eq (text_cmp a b)
same_ties a b = texts_ties a b

pub same_name : (a b : List ℕ) → is a b ≡ true → a ≡ b
same_name a b e = same_text a b (sym e)

named_so : (a b : List ℕ) → a ≡ b → is a b ≡ true
named_so a b e = texts_ties a b ∙ itself a b e

-- ---- where one is found, another test that it passes finds one

there : (p q : Fact → Bool) (facts : List Fact) (fact : Fact) → latest p facts ≡ Some fact →
    q fact ≡ true → (found : Fact) × (latest q facts ≡ Some found)
there p q [] fact e is = absurd (none_some None fact refl e)
there p q (one ∷ facts) fact e is =
    by_tests (latest p facts) refl (latest q facts) refl (there p q facts fact) where
      this : (b : Bool) → (if b then Some one else None) ≡ Some fact → one ≡ fact
      this true h = ap (λ (o : Option Fact). unwrap_or o one) h
      this false h = absurd (none_some None fact refl h)

      behind : (o : Option Fact) → latest p facts ≡ o →
          option_or o (if p one then Some one else None) ≡ Some fact
      behind o f =
          sym (ap (λ (o : Option Fact). option_or o (if p one then Some one else None)) f) ∙ e

      by_tests : (o : Option Fact) → latest p facts ≡ o → (r : Option Fact) →
          latest q facts ≡ r → (latest p facts ≡ Some fact → q fact ≡ true →
          (found : Fact) × (latest q facts ≡ Some found)) →
          (found : Fact)
          × (option_or (latest q facts) (if q one then Some one else None) ≡ Some found)
      by_tests o f (Some found) g rest = (
        found,
        ap (λ (o : Option Fact). option_or o (if q one then Some one else None)) g,
      )
      by_tests (Some other) f None g rest =
          let got = rest (f ∙ behind (Some other) f) is in
          absurd (none_some (latest q facts) got.0 g got.1)
      by_tests None f None g rest = (
        one,
        ap (λ (o : Option Fact). option_or o (if q one then Some one else None)) g
            ∙ ap (λ (b : Bool). if b then Some one else None)
            (ap q (this (p one) (behind None f)) ∙ is),
      )

-- ---- a principal that was set is told by a fact of its name

pub record IsSetBy (facts : List Fact) (name : List ℕ) (told : PrincipalSetting) : Type 0 where
  pub fact : Fact
  pub found : latest_about (key.Principal name) facts ≡ Some fact
  pub tells : fact.event ≡ event.PrincipalSet told
  pub named : told.name ≡ name

told_by : (name : List ℕ) (told : PrincipalSetting) (one : Event) →
    principal_told one ≡ Some told → same_key (key_of one) (key.Principal name) ≡ true →
    (one ≡ event.PrincipalSet told) × (told.name ≡ name)
told_by name told (event.PrincipalSet it) e is =
    let k : key.Principal it.name ≡ key.Principal name =
    exact_key (key.Principal it.name) (key.Principal name) is in
    let i : it ≡ told = ap (λ (o : Option PrincipalSetting). unwrap_or o it) e in
    let n : it.name ≡ name = cc in
    (ap event.PrincipalSet i, ap (λ (p : PrincipalSetting). p.name) (sym i) ∙ n)
told_by name told _ e is = absurd (none_some None told refl e)

pub set_by : (facts : List Fact) (name : List ℕ) (told : PrincipalSetting) →
    principal_set name facts ≡ Some told → IsSetBy facts name told
set_by facts name told e = go (latest_about (key.Principal name) facts) refl e where
  go : (o : Option Fact) → latest_about (key.Principal name) facts ≡ o →
      by principal_told o ≡ Some told → IsSetBy facts name told
  go None found f = absurd (none_some None told refl f)
  go (Some fact) found f =
      let so = told_by name told fact.event f
      (passes (is_about (key.Principal name)) facts fact found) in
      record { fact = fact; found = found; tells = so.0; named = so.1 }

-- ---- who has a token is found by it

module _ (facts : List Fact) (token : List ℕ) where
  abbrev pub has : Fact → Bool
  has fact = is_also_about (key.Token token) fact && has_token facts token fact.event

  -- whose fact passes
  pub passing : (name : List ℕ) (told : PrincipalSetting) → principal_set name facts ≡ Some told →
      told.digest.bytes ≡ token → (one : Event) → one ≡ event.PrincipalSet told →
      told.name ≡ name →
      (names (second_of one) (key.Token token) && has_token facts token one) ≡ true
  passing name told e has_it one tells named =
      let now : principal_set told.name facts ≡ Some told =
      subst (λ n. principal_set n facts ≡ Some told) (sym named) e in
      let right : is_eq (text_cmp told.digest.bytes token) ≡ true =
      itself told.digest.bytes token has_it in
      let there : option_map_or (λ (it : PrincipalSetting).
      is_eq (text_cmp it.digest.bytes token)) (principal_set told.name facts) false ≡ true =
      ap (λ (o : Option PrincipalSetting).
      option_map_or (λ it. is_eq (text_cmp it.digest.bytes token)) o false) now ∙ right in
      subst (λ (it : Event).
      (names (second_of it) (key.Token token) && has_token facts token it) ≡ true) (sym tells)
      (both (is_eq (text_cmp told.digest.bytes token)) _ right there)

  -- what passes is a principal's fact, which has the token still
  pub record Owns (told : PrincipalSetting) : Type 0 where
    pub now : PrincipalSetting
    pub set : principal_set told.name facts ≡ Some now
    pub same_token : now.digest.bytes ≡ token

  pub owner : (one : Event) →
      (names (second_of one) (key.Token token) && has_token facts token one) ≡ true →
      (told : PrincipalSetting) × (one ≡ event.PrincipalSet told) × Owns told
  owner (event.PrincipalSet told) is = (
    told,
    refl,
    go (principal_set told.name facts) refl
        (second_of_two (is_eq (text_cmp told.digest.bytes token)) _ is),
  )
    where
      go : (o : Option PrincipalSetting) → principal_set told.name facts ≡ o →
          option_map_or (λ (now : PrincipalSetting). is_eq (text_cmp now.digest.bytes token)) o
          false ≡ true → Owns told
      go None e h = absurd (true≢false (sym h))
      go (Some now) e h =
          record { now = now; set = e; same_token = same now.digest.bytes token h }
  owner (event.JobTaken run stage job agent) is = absurd (cc)
  owner (event.RunQueued told) is = absurd (cc)
  owner _ is = absurd (cc)

  -- so where one of that name has it, who is found by it is there and has it
  pub owned : (name : List ℕ) (told : PrincipalSetting) → principal_set name facts ≡ Some told →
      told.digest.bytes ≡ token →
      (who : PrincipalSetting) × (token_set token facts ≡ Some who) × Owns who
  owned name told e has_it =
      let set = set_by facts name told e in
      let found = there (is_about (key.Principal name)) has facts set.fact set.found
      (passing name told e has_it set.fact.event set.tells set.named) in
      let is = owner found.0.event (passes has facts found.0 found.1) in
      (is.0, ap (by principal_told) found.1 ∙ ap principal_told is.1, is.2)

-- ---- a principal that is set has a token of its own

module _ (log : Log) (told : PrincipalSetting) (free : is told.name admin ≡ false)
    (none : other_owner log told ≡ None) where
  abbrev token : List ℕ
  token = told.digest.bytes

  abbrev other_by : Option PrincipalSetting → Option (List ℕ)
  other_by found = option_and_then
      (λ owner. if is owner.name told.name then None else Some owner.name) found

  -- who has the token has the name
  named_by : (owner : PrincipalSetting) → other_by (Some owner) ≡ None →
      owner.name ≡ told.name
  named_by owner e = go (is owner.name told.name) refl e where
    go : (b : Bool) → is owner.name told.name ≡ b →
        (if b then None else Some owner.name) ≡ None → owner.name ≡ told.name
    go true is_it h = same_name owner.name told.name is_it
    go false is_it h = absurd (none_some None owner.name refl (sym h))

  not_admin : ¬ (token ≡ log.admin.bytes)
  not_admin e =
      let found : principal_with log.admin token log.facts ≡ Some (admin_principal log.admin) =
      ap (λ (b : Bool). if b then Some (admin_principal log.admin) else token_set token log.facts)
      (itself token log.admin.bytes e) in
      let name : admin ≡ told.name = named_by (admin_principal log.admin)
      (ap other_by (sym found) ∙ none) in
      true≢false (sym (named_so told.name admin (sym name)) ∙ free)

  found_by : (b : Bool) → is_eq (text_cmp token log.admin.bytes) ≡ b →
      principal_with log.admin token log.facts ≡ token_set token log.facts
  found_by true e = absurd (not_admin (same token log.admin.bytes e))
  found_by false e =
      ap (λ (b : Bool). if b then Some (admin_principal log.admin) else token_set token log.facts) e

  own_token : AreApart log.admin log.facts → (name : List ℕ) (also : PrincipalSetting) →
      principal_set name log.facts ≡ Some also → also.digest.bytes ≡ token → name ≡ told.name
  own_token apart name also e has_it =
      let got = owned log.facts token name also e has_it in
      let who = got.0 in
      let is_named : who.name ≡ told.name = named_by who
      (ap other_by (sym (found_by (is_eq (text_cmp token log.admin.bytes)) refl ∙ got.1)) ∙ none) in
      apart.one name who.name also got.2.now e got.2.set (has_it ∙ sym got.2.same_token)
      ∙ is_named

-- ---- behind one fact more

-- the fact of another principal, or of none, changes nothing
other_set : (facts : List Fact) (one : Fact) (name : List ℕ) →
    is_about (key.Principal name) one ≡ false →
    principal_set name (facts ++ one ∷ []) ≡ principal_set name facts
other_set facts one name fails =
    ap (by principal_told) (untouched (is_about (key.Principal name)) facts one fails)

this_set : (facts : List Fact) (one : Fact) (name : List ℕ) →
    is_about (key.Principal name) one ≡ true →
    principal_set name (facts ++ one ∷ []) ≡ principal_told one.event
this_set facts one name is =
    ap (by principal_told) (touched (is_about (key.Principal name)) facts one is)

-- what a fact that sets a principal tells of the facts before it
abbrev SetsOwn : Digest → List Fact → Event → Type 0
SetsOwn digest facts (event.PrincipalSet told) = (¬ (told.digest.bytes ≡ digest.bytes))
    × ((name : List ℕ) (also : PrincipalSetting) → principal_set name facts ≡ Some also →
    also.digest.bytes ≡ told.digest.bytes → name ≡ told.name)
SetsOwn digest facts _ = Unit {0}

-- who is there behind it was there, or is set by it
record Stands (facts : List Fact) (one : Fact) (name : List ℕ) (told : PrincipalSetting) :
    Type 0 where
  sets : one.event ≡ event.PrincipalSet told
  named : told.name ≡ name

stood : (facts : List Fact) (one : Fact) (name : List ℕ) (told : PrincipalSetting) →
    principal_set name (facts ++ one ∷ []) ≡ Some told →
    (principal_set name facts ≡ Some told) ⊎ Stands facts one name told
stood facts one name told e = go (is_about (key.Principal name) one) refl where
  go : (b : Bool) → is_about (key.Principal name) one ≡ b →
      (principal_set name facts ≡ Some told) ⊎ Stands facts one name told
  go true is =
      let so = told_by name told one.event (sym (this_set facts one name is) ∙ e) is in
      inr (record { sets = so.0; named = so.1 })
  go false is = inl (sym (other_set facts one name is) ∙ e)

module _ (digest : Digest) (facts : List Fact) (one : Fact)
    (apart : AreApart digest facts) (sets : SetsOwn digest facts one.event) where
  own_of : (told : PrincipalSetting) → one.event ≡ event.PrincipalSet told →
      SetsOwn digest facts (event.PrincipalSet told)
  own_of told e = subst (SetsOwn digest facts) e sets

  apart_more : AreApart digest (facts ++ one ∷ [])
  apart_more = record {
    own = λ name told e. own_by name told (stood facts one name told e);
    one = λ name other told also e f has.
        one_by name other told also (stood facts one name told e) (stood facts one other also f)
        has;
  }
    where
      own_by : (name : List ℕ) (told : PrincipalSetting) →
          (principal_set name facts ≡ Some told) ⊎ Stands facts one name told →
          ¬ (told.digest.bytes ≡ digest.bytes)
      own_by name told (inl was) = apart.own name told was
      own_by name told (inr is) = (own_of told is.sets).0

      one_by : (name other : List ℕ) (told also : PrincipalSetting) →
          (principal_set name facts ≡ Some told) ⊎ Stands facts one name told →
          (principal_set other facts ≡ Some also) ⊎ Stands facts one other also →
          told.digest.bytes ≡ also.digest.bytes → name ≡ other
      one_by name other told also (inl was) (inl were) has =
          apart.one name other told also was were has
      one_by name other told also (inl was) (inr is) has =
          (own_of also is.sets).1 name told was has ∙ is.named
      one_by name other told also (inr is) (inl were) has =
          sym ((own_of told is.sets).1 other also were (sym has) ∙ is.named)
      one_by name other told also (inr is) (inr are) has =
          let e : event.PrincipalSet told ≡ event.PrincipalSet also = sym is.sets ∙ are.sets in
          let same_set : told ≡ also =
          ap (λ (it : Event). unwrap_or (principal_told it) told) e in
          sym is.named ∙ (ap (λ (it : PrincipalSetting). it.name) same_set ∙ are.named)

-- ---- along a legal history

due_sets : (digest : Digest) (facts : List Fact) (moment : ℕ) (told : Event) →
    Gives facts moment told → SetsOwn digest facts told
due_sets digest facts moment (event.PrincipalSet told) none = absurd none
due_sets digest facts moment _ gives = tt

asked_sets : (log : Log) (made : Made) → AreApart log.admin log.facts → (told : Event) →
    Tells log made told →
    SetsOwn log.admin log.facts told
asked_sets log made apart (event.PrincipalSet told) is =
    (not_admin log told is.0 is.1, own_token log told is.0 is.1 apart)
asked_sets log made apart _ is = tt

pub apart_keeps : Keeps (λ log. AreApart log.admin log.facts)
apart_keeps = record {
  due = λ log one before is_due apart. apart_more log.admin log.facts one apart
      (due_sets log.admin log.facts one.moment one.event (gives log.facts one.moment one.event
      is_due));
  asked = λ log made one has before few tells apart. apart_more log.admin log.facts one apart
      (asked_sets log made apart one.event tells);
  installed = λ log count apart. apart;
}

pub apart_all : Laws → (opening : Opening) (entries : List Entry) →
    IsOrderly opening → NoneLater (log_of opening []) →
    AreApart (log_of opening []).admin (log_of opening []).facts → Legal opening entries →
    AreApart (log_of opening entries).admin (log_of opening entries).facts
apart_all laws opening entries first later apart legal =
    stays laws (λ log. AreApart log.admin log.facts) apart_keeps opening entries first later apart
    legal
