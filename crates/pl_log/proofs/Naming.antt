-- Keys are one exactly where they are the same.
use Rattle.std.proofs.Common.{◌≡◌, ℕ, ◌==◌, ◌&&◌, Bool, true, false, List, Option, None, Some}
use Rattle.std.proofs.Common.{refl, ap, ◌∙◌, arith}
use Rattle.std.proofs.lemmas.Bool.Decides.{nat_tests}
use Rattle.std.specs.Cmp.{IsTotalOrder, tied_itself, Equal-is, nat_cmp_total}
use Rattle.std.specs.Ordering.{is_eq, nat_cmp, ordering_then}
use Rattle.std.specs.declared.cmp.Ordering.{Ordering}
use Rattle.std.specs.declared.cmp.Ordering.TheVariants.{Less, Equal, Greater}
use Rattle.std.proofs.lemmas.Cmp.{on_total, then_total, nat_list_cmp_total}
use Rattle.std.proofs.lemmas.Map.Lookups.{CmpEqualImpliesEq, exact_pairs, exact_bytes}
use Rattle.std.proofs.lemmas.Map.Lookups.{exact_unsigned}
use Rattle.pl_base.proofs.FileKeys.{exact_files, files_total}
use Rattle.pl_base.specs.Files.{file_cmp, text_cmp}
use Rattle.pl_base.specs.contracts.resource.KindOrd.TheImpl as kind_order
use Rattle.pl_base.specs.contracts.resource.ResourceKeyOrd.TheImpl.Laws as resource_laws
use Rattle.pl_base.specs.declared.resource.Kind.{Kind}
use Rattle.pl_base.specs.declared.resource.Kind.TheVariants.{Environment, Connection, Group}
use Rattle.pl_base.specs.declared.resource.Kind.TheVariants.{Pool, Repository}
use Rattle.pl_log.specs.Keys.{Named, File, Pipeline, Resource, Principal, Agent, Run, Stage, Job}
use Rattle.pl_log.specs.Keys.{SecondNamed, Token, Taker, Queue, names, same_key, same_second}
use Rattle.pl_log.specs.Keys.{job_cmp, resource_cmp, stage_cmp}
use Rattle.pl_log.specs.Tables.{same_stage, same_job}

equal : (r : Ordering) → is_eq r ≡ true → r ≡ Equal
equal r h = (Equal-is r).0 h

true_false : {A : Type 0} → false ≡ true → A
true_false h = absurd (cc)

-- ---- orders

exact_kinds : CmpEqualImpliesEq (kind_order.ghosts).cmp
exact_kinds Environment Environment h = refl
exact_kinds Connection Connection h = refl
exact_kinds Group Group h = refl
exact_kinds Pool Pool h = refl
exact_kinds Repository Repository h = refl
exact_kinds _ _ h = absurd (cc)

exact_resources : CmpEqualImpliesEq resource_cmp
exact_resources a b h = ap (λ (p : Kind × List ℕ). record { kind = p.0; name = p.1 })
    (exact_pairs (kind_order.ghosts).cmp text_cmp exact_kinds exact_bytes
    (a.kind, a.name) (b.kind, b.name) h)

exact_stages : CmpEqualImpliesEq stage_cmp
exact_stages = exact_pairs nat_cmp nat_cmp exact_unsigned exact_unsigned

stages_total : IsTotalOrder stage_cmp
stages_total = then_total (on_total (λ p. p.0) nat_cmp_total) (on_total (λ p. p.1) nat_cmp_total)

exact_jobs : CmpEqualImpliesEq job_cmp
exact_jobs a b h = ap (λ (p : (ℕ × ℕ) × ℕ). (p.0.0, p.0.1, p.1))
    (exact_pairs stage_cmp nat_cmp exact_stages exact_unsigned
    ((a.0, a.1), a.2) ((b.0, b.1), b.2) h)

jobs_total : IsTotalOrder job_cmp
jobs_total =
    then_total (then_total (on_total (λ p. p.0) nat_cmp_total) (on_total (λ p. p.1) nat_cmp_total))
    (on_total (λ p. p.2) nat_cmp_total)

-- ---- keys

pub exact_key : (a b : Named) → same_key a b ≡ true → a ≡ b
exact_key (File a) (File b) h = ap File (exact_files a b (equal (file_cmp a b) h))
exact_key (Pipeline a) (Pipeline b) h = ap Pipeline (exact_bytes a b (equal (text_cmp a b) h))
exact_key (Resource a) (Resource b) h =
    ap Resource (exact_resources a b (equal (resource_cmp a b) h))
exact_key (Principal a) (Principal b) h = ap Principal (exact_bytes a b (equal (text_cmp a b) h))
exact_key (Agent a) (Agent b) h = ap Agent (exact_bytes a b (equal (text_cmp a b) h))
exact_key (Run a) (Run b) h = ap Run (exact_unsigned a b (equal (nat_cmp a b) h))
exact_key (Stage run stage) (Stage r s) h =
    ap (λ (p : ℕ × ℕ). Stage p.0 p.1)
    (exact_stages (run, stage) (r, s) (equal (stage_cmp (run, stage) (r, s)) h))
exact_key (Job run stage job) (Job r s j) h =
    ap (λ (p : ℕ × ℕ × ℕ). Job p.0 p.1 p.2)
    (exact_jobs (run, stage, job) (r, s, j) (equal (job_cmp (run, stage, job) (r, s, j)) h))
exact_key _ _ h = true_false h

exact_second : (a b : SecondNamed) → same_second a b ≡ true → a ≡ b
exact_second (Token a) (Token b) h = ap Token (exact_bytes a b (equal (text_cmp a b) h))
exact_second (Taker a) (Taker b) h = ap Taker (exact_bytes a b (equal (text_cmp a b) h))
exact_second Queue Queue h = refl
exact_second _ _ h = true_false h

pub exact_name : (one : Option SecondNamed) (key : SecondNamed) → names one key ≡ true →
    one ≡ Some key
exact_name None key h = true_false h
exact_name (Some one) key h = ap Some (exact_second one key h)

itself : {K : Type 0} {R : K → K → Ordering} → IsTotalOrder R → (x : K) → is_eq (R x x) ≡ true
itself o x = ap is_eq (tied_itself o x)

pub key_itself : (key : Named) → same_key key key ≡ true
key_itself (File a) = itself files_total a
key_itself (Pipeline a) = itself nat_list_cmp_total a
key_itself (Resource a) = itself resource_laws.total-law a
key_itself (Principal a) = itself nat_list_cmp_total a
key_itself (Agent a) = itself nat_list_cmp_total a
key_itself (Run a) = itself nat_cmp_total a
key_itself (Stage run stage) = itself stages_total (run, stage)
key_itself (Job run stage job) = itself jobs_total (run, stage, job)

pub second_itself : (key : SecondNamed) → same_second key key ≡ true
second_itself (Token a) = itself nat_list_cmp_total a
second_itself (Taker a) = itself nat_list_cmp_total a
second_itself Queue = refl

-- ---- numbers that are equal have neither before the other

pub run_eq : (a b : ℕ) → (a == b) ≡ is_eq (nat_cmp a b)
run_eq a b = grind (arith, nat_tests)

and_eq : (p q : Ordering) → (is_eq p && is_eq q) ≡ is_eq (ordering_then p q)
and_eq Less q = refl
and_eq Equal q = refl
and_eq Greater q = refl

both_and : {p q r s : Bool} → p ≡ q → r ≡ s → (p && r) ≡ (q && s)
both_and h k = cc

pub stage_eq : (a b : ℕ × ℕ) → same_stage a b ≡ is_eq (stage_cmp a b)
stage_eq a b = both_and (run_eq a.0 b.0) (run_eq a.1 b.1)
    ∙ and_eq (nat_cmp a.0 b.0) (nat_cmp a.1 b.1)

pub job_eq : (a b : ℕ × ℕ × ℕ) → same_job a b ≡ is_eq (job_cmp a b)
job_eq a b = both_and (stage_eq (a.0, a.1) (b.0, b.1)) (run_eq a.2 b.2)
    ∙ and_eq (stage_cmp (a.0, a.1) (b.0, b.1)) (nat_cmp a.2 b.2)
