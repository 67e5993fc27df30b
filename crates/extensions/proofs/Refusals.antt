-- A reader's refusal is never the number 0, which stands for none, and never one that says that a budget is used up. Assumes nothing.
use Prim.Native.Nat.{ℕ, zero, suc, ◌-◌, ◌<◌}
use mathlib.Core.List.{List}
use mathlib.Core.Bool.{Bool, true, false, cond}
use lib.ListN.{length, get_or}
use lib.Dec.{lit<, ltb, leb, eqb}
use Rattle.refusal.specs.Refusals.{bad_der, trailing_bool, trailing_certificate_extensions, trailing_extension}
use Rattle.refusal.proofs.Laws.{Mild}
use Rattle.der.specs.declared.Span.{Span}
use Rattle.der.specs.Model.{read_value, of_tag, expect_at, on_content}
use Rattle.values.specs.Model.{only_byte, truth_in, read_bool, truth_is}
use Rattle.extensions.specs.declared.Known.{Known}
use Rattle.extensions.specs.declared.Extension.{Extension}
use Rattle.der.specs.Loop.{run, walk}
use Rattle.extensions.specs.Model.{Move, Next, Stop, kind_of, slot_of, none_known, on_truth, extension_in, content_of, passed_over, remembered, on_parsed, on_kept, taken, go_on, all_kept, gathered, extensions_at}
use Rattle.std.specs.Prelude.{None, Ok, Err, Some, Option, Result}
use Rattle.der.specs.declared.Value.{Value}

abbrev pub Fair : ℕ → Type 0
Fair e = (0 < e) × Mild e

-- an answer whose refusal, if it is one, is fair
pub data GotFair : Result Span ℕ → Type 0 where
  got_is : (p : Span) → GotFair (Ok p)
  got_not : {e : ℕ} → Fair e → GotFair (Err e)

pub data TruthFair : Result (Bool × ℕ) ℕ → Type 0 where
  truth_said : (b : Bool) (n : ℕ) → TruthFair (truth_is b n)
  truth_not : {e : ℕ} → Fair e → TruthFair (Err e)

data ParsedFair : Result Extension ℕ → Type 0 where
  parsed_is : (x : Extension) → ParsedFair (Ok x)
  parsed_not : {e : ℕ} → Fair e → ParsedFair (Err e)

pub data KeptFair : Result Known ℕ → Type 0 where
  kept_is : (k : Known) → KeptFair (Ok k)
  kept_not : {e : ℕ} → Fair e → KeptFair (Err e)

data StepFair : Move → Type 0 where
  step_is : (at : ℕ) (k : Known) → StepFair (Next at k)
  step_not : {e : ℕ} → Fair e → StepFair (Stop e)

-- ---- what the answers are made of
pub by_test : {A : Type 0} (P : A → Type 0) (b : Bool) {x y : A} → P x → P y → P (cond b x y)
by_test P true p q = p
by_test P false p q = q

pub by_content : {A : Type 0} (P : A → Type 0) (g : Result Span ℕ) (other : ℕ → A) (k : ℕ → ℕ → A) → GotFair g → ((e : ℕ) → Fair e → P (other e)) → ((a b : ℕ) → P (k a b)) → P (on_content g other k)
unfolding on_content
by_content P (Ok p) other k (got_is q) o i = i p.start p.end
by_content P (Err e) other k (got_not f) o i = o e f

-- ---- der, values
of_tag_fair : (tag refusal : ℕ) (r : Option Value) → Fair refusal → GotFair (of_tag tag refusal r)
unfolding of_tag
of_tag_fair tag refusal (Some v) h = by_test GotFair (eqb v.tag tag) (got_is _) (got_not h)
of_tag_fair tag refusal None h = got_not h

module _ (s : List ℕ) (from to : ℕ) where
  pub expect_fair : (tag refusal : ℕ) → Fair refusal → GotFair (expect_at s from to tag refusal)
  unfolding expect_at
  expect_fair tag refusal h = of_tag_fair tag refusal (read_value s from to) h

  truth_in_fair : TruthFair (truth_in s from to)
  unfolding truth_in only_byte
  truth_in_fair =
      let one : (v : Bool) → TruthFair (cond (eqb (to - from) 1) (truth_is v to) (Err trailing_bool)) =
      λ v. by_test TruthFair (eqb (to - from) 1) (truth_said v to) (truth_not (lit< tt, lit< tt)) in
      by_test TruthFair (ltb (length s) to) (truth_not (lit< tt, lit< tt))
      (by_test TruthFair (leb to from) (truth_not (lit< tt, lit< tt))
      (by_test TruthFair (eqb (get_or s from 0) 255) (one true) (by_test TruthFair (eqb (get_or s from 0) 0) (one false) (truth_not (lit< tt, lit< tt)))))

module _ (s : List ℕ) (from to : ℕ) where
  pub bool_fair : TruthFair (read_bool s from to)
  unfolding read_bool
  bool_fair =
      by_test TruthFair (ltb (length s) to) (truth_not (lit< tt, lit< tt))
      (by_test TruthFair (leb to from) (truth_said _ _)
      (by_test TruthFair (eqb (get_or s from 0) 1)
      (by_content TruthFair (expect_at s from to 1 trailing_bool) Err (truth_in s) (expect_fair s from to 1 _ (lit< tt, lit< tt)) (λ e h. truth_not h) (truth_in_fair s))
      (truth_said _ _)))

-- ---- extensions: an answer that was gone on from
on_truth_fair : {A : Type 0} (P : A → Type 0) (g : Result (Bool × ℕ) ℕ) (other : ℕ → A) (k : Bool → ℕ → A) → TruthFair g → ((e : ℕ) → Fair e → P (other e)) → ((b : Bool) (n : ℕ) → P (k b n)) → P (on_truth g other k)
unfolding on_truth
on_truth_fair P (Ok v) other k (truth_said c m) o i = i v.0 v.1
on_truth_fair P (Err e) other k (truth_not f) o i = o e f

on_parsed_fair : {A : Type 0} (P : A → Type 0) (g : Result Extension ℕ) (other : ℕ → A) (k : Extension → A) → ParsedFair g → ((e : ℕ) → Fair e → P (other e)) → ((x : Extension) → P (k x)) → P (on_parsed g other k)
unfolding on_parsed
on_parsed_fair P (Ok x) other k (parsed_is y) o i = i x
on_parsed_fair P (Err e) other k (parsed_not f) o i = o e f

pub on_kept_fair : {A : Type 0} (P : A → Type 0) (g : Result Known ℕ) (other : ℕ → A) (k : Known → A) → KeptFair g → ((e : ℕ) → Fair e → P (other e)) → ((x : Known) → P (k x)) → P (on_kept g other k)
unfolding on_kept
on_kept_fair P (Ok x) other k (kept_is y) o i = i x
on_kept_fair P (Err e) other k (kept_not f) o i = o e f

-- ---- extensions: each answer
module _ (s : List ℕ) where
  extension_fair : (from to : ℕ) → ParsedFair (extension_in s from to)
  unfolding extension_in
  extension_fair from to =
      by_content ParsedFair (expect_at s from to 6 bad_der) Err _ (expect_fair s from to 6 _ (lit< tt, lit< tt)) (λ e h. parsed_not h) (λ a b.
      on_truth_fair ParsedFair (read_bool s b to) Err _ (bool_fair s b to) (λ e h. parsed_not h) (λ critical next.
      by_content ParsedFair (expect_at s next to 4 bad_der) Err _ (expect_fair s next to 4 _ (lit< tt, lit< tt)) (λ e h. parsed_not h) (λ c d. parsed_is _)))

  content_fair : (kind : ℕ) (value : Span) → GotFair (content_of s kind value)
  unfolding content_of
  content_fair kind value =
      by_test GotFair (eqb kind 15) (got_is _)
      (by_content GotFair (expect_at s value.start value.end 48 bad_der) Err _ (expect_fair s value.start value.end 48 _ (lit< tt, lit< tt)) (λ e h. got_not h) (λ a b.
      by_test GotFair (eqb b value.end) (got_is _) (got_not (lit< tt, lit< tt))))

  passed_fair : (strict critical : Bool) (known : Known) → KeptFair (passed_over strict critical known)
  unfolding passed_over
  passed_fair strict critical known = by_test KeptFair strict (by_test KeptFair critical (kept_not (lit< tt, lit< tt)) (kept_is known)) (kept_is known)

  remembered_fair : (x : Extension) (known : Known) (strict : Bool) → KeptFair (remembered s x known strict)
  unfolding remembered
  remembered_fair x known strict =
      let kind = kind_of s x.identifier.start x.identifier.end in
      by_test KeptFair (eqb kind 0) (passed_fair strict x.critical known)
      (by_test KeptFair (slot_of known kind).known (kept_not (lit< tt, lit< tt))
      (by_content KeptFair (content_of s kind x.value) Err _ (content_fair kind x.value) (λ e h. kept_not h) (λ a b. kept_is _)))

  taken_fair : (at to : ℕ) (known : Known) (strict : Bool) → StepFair (taken s at to known strict)
  unfolding taken
  taken_fair at to known strict =
      by_content StepFair (expect_at s at to 48 trailing_extension) Stop _ (expect_fair s at to 48 _ (lit< tt, lit< tt)) (λ e h. step_not h) (λ a b.
      on_parsed_fair StepFair (extension_in s a b) Stop _ (extension_fair a b) (λ e h. step_not h) (λ x.
      on_kept_fair StepFair (remembered s x known strict) Stop _ (remembered_fair x known strict) (λ e h. step_not h) (λ now.
      by_test StepFair (eqb x.value.end b) (step_is b now) (step_not (lit< tt, lit< tt)))))

  go_fair : (x : Move) (k : ℕ → Known → Result Known ℕ) → StepFair x → ((at : ℕ) (known : Known) → KeptFair (k at known)) → KeptFair (go_on x k)
  unfolding go_on
  go_fair (Next at known) k f i = i at known
  go_fair (Stop e) k (step_not f) i = kept_not f

  run_fair : (to : ℕ) (strict : Bool) (fuel at : ℕ) (known : Known) → KeptFair (run to all_kept (λ a x. go_on (taken s a to x strict)) fuel at known)
  unfolding run all_kept
  run_fair to strict zero at known = kept_is known
  run_fair to strict (suc fuel) at known =
      by_test KeptFair (ltb at to) (go_fair (taken s at to known strict) _ (taken_fair at to known strict) (run_fair to strict fuel)) (kept_is known)

  gathered_fair : (from to : ℕ) (strict : Bool) → KeptFair (gathered s from to strict)
  unfolding gathered walk
  gathered_fair from to strict = run_fair to strict (to - from) from none_known

  pub extensions_fair : (from to : ℕ) (strict : Bool) → KeptFair (extensions_at s from to strict)
  unfolding extensions_at
  extensions_fair from to strict =
      by_test KeptFair (eqb from to) (kept_is _)
      (by_content KeptFair (expect_at s from to 163 trailing_certificate_extensions) Err _ (expect_fair s from to 163 _ (lit< tt, lit< tt)) (λ e h. kept_not h) (λ a b.
      by_content KeptFair (expect_at s a b 48 trailing_extension) Err _ (expect_fair s a b 48 _ (lit< tt, lit< tt)) (λ e h. kept_not h) (λ c d.
      on_kept_fair KeptFair (gathered s c d strict) Err _ (gathered_fair c d strict) (λ e h. kept_not h) (λ known.
      by_test KeptFair (eqb d b) (by_test KeptFair (eqb b to) (kept_is known) (kept_not (lit< tt, lit< tt))) (kept_not (lit< tt, lit< tt))))))
