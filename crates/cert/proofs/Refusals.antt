-- A reader's refusal is never the number 0, which stands for none, and never one that says that a budget is used up. Assumes nothing.
use Prim.Native.Nat.{ℕ, ◌+◌, ◌-◌}
use mathlib.Core.List.{List}
use mathlib.Core.Bool.{Bool}
use lib.ListN.{length, get_or}
use lib.Dec.{lit<, ltb, leb, eqb}
use Rattle.refusal.specs.Refusals.{bad_der, trailing_bit_string, trailing_signed_data, unsupported_cert_version}
use Rattle.der.specs.declared.Span.{Span}
use Rattle.der.specs.Model.{expect_at}
use Rattle.parts.specs.Model.{same_parts}
use Rattle.values.specs.Model.{positive_in, nonnegative, small_in, read_small, number_is}
use Rattle.bits.specs.Model.{whole_octets, bits_at}
use Rattle.extensions.proofs.Refusals.{Fair, GotFair, by_test, by_content, expect_fair, on_kept_fair, extensions_fair, got_is, got_not}
use Rattle.cert.specs.declared.Certificate.{Certificate}
use Rattle.envelope.specs.declared.Envelope.{Envelope}
use Rattle.envelope.specs.declared.Beginning.{Beginning}
use Rattle.cert.specs.declared.Fields.{Fields}
use Rattle.extensions.specs.Model.{extensions_at}
use Rattle.envelope.specs.Model.{parts_in, on_parts, opened, is_version, version_at, begun, on_begun}
use Rattle.cert.specs.Model.{fields_at, on_found, read_certificate, Reading}
use Rattle.std.specs.Prelude.{Err, Ok, Result}

-- an answer whose refusal, if it is one, is fair
pub data SmallFair : Result (ℕ × ℕ) ℕ → Type 0 where
  small_is : (v n : ℕ) → SmallFair (number_is v n)
  small_not : {e : ℕ} → Fair e → SmallFair (Err e)

data OpenedFair : Result Envelope ℕ → Type 0 where
  opened_is : (p : Envelope) → OpenedFair (Ok p)
  opened_not : {e : ℕ} → Fair e → OpenedFair (Err e)

data BegunFair : Result Beginning ℕ → Type 0 where
  begun_is : (p : Beginning) → BegunFair (Ok p)
  begun_not : {e : ℕ} → Fair e → BegunFair (Err e)

data FoundFair : Result Fields ℕ → Type 0 where
  found_is : (p : Fields) → FoundFair (Ok p)
  found_not : {e : ℕ} → Fair e → FoundFair (Err e)

pub data ReadingFair : Reading → Type 0 where
  reading_is : (c : Certificate) → ReadingFair (Ok c)
  reading_not : {e : ℕ} → Fair e → ReadingFair (Err e)

-- ---- values
module _ (s : List ℕ) (from to : ℕ) where
  octets_fair : GotFair (whole_octets s from to)
  unfolding whole_octets
  octets_fair =
      by_test GotFair (ltb (length s) to) (got_not (lit< tt, lit< tt))
      (by_test GotFair (leb to from) (got_not (lit< tt, lit< tt)) (by_test GotFair (eqb (get_or s from 0) 0) (got_is _) (got_not (lit< tt, lit< tt))))

  positive_fair : GotFair (positive_in s from to)
  unfolding positive_in
  positive_fair =
      by_test GotFair (ltb (length s) to) (got_not (lit< tt, lit< tt))
      (by_test GotFair (leb to from) (got_not (lit< tt, lit< tt))
      (by_test GotFair (leb 128 (get_or s from 0)) (got_not (lit< tt, lit< tt))
      (by_test GotFair (ltb 0 (get_or s from 0)) (got_is _)
      (by_test GotFair (eqb (to - from) 1) (got_is _) (by_test GotFair (ltb (get_or s (from + 1) 0) 128) (got_not (lit< tt, lit< tt)) (got_is _))))))

  small_in_fair : SmallFair (small_in s from to)
  unfolding small_in
  small_in_fair =
      by_test SmallFair (ltb (length s) to) (small_not (lit< tt, lit< tt))
      (by_test SmallFair (leb to from) (small_not (lit< tt, lit< tt)) (by_test SmallFair (eqb (to - from) 1) (small_is _ _) (small_not (lit< tt, lit< tt))))

module _ (s : List ℕ) (from to : ℕ) where
  pub bits_fair : GotFair (bits_at s from to)
  unfolding bits_at
  bits_fair = by_content GotFair (expect_at s from to 3 trailing_bit_string) Err (whole_octets s) (expect_fair s from to 3 _ (lit< tt, lit< tt)) (λ e h. got_not h) (octets_fair s)

  nonnegative_fair : GotFair (nonnegative s from to)
  unfolding nonnegative
  nonnegative_fair = by_content GotFair (expect_at s from to 2 bad_der) Err (positive_in s) (expect_fair s from to 2 _ (lit< tt, lit< tt)) (λ e h. got_not h) (positive_fair s)

  pub small_fair : SmallFair (read_small s from to)
  unfolding read_small
  small_fair = by_content SmallFair (nonnegative s from to) Err (small_in s) nonnegative_fair (λ e h. small_not h) (small_in_fair s)

-- ---- cert: an answer that was gone on from
on_parts_fair : {A : Type 0} (P : A → Type 0) (g : Result Envelope ℕ) (other : ℕ → A) (k : Envelope → A) → OpenedFair g → ((e : ℕ) → Fair e → P (other e)) → ((p : Envelope) → P (k p)) → P (on_parts g other k)
unfolding on_parts
on_parts_fair P (Ok p) other k (opened_is q) o i = i p
on_parts_fair P (Err e) other k (opened_not f) o i = o e f

on_begun_fair : (g : Result Beginning ℕ) (k : Beginning → Reading) → BegunFair g → ((p : Beginning) → ReadingFair (k p)) → ReadingFair (on_begun g Err k)
unfolding on_begun
on_begun_fair (Ok p) k (begun_is q) i = i p
on_begun_fair (Err e) k (begun_not f) i = reading_not f

on_found_fair : (g : Result Fields ℕ) (k : Fields → Reading) → FoundFair g → ((p : Fields) → ReadingFair (k p)) → ReadingFair (on_found g Err k)
unfolding on_found
on_found_fair (Ok p) k (found_is q) i = i p
on_found_fair (Err e) k (found_not f) i = reading_not f

-- ---- cert: each answer
module _ (s : List ℕ) where
  parts_fair : (from to : ℕ) → OpenedFair (parts_in s from to)
  unfolding parts_in
  parts_fair from to =
      by_content OpenedFair (expect_at s from to 48 bad_der) Err _ (expect_fair s from to 48 _ (lit< tt, lit< tt)) (λ e h. opened_not h) (λ a b.
      by_content OpenedFair (expect_at s b to 48 bad_der) Err _ (expect_fair s b to 48 _ (lit< tt, lit< tt)) (λ e h. opened_not h) (λ c d.
      by_content OpenedFair (bits_at s d to) Err _ (bits_fair s d to) (λ e h. opened_not h) (λ e f.
      by_test OpenedFair (eqb f to) (opened_is _) (opened_not (lit< tt, lit< tt)))))

  opened_fair : OpenedFair (opened s)
  unfolding opened
  opened_fair =
      by_content OpenedFair (expect_at s 0 (length s) 48 trailing_signed_data) Err _ (expect_fair s 0 (length s) 48 _ (lit< tt, lit< tt)) (λ e h. opened_not h) (λ a b.
      on_parts_fair OpenedFair (parts_in s a b) Err _ (parts_fair a b) (λ e h. opened_not h) (λ p.
      by_test OpenedFair (eqb b (length s)) (opened_is p) (opened_not (lit< tt, lit< tt))))

  is_version_fair : (start end : ℕ) (n : Result (ℕ × ℕ) ℕ) → SmallFair n → GotFair (is_version start end n)
  unfolding is_version
  is_version_fair start end (Ok v) f = by_test GotFair (eqb v.0 2) (by_test GotFair (eqb v.1 end) (got_is _) (got_not (lit< tt, lit< tt))) (got_not (lit< tt, lit< tt))
  is_version_fair start end (Err e) (small_not f) = got_not f

  version_fair : (from to : ℕ) → GotFair (version_at s from to)
  unfolding version_at
  version_fair from to =
      by_content GotFair (expect_at s from to 160 unsupported_cert_version) Err _ (expect_fair s from to 160 _ (lit< tt, lit< tt)) (λ e h. got_not h) (λ a b.
      is_version_fair a b (read_small s a b) (small_fair s a b))

  begun_fair : (from to : ℕ) (outer : Span) → BegunFair (begun s from to outer)
  unfolding begun
  begun_fair from to outer =
      by_content BegunFair (version_at s from to) Err _ (version_fair from to) (λ e h. begun_not h) (λ v w.
      by_content BegunFair (expect_at s w to 2 bad_der) Err _ (expect_fair s w to 2 _ (lit< tt, lit< tt)) (λ e h. begun_not h) (λ a b.
      by_content BegunFair (expect_at s b to 48 bad_der) Err _ (expect_fair s b to 48 _ (lit< tt, lit< tt)) (λ e h. begun_not h) (λ c d.
      by_test BegunFair (same_parts s c d s outer.start outer.end) (begun_is _) (begun_not (lit< tt, lit< tt)))))

  fields_fair : (from to : ℕ) → FoundFair (fields_at s from to)
  unfolding fields_at
  fields_fair from to =
      by_content FoundFair (expect_at s from to 48 bad_der) Err _ (expect_fair s from to 48 _ (lit< tt, lit< tt)) (λ e h. found_not h) (λ a b.
      by_content FoundFair (expect_at s b to 48 bad_der) Err _ (expect_fair s b to 48 _ (lit< tt, lit< tt)) (λ e h. found_not h) (λ c d.
      by_content FoundFair (expect_at s d to 48 bad_der) Err _ (expect_fair s d to 48 _ (lit< tt, lit< tt)) (λ e h. found_not h) (λ e f.
      by_content FoundFair (expect_at s f to 48 bad_der) Err _ (expect_fair s f to 48 _ (lit< tt, lit< tt)) (λ e h. found_not h) (λ g h. found_is _))))

  pub read_fair : (strict : Bool) → ReadingFair (read_certificate s strict)
  unfolding read_certificate
  read_fair strict =
      on_parts_fair ReadingFair (opened s) Err _ opened_fair (λ e h. reading_not h) (λ p.
      on_begun_fair (begun s p.content.start p.content.end p.algorithm) _ (begun_fair _ _ _) (λ q.
      on_found_fair (fields_at s q.algorithm.end p.content.end) _ (fields_fair _ _) (λ f.
      on_kept_fair ReadingFair (extensions_at s f.key.end p.content.end strict) Err _ (extensions_fair s _ _ strict) (λ e h. reading_not h) (λ known. reading_is _))))
