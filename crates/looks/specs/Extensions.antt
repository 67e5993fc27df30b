-- How many elements of a slice are read for the extensions: the tests of `crates/extensions/specs/Model.antt` in the same order, and 1 for each `s[i]`, and for each byte that a pattern is held against, that the code beside it comes to.
-- k is what is looked at afterwards.
use Rattle.std.specs.Prelude.{ℕ, ◌+◌, ◌-◌, List, Bool, cond, length, get_or, ltb, eqb}
use Rattle.refusal.specs.Refusals.{bad_der, trailing_certificate_extensions, trailing_extension}
use Rattle.der.specs.declared.Span.{Span}
use Rattle.der.specs.Model.{expect_at, on_content}
use Rattle.der.specs.Loop.{walk}
use Rattle.values.specs.Model.{read_bool}
use Rattle.extensions.specs.declared.Known.{Known}
use Rattle.extensions.specs.Model.{span, there, kind_of, slot_of, set_slot, none_known, on_truth, content_of, passed_over, on_kept}
use Rattle.looks.specs.Der.{nothing, value_looks}
use Rattle.looks.specs.Values.{bool_looks}

-- `kind_of`
unfoldable pub kind_looks : List ℕ → ℕ → ℕ → ℕ
kind_looks s from to =
    cond (ltb (length s) to)
    0
    (cond (ltb to from)
    0
    (cond (eqb (to - from) 3) (1 + cond (eqb (get_or s from 0) 85) (1 + cond (eqb (get_or s (from + 1) 0) 29) 1 0) 0) 0))

-- `extension_in`
unfoldable pub extension_looks : List ℕ → ℕ → ℕ → (Span → Bool → Span → ℕ) → ℕ
extension_looks s from to k =
    value_looks s from to + on_content (expect_at s from to 6 bad_der) nothing (λ a b.
    bool_looks s b to + on_truth (read_bool s b to) nothing (λ critical next.
    value_looks s next to + on_content (expect_at s next to 4 bad_der) nothing (λ c d. k (span a b) critical (span c d))))

-- `content_of`
unfoldable pub content_looks : List ℕ → ℕ → Span → ℕ
content_looks s kind value = cond (eqb kind 15) 0 (value_looks s value.start value.end)

-- `remember`
unfoldable pub remembered_looks : List ℕ → Span → Bool → Span → Known → Bool → (Known → ℕ) → ℕ
remembered_looks s identifier critical value known strict k =
    let kind = kind_of s identifier.start identifier.end in
    kind_looks s identifier.start identifier.end
    + cond (eqb kind 0)
    (on_kept (passed_over strict critical known) nothing k)
    (cond (slot_of known kind).known
    0
    (content_looks s kind value + on_content (content_of s kind value) nothing (λ a b. k (set_slot known kind (there a b)))))

-- `take_one`
unfoldable pub taken_looks : List ℕ → ℕ → ℕ → Known → Bool → (ℕ → Known → ℕ) → ℕ
taken_looks s at to known strict k =
    value_looks s at to + on_content (expect_at s at to 48 trailing_extension) nothing (λ a b.
    extension_looks s a b (λ identifier critical value.
    remembered_looks s identifier critical value known strict (λ now. cond (eqb value.end b) (k b now) 0)))

-- `gather`
unfoldable pub gathered_looks : List ℕ → ℕ → ℕ → Bool → ℕ
gathered_looks s from to strict = walk to (λ at known. 0) (λ at known. taken_looks s at to known strict) from none_known

-- `all_at`
unfoldable pub extensions_looks : List ℕ → ℕ → ℕ → Bool → ℕ
extensions_looks s from to strict =
    cond (eqb from to)
    0
    (value_looks s from to + on_content (expect_at s from to 163 trailing_certificate_extensions) nothing (λ a b.
    value_looks s a b + on_content (expect_at s a b 48 trailing_extension) nothing (λ c d. gathered_looks s c d strict)))
