-- What the code answers, as functions of the lent bytes and of what is known of each certificate, by number: the same tests in the same order.
-- Each has an abbreviation for the case that what is known is what is read of the bytes. A path is a list of numbers, the newest first, the end
-- entity last. Where a number is a refusal or none, 0 is none.
use Rattle.std.specs.Prelude.{ℕ, suc, List, [], Bool, true, false, cond, not, length, get_or, ltb, leb, eqb, Result}
use Rattle.refusal.specs.Refusals.{unknown_issuer, cert_distrusted, maximum_path_depth_exceeded}
use Rattle.der.specs.declared.Span.{Span}
use Rattle.parts.specs.Model.{same_parts}
use Rattle.cert.specs.Model.{read_certificate, Reading}
use Rattle.rows.specs.Model.{outlined, on_outline}
use Rattle.lent.specs.Lent.{most_intermediates, certificate_of, readings_of, listed, some_of, newest}
use Rattle.path.specs.Model.{depth_of}
use Rattle.candidate.specs.declared.Verdict.{Verdict}
use Rattle.candidate.specs.declared.Verdict.TheVariants.{Pass, Anchor, Extend}
use Rattle.rows.specs.declared.Outline.{Outline}

-- ---- a candidate
unfoldable pub has_both_as : Result Outline ℕ → List ℕ → Span → Span → List ℕ → Bool
has_both_as o s subject key t =
    on_outline o (λ e. false) (λ c.
    cond (same_parts s subject.start subject.end t c.subject.start c.subject.end)
    (same_parts s key.start key.end t c.key.start c.key.end)
    false)

abbrev pub has_both : List ℕ → Span → Span → List ℕ → Bool
has_both s subject key t = has_both_as (outlined (read_certificate t true)) s subject key t

unfoldable pub on_path_in : (ℕ → Reading) → List (List ℕ) → List ℕ → ℕ → List ℕ → Span → Span → List ℕ → Bool
on_path_in known issuers end anchors s subject key = some_of (λ n. has_both_as (outlined (known n)) s subject key (certificate_of issuers end anchors n))

abbrev pub on_path : List (List ℕ) → List ℕ → ℕ → List ℕ → Span → Span → List ℕ → Bool
on_path issuers end anchors = on_path_in (readings_of issuers end anchors) issuers end anchors

unfoldable pub anchor_verdict : List ℕ → List ℕ → List (List ℕ) → List ℕ → Span → Verdict
anchor_verdict subject key distrusted head issuer =
    cond (same_parts subject 0 (length subject) head issuer.start issuer.end)
    (cond (listed distrusted key 0 (length key)) (Pass cert_distrusted) Anchor)
    (Pass unknown_issuer)

unfoldable pub issuer_verdict_in : (ℕ → Reading) → List (List ℕ) → List ℕ → ℕ → List ℕ → List ℕ → Span → List ℕ → Result Outline ℕ → Verdict
issuer_verdict_in known issuers end anchors path head issuer s o =
    on_outline o Pass (λ c.
    cond (same_parts s c.subject.start c.subject.end head issuer.start issuer.end)
    (cond (on_path_in known issuers end anchors s c.subject c.key path) (Pass unknown_issuer) Extend)
    (Pass unknown_issuer))

abbrev pub issuer_verdict : List (List ℕ) → List ℕ → ℕ → List ℕ → List ℕ → Span → List ℕ → Verdict
issuer_verdict issuers end anchors path head issuer s =
    issuer_verdict_in (readings_of issuers end anchors) issuers end anchors path head issuer s (outlined (read_certificate s true))

-- whether the flag of anchor i says that it has name constraints
unfoldable pub is_flagged : List ℕ → ℕ → Bool
is_flagged bound i = not (eqb (get_or bound i 0) 0)

-- whether the list has them, if so
unfoldable pub is_whole : List (List ℕ) → List ℕ → ℕ → Bool
is_whole constraints bound i = cond (is_flagged bound i) (ltb i (length constraints)) true

unfoldable pub anchor_at : List (List ℕ) → List (List ℕ) → List (List ℕ) → List ℕ → List (List ℕ) → List ℕ → Span → ℕ → Verdict
anchor_at subjects keys constraints bound distrusted head issuer i =
    cond (ltb i (length keys))
    (cond (is_whole constraints bound i)
    (anchor_verdict (get_or subjects i []) (get_or keys i []) distrusted head issuer)
    (Pass unknown_issuer))
    (Pass unknown_issuer)

-- what candidate i is to a path, which may have as many intermediates as there is room for
unfoldable pub verdict_in : (ℕ → Reading) → List (List ℕ) → List ℕ → List (List ℕ) → List (List ℕ) → List (List ℕ) → List ℕ → List (List ℕ) → List ℕ → ℕ → Verdict
verdict_in known issuers end subjects keys constraints bound distrusted path i =
    let anchors = length subjects in
    let head = certificate_of issuers end anchors (newest path) in
    cond (leb (suc most_intermediates) (depth_of path))
    (Pass maximum_path_depth_exceeded)
    (on_outline (outlined (known (newest path))) Pass (λ c.
    cond (ltb i anchors)
    (anchor_at subjects keys constraints bound distrusted head c.issuer i)
    (issuer_verdict_in known issuers end anchors path head c.issuer (certificate_of issuers end anchors i) (outlined (known i)))))

abbrev pub verdict_on : List (List ℕ) → List ℕ → List (List ℕ) → List (List ℕ) → List (List ℕ) → List ℕ → List (List ℕ) → List ℕ → ℕ → Verdict
verdict_on issuers end subjects = verdict_in (readings_of issuers end (length subjects)) issuers end subjects
