-- What the code answers, as functions of the lent bytes and of what is known of each certificate, by number: the same tests in the same order.
-- Each has an abbreviation for the case that what is known is what is read of the bytes. A path is a list of numbers, the newest first, the end
-- entity last. Where a number is a refusal or none, 0 is none.
use Rattle.std.specs.Prelude.{ℕ, ◌-◌, List, [], ◌∷◌, Bool, true, false, cond, length, eqb, Ok, Err}
use Rattle.refusal.specs.Refusals.{cert_distrusted}
use Rattle.cert.specs.declared.Certificate.{Certificate}
use Rattle.cert.specs.Model.{read_certificate, Reading}
use Rattle.checks.specs.Model.{itself, own_of}
use Rattle.lent.specs.Lent.{certificate_of, readings_of, listed, newest}

-- ---- a path and a reading
-- how many certificates there are below the newest
unfoldable pub depth_of : List ℕ → ℕ
depth_of [] = 0
depth_of (n ∷ ns) = length ns

unfoldable pub on_reading : {R : Type 0} → Reading → (ℕ → R) → (Certificate → R) → R
on_reading (Ok c) other k = k c
on_reading (Err e) other k = other e

-- ---- one certificate
unfoldable pub checked_as : Reading → List ℕ → List (List ℕ) → ℕ → List ℕ → Bool → Bool → ℕ → ℕ
checked_as r s distrusted time wanted demanded issuer below =
    on_reading r itself (λ c.
    cond (listed distrusted s c.key.start c.key.end)
    cert_distrusted
    (own_of s c time wanted demanded issuer below))

abbrev pub checked : List ℕ → List (List ℕ) → ℕ → List ℕ → Bool → Bool → ℕ → ℕ
checked s = checked_as (read_certificate s true) s

-- the checks of a path's newest certificate
unfoldable pub check_in : (ℕ → Reading) → List (List ℕ) → List ℕ → ℕ → List (List ℕ) → ℕ → List ℕ → Bool → List ℕ → ℕ
check_in known issuers end anchors distrusted time wanted demanded path =
    let s = certificate_of issuers end anchors (newest path) in
    cond (eqb (depth_of path) 0)
    (checked_as (known (newest path)) s distrusted time wanted demanded false 0)
    (checked_as (known (newest path)) s distrusted time wanted demanded true (depth_of path - 1))

abbrev pub check_on : List (List ℕ) → List ℕ → ℕ → List (List ℕ) → ℕ → List ℕ → Bool → List ℕ → ℕ
check_on issuers end anchors = check_in (readings_of issuers end anchors) issuers end anchors
