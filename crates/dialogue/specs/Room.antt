-- Sums over all paths that there can be. No model and no search is named here.
use Rattle.std.specs.Prelude.{ℕ, zero, suc, ◌+◌, ◌*◌, ◌-◌}

-- u d for a path of d certificates, and the same for all paths that grow out of it, up to d + room - 1 certificates. A path grows by any intermediate that is
-- not on it yet; `issuers` says how many those are
unfoldable pub over_paths : (ℕ → ℕ) → ℕ → ℕ → ℕ → ℕ
over_paths u issuers d zero = 0
over_paths u issuers d (suc room) = u d + issuers * over_paths u (issuers - 1) (suc d) room
