-- How much a run goes through: its events, each with the path at which it happens and the candidate that it is about, and what they weigh.
use Rattle.std.specs.Prelude.{ℕ, zero, suc, ◌+◌, ◌*◌, ◌≤◌, ◌<◌, ◌≡◌, cond, List, [], ◌∷◌, ◌++◌, length, ltb}
use Rattle.refusal.specs.Refusals.{maximum_path_depth_exceeded}
use Rattle.lent.specs.Lent.{most_intermediates}
use Rattle.candidate.specs.declared.Verdict.{Verdict}
use Rattle.candidate.specs.declared.Verdict.TheVariants.{Pass, Anchor, Extend}
use Rattle.dialogue.specs.Model.{Path, World, Event, note, extension, try, leave}

-- ---- the measure of a machine that takes one event a move

-- how many events there are up to the extension that is one too many, where b are allowed
unfoldable pub paid : List Event → ℕ → ℕ
paid [] b = 0
paid (note x ∷ es) b = 1 + paid es b
paid (try k p ∷ es) b = 1 + paid es b
paid (leave ∷ es) b = 1 + paid es b
paid (extension ∷ es) zero = 1
paid (extension ∷ es) (suc b) = 1 + paid es b

-- ---- the events in their places

-- the path, the number of the candidate, and the event; one that is about no candidate has the number after theirs
pub data Placed : Type 0 where
  at : Path → ℕ → Event → Placed

unfoldable pub event_of : Placed → Event
event_of (at path i ev) = ev

-- `events` once more, each in its place
unfoldable pub one_at : (Path → List Placed) → Path → ℕ → Verdict → List Placed
one_at deeper path i (Pass e) = at path i (note e) ∷ []
one_at deeper path i Anchor = at path i (try i path) ∷ []
one_at deeper path i Extend = at path i extension ∷ deeper (i ∷ path)

unfoldable pub each_at : World → (Path → List Placed) → Path → ℕ → ℕ → List Placed
each_at W deeper path zero i = []
each_at W deeper path (suc count) i = one_at deeper path i (W.verdict path i) ++ each_at W deeper path count (suc i)

unfoldable pub node_at : World → (Path → List Placed) → Path → ℕ → List Placed
node_at W deeper path zero = each_at W deeper path W.candidates 0 ++ (at path W.candidates leave ∷ [])
node_at W deeper path (suc e) = at path W.candidates (note (suc e)) ∷ []

unfoldable pub enter_at : World → ℕ → Path → List Placed
enter_at W zero path = at path W.candidates (note maximum_path_depth_exceeded) ∷ []
enter_at W (suc room) path = node_at W (enter_at W room) path (W.check path)

unfoldable pub placed : World → ℕ → List Placed
placed W end = enter_at W (suc most_intermediates) (end ∷ [])

-- ---- what they weigh

unfoldable pub weight : (Placed → ℕ) → List Placed → ℕ
weight w [] = 0
weight w (p ∷ ps) = w p + weight w ps

-- 1 for each anchor tried
unfoldable pub a_try : Placed → ℕ
a_try (at path i (note x)) = 0
a_try (at path i extension) = 0
a_try (at path i leave) = 0
a_try (at path i (try k p)) = 1

-- 0 + 1 + .. + (d - 1)
unfoldable pub pairs : ℕ → ℕ
pairs zero = 0
pairs (suc d) = d + pairs d

-- of three numbers that of an anchor, of an intermediate, of no candidate
abbrev pub kind_of : ℕ → ℕ → ℕ → ℕ → ℕ → ℕ
kind_of anchors candidates i x y = cond (ltb i anchors) x (cond (ltb i candidates) y 0)

-- how often a certificate is looked up at most, as the code does it, where the path has d certificates. An anchor: the newest of the path. One that is
-- tried: for the name constraints all d besides, either for the anchor's own or for whether they have any, then each issuer of the path (d - 1) and what is
-- below each (1 + .. + (d - 1)). An intermediate: the newest, itself, and the d of the path with which it is compared
unfoldable pub try_lookups : ℕ → ℕ
try_lookups d = d + d + pairs d

unfoldable pub issuer_lookups : ℕ → ℕ
issuer_lookups d = d + 2

unfoldable pub lookups : ℕ → ℕ → Placed → ℕ
lookups anchors candidates (at path i (note x)) = kind_of anchors candidates i 1 (issuer_lookups (length path))
lookups anchors candidates (at path i extension) = issuer_lookups (length path)
lookups anchors candidates (at path i leave) = 0
lookups anchors candidates (at path i (try k p)) = try_lookups (length path)

-- how many bytes are looked at in the same way, in lengths of the longest slice of bytes that is lent; a comparison of two parts looks at the bytes of both
-- at most. An anchor: its flag and two names, which are shorter than a certificate, and the distrusted keys against its own. One that is tried: its flag again
-- and, where there are name constraints, the headers of the d pairs of lists besides, and the names of the certificates below each (1 + .. + d). An intermediate:
-- two names, and subject and key against those of each certificate of the path.
-- What a comparison of a name with an entry looks at, and a question, is not in it
unfoldable pub anchor_looks : ℕ → ℕ
anchor_looks distrusted = 2 + 2 * distrusted

unfoldable pub try_looks : ℕ → ℕ → ℕ
try_looks distrusted d = anchor_looks distrusted + d + pairs (suc d)

unfoldable pub issuer_looks : ℕ → ℕ
issuer_looks d = 2 + 4 * d

unfoldable pub looks : ℕ → ℕ → ℕ → Placed → ℕ
looks distrusted anchors candidates (at path i (note x)) = kind_of anchors candidates i (anchor_looks distrusted) (issuer_looks (length path))
looks distrusted anchors candidates (at path i extension) = issuer_looks (length path)
looks distrusted anchors candidates (at path i leave) = 0
looks distrusted anchors candidates (at path i (try k p)) = try_looks distrusted (length path)

-- a certificate's own checks: the distrusted keys against its own, and three of its fields gone through
unfoldable pub check_looks : ℕ → ℕ
check_looks distrusted = 3 + 2 * distrusted

-- ---- the bound

-- the first candidates are anchors, the others intermediates
pub record Sorted (W : World) (anchors issuers : ℕ) : Type 0 where
  pub all : W.candidates ≡ anchors + issuers
  pub tried : (path : Path) (i : ℕ) → W.verdict path i ≡ Anchor → i < anchors
  pub extended : (path : Path) (i : ℕ) → W.verdict path i ≡ Extend → anchors ≤ i

-- the path that is entered as number k, the first being number 0, has at most so many certificates
unfoldable pub longest : ℕ → ℕ
longest k = suc (cond (ltb k most_intermediates) k most_intermediates)

-- what `count` paths come to from number k on, where a path of d certificates comes to u d
unfoldable pub entered : (ℕ → ℕ) → ℕ → ℕ → ℕ
entered u k zero = 0
entered u k (suc count) = u (longest k) + entered u (suc k) count

-- what a path of d certificates comes to, of which each anchor is tried and each intermediate looked at
unfoldable pub level_lookups : ℕ → ℕ → ℕ → ℕ
level_lookups anchors issuers d = try_lookups d * anchors + issuer_lookups d * issuers

unfoldable pub level_looks : ℕ → ℕ → ℕ → ℕ → ℕ
level_looks distrusted anchors issuers d = try_looks distrusted d * anchors + issuer_looks d * issuers
