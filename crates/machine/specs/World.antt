-- The world of a request: what the search asks of candidates, paths and answers, as functions of the lent bytes; and the same by what is known of
-- each certificate, which is how the machine sees it.
use Rattle.std.specs.Prelude.{ℕ, ◌+◌, ◌≡◌, Bool, true, false, cond, List, [], map, ltb, eqb, length, get_or, Ok, Err, Result}
use Rattle.refusal.specs.Refusals.{bad_der, invalid_signature_for_public_key, unsupported_signature_algorithm, unsupported_signature_algorithm_for_public_key}
use Rattle.cert.specs.Model.{Reading}
use Rattle.rows.specs.declared.Outline.{Outline}
use Rattle.rows.specs.Model.{outlined}
use Rattle.lent.specs.declared.Lent.{Lent}
use Rattle.lent.specs.declared.Anchors.{Anchors}
use Rattle.lent.specs.declared.Policy.{Policy}
use Rattle.lent.specs.declared.Request.{Request}
use Rattle.lent.specs.Lent.{certificate_of, some_of, each_now, readings, lent_of}
use Rattle.asked.specs.Model.{reply_in, reply_of}
use Rattle.path.specs.Model.{check_in, check_on}
use Rattle.candidate.specs.Model.{is_flagged, verdict_in, verdict_on}
use Rattle.entries.specs.Tally.{Tally, clean}
use Rattle.constraints.specs.Paths.{noted_of}
use Rattle.constraints.specs.Model.{path_constraints_in, path_constraints}
use Rattle.dialogue.specs.Log.{What}
use Rattle.dialogue.specs.Model.{Path, World}

-- ---- answers
-- the refusal that an answer stands for, or none. 4 says that the key cannot be read: a general refusal, unless the key has a better
unfoldable pub meaning_of : ℕ → ℕ
meaning_of answer =
    cond (eqb answer 0)
    0
    (cond (eqb answer 2)
    unsupported_signature_algorithm
    (cond (eqb answer 3) unsupported_signature_algorithm_for_public_key (cond (eqb answer 4) bad_der invalid_signature_for_public_key)))

-- ---- name constraints
-- whether an anchor has any, whose content is then in `constraints`. One that has some by its flag, and whose content is not there, is never tried
unfoldable pub is_bound : List (List ℕ) → List ℕ → ℕ → Bool
is_bound constraints bound anchor = cond (is_flagged bound anchor) (ltb anchor (length constraints)) false

unfoldable pub names_of : List (List ℕ) → List ℕ → ℕ → List (List ℕ) → List ℕ → ℕ → Path → Tally
names_of issuers end anchors constraints bound anchor path =
    path_constraints (get_or constraints anchor []) (is_bound constraints bound anchor) (map (certificate_of issuers end anchors) path)

-- whether a certificate has name constraints, as far as is known
unfoldable pub constrained_as : Result Outline ℕ → Bool
constrained_as (Ok o) = o.constrained
constrained_as (Err e) = true

-- the name constraints of a path by what is known; one on which nobody is known to have any is not looked at
unfoldable pub names_in : (ℕ → Reading) → List (List ℕ) → List ℕ → ℕ → List (List ℕ) → List ℕ → ℕ → Path → Tally
names_in known issuers end anchors constraints bound anchor path =
    let all = path_constraints_in (get_or constraints anchor []) (is_bound constraints bound anchor) (map (noted_of known issuers end anchors) path) in
    cond (is_bound constraints bound anchor) all (cond (some_of (λ n. constrained_as (outlined (known n))) path) all clean)

-- ---- the world
unfoldable pub world_of : List (List ℕ) → List ℕ → List (List ℕ) → List (List ℕ) → List (List ℕ) → List ℕ → List (List ℕ) → ℕ → List ℕ → Bool → World
world_of issuers end subjects keys constraints bound distrusted time wanted demanded =
    let anchors = length subjects in
    record {
      candidates = anchors + length issuers;
      verdict = verdict_on issuers end subjects keys constraints bound distrusted;
      check = check_on issuers end anchors distrusted time wanted demanded;
      after = λ key what below k. [];
      reply = λ key what answer. reply_of issuers end keys anchors key (meaning_of answer);
      cost = λ anchor path. (names_of issuers end anchors constraints bound anchor path).taken;
      named = λ anchor path. (names_of issuers end anchors constraints bound anchor path).refusal;
    }

-- the world by what is known
unfoldable pub world_in : (ℕ → Reading) → List (List ℕ) → List ℕ → List (List ℕ) → List (List ℕ) → List (List ℕ) → List ℕ → List (List ℕ) → ℕ → List ℕ → Bool → World
world_in known issuers end subjects keys constraints bound distrusted time wanted demanded =
    let anchors = length subjects in
    record {
      candidates = anchors + length issuers;
      verdict = verdict_in known issuers end subjects keys constraints bound distrusted;
      check = check_in known issuers end anchors distrusted time wanted demanded;
      after = λ key what below k. [];
      reply = λ key what answer. reply_in known issuers end keys anchors key (meaning_of answer);
      cost = λ anchor path. (names_in known issuers end anchors constraints bound anchor path).taken;
      named = λ anchor path. (names_in known issuers end anchors constraints bound anchor path).refusal;
    }

-- the parts of a world that an answer is judged by
pub record Judges (W : World) (known : ℕ → Reading) (issuers : List (List ℕ)) (end : List ℕ) (keys constraints : List (List ℕ)) (bound : List ℕ) (anchors : ℕ) : Type 0 where
  pub after : (key what : ℕ) (below : Path) (k : ℕ) → W.after key what below k ≡ []
  pub reply : (key : ℕ) (what : What) (answer : ℕ) → W.reply key what answer ≡ reply_in known issuers end keys anchors key (meaning_of answer)
  pub cost : (anchor : ℕ) (path : Path) → W.cost anchor path ≡ (names_in known issuers end anchors constraints bound anchor path).taken
  pub named : (anchor : ℕ) (path : Path) → W.named anchor path ≡ (names_in known issuers end anchors constraints bound anchor path).refusal

-- ---- the same of what is lent
-- the checks of a path
abbrev pub checks_by : Lent → Policy → Path → ℕ
checks_by l p = check_in (readings l) (each_now l.issuers.now) l.end.now l.anchors (each_now p.distrusted.now) p.time p.purpose.now p.demanded

-- the name constraints of a path at an anchor
abbrev pub names_by : Lent → Anchors → ℕ → Path → Tally
names_by l a = names_in (readings l) (each_now l.issuers.now) l.end.now l.anchors (each_now a.constraints.now) a.bound.now

abbrev pub JudgesBy : World → Lent → List (List ℕ) → Anchors → Type 0
JudgesBy W l keys a = Judges W (readings l) (each_now l.issuers.now) l.end.now keys (each_now a.constraints.now) a.bound.now l.anchors

-- the number of the end entity
abbrev pub end_by : Request → ℕ
end_by r = length r.anchors.subjects.now + length r.issuers.now

abbrev pub world_by : Request → World
world_by r =
    world_in (readings (lent_of r)) (each_now r.issuers.now) r.end.now (each_now r.anchors.subjects.now) (each_now r.anchors.keys.now) (each_now r.anchors.constraints.now) r.anchors.bound.now (each_now r.policy.distrusted.now) r.policy.time r.policy.purpose.now r.policy.demanded
