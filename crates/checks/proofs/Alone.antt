-- The checks of a certificate by itself find nothing exactly if its validity includes the time, it is in its role, and it is good for the purpose.
-- Assumes nothing.
use Prim.Native.Nat.{ℕ}
use mathlib.Core.Path.{◌≡◌}
use mathlib.Core.List.{List}
use mathlib.Core.Bool.{Bool, true}
use Rattle.der.specs.Places.{Bytes}
use Rattle.cert.specs.declared.Certificate.{Certificate}
use Rattle.cert.specs.Model.{read_certificate}
use Rattle.cert.proofs.Laws.{read_inside}
use Rattle.checks.specs.Conditions.{Role, InValidity, InRole, ForPurpose}
use Rattle.checks.specs.Model.{own_of}
use Rattle.checks.proofs.Contents.{contents_of}
use Rattle.checks.proofs.Valid.{valid_sound, valid_complete}
use Rattle.checks.proofs.Roles.{first_zero, zero_first, is_issuer, below_of, role_sound, role_complete}
use Rattle.checks.proofs.Purposed.{purposes_sound, purposes_complete}
use Rattle.std.specs.Prelude.{Ok}

module _ (s : List ℕ) (b : Bytes s) (c : Certificate) (r : read_certificate s true ≡ Ok c) (time : ℕ) (wanted : List ℕ) (demanded : Bool) (role : Role) where
  -- the three conditions, on the contents that were read
  abbrev pub Alone : Type 0
  Alone =
      InValidity (contents_of s c).validity time × InRole role (contents_of s c).basic_constraints × ForPurpose wanted demanded (contents_of s c).ext_key_usage

  pub own_sound : own_of s c time wanted demanded (is_issuer role) (below_of role) ≡ 0 → Alone
  unfolding own_of
  own_sound e =
      let i = read_inside s b true c r in
      let f = first_zero _ _ e in
      let g = first_zero _ _ f.1 in (
        valid_sound s b c.validity.start c.validity.end time f.0,
        role_sound s b c.known.basic_constraints.start c.known.basic_constraints.end i.known.basic_constraints.ordered c.known.basic_constraints.known role g.0,
        purposes_sound s b c.known.key_purposes.start c.known.key_purposes.end wanted c.known.key_purposes.known demanded g.1,
      )

  pub own_complete : Alone → own_of s c time wanted demanded (is_issuer role) (below_of role) ≡ 0
  unfolding own_of
  own_complete m =
      let i = read_inside s b true c r in
      let v = valid_complete s c.validity.start c.validity.end time i.validity.ordered i.validity.inside m.0 in
      let role-fits = role_complete s b c.known.basic_constraints.start c.known.basic_constraints.end i.known.basic_constraints.ordered c.known.basic_constraints.known role i.known.basic_constraints.inside m.1 in
      let p = purposes_complete s b c.known.key_purposes.start c.known.key_purposes.end wanted i.known.key_purposes.ordered i.known.key_purposes.inside c.known.key_purposes.known demanded m.2 in
      zero_first _ _ v (zero_first _ _ role-fits p)
