-- `names::general::try_name` meets its contract. Assumes nothing.
use mathlib.Core.Path.{sym}
use native.Mathlib.Omega.{arith}
use Rattle.std.proofs.Common.{rules}
use Rattle.names.specs.Model.{try_name, on_found}
use Rattle.names.proofs.Laws.{name_within}
use Rattle.names.proofs.general.try_name.Goals as goal

pub returns-in_err-kind : goal.returns-in_err-kind
unfolding try_name on_found
returns-in_err-kind c = search rules

pub is_wanted-requires : goal.is_wanted-requires
is_wanted-requires c = let w = name_within _ _ _ _ _ _ (sym c.in_ok-kind.ensures) in omega arith

pub returns-then-is_wanted : goal.returns-then-is_wanted
unfolding try_name on_found
returns-then-is_wanted c = grind arith

pub returns : goal.returns
unfolding try_name on_found
returns c = grind arith
