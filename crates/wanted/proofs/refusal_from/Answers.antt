-- `wanted::refusal_from` meets its contract. Assumes nothing.
use mathlib.Core.Path.{◌∙◌}
use Rattle.std.proofs.Common.{rules}
use Rattle.refusal.specs.Model.{outcome}
use Rattle.conditions.specs.Model.{name_in}
use Rattle.wanted.proofs.Names.{dns_kept, ip_kept}
use Rattle.wanted.proofs.refusal_from.Goals as goal

pub returns-in-0 : goal.returns-in-0
unfolding name_in outcome
returns-in-0 c = search rules

pub returns-in-1 : goal.returns-in-1
unfolding name_in
returns-in-1 c = rw c.in-1.is (c.good_for_dns.ensures ∙ dns_kept _ _ _ _)

pub returns-in-2 : goal.returns-in-2
unfolding name_in
returns-in-2 c = rw c.in-2.is (c.good_for_ip.ensures ∙ ip_kept _ _ _ _)

pub returns-in_default : goal.returns-in_default
unfolding name_in outcome
returns-in_default c = search rules
