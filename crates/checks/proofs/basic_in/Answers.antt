-- `checks::basic_in` meets its contract. Assumes nothing.
use Rattle.std.proofs.Common.{rules}
use Rattle.extensions.specs.Model.{on_truth}
use Rattle.checks.specs.Model.{basic_in}
use Rattle.checks.proofs.Outcomes.{bool_passed}
use Rattle.checks.proofs.basic_in.Goals as goal

pub returns-in_err-authority : goal.returns-in_err-authority
unfolding basic_in on_truth
returns-in_err-authority c = search (rules, bool_passed _ _ _ c.in_err-authority.ensures)

pub returns-then-next-to : goal.returns-then-next-to
unfolding basic_in on_truth
returns-then-next-to c = search rules

pub returns : goal.returns
unfolding basic_in on_truth
returns c = search rules
