-- `entries::base_at` meets its contract. Assumes nothing.
use Rattle.std.proofs.Common.{rules}
use Rattle.der.specs.Model.{on_content}
use Rattle.entries.specs.Model.{base_at, on_name}
use Rattle.entries.proofs.base_at.Goals as goal

pub returns-in_err-whole : goal.returns-in_err-whole
unfolding base_at on_content on_name
returns-in_err-whole c = search rules

pub returns-in_err-base : goal.returns-in_err-base
unfolding base_at on_content on_name
returns-in_err-base c = search rules

pub returns-then-base-whole : goal.returns-then-base-whole
unfolding base_at on_content on_name
returns-then-base-whole c = search rules

pub returns : goal.returns
unfolding base_at on_content on_name
returns c = search rules
