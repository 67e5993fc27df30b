-- The moves of all calls of a dialogue together are bounded. Assumes nothing.
use native.Mathlib.Omega.{arith}
use Rattle.judge.specs.Calls.{begin, reply, content, over}
use Rattle.judge.specs.Moves.{held_in, moves_in, CallsFewMovesType}

pub calls_few_moves : CallsFewMovesType
unfolding moves_in
calls_few_moves R B table log r (begin h) = h.1.few
calls_few_moves R B table log r (reply {log = l} {s = s} q a c p t g) = omega (arith, calls_few_moves R B table l s c, (g (held_in R B table c)).few)
calls_few_moves R B table log r (content {log = l} {s = s} a c p g) = omega (arith, calls_few_moves R B table l s c, (g (held_in R B table c)).few)
calls_few_moves R B table log r (over {log = l} {s = s} a c p g) = omega (arith, calls_few_moves R B table l s c, (g (held_in R B table c)).few)
