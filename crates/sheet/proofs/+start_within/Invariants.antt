-- The cycle of calls {start_within}: the first children left fall by one at each call, and each return is a law of the definition.
use Rattle.sheet.proofs.+start_within.Given as goal

abbrev pub decreases-start_within : goal.decreases-start_within
decreases-start_within l = l.left
