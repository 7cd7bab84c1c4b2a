-- What the check is given at each function.
use Rattle.bits.proofs.Putting.{put_in_byte}
use Rattle.bits.proofs.Steps.{got, with_weights, put_step, put_done, total_drop, all_step, all_done}

pub ruleset gots = (got)

pub ruleset weights = (with_weights)

pub ruleset in_byte = (put_in_byte)

pub ruleset put_turns = (put_step, put_done)

pub ruleset all_turns = (total_drop, all_step, all_done)
