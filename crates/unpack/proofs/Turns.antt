-- What the loops ask.
use Rattle.paper.proofs.Places.{spare_place}
use Rattle.laws.proofs.Every.{every_more}
use Rattle.laws.proofs.Lists.{per_task_none, per_task_turn}
use Rattle.unpack.proofs.Words.{array_none, array_turn}

pub ruleset records = (per_task_none, per_task_turn)

pub ruleset words = (array_none, array_turn)

pub ruleset spare = (every_more, spare_place)
