-- What a loop's turns want, for a function's `using`: one more of the k below n, or one more element stored.
use Rattle.laws.proofs.Every.{every_more, sum_more}
use Rattle.laws.proofs.Lists.{per_task_none, per_task_turn, per_task_full}
use Rattle.laws.proofs.Sums.{max_more}

pub ruleset turns = (every_more)

pub ruleset sums = (sum_more)

pub ruleset largest = (max_more)

pub ruleset fills = (per_task_none, per_task_turn, per_task_full)
