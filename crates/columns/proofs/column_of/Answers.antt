use Rattle.std.proofs.Common.{◌∙◌, arith}
use Rattle.paper.specs.Numbers.{most_tasks, per_task}
use Rattle.laws.proofs.Every.{at_end}
use Rattle.laws.proofs.Lists.{per_task_full}
use Rattle.columns.proofs.column_of.Goals as goal

pub returns-clause-value : goal.returns-clause-value
returns-clause-value c = at_end (λ j f. per_task j f 0) _ most_tasks c.loop-k.invariant (omega arith) ∙ per_task_full _ 0
