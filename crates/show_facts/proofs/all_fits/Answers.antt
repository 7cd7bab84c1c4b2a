use Rattle.std.proofs.Common.{◌∙◌, false, arith}
use Rattle.paper.specs.Numbers.{most_tasks, per_task}
use Rattle.laws.proofs.Every.{at_end}
use Rattle.laws.proofs.Lists.{per_task_full}
use Rattle.show_facts.proofs.all_fits.Goals as goal

pub returns : goal.returns
returns c = at_end (λ k f. per_task k f false) _ most_tasks c.loop-k.invariant (omega arith) ∙ per_task_full _ false
