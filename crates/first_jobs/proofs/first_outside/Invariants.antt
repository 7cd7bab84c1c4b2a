use Rattle.paper.specs.Numbers.{rec}
use Rattle.first_jobs.specs.Firsts.{inside}
use Rattle.first_jobs.proofs.first_outside.Given as goal

abbrev pub ghost-first_failing : goal.ghost-first_failing
ghost-first_failing a = λ k. inside (rec a.test.0.now.records k) a.test.1.now
