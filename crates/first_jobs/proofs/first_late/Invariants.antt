use Rattle.first_jobs.specs.Firsts.{keeps_at}
use Rattle.first_jobs.proofs.first_late.Given as goal

abbrev pub ghost-first_failing : goal.ghost-first_failing
ghost-first_failing a = λ k. keeps_at a.test.0.now a.test.1.now k
