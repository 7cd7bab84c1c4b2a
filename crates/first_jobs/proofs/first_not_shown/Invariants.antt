use Rattle.first_jobs.specs.Firsts.{passes_at}
use Rattle.first_jobs.proofs.first_not_shown.Given as goal

abbrev pub ghost-first_failing : goal.ghost-first_failing
ghost-first_failing a = λ k. passes_at a.test.0.now k
