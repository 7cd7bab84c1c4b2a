use Rattle.std.specs.Prelude.{get_or, false}
use Rattle.first_jobs.proofs.first_unfit.Given as goal

abbrev pub ghost-first_failing : goal.ghost-first_failing
ghost-first_failing a = λ k. get_or a.test.0.now k false
