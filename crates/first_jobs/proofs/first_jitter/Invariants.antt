use Rattle.std.specs.Prelude.{eqb}
use Rattle.show_facts.specs.Facts.{job_of}
use Rattle.first_jobs.proofs.first_jitter.Given as goal

abbrev pub ghost-first_failing : goal.ghost-first_failing
ghost-first_failing a = λ k. eqb (job_of a.test.0.now k).jitter 0
