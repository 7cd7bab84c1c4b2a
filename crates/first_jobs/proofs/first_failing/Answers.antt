use Rattle.first_jobs.proofs.Firsts.{first_found}
use Rattle.first_jobs.proofs.first_failing.Goals as goal

pub returns-then-not-test : goal.returns-then-not-test
returns-then-not-test g c =
    first_found g.p c.args.n c.loop-k.k c.loop-k-test.true (c.requires.1.1 _ _ c.test.ensures) c.if-not-test.true c.loop-k.invariant
