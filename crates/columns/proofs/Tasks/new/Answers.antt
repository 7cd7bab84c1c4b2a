use Rattle.std.proofs.Common.{sym, subst}
use Rattle.columns.specs.Columns.{Ranged}
use Rattle.columns.proofs.Tables.{filled}
use Rattle.columns.proofs.Tasks.new.Goals as goal

pub invariant_of-result : goal.invariant_of-result
invariant_of-result c =
    let t = c.args.t.now in
    let e = c.new.ensures in
    record { ranged = subst Ranged (sym (filled t.records t.n e.costs e.periods e.deadlines e.jitters e.rs_len)) c.requires }

pub returns : goal.returns
returns c =
    let t = c.args.t.now in
    let e = c.new.ensures in
    filled t.records t.n e.costs e.periods e.deadlines e.jitters e.rs_len
