use Rattle.std.proofs.lemmas.Result.{err_from_is_err_and}
use Rattle.parts.proofs.RecordParts.{record_turned}
use Rattle.parts.proofs.record.Goals as goal

pub returns-in_err-shape-clause-outcome : goal.returns-in_err-shape-clause-outcome
returns-in_err-shape-clause-outcome c =
    let a = c.args in
    let p = err_from_is_err_and c.from_residual.result c.from_residual.ensures.1 in
    rw (p.1, p.2) (record_turned a.file.now a.plate.cabinet.0 a.plate.line.0 a.catalogue.now a.number _ c.in_err-shape.ensures.outcome)
