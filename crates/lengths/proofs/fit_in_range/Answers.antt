-- The regions are held against the lengths.
use Rattle.std.specs.Prelude.{Ok}
use mathlib.Core.Path.{sym, ap, ◌∙◌}
use mathlib.Core.List.{[], ◌∷◌}
use Rattle.paper.specs.Numbers.{assigned}
use Rattle.paper.specs.Analysis.{tasks_of}
use Rattle.paper.specs.Lengths.{all_fit}
use Rattle.paper.specs.Refusals.{first_of, tolerance_below_zero}
use Rattle.paper.specs.Answers.{answered}
use Rattle.lengths.proofs.Outcomes.{answer_parts}
use Rattle.lengths.proofs.Tables.{fit_by}
use Rattle.lengths.proofs.fit_in_range.Goals as goal

pub returns : goal.returns
returns c =
    let a = c.args in
    let t = a.t.now in
    let y = tasks_of t.records t.n in
    let found = answer_parts (first_of (tolerance_below_zero t ∷ [])) c.in_ok-lengths.ensures in
    ap (λ b. Ok b) (c.all_fit.ensures ∙ fit_by t.records y (assigned t.records) _ a.own.now a.catalogue.now found.1)
    ∙ ap (λ o. answered o (all_fit t.records y (assigned t.records) a.own.now a.catalogue.now)) (sym found.0)
