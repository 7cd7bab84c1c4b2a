use Rattle.std.proofs.Common.{◌≡◌, ◌-◌, ◌+◌, sym, ◌∙◌, arith}
use Rattle.paper.specs.Regions.{name_width}
use Rattle.parts.proofs.NameParts.{space_goes, none_left}
use Rattle.parts.proofs.kept.Goals as goal

pub loop-gone-preserved : goal.loop-gone-preserved
loop-gone-preserved c =
    let gone = c.loop-gone.gone in
    let last : name_width - (gone + 1) ≡ name_width - 1 - gone = omega arith in
    rw last (sym (space_goes _ _ (name_width - 1 - gone) (name_width - gone) (omega arith) c.if-s-at-ne32.false)) ∙ c.loop-gone.invariant

pub returns-clause-value : goal.returns-clause-value
returns-clause-value c =
    let e : name_width - c.loop-gone.gone ≡ 0 = omega arith in
    sym e ∙ sym (none_left _ _ _ e) ∙ c.loop-gone.invariant
