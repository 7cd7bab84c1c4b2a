use Rattle.std.proofs.Common.{◌≤◌, length, rules}
use Rattle.last_part.proofs.Lasts.{some, is_last}
use Rattle.last_part.proofs.last_region.Goals as goal

pub returns-clause-part : goal.returns-clause-part
returns-clause-part c =
    let w = c.in_ok-words in
    let one : 1 ≤ length w.words.now = some _ _ _ _ w.words w.ensures.outcome w.ensures.part in
    is_last _ _ _ _ w.words w.ensures.outcome w.ensures.part _ (search rules)
