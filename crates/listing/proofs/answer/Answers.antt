-- What the search finds is said of the table, and of the buffer.
use Rattle.listing.proofs.Answers.{tasks_ranged, row_written, end_reached}
use Rattle.listing.proofs.answer.Goals as goal

pub new-requires : goal.new-requires
new-requires c = tasks_ranged c.args.t.now c.requires.0

pub returns-in-Some : goal.returns-in-Some
returns-in-Some c = row_written c.args.t.now c.new.ensures _ _ c.in-Some.ensures _ _ c.store.ensures

pub returns-in-None : goal.returns-in-None
returns-in-None c = end_reached c.args.t.now c.new.ensures _ _ c.in-None.ensures
