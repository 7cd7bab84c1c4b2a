use Rattle.reader.proofs.Stages.{table_is, own_is}
use Rattle.reader.proofs.unpacked.Goals as goal

pub returns-clause-contents : goal.returns-clause-contents
returns-clause-contents c =
    let f = c.args.file.now in
    let s = c.in_ok-shape.ensures.shape in
    record {
      shape = s;
      table = table_is f _ _ s c.table_in.ensures;
      own = own_is f _ _ s c.words_in.ensures;
    }
