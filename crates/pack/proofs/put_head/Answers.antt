-- `pack::put_head` meets its contract.
use Rattle.paper.specs.File.{put_head}
use Rattle.pack.proofs.put_head.Goals as goal

pub returns : goal.returns
unfolding put_head
returns c = rw (c.put_all.ensures, c.fill.ensures.after (λ y e. e), c.requires) (cc)
