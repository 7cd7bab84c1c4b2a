use Rattle.std.proofs.Common.{sym}
use Rattle.outcomes.proofs.Meaning.{times_done, times_ranged}
use Rattle.response.proofs.Answers.{placed_is, done_is}
use Rattle.response.proofs.response_times.Goals as goal

pub new-y-requires : goal.new-y-requires
new-y-requires c =
    let t = c.args.t in
    times_ranged t (times_done t (sym (c.in_ok-times_outcome.ensures {u = tt})))

pub all_responses-requires : goal.all_responses-requires
all_responses-requires c =
    placed_is c.args.t (sym (c.in_ok-times_outcome.ensures {u = tt})) c.new-y.ensures
    c.column_of-p.ensures.value c.column_of-h.ensures.value c.column_of-p.ensures.rs_len

pub returns : goal.returns
returns c =
    done_is c.args.t (sym (c.in_ok-times_outcome.ensures {u = tt})) c.new-y.ensures
    c.column_of-p.ensures.value c.column_of-h.ensures.value c.column_of-p.ensures.rs_len _ c.all_responses.ensures
