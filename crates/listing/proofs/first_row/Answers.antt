-- A refusal is the answer; else the search starts at the digit 1.
use Rattle.std.proofs.Common.{Err, arith, length, rules, sym, ◌≡◌}
use Rattle.listing.specs.Lists.{Accepted}
use Rattle.listing.proofs.Answers.{first_begun, first_refused_says, first_says}
use Rattle.listing.proofs.first_row.Goals.{In_ok-first_outcome}
use Rattle.listing.proofs.first_row.Goals as goal

pub returns-in_err-first_outcome : goal.returns-in_err-first_outcome
returns-in_err-first_outcome c =
    let refused : c.from_residual.result ≡ Err c.in_err-first_outcome.field-0.0 = search rules in
    first_refused_says _ _ _ (sym (c.in_err-first_outcome.ensures {u = tt})) refused

accepted : (c : In_ok-first_outcome) → Accepted c.args.t (length c.args.out.now)
accepted c = record { done = sym (c.in_ok-first_outcome.ensures {u = tt}) }

pub answer-requires : goal.answer-requires
answer-requires c =
    let ok = accepted (goal.at.answer-requires c).In_ok-first_outcome in
    (ok, first_begun ok (omega arith) (omega arith))

pub returns : goal.returns
returns c = first_says _ _ _ _ (accepted (goal.at.returns c).In_ok-first_outcome) c.answer.ensures
