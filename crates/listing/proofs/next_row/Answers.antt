-- A refusal is the answer; else the search goes on where the given row ends.
use Rattle.std.proofs.Common.{Err, arith, length, rules, sym, ◌≡◌, ◌∙◌}
use Rattle.listing.specs.Lists.{Accepted}
use Rattle.listing.proofs.Answers.{Loaded, some_tasks, few_tasks, last_most, next_begun, next_refused_says, bad_row_says, next_says}
use Rattle.paper.proofs.Formed.{formed}
use Rattle.listing.proofs.next_row.Goals.{After-load-digits, In_ok-first_outcome}
use Rattle.listing.proofs.next_row.Goals as goal

pub returns-in_err-first_outcome : goal.returns-in_err-first_outcome
returns-in_err-first_outcome c =
    let refused : c.from_residual.result ≡ Err c.in_err-first_outcome.field-0.0 = search rules in
    next_refused_says _ _ _ _ (sym (c.in_err-first_outcome.ensures {u = tt})) refused

accepted : (c : In_ok-first_outcome) → Accepted c.args.t (length c.args.out.now)
accepted c = record { done = sym (c.in_ok-first_outcome.ensures {u = tt}) }

pub returns-then-not-row_holds : goal.returns-then-not-row_holds
returns-then-not-row_holds c =
    bad_row_says _ _ _ (accepted (goal.at.returns-then-not-row_holds c).In_ok-first_outcome) (sym c.row_holds.ensures ∙ c.if-not-row_holds.true)

pub load-digits-requires : goal.load-digits-requires
load-digits-requires c =
    omega (arith, (formed c.args.t.n c.args.given.now (sym c.row_holds.ensures ∙ c.if-not-row_holds.false)).size, few_tasks (accepted (goal.at.load-digits-requires c).In_ok-first_outcome))

loaded : (c : After-load-digits) → Loaded c.args.t.n c.args.given.now c.load-digits.result
loaded c =
    record {
      holds = sym c.row_holds.ensures ∙ c.if-not-row_holds.false;
      size = c.load-digits.ensures.0;
      front = c.load-digits.ensures.1;
    }

pub overflow_add-digits : goal.overflow_add-digits
overflow_add-digits c =
    let at = goal.at.overflow_add-digits c in
    let ok = accepted at.In_ok-first_outcome in
    omega (arith, last_most (loaded at.After-load-digits) (some_tasks ok) (few_tasks ok), few_tasks ok)

pub answer-requires : goal.answer-requires
answer-requires c =
    let at = goal.at.answer-requires c in
    let ok = accepted at.In_ok-first_outcome in
    (ok, next_begun (loaded at.After-load-digits) (some_tasks ok) (few_tasks ok))

pub returns : goal.returns
returns c =
    let at = goal.at.returns c in
    next_says _ _ _ _ _ _ (accepted at.In_ok-first_outcome) (loaded at.After-load-digits) c.answer.ensures
