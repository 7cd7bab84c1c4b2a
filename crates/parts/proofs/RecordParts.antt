-- What turns a file away turns its records away.
use Rattle.std.proofs.Common.{ℕ, ◌≡◌, List, [], ◌∷◌, sym}
use Rattle.std.specs.Prelude.{Err}
use Rattle.paper.specs.File.{tasks_in}
use Rattle.paper.specs.Refusals.{Outcome, first_of, no_such_record, file_asks}
use Rattle.paper.specs.Answers.{record_outcome}
use Rattle.paper.specs.declared.Refusal.{Refusal}
use Rattle.checks.proofs.Asks.{first_refused}

pub record_turned : (f : List ℕ) (cabinet line : ℕ) (catalogue : List ℕ) (number : ℕ) (r : Refusal)
    → ◌≡◌ {A = Outcome} (Err r) (first_of (file_asks f cabinet line catalogue)) → Err r ≡ record_outcome f cabinet line catalogue number
record_turned f cabinet line catalogue number r e =
    sym (first_refused (file_asks f cabinet line catalogue) (no_such_record number (tasks_in f) ∷ []) r (sym e))
