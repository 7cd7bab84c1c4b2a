-- The promise allows one part, and the call one answer, as those of the other parts do.
use Prim.Native.Nat.{ℕ}
use mathlib.Core.Path.{◌≡◌, sym, ◌∙◌}
use mathlib.Core.List.{List}
use denote.Ref.{Bor}
use Rattle.std.specs.Prelude.{Result, IfOk}
use Rattle.paper.specs.Answers.{regions_outcome, outcome_of}
use Rattle.paper.specs.declared.Refusal.{Refusal}
use Rattle.paper.specs.declared.Table.{Table}
use Rattle.parts.proofs.OnePart.{Same, one_place, SameAnswer, one_answer}
use Rattle.last_part.specs.Last.{IsLast}

pub one_last : {t : Table} {own catalogue : Bor (List ℕ)} {number : ℕ} {r s : Bor (List ℕ)}
    → IsLast t own catalogue number r → IsLast t own catalogue number s → Same r s
one_last x y = (x.word ∙ sym y.word, one_place x.place y.place)

pub one_last_answer : (a b : Result (Bor (List ℕ)) Refusal) (t : Table) (own catalogue : Bor (List ℕ)) (number : ℕ)
    → outcome_of a ≡ regions_outcome t own.now catalogue.now number → outcome_of b ≡ regions_outcome t own.now catalogue.now number
    → IfOk a (IsLast t own catalogue number) → IfOk b (IsLast t own catalogue number) → SameAnswer a b
one_last_answer a b t own catalogue number =
    one_answer (regions_outcome t own.now catalogue.now number) (IsLast t own catalogue number) (λ r s x y. one_last x y) a b
