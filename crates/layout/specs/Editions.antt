-- The code's editions and the definitions' numbers of them.
use Rattle.std.specs.Prelude.{ℕ, cond, Result, Ok, Err}
use Rattle.paper.specs.File.{is_edition, in_edition}
use Rattle.paper.specs.declared.Refusal.{Refusal}
use Rattle.paper.specs.declared.Refusal.TheVariants.{WrongEdition}
use Rattle.layout.specs.declared.edition.Edition.{Edition}
use Rattle.layout.specs.declared.edition.Edition.TheVariants.{One, Two}

abbrev pub edition_number : Edition → ℕ
edition_number One = 1
edition_number Two = 2

-- the edition that has the number e, or 2 where none has
abbrev pub edition_for : ℕ → Result Edition Refusal
edition_for e = cond (is_edition e) (Ok (in_edition e One Two)) (Err WrongEdition)
