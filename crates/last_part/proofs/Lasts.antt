-- The last of the words that are handed back as a task's regions lies where the paper names it.
use Rattle.std.proofs.Common.{ℕ, ◌-◌, ◌≤◌, ◌≡◌, List, [], ◌∷◌, ◌∙◌, sym, ap, arith, length, get_or, take, drop-cons}
use Rattle.std.specs.Prelude.{Ok}
use denote.Ref.{Bor}
use Rattle.paper.specs.Numbers.{rec}
use Rattle.paper.specs.Refusals.{Outcome}
use Rattle.paper.specs.Answers.{regions_outcome}
use Rattle.paper.specs.declared.Table.{Table}
use Rattle.paper.proofs.Points.{held, words_counted, last_is_last}
use Rattle.parts.specs.Parts.{LiesIn, IsPart, AreRegions}
use Rattle.last_part.specs.Last.{IsLast}

module _ (t : Table) (own catalogue : Bor (List ℕ)) (number : ℕ) (w : Bor (List ℕ))
    (e : ◌≡◌ {A = Outcome} (Ok tt) (regions_outcome t own.now catalogue.now number)) (whole : AreRegions t own catalogue number w) where
  -- there is one
  pub some : 1 ≤ length w.now
  some =
      let there = (held t own.now catalogue.now number (sym e)).there in
      rw whole.words (omega (arith, words_counted t own.now catalogue.now number (sym e)))

  pub is_last : (r : Bor (List ℕ)) → IsPart w 4 (record { from = length w.now - 1; count = 1 }) r → IsLast t own catalogue number r
  is_last r cut =
      let there = (held t own.now catalogue.now number (sym e)).there in
      let count : length w.now ≡ (rec t.records (number - 1)).count = rw whole.words (words_counted t own.now catalogue.now number (sym e)) in
      let place : LiesIn w 4 (record { from = length w.now - 1; count = 1 }) r = cut.place in
      record {
        word =
            cut.contents
            ∙ ap (λ (xs : List ℕ). take 1 xs) (drop-cons w.now (length w.now - 1) 0 (omega (arith, some)))
            ∙ ap (λ (xs : List ℕ). get_or xs (length xs - 1) 0 ∷ []) whole.words
            ∙ sym (last_is_last t own.now catalogue.now number (sym e));
        place = rw (← e) (record { block = place.block ∙ (rw (← e) at whole.place).block; offset = omega (arith, place.offset, (rw (← e) at whole.place).offset) });
      }
