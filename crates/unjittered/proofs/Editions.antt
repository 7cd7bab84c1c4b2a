-- The file in an edition e but 2: its places and lengths, what it says and what it is made of are those of the definitions as they stood (`Before`). What the calls answer by them: `Calls`.
use Prim.Native.Nat.{ℕ, zero, suc, ◌+◌, ◌*◌}
use mathlib.Core.Path.{◌≡◌, refl, ap, ap₂, ◌∙◌}
use mathlib.Core.Bool.{Bool, true, false, ◌&&◌, ◌||◌}
use mathlib.Core.List.{List}
use native.Mathlib.Omega.{arith}
use lib.Dec.{eqb}
use lib.ListN.{get_or}
use Rattle.paper.specs.Numbers.{rec, zero_record}
use Rattle.paper.specs.Bits.{field, fields_at, put_field}
use Rattle.paper.specs.File.{is_edition, head_fields, record_widths, record_values, record_at, record_fields, record_from, record_in, spare_from, word_at, filler_width, file_length, spare_clear, region_words, records_in, put_records, put_words, put_head, file_of}
use Rattle.paper.specs.Regions.{record_part}
use Rattle.paper.specs.declared.Record.{Record}
use Rattle.paper.specs.declared.Table.{Table}
use Rattle.laws.proofs.Lists.{list_same, per_task_same}
use Rattle.laws.proofs.Every.{every_same}
use Rattle.unjittered.proofs.Before as Was

module _ (e : ℕ) (other : eqb e 2 ≡ false) where
  -- the one edition that there was
  pub edition_stands : is_edition e ≡ eqb e 1
  edition_stands = go (eqb e 1)
    where
      go : (b : Bool) → (b || eqb e 2) ≡ b
      go true = refl
      go false = other

  -- its widths, places and lengths
  widths_stand : record_widths e ≡ Was.record_widths
  widths_stand = rw other

  record_at_stands : (k : ℕ) → record_at e k ≡ Was.record_at k
  record_at_stands k = rw other (omega arith)

  word_at_stands : (n k : ℕ) → word_at e n k ≡ Was.word_at n k
  word_at_stands n k = ap (λ (at : ℕ). at + 20 * k) (record_at_stands n)

  pub file_length_stands : (n m : ℕ) → file_length e n m ≡ Was.file_length n m
  file_length_stands n m = rw other

  pub record_part_stands : (k : ℕ) → record_part e k ≡ Was.record_part k
  record_part_stands k = rw other

  -- a record's values; and of its fields the record that they make, and the spare bits
  values_stand : (r : Record) → record_values e r ≡ Was.record_values r
  values_stand r = rw other

  record_from_stands : (vs : List ℕ) → record_from e vs ≡ Was.record_from vs
  record_from_stands vs = rw other

  spare_from_stands : (vs : List ℕ) → spare_from e vs ≡ get_or vs 9 0
  spare_from_stands vs = rw other

  -- what it says
  module _ (f : List ℕ) where
    fields_stand : (k : ℕ) → record_fields f e k ≡ Was.record_fields f k
    fields_stand k = ap₂ (fields_at f) (record_at_stands k) widths_stand

    record_in_stands : (k : ℕ) → record_in f e k ≡ Was.record_in f k
    record_in_stands k = record_from_stands (record_fields f e k) ∙ ap Was.record_from (fields_stand k)

    pub records_in_stand : (n : ℕ) → records_in f e n ≡ Was.records_in f n
    records_in_stand n = per_task_same n _ _ zero_record (λ k _. record_in_stands k)

    pub region_words_stand : (n m : ℕ) → region_words f e n m ≡ Was.region_words f n m
    unfolding region_words Was.region_words
    region_words_stand n m = list_same m _ _ (λ k _. ap (λ at. field f at 20) (word_at_stands n k))

    spare_stands : (k : ℕ) → spare_from e (record_fields f e k) ≡ get_or (Was.record_fields f k) 9 0
    spare_stands k = spare_from_stands (record_fields f e k) ∙ ap (λ vs. get_or vs 9 0) (fields_stand k)

    pub spare_clear_stands : (n m : ℕ) → spare_clear f e n m ≡ Was.spare_clear f n m
    unfolding spare_clear Was.spare_clear
    spare_clear_stands n m =
        ap₂ (λ spare at. eqb (get_or (head_fields f) 1 0) 0 && (spare && eqb (field f at (filler_width m)) 0))
        (every_same n _ _ (λ k _. ap (λ v. eqb v 0) (spare_stands k)))
        (word_at_stands n m)

  -- what it is made of
  put_records_stand : (s : List ℕ) (rs : List Record) (n : ℕ) → put_records s e rs n ≡ Was.put_records s rs n
  unfolding put_records Was.put_records
  put_records_stand s rs zero = refl
  put_records_stand s rs (suc n) = rw (put_records_stand s rs n, record_at_stands n, widths_stand, values_stand (rec rs n))

  put_words_stand : (s : List ℕ) (n : ℕ) (ws : List ℕ) (m : ℕ) → put_words s e n ws m ≡ Was.put_words s n ws m
  unfolding put_words Was.put_words
  put_words_stand s n ws zero = refl
  put_words_stand s n ws (suc m) = ap₂ (λ s at. put_field s at 20 (get_or ws m 0)) (put_words_stand s n ws m) (word_at_stands n m)

-- and the file of edition 1 whole, its head included
pub file_stands : (t : Table) (cabinet line : ℕ) (own : List ℕ) → file_of 1 t cabinet line own ≡ Was.file_of t cabinet line own
unfolding file_of put_head Was.file_of Was.put_head
file_stands t cabinet line own = rw (put_words_stand 1 refl, put_records_stand 1 refl)
