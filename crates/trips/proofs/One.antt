-- What it is for bytes to be a table's file in the edition e, and that there is only one such file.
use mathlib.Core.Path.{◌≡◌, sym, ◌∙◌}
use mathlib.Core.Logic.{by_cases}
use mathlib.Core.Bool.{Bool, true, false, cond}
use mathlib.Core.List.{List, [], ◌∷◌, ◌++◌}
use Prim.Native.Nat.{ℕ, suc, ◌+◌, ◌-◌, ◌*◌, ◌<◌}
use native.Mathlib.Decide.{dec_lt}
use native.Mathlib.Omega.{arith}
use lib.Dec.{eqb}
use lib.ListN.{length, get_or}
use Rattle.paper.specs.Numbers.{rec}
use Rattle.paper.specs.Bits.{field}
use Rattle.paper.specs.File.{head_widths, head_values, head_fields, used_widths, record_widths, record_values, record_at, word_at, filler_width, file_length, sealed}
use Rattle.paper.specs.declared.Record.{Record}
use Rattle.paper.specs.declared.Table.{Table}
use Rattle.bits.specs.Fields.{total, Bytes}
use Rattle.bits.proofs.Field.{SameBits, field_bits}
use Rattle.bits.proofs.Fields.{fields_bits}
use Rattle.seal.proofs.Seal.{seal_same}
use Rattle.trips.proofs.Blocks.{HasBlocks, blocks_bits}

-- the blocks of a file: its records, and its region words of one field each
abbrev pub records : ℕ → List Record → ℕ → List ℕ
records e rs k = record_values e (rec rs k)

abbrev pub word_widths : List ℕ
word_widths = 20 ∷ []

abbrev pub words : List ℕ → ℕ → List ℕ
words own k = get_or own k 0 ∷ []

-- each ends where the next begins: a record's fields take the bits that its bytes have, 96 or 120
pub next_record : (e n : ℕ) → record_at e (suc n) ≡ record_at e n + total (record_widths e)
next_record e n = go (eqb e 2)
  where
    go : (two : Bool) → 64 + 8 * (cond two 15 12 * suc n) ≡ 64 + 8 * (cond two 15 12 * n) + total (used_widths ++ cond two (20 ∷ 10 ∷ []) (6 ∷ []))
    go true = omega arith
    go false = omega arith

pub next_word : (e n k : ℕ) → word_at e n (suc k) ≡ word_at e n k + total word_widths
next_word e n k = omega arith

pub record IsFile (e : ℕ) (t : Table) (cabinet line : ℕ) (own f : List ℕ) : Type 0 where
  pub bytes : Bytes f
  pub size : length f ≡ file_length e t.n (length own)
  pub head : head_fields f ≡ head_values e cabinet line t.n (length own)
  pub has_records : HasBlocks f (record_at e) (record_widths e) (records e t.records) t.n
  pub has_words : HasBlocks f (word_at e t.n) word_widths (words own) (length own)
  pub filler : field f (word_at e t.n (length own)) (filler_width (length own)) ≡ 0
  pub seal : sealed f (file_length e t.n (length own) - 2) ≡ true

module _ (e : ℕ) (t : Table) (cabinet line : ℕ) (own f g : List ℕ) (a : IsFile e t cabinet line own f) (b : IsFile e t cabinet line own g) where
  -- each bit before the seal stands in the head, in a record, in a region word, or in the filler
  before_seal : SameBits f g 0 ((file_length e t.n (length own) - 2) * 8)
  before_seal q o l =
      by_cases (dec_lt q 64)
      (λ (h : q < 64). fields_bits f g 0 head_widths (a.head ∙ sym b.head) q o h)
      (λ h.
      by_cases (dec_lt q (record_at e t.n))
      (λ (r : q < record_at e t.n).
      blocks_bits (record_at e) (record_widths e) (next_record e) (records e t.records) f g t.n a.has_records b.has_records q (omega arith) r)
      (λ r.
      by_cases (dec_lt q (word_at e t.n (length own)))
      (λ (w : q < word_at e t.n (length own)).
      blocks_bits (word_at e t.n) word_widths (next_word e t.n) (words own) f g (length own) a.has_words b.has_words q (omega arith) w)
      (λ w.
      field_bits f g (word_at e t.n (length own)) (filler_width (length own)) (a.filler ∙ sym b.filler) q (omega arith) (omega arith))))

  pub one_file : f ≡ g
  one_file =
      seal_same f g (file_length e t.n (length own) - 2) a.bytes b.bytes
      (omega (arith, a.size)) (omega (arith, b.size)) a.seal b.seal before_seal
