-- What `file_of` makes of a table whose numbers fit their fields in the edition e is the table's file in it.
use Prim.{tt}
use mathlib.Core.Path.{◌≡◌, refl, ◌∙◌}
use mathlib.Core.Logic.{inl, inr}
use mathlib.Core.List.{List}
use Prim.Native.Nat.{ℕ, zero, suc, ◌-◌, ◌*◌, ◌^◌, ◌≤◌, ◌<◌}
use native.Mathlib.Omega.{arith}
use lib.ListN.{length, replicate, length-replicate}
use Rattle.paper.specs.Numbers.{most_tasks, most_words}
use Rattle.paper.specs.Bits.{field, put_fields}
use Rattle.paper.specs.File.{head_widths, head_values, record_widths, record_at, word_at, filler_width, file_length, put_head, put_records, put_words, put_seal, file_of}
use Rattle.paper.specs.declared.Record.{Record}
use Rattle.paper.specs.declared.Table.{Table}
use Rattle.paper.proofs.Tests.{◌and◌}
use Rattle.bits.specs.Fields.{AllFit, Bytes}
use Rattle.bits.proofs.Field.{SameBits, field_same, field_zeros}
use Rattle.bits.proofs.Putting.{Only, only_both}
use Rattle.bits.proofs.Fields.{fields_same, all_only, all_got}
use Rattle.bits.proofs.Same.{zero_bytes}
use Rattle.seal.proofs.Seal.{seal_only, seal_holds}
use Rattle.trips.proofs.Blocks.{put_blocks, apart, blocks_only, blocks_got}
use Rattle.trips.proofs.One.{records, word_widths, words, next_record, next_word, IsFile}

-- Records and region words are put as blocks

records_blocks : (s : List ℕ) (e : ℕ) (rs : List Record) (n : ℕ) → put_records s e rs n ≡ put_blocks s (record_at e) (record_widths e) (records e rs) n
unfolding put_records put_blocks
records_blocks s e rs zero = refl
records_blocks s e rs (suc n) = rw (records_blocks s e rs n)

words_blocks : (s : List ℕ) (e n : ℕ) (own : List ℕ) (m : ℕ) → put_words s e n own m ≡ put_blocks s (word_at e n) word_widths (words own) m
unfolding put_words put_blocks put_fields
words_blocks s e n own zero = refl
words_blocks s e n own (suc m) = rw (words_blocks s e n own m)

-- each number fits the field that it is put into
pub record Fits (e : ℕ) (t : Table) (cabinet line : ℕ) (own : List ℕ) : Type 0 where
  pub edition_fits : e < 2 ^ 4
  pub tasks : t.n ≤ most_tasks
  pub many : length own ≤ most_words
  pub cabinet_fits : cabinet < 2 ^ 24
  pub line_fits : line < 2 ^ 16
  pub records_fit : (k : ℕ) → k < t.n → AllFit (record_widths e) (records e t.records k)
  pub words_fit : (k : ℕ) → k < length own → AllFit word_widths (words own k)

module _ (e : ℕ) (t : Table) (cabinet line : ℕ) (own : List ℕ) where
  -- the file as it grows: zero bits, with the head, with the records, with the region words, with the seal
  abbrev zeros : List ℕ
  zeros = replicate (file_length e t.n (length own)) 0

  abbrev head : List ℕ
  head = head_values e cabinet line t.n (length own)

  abbrev with_head : List ℕ
  with_head = put_fields zeros 0 head_widths head

  abbrev with_records : List ℕ
  with_records = put_blocks with_head (record_at e) (record_widths e) (records e t.records) t.n

  abbrev with_words : List ℕ
  with_words = put_blocks with_records (word_at e t.n) word_widths (words own) (length own)

  abbrev end : ℕ
  end = file_length e t.n (length own) - 2

  abbrev file : List ℕ
  file = put_seal with_words end

  file_is : file_of e t cabinet line own ≡ file
  unfolding file_of put_head
  file_is = rw (records_blocks with_head e t.records t.n, words_blocks with_records e t.n own (length own))

  -- each step changes its own bits only
  head_only : Only zeros with_head 0 64
  head_only = all_only zeros 0 head_widths head

  records_only : Only with_head with_records (record_at e 0) (record_at e t.n)
  records_only = blocks_only (record_at e) (record_widths e) (next_record e) (records e t.records) with_head t.n

  words_only : Only with_records with_words (word_at e t.n 0) (word_at e t.n (length own))
  words_only = blocks_only (word_at e t.n) word_widths (next_word e t.n) (words own) with_records (length own)

  body_only : Only zeros with_words 0 (word_at e t.n (length own))
  body_only =
      let r : Only zeros with_records 0 (record_at e t.n) = only_both (omega arith) head_only records_only in
      only_both (omega arith) r words_only

  body_length : length with_words ≡ file_length e t.n (length own)
  body_length = body_only.size ∙ length-replicate (file_length e t.n (length own)) 0

  pub file-length : length (file_of e t cabinet line own) ≡ file_length e t.n (length own)
  file-length = rw file_is ((seal_only with_words end).size ∙ body_length)

  body_bytes : Bytes with_words
  body_bytes = body_only.bytes (zero_bytes (file_length e t.n (length own)))

  -- so the bits of the head, of the records and of the region words are those of the step that put them
  words_same : SameBits file with_words 0 (end * 8)
  words_same q _ l = (seal_only with_words end).stays q (inl l)

  records_same : SameBits file with_records 0 (record_at e t.n)
  records_same q a l = words_same q a (omega arith) ∙ words_only.stays q (inl (omega arith))

  head_same : SameBits file with_head 0 64
  head_same q a l = records_same q a (omega arith) ∙ records_only.stays q (inl (omega arith))

  -- past the region words nothing is put before the seal
  filler_clear : field file (word_at e t.n (length own)) (filler_width (length own)) ≡ 0
  filler_clear =
      let n = t.n in
      let m = length own in
      field_same file zeros (word_at e n m) (filler_width m) (λ q a b. words_same q (omega arith) (omega arith) ∙ body_only.stays q (inr a))
      ∙ field_zeros (file_length e n m) (word_at e n m) (filler_width m)

  pub made : Fits e t cabinet line own → IsFile e t cabinet line own (file_of e t cabinet line own)
  made f =
      let z = length-replicate {A = ℕ} (file_length e t.n (length own)) 0 in
      let h = head_only.size in
      let r = records_only.size in
      let w = body_length in
      let a = f.tasks in
      let b = f.many in
      rw file_is
      (record {
        bytes = (seal_only with_words end).bytes body_bytes;
        size = (seal_only with_words end).size ∙ body_length;
        head =
            fields_same file with_head 0 head_widths head_same
            ∙ all_got zeros 0 head_widths head (omega arith)
            (f.edition_fits and omega arith and f.cabinet_fits and f.line_fits and omega arith and omega arith and tt);
        has_records = λ k l.
            let p = apart (record_at e) (record_widths e) (next_record e) k t.n l in
            fields_same file with_records (record_at e k) (record_widths e) (λ q x y. records_same q (omega arith) (omega arith))
            ∙ blocks_got (record_at e) (record_widths e) (next_record e) (records e t.records) with_head t.n (omega arith) f.records_fit k l;
        has_words = λ k l.
            fields_same file with_words (word_at e t.n k) word_widths (λ q x y. words_same q (omega arith) (omega arith))
            ∙ blocks_got (word_at e t.n) word_widths (next_word e t.n) (words own) with_records (length own) (omega arith) f.words_fit k l;
        filler = filler_clear;
        seal = seal_holds with_words end body_bytes (omega arith);
      })
