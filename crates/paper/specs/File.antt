-- Document 01, "The file, bit by bit", and edition 2 of the file (document 02, item 9). In what follows e is the edition;
-- only editions 1 and 2 are read and written, and any other number would be laid out as 1.
use Rattle.std.specs.Prelude.{ℕ, zero, suc, ◌+◌, ◌-◌, ◌*◌, ◌/◌, Bool, ◌&&◌, ◌||◌, cond, List, [], ◌∷◌, ◌++◌, eqb, get_or, length, take, replicate}
use Rattle.paper.specs.Vocabulary.{list_to, every}
use Rattle.paper.specs.Numbers.{per_task, zero_record, rec}
use Rattle.paper.specs.Bits.{field, fields_at, put_field, put_fields}
use Rattle.paper.specs.Seal.{seal_of}
use Rattle.paper.specs.declared.Source.{Source}
use Rattle.paper.specs.declared.Source.TheVariants.{Own, Catalogue}
use Rattle.paper.specs.declared.Record.{Record}
use Rattle.paper.specs.declared.Table.{Table}

-- the editions that there are
abbrev pub is_edition : ℕ → Bool
is_edition e = eqb e 1 || eqb e 2

-- what stands in edition 1, and what in edition 2
module _ {A : Type 0} where
  abbrev pub in_edition : ℕ → A → A → A
  in_edition e one two = cond (eqb e 2) two one

-- Head, 64 bits: edition 4, spare 4, cabinet 24, line 16, n 8, m 8
abbrev pub head_widths : List ℕ
head_widths = 4 ∷ 4 ∷ 24 ∷ 16 ∷ 8 ∷ 8 ∷ []

abbrev pub head_values : ℕ → ℕ → ℕ → ℕ → ℕ → List ℕ
head_values e cabinet line n m = e ∷ 0 ∷ cabinet ∷ line ∷ n ∷ m ∷ []

-- what a file's head says: its fields in that order; `get_or .. i 0` is field i of them, counted from 0
abbrev pub head_fields : List ℕ → List ℕ
head_fields f = fields_at f 0 head_widths

abbrev pub edition_in : List ℕ → ℕ
edition_in f = get_or (head_fields f) 0 0

abbrev pub cabinet_in : List ℕ → ℕ
cabinet_in f = get_or (head_fields f) 2 0

abbrev pub line_in : List ℕ → ℕ
line_in f = get_or (head_fields f) 3 0

abbrev pub tasks_in : List ℕ → ℕ
tasks_in f = get_or (head_fields f) 4 0

abbrev pub words_in : List ℕ → ℕ
words_in f = get_or (head_fields f) 5 0

-- Each record: C 20, T 20, D 20, priority 4, threshold 4, region source 1, first region 7 (counted from 0), region count 7, name number 7,
abbrev pub used_widths : List ℕ
used_widths = 20 ∷ 20 ∷ 20 ∷ 4 ∷ 4 ∷ 1 ∷ 7 ∷ 7 ∷ 7 ∷ []

-- and behind these 90 used bits in edition 1 spare 6, in edition 2 J 20, spare 10
abbrev pub record_widths : ℕ → List ℕ
record_widths e = used_widths ++ in_edition e (6 ∷ []) (20 ∷ 10 ∷ [])

-- in all 96 bits, in edition 2 120 bits: a record's bytes
abbrev pub record_size : ℕ → ℕ
record_size e = in_edition e 12 15

-- region source 1 (0 own, 1 catalogue)
abbrev pub source_bit : Source → ℕ
source_bit Own = 0
source_bit Catalogue = 1

abbrev pub source_of : ℕ → Source
source_of zero = Own
source_of (suc b) = Catalogue

abbrev pub used_values : Record → List ℕ
used_values r =
    r.cost ∷ r.period ∷ r.deadline ∷ r.priority ∷ r.threshold ∷ source_bit r.source ∷ r.first ∷ r.count ∷ r.name ∷ []

abbrev pub record_values : ℕ → Record → List ℕ
record_values e r = used_values r ++ in_edition e (0 ∷ []) (r.jitter ∷ 0 ∷ [])

-- record k + 1 stands after the head and k records
abbrev pub record_at : ℕ → ℕ → ℕ
record_at e k = 64 + 8 * (record_size e * k)

-- what it says: its fields in that order, and the record that they make. Edition 1 files read as J = 0 (document 02, item 8)
abbrev pub record_fields : List ℕ → ℕ → ℕ → List ℕ
record_fields f e k = fields_at f (record_at e k) (record_widths e)

abbrev pub record_from : ℕ → List ℕ → Record
record_from e vs = record {
  cost = get_or vs 0 0;
  period = get_or vs 1 0;
  deadline = get_or vs 2 0;
  priority = get_or vs 3 0;
  threshold = get_or vs 4 0;
  source = source_of (get_or vs 5 0);
  first = get_or vs 6 0;
  count = get_or vs 7 0;
  name = get_or vs 8 0;
  jitter = in_edition e 0 (get_or vs 9 0);
}

abbrev pub record_in : List ℕ → ℕ → ℕ → Record
record_in f e k = record_from e (record_fields f e k)

-- what its spare bits say, the last of its fields
abbrev pub spare_from : ℕ → List ℕ → ℕ
spare_from e vs = in_edition e (get_or vs 9 0) (get_or vs 10 0)

-- Region words, 20 bits each, after n records
abbrev pub word_at : ℕ → ℕ → ℕ → ℕ
word_at e n k = record_at e n + 20 * k

-- then zero bits to the byte's end; head and records are whole bytes in both editions
abbrev pub filler_width : ℕ → ℕ
filler_width m = (20 * m + 7) / 8 * 8 - 20 * m

-- Length in bytes: 8 + 12n + (20m/8 rounded up) + 2, in edition 2 with 15n in place of 12n
abbrev pub file_length : ℕ → ℕ → ℕ → ℕ
file_length e n m = 8 + record_size e * n + (20 * m + 7) / 8 + 2

-- Shortest 22. In edition 2 it is 25, but 1 is asked before the edition is looked at: what is between gets 6 at the latest
abbrev pub shortest : ℕ
shortest = 22

-- Spare and filler bits are zero
unfoldable pub spare_clear : List ℕ → ℕ → ℕ → ℕ → Bool
spare_clear f e n m =
    eqb (get_or (head_fields f) 1 0) 0 &&
    (every n (λ k. eqb (spare_from e (record_fields f e k)) 0) &&
    eqb (field f (word_at e n m) (filler_width m)) 0)

-- Seal, 16 bits: over all bytes before it
unfoldable pub sealed : List ℕ → ℕ → Bool
sealed f end = eqb (field f (end * 8) 16) (seal_of (take end f))

unfoldable pub put_seal : List ℕ → ℕ → List ℕ
put_seal f end = put_field f (end * 8) 16 (seal_of (take end f))

-- What a file says: its region words and, for a table, its records; the reader leaves those past n zero
unfoldable pub region_words : List ℕ → ℕ → ℕ → ℕ → List ℕ
region_words f e n m = list_to m (λ k. field f (word_at e n k) 20)

abbrev pub own_words : List ℕ → List ℕ
own_words f = region_words f (edition_in f) (tasks_in f) (words_in f)

abbrev pub records_in : List ℕ → ℕ → ℕ → List Record
records_in f e n = per_task n (record_in f e) zero_record

abbrev pub table_in : List ℕ → Table
table_in f = record { n = tasks_in f; records = records_in f (edition_in f) (tasks_in f) }

-- What a file is made of: over zero bits the head, n records and the region words; then the seal
unfoldable pub put_records : List ℕ → ℕ → List Record → ℕ → List ℕ
put_records s e rs zero = s
put_records s e rs (suc n) = put_fields (put_records s e rs n) (record_at e n) (record_widths e) (record_values e (rec rs n))

unfoldable pub put_words : List ℕ → ℕ → ℕ → List ℕ → ℕ → List ℕ
put_words s e n ws zero = s
put_words s e n ws (suc m) = put_field (put_words s e n ws m) (word_at e n m) 20 (get_or ws m 0)

unfoldable pub put_head : ℕ → ℕ → ℕ → ℕ → ℕ → List ℕ
put_head e cabinet line n m = put_fields (replicate (file_length e n m) 0) 0 head_widths (head_values e cabinet line n m)

unfoldable pub file_of : ℕ → Table → ℕ → ℕ → List ℕ → List ℕ
file_of e t cabinet line own =
    put_seal
    (put_words (put_records (put_head e cabinet line t.n (length own)) e t.records t.n) e t.n own (length own))
    (file_length e t.n (length own) - 2)
