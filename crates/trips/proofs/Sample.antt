-- The sample file two-jobs-assigned, from the definitions: what the writer makes of the two jobs as edition 1, byte for byte, and that it takes them.
-- The same of the two jobs with jitters 3 and 9 as edition 2: what it makes of them, that this reads and as what, and that edition 1 has no place for them.
use Rattle.std.specs.Prelude.{Err, Ok}
use mathlib.Core.Path.{◌≡◌, refl}
use mathlib.Core.List.{List, [], ◌∷◌}
use Prim.Native.Nat.{ℕ}
use Rattle.paper.specs.Vocabulary.{every, sum_to, list_to}
use Rattle.paper.specs.Numbers.{each_once, thresholds_hold, per_task}
use Rattle.paper.specs.Bits.{bit_at, field, with_bit, put_bit, put_field, put_fields}
use Rattle.paper.specs.Seal.{seal_bit, seal_bits, seal_byte, seal_from}
use Rattle.paper.specs.File.{spare_clear, sealed, edition_in, region_words, own_words, table_in, put_head, put_records, put_words, put_seal, file_of}
use Rattle.paper.specs.Regions.{regions_hold, all_regions_hold}
use Rattle.paper.specs.Answers.{read_outcome, write_outcome}
use Rattle.paper.specs.declared.Refusal.TheVariants.{JitterInEditionOne}
use Rattle.paper.specs.declared.Source.TheVariants.{Own}
use Rattle.paper.specs.declared.Table.{Table}
use Rattle.trips.proofs.Trips.{zero_past}

-- the two jobs, with jitters j and k
abbrev jobs : ℕ → ℕ → Table
jobs j k = record {
  n = 2;
  records =
      record { cost = 2; period = 5; deadline = 5; priority = 1; threshold = 1; source = Own; first = 0; count = 1; name = 0; jitter = j } ∷
      record { cost = 4; period = 10; deadline = 10; priority = 2; threshold = 2; source = Own; first = 1; count = 2; name = 1; jitter = k } ∷ [];
}

abbrev words : List ℕ
words = 2 ∷ 3 ∷ 1 ∷ []

pub sample_taken : write_outcome 1 (jobs 0 0) 70002 12 words [] 42 ≡ Ok tt
unfolding every sum_to each_once thresholds_hold regions_hold all_regions_hold
sample_taken = refl

pub sample_file : file_of 1 (jobs 0 0) 70002 12 words ≡
    0x10 ∷ 0x01 ∷ 0x11 ∷ 0x72 ∷ 0x00 ∷ 0x0c ∷ 0x02 ∷ 0x03 ∷
    0x00 ∷ 0x00 ∷ 0x20 ∷ 0x00 ∷ 0x05 ∷ 0x00 ∷ 0x00 ∷ 0x51 ∷ 0x10 ∷ 0x00 ∷ 0x20 ∷ 0x00 ∷
    0x00 ∷ 0x00 ∷ 0x40 ∷ 0x00 ∷ 0x0a ∷ 0x00 ∷ 0x00 ∷ 0xa2 ∷ 0x20 ∷ 0x10 ∷ 0x40 ∷ 0x40 ∷
    0x00 ∷ 0x00 ∷ 0x20 ∷ 0x00 ∷ 0x03 ∷ 0x00 ∷ 0x00 ∷ 0x10 ∷
    0x81 ∷ 0x1c ∷ []
unfolding file_of put_seal put_words put_records put_head put_fields put_field put_bit with_bit seal_from seal_byte seal_bits seal_bit
sample_file = refl

-- Edition 2
abbrev second : List ℕ
second =
    0x20 ∷ 0x01 ∷ 0x11 ∷ 0x72 ∷ 0x00 ∷ 0x0c ∷ 0x02 ∷ 0x03 ∷
    0x00 ∷ 0x00 ∷ 0x20 ∷ 0x00 ∷ 0x05 ∷ 0x00 ∷ 0x00 ∷ 0x51 ∷ 0x10 ∷ 0x00 ∷ 0x20 ∷ 0x00 ∷ 0x00 ∷ 0x0c ∷ 0x00 ∷
    0x00 ∷ 0x00 ∷ 0x40 ∷ 0x00 ∷ 0x0a ∷ 0x00 ∷ 0x00 ∷ 0xa2 ∷ 0x20 ∷ 0x10 ∷ 0x40 ∷ 0x40 ∷ 0x00 ∷ 0x24 ∷ 0x00 ∷
    0x00 ∷ 0x00 ∷ 0x20 ∷ 0x00 ∷ 0x03 ∷ 0x00 ∷ 0x00 ∷ 0x10 ∷
    0xd4 ∷ 0x80 ∷ []

pub late_taken : write_outcome 2 (jobs 3 9) 70002 12 words [] 48 ≡ Ok tt
unfolding every sum_to each_once thresholds_hold regions_hold all_regions_hold
late_taken = refl

pub late_file : file_of 2 (jobs 3 9) 70002 12 words ≡ second
unfolding file_of put_seal put_words put_records put_head put_fields put_field put_bit with_bit seal_from seal_byte seal_bits seal_bit
late_file = refl

pub late_reads : read_outcome second 70002 12 [] 3 ≡ Ok tt
unfolding every sum_to list_to per_task bit_at field spare_clear sealed seal_from seal_byte seal_bits seal_bit region_words each_once thresholds_hold regions_hold all_regions_hold
late_reads = refl

pub late_says : (edition_in second ≡ 2) × (table_in second ≡ zero_past (jobs 3 9)) × (own_words second ≡ words)
unfolding list_to per_task bit_at field region_words
late_says = (refl, refl, refl)

-- 19
pub late_refused : write_outcome 1 (jobs 3 9) 70002 12 words [] 48 ≡ Err JitterInEditionOne
unfolding every sum_to each_once thresholds_hold regions_hold all_regions_hold
late_refused = refl
