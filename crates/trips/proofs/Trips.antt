-- Both round trips of a cabinet file in either edition (e), on the definitions alone. Calls.antt has the same as answers of the calls.
-- Each supposes that the writer or the reader is done, so both are about plates without a zero (`not_blank` in paper, Writing and Reading).
use Rattle.std.specs.Prelude.{Ok}
use mathlib.Core.Path.{◌≡◌, refl, sym, ap, ◌∙◌}
use mathlib.Core.Logic.{by_cases}
use mathlib.Core.List.{List}
use Prim.Native.Nat.{ℕ, ◌^◌, ◌≤◌, ◌<◌}
use native.Mathlib.Decide.{dec_lt}
use native.Mathlib.Omega.{arith}
use lib.ListN.{length, get_or-eq_default}
use lib.Seq.{ext_get_or}
use Rattle.paper.specs.Numbers.{most_tasks, rec, zero_record, per_task}
use Rattle.paper.specs.File.{file_length, edition_in, tasks_in, words_in, own_words, table_in, file_of}
use Rattle.paper.specs.Answers.{read_outcome, write_outcome}
use Rattle.paper.specs.declared.Record.{Record}
use Rattle.paper.specs.declared.Table.{Table}
use Rattle.laws.proofs.Lists.{per_task_length, per_task_at, per_task_past}
use Rattle.bits.specs.Fields.{Bytes}
use Rattle.bits.proofs.Field.{field_lt}
use Rattle.trips.proofs.One.{one_file}
use Rattle.trips.proofs.Made.{made}
use Rattle.paper.proofs.Loading.{read_says}
use Rattle.paper.proofs.Writing.{write_says, write_done}
use Rattle.paper.proofs.Jitters.{jitter_kept}
use Rattle.trips.proofs.Read.{read_file, words_count, read_unjittered}
use Rattle.trips.proofs.Fits.{taken_fits}
use Rattle.trips.proofs.Back.{edition_back, table_back, words_back, reads}

-- the table t with zero records past n, as the reader leaves them
abbrev pub zero_past : Table → Table
zero_past t = record { n = t.n; records = per_task t.n (rec t.records) zero_record }

-- it has the same records up to n,
pub past_same : (t : Table) (k : ℕ) → k < t.n → rec (zero_past t).records k ≡ rec t.records k
past_same t k l = per_task_at t.n (rec t.records) zero_record zero_record k l

-- zero records from there on,
pub past_zero : (t : Table) (k : ℕ) → t.n ≤ most_tasks → t.n ≤ k → rec (zero_past t).records k ≡ zero_record
past_zero t k h l =
    by_cases (dec_lt k most_tasks)
    (λ (i : k < most_tasks). per_task_past t.n (rec t.records) zero_record zero_record k l i)
    (λ i. get_or-eq_default (zero_past t).records zero_record {n = k} (omega (arith, per_task_length t.n (rec t.records) zero_record h)))

-- and is t itself where t's records past n are zero
pub past_none : (t : Table) → t.n ≤ most_tasks → length t.records ≡ most_tasks → ((k : ℕ) → t.n ≤ k → rec t.records k ≡ zero_record) → zero_past t ≡ t
past_none t h l z = ap (λ (rs : List Record). with_records t.n rs) same
  where
    with_records : ℕ → List Record → Table
    with_records n rs = record { n = n; records = rs }

    same : (zero_past t).records ≡ t.records
    same =
        ext_get_or zero_record (zero_past t).records t.records (per_task_length t.n (rec t.records) zero_record h ∙ sym l)
        (λ k _. by_cases (dec_lt k t.n) (λ (i : k < t.n). past_same t k i) (λ i. past_zero t k h (omega arith) ∙ sym (z k (omega arith))))

-- A table that the writer takes is read back from its file under the plate that it was written for and with the same catalogue:
-- the edition that it was written as, the same number of tasks, the same records up to n, zero records past n, and the same region words.
pub record ReadBack (e : ℕ) (t : Table) (cabinet line : ℕ) (own catalogue f : List ℕ) : Type 0 where
  pub done : (room : ℕ) → length own ≤ room → read_outcome f cabinet line catalogue room ≡ Ok tt
  pub edition : edition_in f ≡ e
  pub table : table_in f ≡ zero_past t
  pub words : own_words f ≡ own

pub written_read : (e : ℕ) (t : Table) (cabinet line : ℕ) (own catalogue : List ℕ) (room : ℕ) → line < 2 ^ 16
    → write_outcome e t cabinet line own catalogue room ≡ Ok tt → ReadBack e t cabinet line own catalogue (file_of e t cabinet line own)
written_read e t cabinet line own catalogue room l d =
    let f = file_of e t cabinet line own in
    let w = write_says e t cabinet line own catalogue room d in
    let i = made e t cabinet line own (taken_fits e t cabinet line own catalogue room w l) in
    record {
      done = λ room' h. reads e t cabinet line own f i catalogue room room' w h;
      edition = edition_back e t cabinet line own f i;
      table = table_back e t cabinet line own f i (jitter_kept e t cabinet line own catalogue room w);
      words = words_back e t cabinet line own f i;
    }

-- A file that reads is taken by the writer as the file's own edition, with its own table, plate and region words and the same catalogue,
pub read_taken : (f : List ℕ) (cabinet line : ℕ) (catalogue : List ℕ) (room room' : ℕ)
    → read_outcome f cabinet line catalogue room ≡ Ok tt → length f ≤ room'
    → write_outcome (edition_in f) (table_in f) cabinet line (own_words f) catalogue room' ≡ Ok tt
read_taken f cabinet line catalogue room room' d h =
    let r = read_says f cabinet line catalogue room d in
    let c = words_count f (edition_in f) (tasks_in f) (words_in f) in
    let x : cabinet < 2 ^ 24 = rw r.cabinets at (field_lt f 8 24) in
    write_done (edition_in f) (table_in f) cabinet line (own_words f) catalogue room'
    (record {
      edition = r.edition;
      some_tasks = r.some_tasks;
      few_tasks = r.few_tasks;
      few_words = rw c r.few_words;
      plated = r.plated;
      cabinets = omega arith;
      ranges = r.ranges;
      assignment = r.assignment;
      regions = r.regions;
      unjittered = read_unjittered f (edition_in f) (tasks_in f);
      fits = rw c (omega (arith, r.size));
    })

-- and what is written is the same bytes.
pub read_written : (f : List ℕ) (cabinet line : ℕ) (catalogue : List ℕ) (room : ℕ) → Bytes f
    → read_outcome f cabinet line catalogue room ≡ Ok tt
    → file_of (edition_in f) (table_in f) cabinet line (own_words f) ≡ f
read_written f cabinet line catalogue room b d =
    let e = edition_in f in
    let t = table_in f in
    let own = own_words f in
    let r = read_says f cabinet line catalogue room d in
    let w = write_says e t cabinet line own catalogue (length f) (read_taken f cabinet line catalogue room (length f) d (omega arith)) in
    let x : line < 2 ^ 16 = rw r.lines at (field_lt f 32 16) in
    one_file e t cabinet line own (file_of e t cabinet line own) f
    (made e t cabinet line own (taken_fits e t cabinet line own catalogue (length f) w x))
    (read_file f cabinet line catalogue room b r)

-- Two different files of one edition never read as the same table and region words under one plate.
pub read_apart : (f g : List ℕ) (cabinet line : ℕ) (catalogue catalogue' : List ℕ) (room room' : ℕ) → Bytes f → Bytes g
    → read_outcome f cabinet line catalogue room ≡ Ok tt → read_outcome g cabinet line catalogue' room' ≡ Ok tt
    → edition_in f ≡ edition_in g → table_in f ≡ table_in g → own_words f ≡ own_words g → f ≡ g
read_apart f g cabinet line catalogue catalogue' room room' a b c d e t w =
    sym (read_written f cabinet line catalogue room a c)
    ∙ ap (λ (x : ℕ). file_of x (table_in f) cabinet line (own_words f)) e
    ∙ ap (λ (x : Table). file_of (edition_in g) x cabinet line (own_words f)) t
    ∙ ap (λ (own : List ℕ). file_of (edition_in g) (table_in g) cabinet line own) w
    ∙ read_written g cabinet line catalogue' room' b d

-- Of one edition, since a table that is taken as edition 1 is taken as edition 2 too, given room;
pub both_taken : (t : Table) (cabinet line : ℕ) (own catalogue : List ℕ) (room room' : ℕ) → file_length 2 t.n (length own) ≤ room'
    → write_outcome 1 t cabinet line own catalogue room ≡ Ok tt → write_outcome 2 t cabinet line own catalogue room' ≡ Ok tt
both_taken t cabinet line own catalogue room room' h d =
    let w = write_says 1 t cabinet line own catalogue room d in
    write_done 2 t cabinet line own catalogue room'
    (record {
      edition = refl;
      some_tasks = w.some_tasks;
      few_tasks = w.few_tasks;
      few_words = w.few_words;
      plated = w.plated;
      cabinets = w.cabinets;
      ranges = w.ranges;
      assignment = w.assignment;
      regions = w.regions;
      unjittered = refl;
      fits = h;
    })

-- and its two files read as the same table and region words, and are not the same.
pub record TwoFiles (t : Table) (cabinet line : ℕ) (own catalogue f g : List ℕ) : Type 0 where
  pub first : ReadBack 1 t cabinet line own catalogue f
  pub second : ReadBack 2 t cabinet line own catalogue g
  pub tables : table_in f ≡ table_in g
  pub words : own_words f ≡ own_words g
  pub differ : f ≡ g → ⊥

pub two_files : (t : Table) (cabinet line : ℕ) (own catalogue : List ℕ) (room : ℕ) → line < 2 ^ 16
    → write_outcome 1 t cabinet line own catalogue room ≡ Ok tt
    → TwoFiles t cabinet line own catalogue (file_of 1 t cabinet line own) (file_of 2 t cabinet line own)
two_files t cabinet line own catalogue room l d =
    let size = file_length 2 t.n (length own) in
    let a = written_read 1 t cabinet line own catalogue room l d in
    let b = written_read 2 t cabinet line own catalogue size l (both_taken t cabinet line own catalogue room size (omega arith) d) in
    record {
      first = a;
      second = b;
      tables = a.table ∙ sym b.table;
      words = a.words ∙ sym b.words;
      differ = λ p. let z : ◌≡◌ {A = ℕ} 1 2 = sym a.edition ∙ ap (λ (x : List ℕ). edition_in x) p ∙ b.edition in absurd (omega arith);
    }
