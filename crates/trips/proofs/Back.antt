-- What a table's file in the edition e says, and that it reads where the writer takes the table.
use Rattle.std.specs.Prelude.{Ok}
use mathlib.Core.Path.{◌≡◌, ap, ◌∙◌}
use mathlib.Core.Bool.{true}
use mathlib.Core.List.{List}
use Prim.Native.Nat.{ℕ, ◌≤◌, ◌<◌}
use native.Mathlib.Omega.{arith}
use borrow.Author.Tests.{eq-eqb}
use lib.Dec.{eqb}
use lib.ListN.{length, get_or}
use lib.Seq.{ext_get_or}
use Rattle.paper.specs.Numbers.{rec, zero_record, per_task}
use Rattle.paper.specs.File.{in_edition, head_values, head_fields, record_fields, record_from, record_in, spare_from, shortest, spare_clear, edition_in, tasks_in, words_in, region_words, own_words, records_in, table_in}
use Rattle.paper.specs.Answers.{read_outcome}
use Rattle.paper.specs.declared.Table.{Table}
use Rattle.paper.proofs.Tests.{every_all}
use Rattle.laws.proofs.Lists.{list_same}
use Rattle.trips.proofs.One.{IsFile}
use Rattle.paper.proofs.Loading.{read_done}
use Rattle.paper.proofs.Writing.{Taken}
use Rattle.paper.proofs.Sizes.{length_bounds}
use Rattle.paper.proofs.Editions.{in_either}
use Rattle.paper.proofs.Layouts.{record_back, spare_back}
use Rattle.paper.proofs.Jitters.{jitter_kept}
use Rattle.trips.proofs.Read.{words_count, word-at, record-at}
use Rattle.trips.proofs.Alike.{ranges_alike, assignment_alike, regions_alike}

module _ (e : ℕ) (t : Table) (cabinet line : ℕ) (own f : List ℕ) (i : IsFile e t cabinet line own f) where
  -- the head's values, by their places
  said : (j : ℕ) → get_or (head_fields f) j 0 ≡ get_or (head_values e cabinet line t.n (length own)) j 0
  said j = ap (λ (vs : List ℕ). get_or vs j 0) i.head

  pub edition_back : edition_in f ≡ e
  edition_back = said 0

  tasks_back : tasks_in f ≡ t.n
  tasks_back = said 4

  count_back : words_in f ≡ length own
  count_back = said 5

  pub words_back : own_words f ≡ own
  words_back =
      rw (edition_back, tasks_back, count_back)
      (ext_get_or 0 (region_words f e t.n (length own)) own (words_count f e t.n (length own))
      (λ k l. let j : k < length own = rw words_count at l in word-at f e t.n (length own) k j ∙ ap (λ (vs : List ℕ). get_or vs 0 0) (i.has_words k j)))

  spare-clear : spare_clear f e t.n (length own) ≡ true
  unfolding spare_clear
  spare-clear =
      rw (
        eq-eqb _ _ (said 1),
        eq-eqb _ _ i.filler,
        every_all t.n (λ k. eqb (spare_from e (record_fields f e k)) 0)
            (λ k l. eq-eqb _ _ (ap (λ (vs : List ℕ). spare_from e vs) (i.has_records k l) ∙ spare_back e (rec t.records k))),
      )

  -- the records, where the edition has a place for each J
  module _ (kept : (k : ℕ) → k < t.n → in_edition e 0 (rec t.records k).jitter ≡ (rec t.records k).jitter) where
    each_back : (k : ℕ) → k < t.n → record_in f e k ≡ rec t.records k
    each_back k l = ap (λ (vs : List ℕ). record_from e vs) (i.has_records k l) ∙ record_back e (rec t.records k) (kept k l)

    records_back : records_in f (edition_in f) (tasks_in f) ≡ per_task t.n (rec t.records) zero_record
    unfolding per_task
    records_back = rw (edition_back, tasks_back, list_same t.n (record_in f e) (rec t.records) each_back)

    pub table_back : table_in f ≡ record { n = t.n; records = per_task t.n (rec t.records) zero_record }
    table_back = λ j. record { n = tasks_back j; records = records_back j }

  pub reads : (catalogue : List ℕ) (room room' : ℕ) → Taken e t cabinet line own catalogue room → length own ≤ room' → read_outcome f cabinet line catalogue room' ≡ Ok tt
  reads catalogue room room' w l =
      let least = (length_bounds e t.n (length own) w.some_tasks w.few_tasks w.few_words).0 in
      let long-enough : shortest ≤ in_edition e 22 25 = in_either (λ (x : ℕ). shortest ≤ x) e (omega arith) (omega arith) in
      let a : (k : ℕ) → k < t.n → rec (records_in f e t.n) k ≡ rec t.records k =
      λ k j. record-at f e t.n k j ∙ each_back (jitter_kept e t cabinet line own catalogue room w) k j in
      read_done f cabinet line catalogue room'
      (record {
        long = omega (arith, i.size);
        edition = rw edition_back w.edition;
        cabinets = said 2;
        lines = said 3;
        plated = w.plated;
        some_tasks = rw tasks_back w.some_tasks;
        few_tasks = rw tasks_back w.few_tasks;
        few_words = rw count_back w.few_words;
        size = rw (edition_back, tasks_back, count_back) i.size;
        seal = rw i.size i.seal;
        spare = rw (edition_back, tasks_back, count_back) spare-clear;
        ranges = rw (edition_back, tasks_back, ranges_alike t.n (records_in f e t.n) t.records a) w.ranges;
        assignment = rw (edition_back, tasks_back, assignment_alike t.n (records_in f e t.n) t.records a) w.assignment;
        regions = rw (words_back, edition_back, tasks_back, regions_alike t.n (records_in f e t.n) t.records a own catalogue) w.regions;
        fits = rw count_back l;
      })
