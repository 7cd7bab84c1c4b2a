-- Reading a file: what is known of a file that was read, and that nothing else keeps a file from being read.
use Rattle.std.specs.Prelude.{Ok}
use Prim.{tt}
use mathlib.Core.Path.{◌≡◌, ap}
use mathlib.Core.Bool.{true, false, not}
use mathlib.Core.List.{List}
use Prim.Native.Nat.{ℕ, ◌-◌, ◌≤◌}
use borrow.Author.Tests.{leb-true, ltb-false, eqb-true, not-false, le-leb, le-ltb, eq-eqb}
use lib.Dec.{leb}
use lib.ListN.{length}
use Rattle.paper.specs.Numbers.{most_tasks, most_words, counts_in_range, tasks_in_range, records_in_range, assignment_holds}
use Rattle.paper.specs.File.{is_edition, edition_in, cabinet_in, line_in, tasks_in, words_in, shortest, file_length, sealed, spare_clear, table_in, own_words}
use Rattle.paper.specs.Regions.{all_regions_hold}
use Rattle.paper.specs.Refusals.{blank, read_asks}
use Rattle.paper.specs.Answers.{read_outcome}
use Rattle.paper.proofs.Tests.{both, neither, ◌and◌, within}
use Rattle.paper.proofs.Asks.{done_none, none_done}
use Rattle.paper.proofs.Plates.{plate_says}

-- What is known of a file that was read for a cabinet and a line, with a catalogue, into room for so many words.
pub record Loaded (f : List ℕ) (cabinet line : ℕ) (catalogue : List ℕ) (room : ℕ) : Type 0 where
  pub long : shortest ≤ length f
  pub edition : is_edition (edition_in f) ≡ true
  -- it is the plate's, and the plate is not blank
  pub cabinets : cabinet_in f ≡ cabinet
  pub lines : line_in f ≡ line
  pub plated : blank cabinet line ≡ false
  pub some_tasks : 1 ≤ tasks_in f
  pub few_tasks : tasks_in f ≤ most_tasks
  pub few_words : words_in f ≤ most_words
  pub size : length f ≡ file_length (edition_in f) (tasks_in f) (words_in f)
  pub seal : sealed f (length f - 2) ≡ true
  pub spare : spare_clear f (edition_in f) (tasks_in f) (words_in f) ≡ true
  pub ranges : records_in_range (table_in f).records (tasks_in f) ≡ true
  pub assignment : assignment_holds (table_in f).records (tasks_in f) ≡ true
  pub regions : all_regions_hold (table_in f).records (tasks_in f) (own_words f) catalogue ≡ true
  pub fits : words_in f ≤ room

module _ (f : List ℕ) (cabinet line : ℕ) (catalogue : List ℕ) (room : ℕ) where
  -- What was read is as it should be.
  pub read_says : read_outcome f cabinet line catalogue room ≡ Ok tt → Loaded f cabinet line catalogue room
  read_says e =
      let a1 = done_none (read_asks f cabinet line catalogue room) e in
      let a2 = a1.1 in
      let a18 = a2.1 in
      let a3 = a18.1 in
      let a4 = a3.1 in
      let a5 = a4.1 in
      let a6 = a5.1 in
      let a7 = a6.1 in
      let a8 = a7.1 in
      let a9 = a8.1 in
      let a10 = a9.1 in
      let a11 = a10.1 in
      let a12 = a11.1 in
      let counts = both (tasks_in_range (tasks_in f)) (leb (words_in f) most_words) (not-false (counts_in_range (tasks_in f) (words_in f)) a5.0) in
      let tasks = within 1 most_tasks (tasks_in f) counts.0 in
      record {
        long = ltb-false (length f) shortest a1.0;
        edition = not-false _ a2.0;
        cabinets = eqb-true (cabinet_in f) cabinet (not-false _ a3.0);
        lines = eqb-true (line_in f) line (not-false _ a4.0);
        plated = (neither (blank (cabinet_in f) (line_in f)) (blank cabinet line) a18.0).1;
        some_tasks = tasks.0;
        few_tasks = tasks.1;
        few_words = leb-true (words_in f) most_words counts.1;
        size = eqb-true (length f) (file_length (edition_in f) (tasks_in f) (words_in f)) (not-false _ a6.0);
        seal = not-false _ a7.0;
        spare = not-false _ a8.0;
        ranges = not-false _ a9.0;
        assignment = not-false _ a10.0;
        regions = not-false _ a11.0;
        fits = ltb-false room (words_in f) a12.0;
      }

  -- And a file that is as it should be is read.
  pub read_done : Loaded f cabinet line catalogue room → read_outcome f cabinet line catalogue room ≡ Ok tt
  read_done l =
      none_done (read_asks f cabinet line catalogue room)
      (le-ltb (length f) shortest l.long
      and ap not l.edition
      and (rw (l.cabinets, l.lines, l.plated))
      and ap not (eq-eqb (cabinet_in f) cabinet l.cabinets)
      and ap not (eq-eqb (line_in f) line l.lines)
      and (rw (le-leb 1 (tasks_in f) l.some_tasks, le-leb (tasks_in f) most_tasks l.few_tasks, le-leb (words_in f) most_words l.few_words))
      and ap not (eq-eqb (length f) (file_length (edition_in f) (tasks_in f) (words_in f)) l.size)
      and ap not l.seal
      and ap not l.spare
      and ap not l.ranges
      and ap not l.assignment
      and ap not l.regions
      and le-ltb room (words_in f) l.fits
      and tt)

  -- One cabinet, one file: a file whose cabinet or line is not the one on the plate is never loaded.
  pub one_cabinet : read_outcome f cabinet line catalogue room ≡ Ok tt → (cabinet_in f ≡ cabinet) × (line_in f ≡ line)
  one_cabinet e = let l = read_says e in (l.cabinets, l.lines)

  -- No file is loaded for cabinet 0 or line 0, and none that says either.
  pub not_blank : read_outcome f cabinet line catalogue room ≡ Ok tt → ((1 ≤ cabinet) × (1 ≤ line)) × ((1 ≤ cabinet_in f) × (1 ≤ line_in f))
  not_blank e =
      let l = read_says e in
      let p = plate_says cabinet line l.plated in
      (p, rw (l.cabinets, l.lines) p)
