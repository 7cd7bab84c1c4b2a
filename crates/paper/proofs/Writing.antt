-- Writing a table: what is known of a table that the writer takes, and that nothing else keeps a table from being written.
use Rattle.std.specs.Prelude.{Ok}
use Prim.{tt}
use mathlib.Core.Path.{◌≡◌, ap}
use mathlib.Core.Bool.{true, false, not, ◌&&◌}
use mathlib.Core.List.{List}
use Prim.Native.Nat.{ℕ, ◌≤◌}
use borrow.Author.Tests.{leb-true, ltb-false, not-false, le-leb, le-ltb}
use lib.Dec.{leb, eqb}
use lib.ListN.{length}
use Rattle.paper.specs.Numbers.{most_tasks, most_words, most_cabinet, tasks_in_range, counts_in_range, records_in_range, any_jitter, assignment_holds}
use Rattle.paper.specs.File.{is_edition, file_length}
use Rattle.paper.specs.Regions.{all_regions_hold}
use Rattle.paper.specs.Refusals.{blank, write_asks}
use Rattle.paper.specs.Answers.{write_outcome}
use Rattle.paper.specs.declared.Table.{Table}
use Rattle.paper.proofs.Tests.{both, ◌and◌, within}
use Rattle.paper.proofs.Asks.{done_none, none_done}
use Rattle.paper.proofs.Plates.{plate_says}

-- What is known of a table that is written as edition e for a cabinet and a line, with its region words and a catalogue, into room for so many bytes.
pub record Taken (e : ℕ) (t : Table) (cabinet line : ℕ) (own catalogue : List ℕ) (room : ℕ) : Type 0 where
  pub edition : is_edition e ≡ true
  pub some_tasks : 1 ≤ t.n
  pub few_tasks : t.n ≤ most_tasks
  pub few_words : length own ≤ most_words
  pub plated : blank cabinet line ≡ false
  pub cabinets : cabinet ≤ most_cabinet
  pub ranges : records_in_range t.records t.n ≡ true
  pub assignment : assignment_holds t.records t.n ≡ true
  pub regions : all_regions_hold t.records t.n own catalogue ≡ true
  pub unjittered : (eqb e 1 && any_jitter t.records t.n) ≡ false
  pub fits : file_length e t.n (length own) ≤ room

module _ (e : ℕ) (t : Table) (cabinet line : ℕ) (own catalogue : List ℕ) (room : ℕ) where
  pub write_says : write_outcome e t cabinet line own catalogue room ≡ Ok tt → Taken e t cabinet line own catalogue room
  write_says done =
      let a2 = done_none (write_asks e t cabinet line own catalogue room) done in
      let a5 = a2.1 in
      let a18 = a5.1 in
      let a9 = a18.1 in
      let a10 = a9.1 in
      let a11 = a10.1 in
      let a19 = a11.1 in
      let counts = both (tasks_in_range t.n) (leb (length own) most_words) (not-false (counts_in_range t.n (length own)) a5.0) in
      let tasks = within 1 most_tasks t.n counts.0 in
      let numbers = both (leb cabinet most_cabinet) (records_in_range t.records t.n) (not-false _ a9.0) in
      record {
        edition = not-false _ a2.0;
        some_tasks = tasks.0;
        few_tasks = tasks.1;
        few_words = leb-true (length own) most_words counts.1;
        plated = a18.0;
        cabinets = leb-true cabinet most_cabinet numbers.0;
        ranges = numbers.1;
        assignment = not-false _ a10.0;
        regions = not-false _ a11.0;
        unjittered = a19.0;
        fits = ltb-false room (file_length e t.n (length own)) a19.1.0;
      }

  pub write_done : Taken e t cabinet line own catalogue room → write_outcome e t cabinet line own catalogue room ≡ Ok tt
  write_done w =
      none_done (write_asks e t cabinet line own catalogue room)
      (ap not w.edition
      and (rw (le-leb 1 t.n w.some_tasks, le-leb t.n most_tasks w.few_tasks, le-leb (length own) most_words w.few_words))
      and w.plated
      and (rw (le-leb cabinet most_cabinet w.cabinets) (ap not w.ranges))
      and ap not w.assignment
      and ap not w.regions
      and w.unjittered
      and le-ltb room (file_length e t.n (length own)) w.fits
      and tt)

  -- No file is written for cabinet 0 or line 0.
  pub not_blank : write_outcome e t cabinet line own catalogue room ≡ Ok tt → (1 ≤ cabinet) × (1 ≤ line)
  not_blank done = plate_says cabinet line (write_says done).plated
