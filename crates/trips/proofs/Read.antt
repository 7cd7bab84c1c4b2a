-- A file that reads is the file, in its own edition, of the table and the region words that it says.
use mathlib.Core.Path.{◌≡◌, refl, sym, ap, ◌∙◌}
use mathlib.Core.Bool.{Bool, true, false, ◌&&◌}
use mathlib.Core.List.{List}
use Prim.Native.Nat.{ℕ, ◌-◌, ◌<◌}
use native.Mathlib.Omega.{arith}
use borrow.Author.Tests.{eqb-true}
use lib.Dec.{eqb}
use lib.ListN.{length, get_or}
use Rattle.paper.specs.Numbers.{zero_record, rec, any_jitter}
use Rattle.paper.specs.Bits.{field}
use Rattle.paper.specs.File.{head_fields, record_fields, record_in, record_at, spare_from, word_at, filler_width, file_length, spare_clear, edition_in, tasks_in, words_in, region_words, own_words, records_in, table_in}
use Rattle.paper.specs.declared.Record.{Record}
use Rattle.paper.proofs.Tests.{both, every_says}
use Rattle.paper.proofs.Jitters.{all_still}
use Rattle.paper.proofs.Layouts.{values_back}
use Rattle.laws.proofs.Lists.{list_length, list_at, per_task_at}
use Rattle.bits.specs.Fields.{Bytes}
use Rattle.bits.proofs.Field.{field_lt}
use Rattle.trips.proofs.One.{IsFile}
use Rattle.paper.proofs.Loading.{Loaded}

pub words_count : (f : List ℕ) (e n m : ℕ) → length (region_words f e n m) ≡ m
unfolding region_words
words_count f e n m = list_length m (λ k. field f (word_at e n k) 20)

pub word-at : (f : List ℕ) (e n m k : ℕ) → k < m → get_or (region_words f e n m) k 0 ≡ field f (word_at e n k) 20
unfolding region_words
word-at f e n m k h = list_at m (λ j. field f (word_at e n j) 20) 0 k h

pub record-at : (f : List ℕ) (e n k : ℕ) → k < n → rec (records_in f e n) k ≡ record_in f e k
record-at f e n k h = per_task_at n (record_in f e) zero_record zero_record k h

-- no J that is read of edition 1 is other than 0: 19 never applies to what was read
pub read_unjittered : (f : List ℕ) (e n : ℕ) → (eqb e 1 && any_jitter (records_in f e n) n) ≡ false
read_unjittered f e n = go (eqb e 1) refl
  where
    go : (one : Bool) → eqb e 1 ≡ one → (one && any_jitter (records_in f e n) n) ≡ false
    go true q =
        let h : e ≡ 1 = eqb-true e 1 q in
        all_still (records_in f e n) n (λ k l. ap (λ (r : Record). r.jitter) (record-at f e n k l) ∙ rw h)
    go false q = refl

record Spare (f : List ℕ) (e n m : ℕ) : Type 0 where
  pub head : get_or (head_fields f) 1 0 ≡ 0
  pub records : (k : ℕ) → k < n → spare_from e (record_fields f e k) ≡ 0
  pub filler : field f (word_at e n m) (filler_width m) ≡ 0

spare_says : (f : List ℕ) (e n m : ℕ) → spare_clear f e n m ≡ true → Spare f e n m
unfolding spare_clear
spare_says f e n m h =
    let a = both _ _ h in
    let b = both _ _ a.1 in
    record {
      head = eqb-true _ _ a.0;
      records = λ k l. eqb-true _ _ (every_says n (λ j. eqb (spare_from e (record_fields f e j)) 0) b.0 k l);
      filler = eqb-true _ _ b.1;
    }

pub read_file : (f : List ℕ) (cabinet line : ℕ) (catalogue : List ℕ) (room : ℕ) → Bytes f → Loaded f cabinet line catalogue room
    → IsFile (edition_in f) (table_in f) cabinet line (own_words f) f
read_file f cabinet line catalogue room b r =
    let e = edition_in f in
    let n = tasks_in f in
    let m = words_in f in
    let c = words_count f e n m in
    let s = spare_says f e n m r.spare in
    let z : length f - 2 ≡ file_length e n m - 2 = omega (arith, r.size) in
    record {
      bytes = b;
      size = rw c r.size;
      head = rw (c, s.head, r.cabinets, r.lines);
      has_records = λ k l. rw (record-at f e n k l) (sym (values_back f (record_at e k) e (field_lt f _ 1) (s.records k l)));
      has_words = λ k l. rw (word-at f e n m k (omega arith));
      filler = rw c s.filler;
      seal = rw (c, ← z) r.seal;
    }
