-- Both round trips, in either edition (e), as answers of the calls. `out` is what the writer was lent, `words` what the reader was lent for region words.
use mathlib.Core.Path.{◌≡◌, refl, sym, ap, ap₂, ◌∙◌}
use mathlib.Core.List.{List, ◌++◌}
use Prim.Native.Nat.{ℕ, ◌^◌, ◌≤◌, ◌<◌}
use lib.ListN.{length, take, drop}
use lib.Seq.{take_at}
use Rattle.std.specs.Prelude.{Ok, Err}
use Rattle.paper.specs.File.{file_length, edition_in, tasks_in, words_in, own_words, table_in, file_of}
use Rattle.paper.specs.Refusals.{Outcome}
use Rattle.paper.specs.Answers.{answered, reading_of, words_for, read_outcome, read_answer, read_out, file_for, write_outcome, write_answer, write_out}
use Rattle.paper.specs.declared.Reading.{Reading}
use Rattle.paper.specs.declared.Table.{Table}
use Rattle.bits.specs.Fields.{Bytes}
use Rattle.trips.proofs.Made.{file-length}
use Rattle.trips.proofs.Read.{words_count}
use Rattle.trips.proofs.Trips.{zero_past, written_read, read_taken, read_written, read_apart}

-- A call answers with something exactly when it is done, and then with what it answers where it is done.
record Answered {A : Type 0} (o : Outcome) (a x : A) : Type 0 where
  pub done : o ≡ Ok tt
  pub is : a ≡ x

got : {A : Type 0} (o : Outcome) (a x : A) → answered o a ≡ Ok x → Answered o a x
got (Ok done) a x e = record { done = refl; is = cc }
got (Err r) a x e = cc

-- the bytes that the writer wrote, up to the length that it answered, are the file
file_kept : (e : ℕ) (t : Table) (cabinet line : ℕ) (own catalogue out : List ℕ) (size : ℕ)
    → Answered (write_outcome e t cabinet line own catalogue (length out)) (file_length e t.n (length own)) size
    → take size (write_out e t cabinet line own catalogue out) ≡ file_of e t cabinet line own
file_kept e t cabinet line own catalogue out size w =
    ap (λ (o : Outcome). take size (file_for o e t cabinet line own out)) w.done
    ∙ take_at (file_of e t cabinet line own) (drop (file_length e t.n (length own)) out) size (file-length e t cabinet line own ∙ w.is)

-- the region words that the reader handed out: as many as it answered, from the front of the output
abbrev pub handed : Reading → List ℕ → List ℕ
handed a out = take a.words out

-- as many as the file's head says
words-in : (f : List ℕ) → length (own_words f) ≡ words_in f
words-in f = words_count f (edition_in f) (tasks_in f) (words_in f)

-- what the reader answers and writes where it is done
module _ (f : List ℕ) (cabinet line : ℕ) (catalogue words : List ℕ) (done : read_outcome f cabinet line catalogue (length words) ≡ Ok tt) where
  answer_done : read_answer f cabinet line catalogue words ≡ Ok (reading_of f)
  answer_done = ap (λ (o : Outcome). answered o (reading_of f)) done

  out_done : read_out f cabinet line catalogue words ≡ own_words f ++ drop (words_in f) words
  out_done = ap (λ (o : Outcome). words_for o f words) done

-- the file's own edition, table and region words
record Gave (f : List ℕ) (cabinet line : ℕ) (catalogue words : List ℕ) (a : Reading) : Type 0 where
  pub done : read_outcome f cabinet line catalogue (length words) ≡ Ok tt
  pub reading : reading_of f ≡ a
  pub regions : own_words f ≡ handed a (read_out f cabinet line catalogue words)

gave : (f : List ℕ) (cabinet line : ℕ) (catalogue words : List ℕ) (a : Reading) → read_answer f cabinet line catalogue words ≡ Ok a
    → Gave f cabinet line catalogue words a
gave f cabinet line catalogue words a e =
    let g = got (read_outcome f cabinet line catalogue (length words)) (reading_of f) a e in
    record {
      done = g.done;
      reading = g.is;
      regions =
          sym (take_at (own_words f) (drop (words_in f) words) (words_in f) (words-in f))
          ∙ ap (λ (x : List ℕ). take (words_in f) x) (sym (out_done f cabinet line catalogue words g.done))
          ∙ ap (λ (x : Reading). take x.words (read_out f cabinet line catalogue words)) g.is;
    }

-- Written, then read: what the writer wrote, up to the length that it answered, reads as the edition that it was told and the same tasks,
-- with zero records past n, and the reader, lent enough words, hands out the same region words.
pub write_read : (e : ℕ) (t : Table) (cabinet line : ℕ) (own catalogue out words : List ℕ) (size : ℕ) → line < 2 ^ 16 → length own ≤ length words
    → write_answer e t cabinet line own catalogue out ≡ Ok size
    → (read_answer (take size (write_out e t cabinet line own catalogue out)) cabinet line catalogue words ≡ Ok (record { edition = e; table = zero_past t; words = length own }))
    × (read_out (take size (write_out e t cabinet line own catalogue out)) cabinet line catalogue words ≡ own ++ drop (length own) words)
write_read e t cabinet line own catalogue out words size l h r =
    let f = file_of e t cabinet line own in
    let w = got (write_outcome e t cabinet line own catalogue (length out)) (file_length e t.n (length own)) size r in
    let k = file_kept e t cabinet line own catalogue out size w in
    let b = written_read e t cabinet line own catalogue (length out) l w.done in
    let d = b.done (length words) h in
    let c : words_in f ≡ length own = sym (words-in f) ∙ ap length b.words in
    let a : reading_of f ≡ record { edition = e; table = zero_past t; words = length own } =
    λ i. record { edition = b.edition i; table = b.table i; words = c i } in (
      ap (λ (x : List ℕ). read_answer x cabinet line catalogue words) k
          ∙ answer_done f cabinet line catalogue words d
          ∙ ap (λ (x : Reading). Ok x) a,
      ap (λ (x : List ℕ). read_out x cabinet line catalogue words) k ∙ out_done f cabinet line catalogue words d ∙ rw (b.words, c),
    )

-- Read, then written: the table that the reader answered and the region words that it handed out, written as the edition that it answered,
-- for the same plate with the same catalogue into room for the file, give the file's length and its bytes; the rest of what was lent stays.
pub read_write : (f : List ℕ) (cabinet line : ℕ) (catalogue words out : List ℕ) (a : Reading) → Bytes f → length f ≤ length out
    → read_answer f cabinet line catalogue words ≡ Ok a
    → let own = handed a (read_out f cabinet line catalogue words) in
    (write_answer a.edition a.table cabinet line own catalogue out ≡ Ok (length f))
    × (write_out a.edition a.table cabinet line own catalogue out ≡ f ++ drop (length f) out)
read_write f cabinet line catalogue words out a b h r =
    let t = table_in f in
    let own = own_words f in
    let size = file_length (edition_in f) (tasks_in f) (length own) in
    let g = gave f cabinet line catalogue words a r in
    let d = read_taken f cabinet line catalogue (length words) (length out) g.done h in
    let s = read_written f cabinet line catalogue (length words) b g.done in
    let z : size ≡ length f = sym (file-length (edition_in f) t cabinet line own) ∙ ap length s in (
      ap₂ (λ (x : Reading) (ws : List ℕ). write_answer x.edition x.table cabinet line ws catalogue out) (sym g.reading) (sym g.regions)
          ∙ ap (λ (o : Outcome). answered o size) d
          ∙ ap (λ (x : ℕ). Ok x) z,
      ap₂ (λ (x : Reading) (ws : List ℕ). write_out x.edition x.table cabinet line ws catalogue out) (sym g.reading) (sym g.regions)
          ∙ ap (λ (o : Outcome). file_for o (edition_in f) t cabinet line own out) d
          ∙ ap (λ (x : List ℕ). x ++ drop size out) s
          ∙ ap (λ (x : ℕ). f ++ drop x out) z,
    )

-- Two different files never read, under one plate, as the same edition, table and region words.
pub read_differ : (f g : List ℕ) (cabinet line : ℕ) (catalogue catalogue' words words' : List ℕ) (a : Reading) → Bytes f → Bytes g
    → read_answer f cabinet line catalogue words ≡ Ok a
    → read_answer g cabinet line catalogue' words' ≡ Ok a
    → handed a (read_out f cabinet line catalogue words) ≡ handed a (read_out g cabinet line catalogue' words')
    → f ≡ g
read_differ f g cabinet line catalogue catalogue' words words' a b c d e w =
    let x = gave f cabinet line catalogue words a d in
    let y = gave g cabinet line catalogue' words' a e in
    let p : reading_of f ≡ reading_of g = x.reading ∙ sym y.reading in
    read_apart f g cabinet line catalogue catalogue' (length words) (length words') b c x.done y.done
    (ap (λ (r : Reading). r.edition) p)
    (ap (λ (r : Reading). r.table) p)
    (x.regions ∙ w ∙ sym y.regions)
