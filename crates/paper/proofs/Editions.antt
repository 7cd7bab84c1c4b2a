-- The editions of the file (document 02, item 9): which there are, that 2 is for every other number, what the writer asks of the one that it is told, that 6 reads it, and a record of each as it is handed back.
use Rattle.std.specs.Prelude.{Err}
use Prim.Native.Nat.{ℕ, ◌+◌, ◌-◌, ◌*◌}
use mathlib.Core.Path.{◌≡◌, refl}
use mathlib.Core.Bool.{Bool, true, false, cond}
use mathlib.Core.List.{List, ◌++◌, map}
use mathlib.Core.Logic.{◌⊎◌, inl, inr}
use borrow.Author.Tests.{eqb-true, ne_eqb}
use lib.Dec.{eqb}
use lib.ListN.{length, take, drop, replicate}
use Rattle.paper.specs.File.{is_edition, in_edition, edition_in, tasks_in, words_in, file_length}
use Rattle.paper.specs.Regions.{record_part}
use Rattle.paper.specs.Refusals.{number_of, first_of, file_asks, write_asks}
use Rattle.paper.specs.Answers.{write_outcome}
use Rattle.paper.specs.declared.Table.{Table}
use Rattle.paper.specs.declared.Refusal.TheVariants.{WrongEdition, WrongLength}
use Rattle.paper.proofs.Asks.{NoneApplies}
use Rattle.paper.proofs.Counts.{asks_of_file}

pub with_2 : number_of WrongEdition ≡ 2
with_2 = refl

-- they are 1 and 2
pub edition_taken : (e : ℕ) → (e ≡ 1) ⊎ (e ≡ 2) → is_edition e ≡ true
edition_taken e (inl h) = rw h
edition_taken e (inr h) = rw h

pub edition_says : (e : ℕ) → is_edition e ≡ true → (e ≡ 1) ⊎ (e ≡ 2)
edition_says e h = go (eqb e 1) refl
  where
    go : (b : Bool) → eqb e 1 ≡ b → (e ≡ 1) ⊎ (e ≡ 2)
    go true q = inl (eqb-true e 1 q)
    go false q = inr (eqb-true e 2 (rw q at h))

pub no_edition : (e : ℕ) → (e ≡ 1 → ⊥) → (e ≡ 2 → ⊥) → is_edition e ≡ false
no_edition e one two = rw (ne_eqb e 1 one, ne_eqb e 2 two)

-- what holds of what stands in edition 1 and of what stands in edition 2 holds of what stands in e
pub in_either : {A : Type 0} (P : A → Type 0) (e : ℕ) {one two : A} → P one → P two → P (in_edition e one two)
in_either P e {one} {two} p q = go (eqb e 2)
  where
    go : (b : Bool) → P (cond b two one)
    go true = q
    go false = p

module _ (e : ℕ) (t : Table) (cabinet line : ℕ) (own catalogue : List ℕ) (room : ℕ) where
  -- a number but 1 and 2 is refused with 2 first, whatever is told beside it
  pub edition_refused : (e ≡ 1 → ⊥) → (e ≡ 2 → ⊥) → write_outcome e t cabinet line own catalogue room ≡ Err WrongEdition
  edition_refused one two = rw (no_edition e one two) refl

  -- 19 is of edition 1 alone: elsewhere all is as if it were not asked
  pub without_19 : (e ≡ 1 → ⊥) → let asks = write_asks e t cabinet line own catalogue room in first_of asks ≡ first_of (take 6 asks ++ drop 7 asks)
  without_19 h = rw (ne_eqb e 1 h) refl

-- 6 reads the edition: a file of which 1, 2, 18, 3, 4 and 5 say nothing and that hasn't the length of its own edition is refused with it
pub length_refused : (f : List ℕ) (cabinet line : ℕ) (catalogue : List ℕ) (room number : ℕ)
    → NoneApplies (take 6 (file_asks f cabinet line catalogue))
    → (length f ≡ file_length (edition_in f) (tasks_in f) (words_in f) → ⊥)
    → map (λ asks. first_of asks) (asks_of_file f cabinet line catalogue room number) ≡ replicate 3 (Err WrongLength)
length_refused f cabinet line catalogue room number clear other =
    rw (
      clear.0,
      clear.1.0,
      clear.1.1.0,
      clear.1.1.1.0,
      clear.1.1.1.1.0,
      clear.1.1.1.1.1.0,
      ne_eqb (length f) (file_length (edition_in f) (tasks_in f) (words_in f)) other,
    ) refl

-- a record comes back as twelve bytes, in edition 2 as fifteen, each behind those before it
pub twelve_bytes : (k : ℕ) → record_part 1 k ≡ record { from = 8 + 12 * (k - 1); count = 12 }
twelve_bytes k = refl

pub fifteen_bytes : (k : ℕ) → record_part 2 k ≡ record { from = 8 + 15 * (k - 1); count = 15 }
fifteen_bytes k = refl
