-- Length in bytes: shortest 22, longest 485 (document 02, items 6 and 9); 22 to 440 in edition 1, 25 to 485 in edition 2.
use Rattle.std.specs.Prelude.{Ok}
use Prim.Native.Nat.{ℕ, ◌+◌, ◌*◌, ◌/◌, ◌≤◌}
use mathlib.Core.Path.{◌≡◌, refl}
use mathlib.Core.Bool.{Bool, true, false, cond}
use mathlib.Core.List.{List}
use lib.Dec.{eqb}
use lib.ListN.{length}
use native.Mathlib.Omega.{arith}
use Rattle.paper.specs.Numbers.{most_tasks, most_words}
use Rattle.paper.specs.File.{in_edition, edition_in, file_length, shortest}
use Rattle.paper.specs.Answers.{read_outcome}
use Rattle.paper.proofs.Loading.{read_says}
use Rattle.paper.proofs.Editions.{in_either}

pub length_most : (e n m : ℕ) → n ≤ most_tasks → m ≤ most_words → file_length e n m ≤ in_edition e 440 485
length_most e n m b c = go (eqb e 2)
  where
    go : (two : Bool) → 8 + cond two 15 12 * n + (20 * m + 7) / 8 + 2 ≤ cond two 485 440
    go true = omega arith
    go false = omega arith

pub length_bounds : (e n m : ℕ) → 1 ≤ n → n ≤ most_tasks → m ≤ most_words
    → (in_edition e 22 25 ≤ file_length e n m) × (file_length e n m ≤ in_edition e 440 485)
length_bounds e n m a b c = (go (eqb e 2), length_most e n m b c)
  where
    go : (two : Bool) → cond two 25 22 ≤ 8 + cond two 15 12 * n + (20 * m + 7) / 8 + 2
    go true = omega arith
    go false = omega arith

pub lengths_reached : (file_length 1 1 0 ≡ shortest) × (file_length 1 most_tasks most_words ≡ 440) × (file_length 2 1 0 ≡ 25) × (file_length 2 most_tasks most_words ≡ 485)
lengths_reached = (refl, refl, refl, refl)

-- so no file is read that is shorter or longer than its edition allows,
pub read_bounds : (f : List ℕ) (cabinet line : ℕ) (catalogue : List ℕ) (room : ℕ) → read_outcome f cabinet line catalogue room ≡ Ok tt
    → (in_edition (edition_in f) 22 25 ≤ length f) × (length f ≤ in_edition (edition_in f) 440 485)
read_bounds f cabinet line catalogue room done =
    let l = read_says f cabinet line catalogue room done in
    rw l.size (length_bounds (edition_in f) _ _ l.some_tasks l.few_tasks l.few_words)

-- and none that is longer than 485 bytes
pub length_below : (e n m : ℕ) → n ≤ most_tasks → m ≤ most_words → file_length e n m ≤ 485
length_below e n m b c =
    let most = length_most e n m b c in
    let longest : in_edition e 440 485 ≤ 485 = in_either (λ (x : ℕ). x ≤ 485) e (omega arith) (omega arith) in
    omega arith

pub longest_file : (f : List ℕ) (cabinet line : ℕ) (catalogue : List ℕ) (room : ℕ) → read_outcome f cabinet line catalogue room ≡ Ok tt → length f ≤ 485
longest_file f cabinet line catalogue room done =
    let l = read_says f cabinet line catalogue room done in
    rw l.size (length_below (edition_in f) _ _ l.few_tasks l.few_words)
