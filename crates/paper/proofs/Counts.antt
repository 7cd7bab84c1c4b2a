-- n is 1 to 15 (document 02, item 6). Every call that asks 5 refuses another number of tasks with it.
use Rattle.std.specs.Prelude.{Err}
use Prim.Native.Nat.{ℕ, ◌≤◌}
use mathlib.Core.Path.{◌≡◌, refl}
use mathlib.Core.Bool.{true, false}
use mathlib.Core.List.{List, [], ◌∷◌, map}
use lib.ListN.{take, replicate}
use borrow.Author.Tests.{le-leb, lt-leb}
use native.Mathlib.Omega.{arith}
use Rattle.paper.specs.Numbers.{most_tasks, tasks_in_range}
use Rattle.paper.specs.File.{is_edition, tasks_in}
use Rattle.paper.specs.Refusals.{number_of, Asks, first_of, file_asks, record_asks, read_asks, write_asks, times_asks, tolerances_asks, lengths_asks, fit_asks, first_asks, next_asks, regions_asks}
use Rattle.paper.proofs.Asks.{NoneApplies}
use Rattle.paper.specs.declared.Table.{Table}
use Rattle.paper.specs.declared.Refusal.TheVariants.{WrongCounts}

pub tasks_taken : (n : ℕ) → 1 ≤ n → n ≤ 15 → tasks_in_range n ≡ true
tasks_taken n a b = rw (le-leb 1 n a, le-leb n most_tasks (omega arith)) refl

pub no_task : tasks_in_range 0 ≡ false
no_task = refl

pub too_many_tasks : (n : ℕ) → 16 ≤ n → tasks_in_range n ≡ false
too_many_tasks n a = rw (le-leb 1 n (omega arith), lt-leb n most_tasks (omega arith)) refl

pub with_5 : number_of WrongCounts ≡ 5
with_5 = refl

-- of a table it is asked first, in writing behind the edition e that is told
abbrev asks_of_table : ℕ → Table → List ℕ → List ℕ → List ℕ → ℕ → ℕ → ℕ → ℕ → List Asks
asks_of_table e t own catalogue given cabinet line room number =
    write_asks e t cabinet line own catalogue room ∷
    times_asks t ∷
    tolerances_asks t ∷
    lengths_asks t ∷
    fit_asks t own catalogue ∷
    first_asks t room ∷
    next_asks t given room ∷
    regions_asks t own catalogue number ∷ []

pub table_refused : (e : ℕ) (t : Table) → is_edition e ≡ true → tasks_in_range t.n ≡ false → (own catalogue given : List ℕ) (cabinet line room number : ℕ)
    → map (λ asks. first_of asks) (asks_of_table e t own catalogue given cabinet line room number) ≡ replicate 8 (Err WrongCounts)
table_refused e t edition tasks own catalogue given cabinet line room number = rw (edition, tasks) refl

-- what is asked of a file: by itself, to read it, to hand back a record
abbrev pub asks_of_file : List ℕ → ℕ → ℕ → List ℕ → ℕ → ℕ → List Asks
asks_of_file f cabinet line catalogue room number =
    file_asks f cabinet line catalogue ∷ read_asks f cabinet line catalogue room ∷ record_asks f cabinet line catalogue number ∷ []

-- of a file it is asked behind 1, 2, 18, 3, 4
pub file_refused : (f : List ℕ) (cabinet line : ℕ) (catalogue : List ℕ) (room number : ℕ)
    → NoneApplies (take 5 (file_asks f cabinet line catalogue))
    → tasks_in_range (tasks_in f) ≡ false
    → map (λ asks. first_of asks) (asks_of_file f cabinet line catalogue room number) ≡ replicate 3 (Err WrongCounts)
file_refused f cabinet line catalogue room number clear e =
    rw (clear.0, clear.1.0, clear.1.1.0, clear.1.1.1.0, clear.1.1.1.1.0, e) refl
