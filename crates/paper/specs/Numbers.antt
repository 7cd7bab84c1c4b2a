-- Document 01, "Numbers a table may hold".
use Rattle.std.specs.Prelude.{ℕ, ◌+◌, ◌-◌, ◌^◌, Bool, not, ◌&&◌, ◌||◌, List, ◌++◌, leb, ltb, eqb, get_or, replicate}
use Rattle.paper.specs.Vocabulary.{every, list_to}
use Rattle.paper.specs.declared.Source.TheVariants.{Own}
use Rattle.paper.specs.declared.Record.{Record}

-- tasks n: 1 to 15 (document 02, item 6)
abbrev pub most_tasks : ℕ
most_tasks = 15

-- cost C, period T, deadline D, region word: 1 to 1,000,000
abbrev pub most_ticks : ℕ
most_ticks = 1_000_000

-- region words m: 0 to 100
abbrev pub most_words : ℕ
most_words = 100

-- name number: 0 to 127
abbrev pub most_name : ℕ
most_name = 127

-- horizon H: 1,000,000
abbrev pub horizon : ℕ
horizon = 1_000_000

-- cabinet, line: 24 bits, 16 bits. A line has 16 bits by its type; a cabinet is held in 32, and writing asks. A 0 is refused (document 02, item 1).
abbrev pub most_cabinet : ℕ
most_cabinet = 2 ^ 24 - 1

-- what the reader leaves past n
abbrev pub zero_record : Record
zero_record = record { cost = 0; period = 0; deadline = 0; priority = 0; threshold = 0; source = Own; first = 0; count = 0; name = 0; jitter = 0 }

-- Records are numbered 1 to n in file order: record k + 1 of a table's list
abbrev pub rec : List Record → ℕ → Record
rec rs k = get_or rs k zero_record

-- one thing for each of n tasks, then what stands past n, up to the most tasks that a table holds
module _ {A : Type 0} where
  unfoldable pub per_task : ℕ → (ℕ → A) → A → List A
  per_task n f past = list_to n f ++ replicate (most_tasks - n) past

abbrev pub tasks_in_range : ℕ → Bool
tasks_in_range n = leb 1 n && leb n most_tasks

abbrev pub counts_in_range : ℕ → ℕ → Bool
counts_in_range n m = tasks_in_range n && leb m most_words

abbrev pub ticks_in_range : ℕ → Bool
ticks_in_range x = leb 1 x && leb x most_ticks

-- each of C, T, D, the name number, and jitter J: 0 to T − 1 (document 02, item 8)
abbrev pub record_in_range : Record → Bool
record_in_range r =
    ticks_in_range r.cost && (ticks_in_range r.period && (ticks_in_range r.deadline && (leb r.name most_name && ltb r.jitter r.period)))

-- Records past n are not looked at
abbrev pub records_in_range : List Record → ℕ → Bool
records_in_range rs n = every n (λ k. record_in_range (rec rs k))

-- some J isn't 0
abbrev pub any_jitter : List Record → ℕ → Bool
any_jitter rs n = not (every n (λ k. eqb (rec rs k).jitter 0))

-- the numbers f 0 to f (n - 1) are 1 to n, each once: each lies from 1 to n, and no two are the same
unfoldable pub each_once : ℕ → (ℕ → ℕ) → Bool
each_once n f = every n (λ k. leb 1 (f k) && leb (f k) n) && every n (λ k. every k (λ j. not (eqb (f j) (f k))))

-- p is priority, h threshold
pub record Assignment : Type 0 where
  pub p : ℕ → ℕ
  pub h : ℕ → ℕ

-- each threshold lies from 1 to the task's own priority
unfoldable pub thresholds_hold : ℕ → Assignment → Bool
thresholds_hold n a = every n (λ k. leb 1 (a.h k) && leb (a.h k) (a.p k))

-- a table's own assignment
abbrev pub assigned : List Record → Assignment
assigned rs = record { p = λ k. (rec rs k).priority; h = λ k. (rec rs k).threshold }

-- Priorities and thresholds are either all zero (unassigned),
abbrev pub unassigned : List Record → ℕ → Bool
unassigned rs n = every n (λ k. eqb (rec rs k).priority 0 && eqb (rec rs k).threshold 0)

-- or the priorities are 1 to n, each once, and each threshold lies from 1 to the task's own priority
abbrev pub assignment_holds : List Record → ℕ → Bool
assignment_holds rs n = unassigned rs n || (each_once n (assigned rs).p && thresholds_hold n (assigned rs))
