-- What the functions that work a tolerance out promise each other.
use Rattle.std.specs.Prelude.{ℕ, ◌+◌, ◌-◌, ◌*◌, ◌/◌, ◌≤◌, ◌<◌, ◌≡◌, cond, leb, ltb, ℤ}
use Rattle.std.proofs.Math.IntN.{sub_ℕ}
use Rattle.paper.specs.Numbers.{most_ticks, Assignment}
use Rattle.paper.specs.Analysis.{Tasks, by, load}
use Rattle.paper.specs.Lengths.{largest, slack}
use Rattle.tolerance.specs.Bounds.{most_part}
use Rattle.tolerance.specs.declared.slack.Slack.{Slack}

-- the signed number that a pair stands for
abbrev pub value_of : Slack → ℤ
value_of s = sub_ℕ s.at s.need

-- the larger of two
unfoldable pub larger_of : Slack → Slack → Slack
larger_of a b = cond (leb (a.at + b.need) (b.at + a.need)) b a

-- the jobs that a task, late by up to `jitter`, asks for by the end of a stretch that begins at x: those asked for by x, and one more at its next arrival
abbrev pub jobs_by : ℕ → ℕ → ℕ → ℕ
jobs_by t jitter x = 1 + (x + jitter) / t

-- the last t that a tolerance is taken over, D − J, or 1 where there is none
abbrev pub last_instant : ℕ → ℕ → ℕ
last_instant d jitter = d - jitter - 1 + 1

-- a stretch of ticks after x, up to `last` at most, in which no ceiling of a task above i steps: its last tick, and what is needed there
pub record Stretch (y : Tasks) (a : Assignment) (i last x : ℕ) (s : Slack) : Type 0 where
  pub after : x < s.at
  pub within : s.at ≤ last
  pub ends : (j : ℕ) → j < y.n → a.p j < a.p i → s.at + y.j j ≤ by y x j * y.t j
  pub need : s.need ≡ y.c i + load y (λ j. ltb (a.p j) (a.p i)) (by y x)
  pub small : s.need ≤ most_ticks + y.n * most_part

-- the walk has come to tick `here`: the best so far is the largest difference from 1 to `here`
pub record Walked (y : Tasks) (a : Assignment) (i last here : ℕ) (s : Slack) : Type 0 where
  pub low : 1 ≤ here
  pub high : here ≤ last
  pub value : value_of s ≡ largest (slack y a i) (here - 1)
