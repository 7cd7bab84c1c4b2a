-- How large the numbers on a walk are.
use Rattle.std.specs.Prelude.{ℕ, ◌+◌, ◌*◌}
use Rattle.paper.specs.Numbers.{most_tasks, most_ticks}

-- more than one task adds to a need, 1 + (x + J)/T jobs, fewer than three times the most ticks; and more than a task and all above it need
abbrev pub most_part : ℕ
most_part = (3 * most_ticks) * most_ticks

abbrev pub most_need : ℕ
most_need = most_ticks + most_tasks * most_part
