-- A first job's number, got back from the job or none that the code hands on.
use Prim.Native.Nat.{ℕ, zero, suc}
use mathlib.Core.Path.{◌≡◌, refl, ap, ◌∙◌}
use Rattle.std.proofs.Common.{Option}
use Rattle.std.specs.Option.{unwrap_or}
use Rattle.first_jobs.specs.Firsts.{numbered}

number_of_it : (n : ℕ) → unwrap_or (numbered n) 0 ≡ n
number_of_it zero = refl
number_of_it (suc n) = refl

pub got_back : {n : ℕ} {r : Option ℕ} → r ≡ numbered n → unwrap_or r 0 ≡ n
got_back {n} e = ap (λ r. unwrap_or r 0) e ∙ number_of_it n

pub ruleset read_back = (got_back)
