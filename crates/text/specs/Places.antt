-- Where text ends in a buffer. The buffer's end, as a place, says that a write failed.
use Rattle.std.specs.Prelude.{ℕ, ◌≤◌, ◌<◌, ◌≡◌}

-- Text put from one place of a buffer on ends at another: no earlier, inside the buffer, and at the buffer's end only if it began there.
pub record Put (size from to : ℕ) : Type 0 where
  pub onwards : from ≤ to
  pub inside : to ≤ size
  pub spare : from < size → to < size

-- Where to go on after what stood before a place was written out: what is lost stays lost.
pub record Written (size at next : ℕ) : Type 0 where
  pub inside : next ≤ size
  pub lost : at ≡ size → next ≡ size
