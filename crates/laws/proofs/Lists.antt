-- `list_to` and `per_task`: their lengths and elements, and the loop that fills an array from the front.
use mathlib.Core.Path.{◌≡◌, refl, ap, ◌∙◌}
use mathlib.Core.List.{List, [], ◌∷◌, ◌++◌, append_assoc, append-nil}
use mathlib.Core.Logic.{by_cases}
use Prim.Native.Nat.{ℕ, zero, suc, ◌+◌, ◌-◌, ◌≤◌, ◌<◌}
use native.Mathlib.Numerals.{add-one}
use native.Mathlib.Omega.{arith}
use native.Mathlib.Decide.{dec_lt}
use lib.ListN.{length, get_or, set, replicate, length-append, length-replicate, get_or-replicate, get_or-append}
use lib.Seq.{set_at, get_or_at, get_or-append-add}
use Rattle.paper.specs.Vocabulary.{list_to}
use Rattle.paper.specs.Numbers.{most_tasks, per_task}

module _ {A : Type 0} where
  pub list_more : (k : ℕ) (f : ℕ → A) → list_to (k + 1) f ≡ list_to k f ++ (f k ∷ [])
  unfolding list_to
  list_more k f = rw add-one

  pub list_length : (n : ℕ) (f : ℕ → A) → length (list_to n f) ≡ n
  unfolding list_to
  list_length zero f = refl
  list_length (suc n) f = simp (length-append, list_length n f) (omega arith)

  pub list_at : (n : ℕ) (f : ℕ → A) (d : A) (k : ℕ) → k < n → get_or (list_to n f) k d ≡ f k
  unfolding list_to
  list_at zero f d k h = absurd (omega arith)
  list_at (suc n) f d k h =
      by_cases (dec_lt k n)
      (λ (l : k < n).
      let m : k < length (list_to n f) = rw (list_length n f) l in
      get_or-append (list_to n f) (f n ∷ []) d k m ∙ list_at n f d k l)
      (λ l. let q : k ≡ n = omega arith in rw q (get_or_at (list_to n f) (f n) [] d n (list_length n f)))

  pub list_same : (n : ℕ) (f g : ℕ → A) → ((k : ℕ) → k < n → f k ≡ g k) → list_to n f ≡ list_to n g
  unfolding list_to
  list_same zero f g h = refl
  list_same (suc n) f g h = rw (list_same n f g (λ k l. h k (omega arith)), h n (omega arith))

  -- An array of N that is filled from the front: i elements are there, the others are z still.
  pub fill : (N i : ℕ) (p : List A) (z a : A) → length p ≡ i → i < N
      → set (p ++ replicate (N - i) z) i a ≡ (p ++ (a ∷ [])) ++ replicate (N - (i + 1)) z
  fill N i p z a e h =
      let l : N - i ≡ suc (N - (i + 1)) = omega arith in
      rw (l, set_at p z (replicate (N - (i + 1)) z) a i e, append_assoc)

  pub fill_more : (N i : ℕ) (f : ℕ → A) (z : A) → i < N
      → set (list_to i f ++ replicate (N - i) z) i (f i) ≡ list_to (i + 1) f ++ replicate (N - (i + 1)) z
  fill_more N i f z h = rw (list_more i f) (fill N i (list_to i f) z (f i) (list_length i f) h)

  -- the turn of a loop that has stored up to i
  pub fill_turn : (N i : ℕ) (f : ℕ → A) (z : A) {xs : List A} {a : A} → i < N
      → xs ≡ list_to i f ++ replicate (N - i) z → a ≡ f i → set xs i a ≡ list_to (i + 1) f ++ replicate (N - (i + 1)) z
  fill_turn N i f z h e g = rw (e, g) (fill_more N i f z h)

  -- the array of a table's records, or of an answer
  pub per_task_none : (f : ℕ → A) (z : A) → replicate most_tasks z ≡ per_task 0 f z
  unfolding per_task list_to
  per_task_none f z = refl

  pub per_task_turn : (i : ℕ) (f : ℕ → A) (z : A) {xs : List A} {a : A} → i < most_tasks
      → xs ≡ per_task i f z → a ≡ f i → set xs i a ≡ per_task (i + 1) f z
  unfolding per_task
  per_task_turn i f z h e g = fill_turn most_tasks i f z h e g

  -- it is full
  pub per_task_full : (f : ℕ → A) (z : A) → per_task most_tasks f z ≡ list_to most_tasks f
  unfolding per_task
  per_task_full f z = append-nil (list_to most_tasks f)

  pub per_task_length : (n : ℕ) (f : ℕ → A) (z : A) → n ≤ most_tasks → length (per_task n f z) ≡ most_tasks
  unfolding per_task
  per_task_length n f z h = simp (length-append, list_length, length-replicate) (omega arith)

  pub per_task_same : (n : ℕ) (f g : ℕ → A) (z : A) → ((k : ℕ) → k < n → f k ≡ g k) → per_task n f z ≡ per_task n g z
  unfolding per_task
  per_task_same n f g z h = ap (λ xs. xs ++ replicate (most_tasks - n) z) (list_same n f g h)

  pub per_task_at : (n : ℕ) (f : ℕ → A) (z d : A) (k : ℕ) → k < n → get_or (per_task n f z) k d ≡ f k
  unfolding per_task
  per_task_at n f z d k h =
      let m : k < length (list_to n f) = rw (list_length n f) h in
      get_or-append (list_to n f) (replicate (most_tasks - n) z) d k m ∙ list_at n f d k h

  pub per_task_past : (n : ℕ) (f : ℕ → A) (z d : A) (k : ℕ) → n ≤ k → k < most_tasks → get_or (per_task n f z) k d ≡ z
  unfolding per_task
  per_task_past n f z d k h l =
      let q : k ≡ length (list_to n f) + (k - n) = rw (list_length n f) (omega arith) in
      ap (λ (i : ℕ). get_or (list_to n f ++ replicate (most_tasks - n) z) i d) q
      ∙ get_or-append-add (list_to n f) (replicate (most_tasks - n) z) (k - n) d
      ∙ get_or-replicate (most_tasks - n) (k - n) z d (omega arith)
