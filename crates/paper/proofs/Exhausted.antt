-- `passing_rows`, which goes through every list of 2n numbers from 1 to n, has all passing rows, in order.
use Prim.{Unit, tt}
use Prim.Native.Nat.{ℕ, zero, suc, ◌≤◌, ◌<◌, zero-le, suc-le-suc}
use native.Mathlib.Nat.{eq-or-lt_of_le, not-suc-le-zero, le_of_suc-le-suc}
use native.Mathlib.Omega.{arith}
use mathlib.Core.Path.{◌≡◌, refl, sym, ap, subst, ◌∙◌}
use mathlib.Core.Bool.{Bool, true, false, cond, and-eq-true_iff}
use mathlib.Core.List.Memᴰ
use mathlib.Core.List.{List, [], ◌∷◌, ◌++◌, map, append_assoc, append-nil, Memᴰ}
use mathlib.Core.Logic.{inl, inr, ⊎_elim}
use lib.ListN.{length, get_or}
use Rattle.paper.specs.Vocabulary.{list_to}
use Rattle.paper.specs.Analysis.{Tasks, tasks_of, passes}
use Rattle.paper.specs.Rows.{row_size, row_assignment, row_holds, Later, Passing, Ended}
use Rattle.paper.specs.Figures.{join, numbered, those, passing_rows}
use Rattle.paper.specs.declared.Table.{Table}
use Rattle.paper.proofs.Tests.{never, both}
use Rattle.paper.proofs.Rows.{later_irreflexive, later_transitive}
use Rattle.paper.proofs.Formed.{formed, formed_range}
use Rattle.paper.proofs.Listing.{Chain, later_start}

-- A row stands in a list of rows.
abbrev In : List ℕ → List (List ℕ) → Type 0
In r rows = Memᴰ r rows

-- The rows of xs with a number before them,
abbrev before : ℕ → List (List ℕ) → List (List ℕ)
before d xs = map (λ (r : List ℕ). d ∷ r) xs

-- and with each of 1 to n before them, as `numbered` has them.
abbrev begun : ℕ → List (List ℕ) → List (List ℕ)
begun n xs = join (list_to n (λ d. before (suc d) xs))

join_append : (xss yss : List (List (List ℕ))) → join (xss ++ yss) ≡ join xss ++ join yss
unfolding join
join_append [] yss = refl
join_append (x ∷ xss) yss = ap (λ (z : List (List ℕ)). x ++ z) (join_append xss yss) ∙ sym (append_assoc x (join xss) (join yss))

begun_more : (n : ℕ) (xs : List (List ℕ)) → begun (suc n) xs ≡ begun n xs ++ before (suc n) xs
unfolding list_to join
begun_more n xs =
    join_append (list_to n (λ d. before (suc d) xs)) (before (suc n) xs ∷ [])
    ∙ ap (λ (z : List (List ℕ)). begun n xs ++ z) (append-nil (before (suc n) xs))

in_begun : (n : ℕ) (xs : List (List ℕ)) (k : ℕ) (r : List ℕ) → k < n → In r xs → In (suc k ∷ r) (begun n xs)
in_begun zero xs k r l h = absurd (not-suc-le-zero l)
in_begun (suc n) xs k r l h =
    rw (begun_more n xs)
    (⊎_elim (λ e. Memᴰ.append_right (begun n xs) (rw e (Memᴰ.map (λ (x : List ℕ). suc n ∷ x) h)))
    (λ m. Memᴰ.append_left (before (suc n) xs) (in_begun n xs k r (le_of_suc-le-suc m) h))
    (eq-or-lt_of_le l))

-- Every list of numbers from 1 to n is there.
in_numbered : (n size : ℕ) (r : List ℕ) → length r ≡ size → ((i : ℕ) → i < length r → (1 ≤ get_or r i 0) × (get_or r i 0 ≤ n)) → In r (numbered n size)
unfolding numbered
in_numbered n zero [] e w = Memᴰ.head refl
in_numbered n zero (a ∷ r) e w = absurd (omega arith)
in_numbered n (suc size) [] e w = absurd (omega arith)
in_numbered n (suc size) (zero ∷ r) e w = absurd (not-suc-le-zero (w 0 (suc-le-suc zero-le)).0)
in_numbered n (suc size) (suc d ∷ r) e w =
    in_begun n (numbered n size) d r (w 0 (suc-le-suc zero-le)).1 (in_numbered n size r (omega arith) (λ i l. w (suc i) (suc-le-suc l)))

-- Each row of a list is later than those before it.
unfoldable Rises : List (List ℕ) → Type 0
Rises [] = Unit {0}
Rises (x ∷ xs) = ((r : List ℕ) → In r xs → Later x r) × Rises xs

rises_append : (xs ys : List (List ℕ)) → Rises xs → Rises ys → ((a b : List ℕ) → In a xs → In b ys → Later a b) → Rises (xs ++ ys)
unfolding Rises
rises_append [] ys h k l = k
rises_append (x ∷ xs) ys h k l = (
  λ r m. ⊎_elim (h.0 r) (l x r (Memᴰ.head refl)) (Memᴰ.append_cases xs m),
  rises_append xs ys h.1 k (λ a b m. l a b (Memᴰ.tail m)),
)

rises_before : (d : ℕ) (xs : List (List ℕ)) → Rises xs → Rises (before d xs)
unfolding Rises Later
rises_before d [] h = tt
rises_before d (x ∷ xs) h = (λ r m. go r (Memᴰ.of_map (λ (y : List ℕ). d ∷ y) xs m), rises_before d xs h.1)
  where
    go : (r : List ℕ) → (a : List ℕ) × In a xs × (d ∷ a ≡ r) → Later (d ∷ x) r
    go r w = subst (λ (s : List ℕ). Later (d ∷ x) s) w.2 (inr (refl, h.0 w.0 w.1))

-- what begins with one of 1 to n is earlier than what begins with n + 1
earlier : (n : ℕ) (xs : List (List ℕ)) (a b : List ℕ) → In a (begun n xs) → Later a (suc n ∷ b)
unfolding list_to join Later
earlier zero xs a b m = absurd (Memᴰ.not-nil m)
earlier (suc n) xs a b m =
    ⊎_elim (λ k. later_transitive a (suc n ∷ b) (suc (suc n) ∷ b) (earlier n xs a b k) (inl (omega arith)))
    (λ k. last (Memᴰ.of_map (λ (r : List ℕ). suc n ∷ r) xs k))
    (Memᴰ.append_cases (begun n xs) (rw (begun_more n xs) at m))
  where
    last : (r : List ℕ) × In r xs × (suc n ∷ r ≡ a) → Later a (suc (suc n) ∷ b)
    last w = subst (λ (s : List ℕ). Later s (suc (suc n) ∷ b)) w.2 (inl (omega arith))

rises_begun : (n : ℕ) (xs : List (List ℕ)) → Rises xs → Rises (begun n xs)
unfolding list_to join Rises
rises_begun zero xs h = tt
rises_begun (suc n) xs h =
    rw (begun_more n xs)
    (rises_append (begun n xs) (before (suc n) xs) (rises_begun n xs h) (rises_before (suc n) xs h)
    (λ a b l m. last a b l (Memᴰ.of_map (λ (r : List ℕ). suc n ∷ r) xs m)))
  where
    last : (a b : List ℕ) → In a (begun n xs) → (r : List ℕ) × In r xs × (suc n ∷ r ≡ b) → Later a b
    last a b l w = subst (λ (s : List ℕ). Later a s) w.2 (earlier n xs a w.0 l)

rises_numbered : (n size : ℕ) → Rises (numbered n size)
unfolding numbered Rises
rises_numbered n zero = (λ r m. absurd (Memᴰ.not-nil m), tt)
rises_numbered n (suc size) = rises_begun n (numbered n size) (rises_numbered n size)

-- In a rising list that has every passing row after `given`, the passing ones are a chain.
module _ (y : Tasks) (test : List ℕ → Bool) (passing : (r : List ℕ) → test r ≡ true → Passing y r) (tested : (r : List ℕ) → Passing y r → test r ≡ true) where
  those_chain : (given : List ℕ) (xs : List (List ℕ)) → Rises xs
      → ((r : List ℕ) → Passing y r → In r xs → Later given r)
      → ((r : List ℕ) → Passing y r → Later given r → In r xs)
      → Chain y given (those test xs)
  unfolding Chain Ended Rises those
  those_chain given [] h after all = λ r p l. Memᴰ.not-nil (all r p l)
  those_chain given (x ∷ xs) h after all =
      go (test x) refl
      (λ others. those_chain x xs h.1 (λ r p m. h.0 r m) others)
      (λ others. those_chain given xs h.1 (λ r p m. after r p (Memᴰ.tail m)) others)
    where
      other : (r : List ℕ) → Passing y r → Later given r → (r ≡ x → ⊥) → In r xs
      other r p l differs = ⊎_elim (λ e. absurd (differs e)) (λ m. m) (Memᴰ.cases_cons (all r p l))

      not_itself : (r : List ℕ) → Later r x → r ≡ x → ⊥
      not_itself r l e = later_irreflexive x (subst (λ (s : List ℕ). Later s x) e l)

      go : (b : Bool) → test x ≡ b
          → (((r : List ℕ) → Passing y r → Later x r → In r xs) → Chain y x (those test xs))
          → (((r : List ℕ) → Passing y r → Later given r → In r xs) → Chain y given (those test xs))
          → Chain y given (cond b (x ∷ those test xs) (those test xs))
      -- x passes and comes next,
      go true q from skip =
          let here : Later given x = after x (passing x q) (Memᴰ.head refl) in (
            record {
              passing = passing x q;
              after = here;
              first = λ r p l k. later_irreflexive r (later_transitive r x r k (h.0 r (other r p l (not_itself r k))));
            },
            from (λ r p l. other r p (later_transitive given x r here l) (λ e. later_irreflexive x (subst (λ (s : List ℕ). Later x s) e l))),
          )
      -- or it does not and is left out
      go false q from skip = skip (λ r p l. other r p l (λ e. never (test x) (subst (λ (s : List ℕ). test s ≡ true) e (tested r p)) q))

-- From the start, each of `passing_rows` is the next of the one before, and after the last comes the end.
pub passing_chain : (t : Table) → 1 ≤ t.n → Chain (tasks_of t.records t.n) [] (passing_rows t)
unfolding passing_rows
passing_chain t some =
    let y = tasks_of t.records t.n in
    those_chain y _
    (λ r e. let b = both (row_holds t.n r) (passes y (row_assignment t.n r)) e in record { form = b.0; pass = b.1 })
    (λ r p. (and-eq-true_iff (row_holds t.n r) _).1 (p.form, p.pass))
    []
    (numbered t.n (row_size t.n))
    (rises_numbered t.n (row_size t.n))
    (λ r p m. later_start t.n r some p.form)
    (λ r p l. let f = formed t.n r p.form in in_numbered t.n (row_size t.n) r f.size (formed_range t.n r f))
