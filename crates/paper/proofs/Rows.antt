-- The order of rows, and that the listing's answers are unique: theorems about the definitions of specs/Rows.antt and specs/Answers.antt alone.
use Rattle.paper.specs.Refusals.{Outcome}
use Rattle.std.specs.Prelude.{Err, Ok, Result}
use Prim.Native.Nat.{ℕ, zero, suc, ◌<◌}
use native.Mathlib.Nat.{eq-or-lt_of_le, not-suc-le-zero}
use native.Mathlib.Decide.{dec_le}
use native.Mathlib.Omega.{arith}
use mathlib.Core.Path.{◌≡◌, refl, sym, ap₂, ◌∙◌}
use mathlib.Core.List.{List, [], ◌∷◌, ◌++◌}
use mathlib.Core.Logic.{◌⊎◌, inl, inr, ⊎_elim}
use lib.ListN.{length, take, get_or, take-append-drop}
use Rattle.paper.specs.Analysis.{Tasks}
use Rattle.paper.specs.Rows.{row_size, Later, Next, Ended}
use Rattle.paper.specs.Answers.{Lists, Says, FirstSays, NextSays}
use Rattle.paper.specs.declared.Table.{Table}
use Rattle.paper.specs.declared.Refusal.{Refusal}
use Rattle.paper.specs.declared.Step.{Step}
use Rattle.paper.specs.declared.Step.TheVariants.{Row, End}

-- No row is later than itself.
pub later_irreflexive : (r : List ℕ) → Later r r → ⊥
unfolding Later
later_irreflexive [] h = h
later_irreflexive (a ∷ r) (inl x) = omega arith
later_irreflexive (a ∷ r) (inr x) = later_irreflexive r x.1

-- What is later than a later row is later.
pub later_transitive : (a b c : List ℕ) → Later a b → Later b c → Later a c
unfolding Later
later_transitive [] [] c h k = absurd h
later_transitive [] (b ∷ ys) [] h k = absurd k
later_transitive [] (b ∷ ys) (c ∷ zs) h k = tt
later_transitive (a ∷ xs) [] c h k = absurd h
later_transitive (a ∷ xs) (b ∷ ys) [] h k = absurd k
later_transitive (a ∷ xs) (b ∷ ys) (c ∷ zs) (inl x) (inl y) = inl (omega arith)
later_transitive (a ∷ xs) (b ∷ ys) (c ∷ zs) (inl x) (inr y) = inl (omega arith)
later_transitive (a ∷ xs) (b ∷ ys) (c ∷ zs) (inr x) (inl y) = inl (omega arith)
later_transitive (a ∷ xs) (b ∷ ys) (c ∷ zs) (inr x) (inr y) = inr (x.0 ∙ y.0, later_transitive xs ys zs x.1 y.1)

three : (a b : ℕ) → (a < b) ⊎ ((a ≡ b) ⊎ (b < a))
three a b =
    elim (dec_le a b) [ yes h ↦ ⊎_elim (λ e. inr (inl e)) (λ l. inl l) (eq-or-lt_of_le h) | no h ↦ inr (inr (omega arith)) ]

-- Of two rows the second is later, or they are the same, or the first is later.
pub later_or_same : (a b : List ℕ) → Later a b ⊎ ((a ≡ b) ⊎ Later b a)
unfolding Later
later_or_same [] [] = inr (inl refl)
later_or_same [] (b ∷ ys) = inl tt
later_or_same (a ∷ xs) [] = inr (inr tt)
later_or_same (a ∷ xs) (b ∷ ys) =
    ⊎_elim (λ l. inl (inl l)) (λ w. ⊎_elim (same (later_or_same xs ys)) (λ l. inr (inr (inl l))) w) (three a b)
  where
    same : Later xs ys ⊎ ((xs ≡ ys) ⊎ Later ys xs) → a ≡ b → Later (a ∷ xs) (b ∷ ys) ⊎ ((a ∷ xs ≡ b ∷ ys) ⊎ Later (b ∷ ys) (a ∷ xs))
    same (inl l) e = inl (inr (e, l))
    same (inr (inl q)) e = inr (inl (cc))
    same (inr (inr l)) e = inr (inr (inr (sym e, l)))

-- Of two different rows one is later.
pub later_total : (a b : List ℕ) → (a ≡ b → ⊥) → Later a b ⊎ Later b a
later_total a b differ = ⊎_elim (λ l. inl l) (λ w. ⊎_elim (λ e. absurd (differ e)) (λ l. inr l) w) (later_or_same a b)

-- Two rows are alike before a place, and there the second has the greater number.
pub record Differs (f r : List ℕ) : Type 0 where
  pub at : ℕ
  pub alike : take at f ≡ take at r
  pub less : get_or f at 0 < get_or r at 0

later_differs : (f r : List ℕ) → length f ≡ length r → Later f r → Differs f r
unfolding Later
later_differs [] [] e h = absurd h
later_differs [] (b ∷ r) e h = absurd (omega arith)
later_differs (a ∷ f) [] e h = absurd h
later_differs (a ∷ f) (b ∷ r) e (inl x) = record { at = 0; alike = refl; less = x }
later_differs (a ∷ f) (b ∷ r) e (inr x) = go (later_differs f r (omega arith) x.1)
  where
    go : Differs f r → Differs (a ∷ f) (b ∷ r)
    go d = record { at = suc d.at; alike = cc (x.0, d.alike); less = d.less }

differs_later : (k : ℕ) (f r : List ℕ) → length f ≡ length r → take k f ≡ take k r → get_or f k 0 < get_or r k 0 → Later f r
unfolding Later
differs_later k [] [] e a l = absurd (not-suc-le-zero l)
differs_later k [] (b ∷ r) e a l = absurd (omega arith)
differs_later k (x ∷ f) [] e a l = absurd (omega arith)
differs_later zero (x ∷ f) (b ∷ r) e a l = inl l
differs_later (suc k) (x ∷ f) (b ∷ r) e a l = inr (cc, differs_later k f r (omega arith) (cc) l)

-- Rows are ordered by the first number that differs: of two rows of one length the second is later exactly when,
-- at some place before which they are alike, it has the greater number.
pub by_first_difference : (f r : List ℕ) → length f ≡ length r → (Later f r → Differs f r) × (Differs f r → Later f r)
by_first_difference f r e = (later_differs f r e, λ d. differs_later d.at f r e d.alike d.less)

-- The first passing row strictly after a row is one row.
pub next_one : (y : Tasks) (given a b : List ℕ) → Next y given a → Next y given b → a ≡ b
next_one y given a b p q =
    ⊎_elim (λ l. absurd (q.first a p.passing p.after l))
    (λ w. ⊎_elim (λ e. e) (λ l. absurd (p.first b q.passing q.after l)) w)
    (later_or_same a b)

-- Where a passing row follows, it is not the end.
pub next_or_ended : (y : Tasks) (given a : List ℕ) → Next y given a → Ended y given → ⊥
unfolding Ended
next_or_ended y given a p e = e a p.passing p.after

lists_unique : (y : Tasks) (given out p q : List ℕ) (a b : Result Step Refusal) → Lists y given out p a → Lists y given out q b → (a ≡ b) × (p ≡ q)
unfolding Lists
lists_unique y given out p q (Ok Row) (Ok Row) v w =
    let k = row_size y.n in (
      refl,
      sym (take-append-drop k p)
          ∙ ap₂ (λ (s t : List ℕ). s ++ t) (next_one y given (take k p) (take k q) v.0 w.0) (v.1 ∙ sym w.1)
          ∙ take-append-drop k q,
    )
lists_unique y given out p q (Ok Row) (Ok End) v w = absurd (next_or_ended y given _ v.0 w.0)
lists_unique y given out p q (Ok Row) (Err r) v w = absurd w
lists_unique y given out p q (Ok End) (Ok Row) v w = absurd (next_or_ended y given _ w.0 v.0)
lists_unique y given out p q (Ok End) (Ok End) v w = (refl, v.1 ∙ sym w.1)
lists_unique y given out p q (Ok End) (Err r) v w = absurd w
lists_unique y given out p q (Err r) b v w = absurd v

says_unique : (o : Outcome) (y : Tasks) (given out p q : List ℕ) (a b : Result Step Refusal) → Says o y given out p a → Says o y given out q b → (a ≡ b) × (p ≡ q)
unfolding Says
says_unique (Ok done) y given out p q a b v w = lists_unique y given out p q a b v w
says_unique (Err r) y given out p q a b v w = (v.0 ∙ sym w.0, v.1 ∙ sym w.1)

-- Two answers to a request for the first row that are both allowed, for one table and one buffer, are the same answer and leave the same buffer.
pub first_unique : (t : Table) (out p q : List ℕ) (a b : Result Step Refusal) → FirstSays t out p a → FirstSays t out q b → (a ≡ b) × (p ≡ q)
unfolding FirstSays
first_unique t out p q a b v w = says_unique _ _ [] out p q a b v w

-- The same of a request for the next row, for one table, one row asked from and one buffer.
pub next_unique : (t : Table) (given out p q : List ℕ) (a b : Result Step Refusal) → NextSays t given out p a → NextSays t given out q b → (a ≡ b) × (p ≡ q)
unfolding NextSays
next_unique t given out p q a b v w = says_unique _ _ given out p q a b v w
