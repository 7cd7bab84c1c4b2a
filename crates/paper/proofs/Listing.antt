-- What a caller gets who asks for the first row, or from a row, and again after each row that comes, until the end: every passing row from there on, in order, each once.
use Rattle.std.specs.Prelude.{Err, Ok}
use Prim.Native.Nat.{ℕ, zero, suc, ◌<◌, ◌≤◌, zero-le, suc-le-suc}
use native.Mathlib.Nat.{not-suc-le-zero, le_of_suc-le-suc}
use native.Mathlib.Omega.{arith}
use mathlib.Core.Path.{◌≡◌, refl, sym, subst}
use mathlib.Core.Bool.{true}
use mathlib.Core.List.{List, [], ◌∷◌}
use mathlib.Core.Logic.{⊎_elim}
use lib.ListN.{length, take, get_or}
use Rattle.paper.specs.Numbers.{most_tasks, tasks_in_range}
use Rattle.paper.specs.Analysis.{Tasks, tasks_of}
use Rattle.paper.specs.Rows.{row_size, row_holds, Later, Passing, Next, Ended}
use Rattle.paper.specs.Refusals.{first_of, first_asks, Outcome}
use Rattle.paper.specs.Answers.{Lists, Says, FirstSays, NextSays}
use Rattle.paper.specs.declared.Table.{Table}
use Rattle.paper.specs.declared.Step.TheVariants.{Row, End}
use Rattle.paper.proofs.Tests.{within}
use Rattle.paper.proofs.Asks.{met}
use Rattle.paper.proofs.Formed.{formed}
use Rattle.paper.proofs.Rows.{later_irreflexive, later_transitive, later_or_same, next_one, next_or_ended}

-- A call answered with a row, in some buffer, and what it wrote is this row.
pub record Gave (says : List ℕ → List ℕ → Type 0) (size : ℕ) (row : List ℕ) : Type 0 where
  pub before : List ℕ
  pub after : List ℕ
  pub said : says before after
  pub wrote : take size after ≡ row

-- A call answered with the end.
pub record GaveEnd (says : List ℕ → List ℕ → Type 0) : Type 0 where
  pub before : List ℕ
  pub after : List ℕ
  pub said : says before after

-- Asked after `given`, and again after each row that came, the listing gives these rows and then the end. Each call may have a buffer of its own.
unfoldable pub GivesAfter : Table → List ℕ → List (List ℕ) → Type 0
GivesAfter t given [] = GaveEnd (λ out out'. NextSays t given out out' (Ok End))
GivesAfter t given (row ∷ rows) = Gave (λ out out'. NextSays t given out out' (Ok Row)) (row_size t.n) row × GivesAfter t row rows

-- The same, asked from the start.
unfoldable pub Gives : Table → List (List ℕ) → Type 0
Gives t [] = GaveEnd (λ out out'. FirstSays t out out' (Ok End))
Gives t (row ∷ rows) = Gave (λ out out'. FirstSays t out out' (Ok Row)) (row_size t.n) row × GivesAfter t row rows

-- A row stands somewhere in a list of rows.
pub record Among (row : List ℕ) (rows : List (List ℕ)) : Type 0 where
  pub at : ℕ
  pub inside : at < length rows
  pub there : get_or rows at [] ≡ row

-- The rows of the list are exactly those that are wanted: each is wanted, each wanted row is in it, each is later than those before it, and so no row comes twice.
pub record Whole (wanted : List ℕ → Type 0) (rows : List (List ℕ)) : Type 0 where
  pub sound : (i : ℕ) → i < length rows → wanted (get_or rows i [])
  pub complete : (row : List ℕ) → wanted row → Among row rows
  pub rising : (i j : ℕ) → i < j → j < length rows → Later (get_or rows i []) (get_or rows j [])
  pub once : (i j : ℕ) → i < j → j < length rows → get_or rows i [] ≡ get_or rows j [] → ⊥

-- Each row is the next of the one before, and after the last comes the end.
unfoldable pub Chain : Tasks → List ℕ → List (List ℕ) → Type 0
Chain y given [] = Ended y given
Chain y given (row ∷ rows) = Next y given row × Chain y row rows

module _ (y : Tasks) where
  chain_sound : (given : List ℕ) (rows : List (List ℕ)) → Chain y given rows → (i : ℕ) → i < length rows → Passing y (get_or rows i [])
  unfolding Chain
  chain_sound given [] h i l = absurd (not-suc-le-zero l)
  chain_sound given (row ∷ rows) h zero l = h.0.passing
  chain_sound given (row ∷ rows) h (suc i) l = chain_sound row rows h.1 i (le_of_suc-le-suc l)

  chain_after : (given : List ℕ) (rows : List (List ℕ)) → Chain y given rows → (i : ℕ) → i < length rows → Later given (get_or rows i [])
  unfolding Chain
  chain_after given [] h i l = absurd (not-suc-le-zero l)
  chain_after given (row ∷ rows) h zero l = h.0.after
  chain_after given (row ∷ rows) h (suc i) l =
      later_transitive given row (get_or rows i []) h.0.after (chain_after row rows h.1 i (le_of_suc-le-suc l))

  chain_rising : (given : List ℕ) (rows : List (List ℕ)) → Chain y given rows → (i j : ℕ) → i < j → j < length rows → Later (get_or rows i []) (get_or rows j [])
  unfolding Chain
  chain_rising given [] h i j a l = absurd (not-suc-le-zero l)
  chain_rising given (row ∷ rows) h i zero a l = absurd (not-suc-le-zero a)
  chain_rising given (row ∷ rows) h zero (suc j) a l = chain_after row rows h.1 j (le_of_suc-le-suc l)
  chain_rising given (row ∷ rows) h (suc i) (suc j) a l =
      chain_rising row rows h.1 i j (le_of_suc-le-suc a) (le_of_suc-le-suc l)

  further : (first row : List ℕ) (rows : List (List ℕ)) → Among row rows → Among row (first ∷ rows)
  further first row rows a = record { at = suc a.at; inside = suc-le-suc a.inside; there = a.there }

  chain_complete : (given : List ℕ) (rows : List (List ℕ)) → Chain y given rows → (row : List ℕ) → Passing y row → Later given row → Among row rows
  unfolding Chain Ended
  chain_complete given [] h row p l = absurd (h row p l)
  chain_complete given (first ∷ rows) h row p l =
      ⊎_elim (λ k. further first row rows (chain_complete first rows h.1 row p k))
      (λ w. ⊎_elim (λ e. record { at = 0; inside = suc-le-suc zero-le; there = e }) (λ k. absurd (h.0.first row p l k)) w)
      (later_or_same first row)

  chain_whole : (given : List ℕ) (rows : List (List ℕ)) → Chain y given rows → Whole (λ row. Passing y row × Later given row) rows
  chain_whole given rows chain = record {
    sound = λ i l. (chain_sound given rows chain i l, chain_after given rows chain i l);
    complete = λ row w. chain_complete given rows chain row w.0 w.1;
    rising = chain_rising given rows chain;
    once = λ i j a l e.
        later_irreflexive (get_or rows i []) (subst (λ (r : List ℕ). Later (get_or rows i []) r) (sym e) (chain_rising given rows chain i j a l));
  }

  chain_one : (given : List ℕ) (rows others : List (List ℕ)) → Chain y given rows → Chain y given others → rows ≡ others
  unfolding Chain
  chain_one given [] [] h k = refl
  chain_one given [] (other ∷ others) h k = absurd (next_or_ended y given other k.0 h)
  chain_one given (row ∷ rows) [] h k = absurd (next_or_ended y given row h.0 k)
  chain_one given (row ∷ rows) (other ∷ others) h k =
      let e : other ≡ row = next_one y given other row k.0 h.0 in
      let same = chain_one row rows others h.1 (subst (λ (r : List ℕ). Chain y r others) e k.1) in
      cc

-- A call that answered with a row or with the end was not turned away, and what it says of the row or of the end holds.
row_said : (o : Outcome) (y : Tasks) (given out out' : List ℕ) → Says o y given out out' (Ok Row) → (o ≡ Ok tt) × Next y given (take (row_size y.n) out')
unfolding Says Lists
row_said (Ok done) y given out out' s = (refl, s.0)
row_said (Err r) y given out out' s = absurd (let z : ◌≡◌ {A = ℕ} 0 1 = cc s.0 in omega arith)

end_said : (o : Outcome) (y : Tasks) (given out out' : List ℕ) → Says o y given out out' (Ok End) → (o ≡ Ok tt) × Ended y given
unfolding Says Lists
end_said (Ok done) y given out out' s = (refl, s.0)
end_said (Err r) y given out out' s = absurd (let z : ◌≡◌ {A = ℕ} 0 1 = cc s.0 in omega arith)

-- So what the calls answered is a chain.
module _ (t : Table) where
  pub next_gave : (given row : List ℕ) → Gave (λ out out'. NextSays t given out out' (Ok Row)) (row_size t.n) row → Next (tasks_of t.records t.n) given row
  unfolding NextSays
  next_gave given row g = rw g.wrote at (row_said _ _ given _ _ g.said).1

  pub first_gave : (row : List ℕ) → Gave (λ out out'. FirstSays t out out' (Ok Row)) (row_size t.n) row → Next (tasks_of t.records t.n) [] row
  unfolding FirstSays
  first_gave row g = rw g.wrote at (row_said _ _ [] _ _ g.said).1

  pub after_chain : (given : List ℕ) (rows : List (List ℕ)) → GivesAfter t given rows → Chain (tasks_of t.records t.n) given rows
  unfolding GivesAfter Chain NextSays
  after_chain given [] g = (end_said _ _ given _ _ g.said).1
  after_chain given (row ∷ rows) g = (next_gave given row g.0, after_chain row rows g.1)

  pub start_chain : (rows : List (List ℕ)) → Gives t rows → Chain (tasks_of t.records t.n) [] rows
  unfolding Gives Chain FirstSays
  start_chain [] g = (end_said _ _ [] _ _ g.said).1
  start_chain (row ∷ rows) g = (first_gave row g.0, after_chain row rows g.1)

-- A table that is not turned away has a task, so that no row is empty:
pub some_task : (t : Table) (room : ℕ) → first_of (first_asks t room) ≡ Ok tt → 1 ≤ t.n
some_task t room e = (within 1 most_tasks t.n (met (tasks_in_range t.n) _ _ e).0).0

started : (t : Table) (rows : List (List ℕ)) → Gives t rows → 1 ≤ t.n
unfolding Gives FirstSays
started t [] g = some_task t _ (end_said _ _ [] _ _ g.said).0
started t (row ∷ rows) g = some_task t _ (row_said _ _ [] _ _ g.0.said).0

-- a well-formed row is later than one that has not begun.
pub later_start : (n : ℕ) (row : List ℕ) → 1 ≤ n → row_holds n row ≡ true → Later [] row
unfolding Later
later_start n [] l h = absurd (omega (arith, (formed n [] h).size))
later_start n (a ∷ row) l h = tt

-- Asking from the start and again after each row gives every passing row exactly once, in order, and then the end.
pub listing_whole : (t : Table) (rows : List (List ℕ)) → Gives t rows → Whole (Passing (tasks_of t.records t.n)) rows
listing_whole t rows g =
    let w = chain_whole (tasks_of t.records t.n) [] rows (start_chain t rows g) in
    record {
      sound = λ i l. (w.sound i l).0;
      complete = λ row p. w.complete row (p, later_start t.n row (started t rows g) p.form);
      rising = w.rising;
      once = w.once;
    }

-- Asking from a row, passing or not, gives every passing row that is later than it, in the same way.
pub listing_whole_after : (t : Table) (given : List ℕ) (rows : List (List ℕ)) → GivesAfter t given rows
    → Whole (λ row. Passing (tasks_of t.records t.n) row × Later given row) rows
listing_whole_after t given rows g = chain_whole _ given rows (after_chain t given rows g)

-- A table has one such list, from the start and from each row.
pub listing_one : (t : Table) (rows others : List (List ℕ)) → Gives t rows → Gives t others → rows ≡ others
listing_one t rows others g h = chain_one _ [] rows others (start_chain t rows g) (start_chain t others h)

pub listing_one_after : (t : Table) (given : List ℕ) (rows others : List (List ℕ)) → GivesAfter t given rows → GivesAfter t given others → rows ≡ others
listing_one_after t given rows others g h = chain_one _ given rows others (after_chain t given rows g) (after_chain t given others h)
