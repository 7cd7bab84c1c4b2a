-- Asking comes to an end, from the start and from any well-formed row; and the end is answered exactly when no passing row is left.
use Rattle.std.specs.Prelude.{Ok, Result, Err}
use Prim.{Unit, tt}
use Prim.Native.Nat.{ℕ, suc, ◌≤◌, zero-le, suc-le-suc}
use native.Mathlib.Nat.{le_refl}
use native.Mathlib.Omega.{arith}
use mathlib.Core.Path.{◌≡◌, refl, sym, subst, ◌∙◌}
use mathlib.Core.Bool.{true}
use mathlib.Core.List.{List, [], ◌∷◌}
use mathlib.Core.Logic.{⊎_elim}
use lib.ListN.{length, take, drop, replicate, length-replicate, drop_of_length-le}
use lib.Seq.{take_all}
use borrow.Author.Tests.{le-ltb}
use Rattle.paper.specs.Analysis.{Tasks, tasks_of}
use Rattle.paper.specs.Rows.{row_size, row_holds, Later, Passing, Next, Ended}
use Rattle.paper.specs.Figures.{passing_rows}
use Rattle.paper.specs.Refusals.{first_of, first_asks, next_asks, Outcome}
use Rattle.paper.specs.Answers.{Lists, Says, FirstSays, NextSays}
use Rattle.paper.specs.declared.Table.{Table}
use Rattle.paper.specs.declared.Refusal.{Refusal}
use Rattle.paper.specs.declared.Step.{Step}
use Rattle.paper.specs.declared.Step.TheVariants.{Row, End}
use Rattle.paper.proofs.Asks.{done_none, none_done}
use Rattle.paper.proofs.Rows.{later_transitive, later_or_same, next_one, next_or_ended}
use Rattle.paper.proofs.Formed.{formed}
use Rattle.paper.proofs.Listing.{Gave, GaveEnd, Gives, GivesAfter, Whole, Chain, next_gave, first_gave, after_chain, start_chain, some_task, later_start, listing_whole}
use Rattle.paper.proofs.Exhausted.{passing_chain}

-- A buffer of zeros, with just the room for a row.
abbrev zeros : ℕ → List ℕ
zeros n = replicate (row_size n) 0

-- A call that is not turned away there may answer with the next row, or with the end.
module _ (ask : ℕ → Outcome) (y : Tasks) (given : List ℕ) (done : ask (row_size y.n) ≡ Ok tt) where
  done_says : (out' : List ℕ) (answer : Result Step Refusal) → Lists y given (zeros y.n) out' answer
      → Says (ask (length (zeros y.n))) y given (zeros y.n) out' answer
  unfolding Says
  done_says out' answer h = rw (length-replicate {A = ℕ}, done) h

  gave_row : (row : List ℕ) → Next y given row → Gave (λ out out'. Says (ask (length out)) y given out out' (Ok Row)) (row_size y.n) row
  unfolding Lists
  gave_row row h =
      let size : length row ≡ row_size y.n = (formed y.n row h.passing.form).size in
      let wrote : take (row_size y.n) row ≡ row = take_all (row_size y.n) row (omega arith) in
      record {
        before = zeros y.n;
        after = row;
        said = done_says row (Ok Row) (rw wrote h, past row size ∙ sym (past (zeros y.n) (length-replicate (row_size y.n) 0)));
        wrote = wrote;
      }
    where
      past : (l : List ℕ) → length l ≡ row_size y.n → drop (row_size y.n) l ≡ []
      past l e = drop_of_length-le l {i = row_size y.n} (omega arith)

  gave_end : Ended y given → GaveEnd (λ out out'. Says (ask (length out)) y given out out' (Ok End))
  unfolding Lists
  gave_end h = record { before = zeros y.n; after = zeros y.n; said = done_says (zeros y.n) (Ok End) (h, refl) }

-- What is left of these rows after the first few.
pub record Rest (holds : List (List ℕ) → Type 0) (rows : List (List ℕ)) : Type 0 where
  pub gone : ℕ
  pub left : holds (drop gone rows)

-- From a row further on, what is left of a chain is a chain.
chain_rest : (y : Tasks) (start given : List ℕ) (rows : List (List ℕ)) → Later start given → Chain y start rows → Rest (Chain y given) rows
unfolding Chain Ended
chain_rest y start given [] l chain = record { gone = 0; left = λ r p k. chain r p (later_transitive start given r l k) }
chain_rest y start given (row ∷ rows) l chain =
    ⊎_elim before (λ w. ⊎_elim same (λ k. beyond (chain_rest y row given rows k chain.1)) w) (later_or_same given row)
  where
    before : Later given row → Rest (Chain y given) (row ∷ rows)
    before k =
        let next : Next y given row = record {
          passing = chain.0.passing;
          after = k;
          first = λ r p m. chain.0.first r p (later_transitive start given r l m);
        } in
        record { gone = 0; left = (next, chain.1) }

    same : given ≡ row → Rest (Chain y given) (row ∷ rows)
    same e = record { gone = 1; left = subst (λ (r : List ℕ). Chain y r rows) (sym e) chain.1 }

    beyond : Rest (Chain y given) rows → Rest (Chain y given) (row ∷ rows)
    beyond rest = record { gone = suc rest.gone; left = rest.left }

-- For every table that is not turned away:
module _ (t : Table) (room : ℕ) (done : first_of (first_asks t room) ≡ Ok tt) where
  -- only 12 asks for room, so with the room for a row nothing else changes,
  first_done : first_of (first_asks t (row_size t.n)) ≡ Ok tt
  first_done =
      let h = done_none (first_asks t room) done in
      none_done (first_asks t (row_size t.n)) (h.0, (h.1.0, (le-ltb (row_size t.n) (row_size t.n) (le_refl _), tt)))

  -- and 17 is not given for a well-formed row;
  next_done : (given : List ℕ) → row_holds t.n given ≡ true → first_of (next_asks t given (row_size t.n)) ≡ Ok tt
  next_done given holds =
      let h = done_none (first_asks t (row_size t.n)) first_done in
      none_done (next_asks t given (row_size t.n)) (h.0, (h.1.0, (h.1.1.0, (rw holds, tt))))

  -- so a chain is what the listing gives.
  chain_gives_after : (given : List ℕ) (rows : List (List ℕ)) → row_holds t.n given ≡ true
      → Chain (tasks_of t.records t.n) given rows → GivesAfter t given rows
  unfolding Chain GivesAfter NextSays
  chain_gives_after given [] holds chain = gave_end (λ r. first_of (next_asks t given r)) _ given (next_done given holds) chain
  chain_gives_after given (row ∷ rows) holds chain = (
    gave_row (λ r. first_of (next_asks t given r)) _ given (next_done given holds) row chain.0,
    chain_gives_after row rows chain.0.passing.form chain.1,
  )

  chain_gives : (rows : List (List ℕ)) → Chain (tasks_of t.records t.n) [] rows → Gives t rows
  unfolding Chain Gives FirstSays
  chain_gives [] chain = gave_end (λ r. first_of (first_asks t r)) _ [] first_done chain
  chain_gives (row ∷ rows) chain = (
    gave_row (λ r. first_of (first_asks t r)) _ [] first_done row chain.0,
    chain_gives_after row rows chain.0.passing.form chain.1,
  )

  -- Asking from the start comes to an end, and what comes is `passing_rows`: of all lists of 2n numbers from 1 to n, in order, those that pass.
  pub listing_ends : Gives t (passing_rows t)
  listing_ends = chain_gives (passing_rows t) (passing_chain t (some_task t room done))

  -- So `passing_rows`, which the figures use, has exactly the rows that pass.
  pub passing_rows_whole : Whole (Passing (tasks_of t.records t.n)) (passing_rows t)
  passing_rows_whole = listing_whole t (passing_rows t) listing_ends

  -- Asking from any well-formed row, passing or not, comes to an end too, and what comes is the rest of the same list.
  pub listing_ends_after : (given : List ℕ) → row_holds t.n given ≡ true → Rest (GivesAfter t given) (passing_rows t)
  listing_ends_after given holds =
      let some = some_task t room done in
      let rest = chain_rest _ [] given (passing_rows t) (later_start t.n given some holds) (passing_chain t some) in
      record { gone = rest.gone; left = chain_gives_after given _ holds rest.left }

-- Asked after `given`, and again after each row that came, the listing has given these rows so far.
unfoldable pub CameAfter : Table → List ℕ → List (List ℕ) → Type 0
CameAfter t given [] = Unit {0}
CameAfter t given (row ∷ rows) = Gave (λ out out'. NextSays t given out out' (Ok Row)) (row_size t.n) row × CameAfter t row rows

-- The same, asked from the start.
unfoldable pub Came : Table → List (List ℕ) → Type 0
Came t [] = Unit {0}
Came t (row ∷ rows) = Gave (λ out out'. FirstSays t out out' (Ok Row)) (row_size t.n) row × CameAfter t row rows

-- The rows are the first ones of all these.
pub record Front (rows all : List (List ℕ)) : Type 0 where
  pub few : length rows ≤ length all
  pub same : rows ≡ take (length rows) all

-- a next row that came is the first of a chain
front_more : (y : Tasks) (given row : List ℕ) (rows all : List (List ℕ)) → Next y given row → Chain y given all
    → ((others : List (List ℕ)) → Chain y row others → Front rows others) → Front (row ∷ rows) all
unfolding Chain
front_more y given row rows [] h chain more = absurd (next_or_ended y given row h chain)
front_more y given row rows (other ∷ others) h chain more =
    let e : other ≡ row = next_one y given other row chain.0 h in
    let f = more others (subst (λ (r : List ℕ). Chain y r others) e chain.1) in
    record { few = suc-le-suc f.few; same = cc (e, f.same) }

after_front : (t : Table) (given : List ℕ) (rows all : List (List ℕ)) → CameAfter t given rows
    → Chain (tasks_of t.records t.n) given all → Front rows all
unfolding CameAfter
after_front t given [] all came chain = record { few = zero-le; same = refl }
after_front t given (row ∷ rows) all came chain =
    front_more _ given row rows all (next_gave t given row came.0) chain (λ others. after_front t row rows others came.1)

-- However long one has asked, and in whatever buffers, the rows that came are the first ones of the list that ends: asking does not go on past its end.
pub listing_front : (t : Table) (rows all : List (List ℕ)) → Came t rows → Gives t all → Front rows all
unfolding Came
listing_front t [] all came g = record { few = zero-le; same = refl }
listing_front t (row ∷ rows) all came g =
    front_more _ [] row rows all (first_gave t row came.0) (start_chain t all g) (λ others. after_front t row rows others came.1)

pub listing_front_after : (t : Table) (given : List ℕ) (rows all : List (List ℕ)) → CameAfter t given rows → GivesAfter t given all → Front rows all
listing_front_after t given rows all came g = after_front t given rows all came (after_chain t given all g)

says_end : (o : Outcome) (y : Tasks) (given out out' : List ℕ) (answer : Result Step Refusal) → o ≡ Ok tt → Says o y given out out' answer
    → (answer ≡ Ok End → Ended y given) × (Ended y given → answer ≡ Ok End)
unfolding Says Lists
says_end o y given out out' answer done s = go answer (rw done at s)
  where
    go : (a : Result Step Refusal) → Lists y given out out' a → (a ≡ Ok End → Ended y given) × (Ended y given → a ≡ Ok End)
    go (Ok Row) h = (λ e. absurd (let z : ◌≡◌ {A = ℕ} 0 1 = cc e in omega arith), λ ended. absurd (next_or_ended y given _ h.0 ended))
    go (Ok End) h = (λ e. h.0, λ ended. refl)
    go (Err r) h = absurd h

-- A call from a row that is not turned away answers the end exactly when no passing row is later.
pub next_end : (t : Table) (given out out' : List ℕ) (answer : Result Step Refusal)
    → first_of (next_asks t given (length out)) ≡ Ok tt → NextSays t given out out' answer
    → (answer ≡ Ok End → Ended (tasks_of t.records t.n) given) × (Ended (tasks_of t.records t.n) given → answer ≡ Ok End)
unfolding NextSays
next_end t given out out' answer done s = says_end _ _ given out out' answer done s

-- No row passes.
abbrev pub NonePasses : Tasks → Type 0
NonePasses y = (row : List ℕ) → Passing y row → ⊥

-- A call for the first row that is not turned away answers the end exactly when no row passes.
pub first_end : (t : Table) (out out' : List ℕ) (answer : Result Step Refusal)
    → first_of (first_asks t (length out)) ≡ Ok tt → FirstSays t out out' answer
    → (answer ≡ Ok End → NonePasses (tasks_of t.records t.n)) × (NonePasses (tasks_of t.records t.n) → answer ≡ Ok End)
unfolding FirstSays Ended
first_end t out out' answer done s =
    let h = says_end _ _ [] out out' answer done s in
    (λ e row p. h.0 e row p (later_start t.n row (some_task t (length out) done) p.form), λ none. h.1 (λ row p l. none row p))
