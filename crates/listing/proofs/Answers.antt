-- From what the search finds to what the two calls answer.
use Rattle.std.specs.Prelude.{Err, None, Ok, Result, Some}
use Prim.Native.Nat.{ℕ, suc, ◌+◌, ◌-◌, ◌≤◌}
use native.Mathlib.Nat.{not-suc-le-zero}
use native.Mathlib.Omega.{arith}
use mathlib.Core.Path.{◌≡◌, refl, sym, ap, subst, ◌∙◌}
use mathlib.Core.Bool.{true, false, not}
use mathlib.Core.List.{List, [], ◌∷◌, ◌++◌}
use lib.ListN.{length, length-take, take, drop, get_or, set, replicate}
use lib.Seq.{take-suc, take-suc-set, length-take-le, take_at, drop_at}
use Rattle.paper.specs.Numbers.{most_tasks}
use Rattle.paper.specs.Analysis.{Tasks, tasks_of}
use Rattle.paper.specs.Rows.{row_size, row_holds, Later, Passing, Ended}
use Rattle.paper.specs.Refusals.{Asks, Outcome, first_of, first_asks}
use Rattle.paper.specs.Answers.{Lists, Says, FirstSays, NextSays}
use Rattle.paper.specs.declared.Refusal.{Refusal}
use Rattle.paper.specs.declared.Refusal.TheVariants.{BadRow}
use Rattle.paper.specs.declared.Record.{Record}
use Rattle.paper.specs.declared.Table.{Table}
use Rattle.paper.specs.declared.Step.{Step}
use Rattle.paper.specs.declared.Step.TheVariants.{Row, End}
use Rattle.laws.specs.Order.{From, Within}
use Rattle.laws.proofs.Order.{from_start, from_on, later_from, from_later_bump, within_none, within_last}
use Rattle.columns.specs.Columns.{Ranged}
use Rattle.columns.proofs.Tables.{ranged}
use Rattle.checks.proofs.Asks.{first_passed, first_refused}
use Rattle.checks.proofs.Meaning.{some, few}
use Rattle.outcomes.proofs.Meaning.{first_row_done}
use Rattle.paper.proofs.Formed.{formed}
use Rattle.rows.proofs.Places.{formed_within}
use Rattle.search.specs.Search.{Begun, FirstFrom, NoneFrom, Finds}
use Rattle.search.proofs.Moves.{begun_set, passing_size, passing_within}
use Rattle.listing.specs.Lists.{Accepted, ListsFrom}

-- A table that is not turned away.
module _ {t : Table} {room : ℕ} (ok : Accepted t room) where
  pub some_tasks : 1 ≤ t.n
  some_tasks = some t.n (first_row_done t room ok.done).counts

  pub few_tasks : t.n ≤ most_tasks
  few_tasks = few t.n (first_row_done t room ok.done).counts

  pub enough_room : row_size t.n ≤ room
  enough_room = (first_row_done t room ok.done).fits

-- so the analysis may run
pub tasks_ranged : (t : Table) {room : ℕ} → Accepted t room → Ranged (tasks_of t.records t.n)
tasks_ranged t ok = ranged t.records t.n (few_tasks ok) (first_row_done t _ ok.done).ranges

-- What a search among its tasks finds: a row, which the digits hold,
module _ (t : Table) {y : Tasks} (o : y ≡ tasks_of t.records t.n) where
  module _ (q digits : List ℕ) (f : Finds y q (Some digits)) where
    found_row : FirstFrom (tasks_of t.records t.n) q (take (row_size t.n) digits)
    unfolding Finds
    found_row = subst (λ (y : Tasks). FirstFrom y q (take (row_size y.n) digits)) o f

    row-size : length (take (row_size t.n) digits) ≡ row_size t.n
    row-size = passing_size (tasks_of t.records t.n) _ found_row.passing

    pub row_inside : row_size t.n ≤ length digits
    row_inside = omega (arith, row-size, length-take (row_size t.n) digits)

    -- and which is written over the front of the buffer;
    pub row_written : (out out' : List ℕ) → out' ≡ take (row_size t.n) digits ++ drop (row_size t.n) out
        → ListsFrom (tasks_of t.records t.n) q out out' Row
    unfolding ListsFrom
    row_written out out' w =
        let k = row_size t.n in
        let front : take k out' ≡ take k digits = ap (λ (x : List ℕ). take k x) w ∙ take_at (take k digits) (drop k out) k row-size in
        (rw front found_row, ap (λ (x : List ℕ). drop k x) w ∙ drop_at (take k digits) (drop k out) k row-size)

  -- or none
  pub end_reached : (q out : List ℕ) → Finds y q None → ListsFrom (tasks_of t.records t.n) q out out End
  unfolding Finds ListsFrom
  end_reached q out f = (subst (λ (y : Tasks). NoneFrom y q) o f, refl)

-- Where the passing rows from q on are those later than `given`, the search answers what is asked.
lists : (y : Tasks) (given q out out' : List ℕ) (s : Step) → ((r : List ℕ) → Passing y r → Later given r → From q r)
    → ((r : List ℕ) → Passing y r → From q r → Later given r) → ListsFrom y q out out' s → Lists y given out out' (Ok s)
unfolding Lists ListsFrom NoneFrom Ended
lists y given q out out' Row g h l = (
  record {
    passing = l.0.passing;
    after = h _ l.0.passing l.0.onward;
    first = λ r p f e. l.0.first r p (g r p f) e;
  },
  l.1,
)
lists y given q out out' End g h l = (λ r p f. l.0 r p (g r p f), l.1)

says_done : {o : Outcome} (y : Tasks) (given out out' : List ℕ) (s : Step) → o ≡ Ok tt → Lists y given out out' (Ok s) → Says o y given out out' (Ok s)
unfolding Says
says_done y given out out' s e l = subst (λ (o : Outcome). Says o y given out out' (Ok s)) (sym e) l

says_refused : {o : Outcome} (y : Tasks) (given out : List ℕ) (r : Refusal) {a : Result Step Refusal} → o ≡ Err r → a ≡ Err r → Says o y given out out a
unfolding Says
says_refused y given out r {a} e h = subst (λ (o : Outcome). Says o y given out out a) (sym e) (h, refl)

-- The first row: the search starts at the digit 1. A start at 2 would be a candidate too: that no row is skipped is said by the answer.
pub first_begun : {t : Table} {room x : ℕ} → Accepted t room → 1 ≤ x → x ≤ 2 → Begun t.n (replicate (row_size most_tasks) x) 0
first_begun {t} ok above below =
    let l = some_tasks ok in
    record { few = few_tasks ok; inside = omega arith; size = refl; head = within_none t.n; low = omega arith; high = omega arith }

pub first_refused_says : (t : Table) (out : List ℕ) (r : Refusal) {a : Result Step Refusal} → first_of (first_asks t (length out)) ≡ Err r → a ≡ Err r
    → FirstSays t out out a
unfolding FirstSays
first_refused_says t out r e h = says_refused _ [] out r e h

later_none : (r : List ℕ) → 1 ≤ length r → Later [] r
unfolding Later
later_none [] l = absurd (not-suc-le-zero l)
later_none (a ∷ r) l = tt

pub first_says : (t : Table) (out out' : List ℕ) (s : Step) → Accepted t (length out)
    → ListsFrom (tasks_of t.records t.n) (1 ∷ []) out out' s → FirstSays t out out' (Ok s)
unfolding FirstSays
first_says t out out' s ok l =
    let y = tasks_of t.records t.n in
    let n = some_tasks ok in
    says_done y [] out out' s ok.done
    (lists y [] (1 ∷ []) out out' s
    (λ r p f. from_on t.n [] r (omega (arith, passing_size y r p)) (passing_within y r p) (from_start r))
    (λ r p f. later_none r (omega (arith, passing_size y r p)))
    l)

-- The next row: the given row is well formed, and stands at the front of l.
pub record Loaded (n : ℕ) (given l : List ℕ) : Type 0 where
  pub holds : row_holds n given ≡ true
  pub size : length l ≡ row_size most_tasks
  pub front : take (length given) l ≡ given

-- the search goes on with the last number one up
module _ {n : ℕ} {given l : List ℕ} (g : Loaded n given l) (some' : 1 ≤ n) (few' : n ≤ most_tasks) where
  split : given ≡ take (row_size n - 1) l ++ (get_or l (row_size n - 1) 0 ∷ [])
  split =
      let one : length given ≡ suc (row_size n - 1) = omega (arith, (formed n given g.holds).size) in
      sym g.front ∙ ap (λ (k : ℕ). take k l) one ∙ take-suc l (row_size n - 1) 0 (omega arith)

  parts : Within n (take (row_size n - 1) l) × (get_or l (row_size n - 1) 0 ≤ n)
  parts =
      within_last n (take (row_size n - 1) l) (get_or l (row_size n - 1) 0)
      (subst (λ (r : List ℕ). Within n r) split (formed_within n given (formed n given g.holds)))

  pub last_most : get_or l (row_size n - 1) 0 ≤ n
  last_most = parts.1

  pub next_begun : Begun n (set l (row_size n - 1) (get_or l (row_size n - 1) 0 + 1)) (row_size n - 1)
  next_begun = begun_set l (row_size n - 1) _ few' (omega arith) g.size parts.0 (omega arith) (omega (arith, last_most))

  next_lists : (rs : List Record) (out out' : List ℕ) (s : Step)
      → ListsFrom (tasks_of rs n) (take (suc (row_size n - 1)) (set l (row_size n - 1) (get_or l (row_size n - 1) 0 + 1))) out out' s
      → Lists (tasks_of rs n) given out out' (Ok s)
  next_lists rs out out' s h =
      let y = tasks_of rs n in
      let j = row_size n - 1 in
      let x = get_or l j 0 in
      let e = take-suc-set l j (x + 1) (omega arith) in
      let m = length-take-le j l (omega arith) in
      lists y given (take j l ++ ((x + 1) ∷ [])) out out' s
      (λ r p f. later_from (take j l) r x (omega (arith, passing_size y r p)) (subst (λ (g : List ℕ). Later g r) split f))
      (λ r p f. subst (λ (g : List ℕ). Later g r) (sym split) (from_later_bump (take j l) r x f))
      (rw e at h)

-- after what the first row asks comes the row asked from
abbrev row_ask : Table → List ℕ → Asks
row_ask t given = (BadRow, not (row_holds t.n given)) ∷ []

row_good : (t : Table) (given : List ℕ) → row_holds t.n given ≡ true → first_of (row_ask t given) ≡ Ok tt
row_good t given e = rw e

row_bad : (t : Table) (given : List ℕ) → row_holds t.n given ≡ false → first_of (row_ask t given) ≡ Err BadRow
row_bad t given e = rw e

pub next_refused_says : (t : Table) (given out : List ℕ) (r : Refusal) {a : Result Step Refusal} → first_of (first_asks t (length out)) ≡ Err r → a ≡ Err r
    → NextSays t given out out a
unfolding NextSays
next_refused_says t given out r e h =
    says_refused (tasks_of t.records t.n) given out r (first_refused (first_asks t (length out)) (row_ask t given) r e) h

pub bad_row_says : (t : Table) (given out : List ℕ) → Accepted t (length out) → row_holds t.n given ≡ false → NextSays t given out out (Err BadRow)
unfolding NextSays
bad_row_says t given out ok e =
    says_refused (tasks_of t.records t.n) given out BadRow
    (first_passed (first_asks t (length out)) (row_ask t given) ok.done ∙ row_bad t given e) refl

pub next_says : (t : Table) (given l out out' : List ℕ) (s : Step) → Accepted t (length out) → Loaded t.n given l
    → ListsFrom (tasks_of t.records t.n) (take (suc (row_size t.n - 1)) (set l (row_size t.n - 1) (get_or l (row_size t.n - 1) 0 + 1))) out out' s
    → NextSays t given out out' (Ok s)
unfolding NextSays
next_says t given l out out' s ok g h =
    says_done (tasks_of t.records t.n) given out out' s
    (first_passed (first_asks t (length out)) (row_ask t given) ok.done ∙ row_good t given g.holds)
    (next_lists g (some_tasks ok) (few_tasks ok) t.records out out' s h)
