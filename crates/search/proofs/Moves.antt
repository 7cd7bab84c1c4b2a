-- The search by digits: its invariant, its measure, and the laws of its moves.
use Prim.Native.Nat.{ℕ, suc, ◌+◌, ◌-◌, ◌^◌, ◌<◌, ◌≤◌}
use native.Mathlib.Numerals.{add-one}
use native.Mathlib.Omega.{arith}
use mathlib.Core.Path.{◌≡◌, sym, ap, subst, ◌∙◌}
use mathlib.Core.Bool.{Bool, true, false}
use mathlib.Core.List.{List, [], ◌∷◌, ◌++◌}
use lib.ListN.{length, take, get_or, set, length-set}
use lib.Seq.{take_all, take-suc, take-suc-set, take-set-le, length-take-le, get_or-set_same}
use Rattle.paper.specs.Numbers.{most_tasks}
use Rattle.paper.specs.Analysis.{Tasks}
use Rattle.paper.specs.Rows.{row_size, Later, Passing}
use Rattle.laws.specs.Order.{From, Within}
use Rattle.laws.proofs.Order.{number, number_fits, number_later, within_more, within_last, from_self, from_later, from_not_later, from_bump, from_on, from_front, from_over, later_bump, later_on, later_back}
use Rattle.paper.proofs.Formed.{formed}
use Rattle.rows.proofs.Places.{formed_within}
use Rattle.search.specs.Search.{Begun, Barren, Tests, FirstFrom, NoneFrom}

-- what is left to search: no candidate has a number of 32 ^ 2n or more
pub left : ℕ → List ℕ → ℕ → ℕ
unfolding number
left n d pos = 32 ^ row_size n - number (row_size n) (take (suc pos) d)

-- a candidate whose last digit is set
pub begun_set : {n : ℕ} (d : List ℕ) (pos x : ℕ) → n ≤ most_tasks → pos < row_size n → length d ≡ row_size most_tasks
    → Within n (take pos d) → 1 ≤ x → x ≤ n + 1 → Begun n (set d pos x) pos
begun_set d pos x few inside size head low high =
    let e = get_or-set_same d pos x 0 (omega arith) in
    record {
      few = few;
      inside = inside;
      size = length-set d pos x ∙ size;
      head = rw (take-set-le pos d pos x (omega arith)) head;
      low = omega arith;
      high = omega arith;
    }

begun_within : (n : ℕ) (d : List ℕ) (pos : ℕ) → Begun n d pos → Within (n + 1) (take (suc pos) d)
begun_within n d pos b =
    rw (take-suc d pos 0 (omega arith))
    (within_more n (n + 1) (take pos d) (get_or d pos 0) (omega arith) b.head b.low b.high)

pub passing_size : (y : Tasks) (r : List ℕ) → Passing y r → length r ≡ row_size y.n
passing_size y r p = (formed y.n r p.form).size

pub passing_within : (y : Tasks) (r : List ℕ) → Passing y r → Within y.n r
passing_within y r p = formed_within y.n r (formed y.n r p.form)

-- The invariant of a search from p on: the candidate is from p on, and so is every passing row that the search has not passed.
pub record State (y : Tasks) (p d : List ℕ) (pos : ℕ) : Type 0 where
  pub begun : Begun y.n d pos
  pub reached : From p (take (suc pos) d)
  pub ahead : (r : List ℕ) → Passing y r → From p r → From (take (suc pos) d) r

pub state_start : (y : Tasks) (d : List ℕ) (pos : ℕ) → Begun y.n d pos → State y (take (suc pos) d) d pos
state_start y d pos b = record { begun = b; reached = from_self (take (suc pos) d); ahead = λ r q f. f }

-- a move that sets digit j to x and goes there: the invariant holds again, and less is left
abbrev pub Moved : Tasks → List ℕ → List ℕ → ℕ → ℕ → ℕ → Type 0
Moved y p d pos j x = State y p (set d j x) j × (left y.n (set d j x) j < left y.n d pos)

module _ {y : Tasks} {p d : List ℕ} {pos : ℕ} (s : State y p d pos) where
  candidate : take (suc pos) d ≡ take pos d ++ (get_or d pos 0 ∷ [])
  candidate = take-suc d pos 0 (omega (arith, s.begun))

  front : length (take pos d) ≡ pos
  front = length-take-le pos d (omega (arith, s.begun))

  -- it may go to a later candidate that leaves no passing row behind
  moved : (j x : ℕ) → j < row_size y.n → Within y.n (take j d) → 1 ≤ x → x ≤ y.n + 1 → Later (take (suc pos) d) (take j d ++ (x ∷ []))
      → ((r : List ℕ) → Passing y r → From (take (suc pos) d) r → From (take j d ++ (x ∷ [])) r) → Moved y p d pos j x
  unfolding left
  moved j x i w low high l h =
      let n = y.n in
      let q = take (suc pos) d in
      let q' = take (suc j) (set d j x) in
      let b = begun_set d j x s.begun.few i s.begun.size w low high in
      let e : q' ≡ take j d ++ (x ∷ []) = take-suc-set d j x (omega (arith, s.begun)) in
      let l' : Later q q' = rw e l in
      let m = length-take-le (suc j) (set d j x) (omega arith) in
      let v = begun_within n d pos s.begun in
      let v' = begun_within n (set d j x) j b in (
        record { begun = b; reached = from_later p _ _ s.reached l'; ahead = λ r pr fr. rw e (h r pr (s.ahead r pr fr)) },
        omega (arith, number_later (n + 1) (row_size n) q q' (omega arith) v v' (omega arith) l', number_fits (n + 1) (row_size n) q' (omega arith) v'),
      )

  -- the candidate's last digit, one up
  pub bump : get_or d pos 0 ≤ y.n → Barren y d (suc pos) → Moved y p d pos pos (get_or d pos 0 + 1)
  unfolding Barren
  bump h barren =
      let b = s.begun in
      let x = get_or d pos 0 in
      moved pos (x + 1) b.inside b.head (omega arith) (omega arith)
      (rw candidate (later_bump (take pos d) x))
      (λ r pr fr.
      from_bump (take pos d) r x (rw candidate at fr) (λ q.
      barren r pr (ap (λ (k : ℕ). take (suc k) r) (sym front) ∙ q ∙ sym candidate)))

  -- one place on, at 1
  pub on : get_or d pos 0 ≤ y.n → pos + 1 < row_size y.n → Moved y p d pos (pos + 1) 1
  on h i =
      let b = s.begun in
      let n = y.n in
      let m = length-take-le (suc pos) d (omega (arith, b)) in
      moved (pos + 1) 1 i
      (rw (add-one pos, candidate) (within_more n n (take pos d) (get_or d pos 0) (omega arith) b.head b.low h))
      (omega arith) (omega arith)
      (rw add-one (later_on (take (suc pos) d) 1))
      (λ r pr fr. rw add-one (from_on n (take (suc pos) d) r (omega (arith, passing_size y r pr)) (passing_within y r pr) fr))

  -- the digit before the candidate's last
  before : 0 < pos → take pos d ≡ take (pos - 1) d ++ (get_or d (pos - 1) 0 ∷ [])
  before i =
      let one : suc (pos - 1) ≡ pos = omega arith in
      ap (λ (k : ℕ). take k d) (sym one) ∙ take-suc d (pos - 1) 0 (omega (arith, s.begun))

  below : 0 < pos → Within y.n (take (pos - 1) d) × (get_or d (pos - 1) 0 ≤ y.n)
  below i = within_last y.n (take (pos - 1) d) (get_or d (pos - 1) 0) (rw (before i) at s.begun.head)

  pub under : 0 < pos → get_or d (pos - 1) 0 ≤ y.n
  under i = (below i).1

  -- one place back, and the digit there one up
  pub back : y.n < get_or d pos 0 → 0 < pos → Moved y p d pos (pos - 1) (get_or d (pos - 1) 0 + 1)
  back h i =
      let b = s.begun in
      let j = pos - 1 in
      let z = get_or d j 0 in
      let x = get_or d pos 0 in
      let one : suc j ≡ pos = omega arith in
      let m = length-take-le j d (omega arith) in
      moved j (z + 1) (omega arith) (below i).0 (omega arith) (omega (arith, under i))
      (rw (candidate, before i) (later_back (take j d) z x))
      (λ r pr fr.
      let f : From (take pos d ++ (x ∷ [])) r = rw candidate at fr in
      let f' : From (take j d ++ (z ∷ [])) r = rw (before i) at (from_front (take pos d) (x ∷ []) r f) in
      from_bump (take j d) r z f' (λ q.
      from_over y.n (take pos d) r x h (passing_within y r pr) f
      (ap (λ (k : ℕ). take k r) (front ∙ sym one ∙ ap suc (sym m)) ∙ q ∙ sym (before i))))

  -- nothing is left where the first digit is above n
  pub over : y.n < get_or d pos 0 → pos ≡ 0 → NoneFrom y p
  unfolding NoneFrom
  over h e r pr fr =
      from_over y.n (take pos d) r (get_or d pos 0) h (passing_within y r pr) (rw candidate at (s.ahead r pr fr))
      (ap (λ (k : ℕ). take k r) (front ∙ e) ∙ sym (ap (λ (k : ℕ). take k d) e))

  -- the last place: the candidate is a row
  full : pos + 1 ≡ row_size y.n → take (suc pos) d ≡ take (row_size y.n) d
  full e = let k : suc pos ≡ row_size y.n = omega arith in ap (λ (i : ℕ). take i d) k

  -- which passes
  pub found : {b : Bool} → pos + 1 ≡ row_size y.n → Tests y b d → b ≡ true → FirstFrom y p (take (row_size y.n) d)
  unfolding Tests
  found e t q =
      record {
        passing = subst (λ (x : Bool). Tests y x d) q t;
        onward = rw (full e) at s.reached;
        first = λ r pr fr la. from_not_later (take (row_size y.n) d) r (rw (full e) at (s.ahead r pr fr)) la;
      }

  -- or does not, and no other row begins with it
  pub leaf : {b : Bool} → pos + 1 ≡ row_size y.n → Tests y b d → b ≡ false → Barren y d (suc pos)
  unfolding Barren Tests
  leaf e t f r pr q =
      let whole : take (suc pos) r ≡ r = take_all (suc pos) r (omega (arith, passing_size y r pr)) in
      let fails : Passing y (take (row_size y.n) d) → ⊥ = subst (λ (x : Bool). Tests y x d) f t in
      fails (subst (λ (l : List ℕ). Passing y l) (sym whole ∙ q ∙ full e) pr)
