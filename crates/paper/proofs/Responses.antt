-- Response times by the paper's own words: R is the largest of the signed differences F + J(i) − k·T(i), and the job that is named is the first that reaches it; R ≤ D says of each job that F + J(i) ≤ k·T(i) + D.
use Rattle.std.specs.Prelude.{None, Option, Some}
use Prim.Native.Nat.{ℕ, zero, suc, ◌+◌, ◌-◌, ◌*◌, ◌≤◌, ◌<◌, zero-le, max}
use mathlib.Core.Path.{◌≡◌, refl, ap, ap₂, sym, subst, ◌∙◌}
use mathlib.Core.Bool.{Bool, true, false, true≢false, cond}
use mathlib.Core.Logic.{⊎_elim, ◌⊎◌, inl, inr, ◌↔◌}
use native.Mathlib.Decide.{dec_le}
use native.Mathlib.Omega.{arith}
use native.Mathlib.Nat.{eq-or-lt_of_le, le-div_iff_mul-le, one-mul, zero-mul}
use lib.Dec.{leb, ltb, leb→le, le→leb, ltb→lt, lt→ltb}
use lib.IntN.{ℤ, pos, negsuc, sub_ℕ, pos-ne-negsuc}
use lib.Signed.{◌≤ℤ◌, ◌<ℤ◌}
use borrow.Author.Tests.{le-leb, leb-true, ltb-true, ltb-false, le-ltb, eqb-true, eq-eqb, ne_eqb}
use Rattle.paper.specs.Analysis.{Tasks, Standing, before, level_of, start_of, finish_of, finish_from, job, later, worst, worst_from, response, reaches, first_reaching, worst_job, with_job, within}
use Rattle.paper.specs.declared.Response.{Response}
use Rattle.paper.proofs.Searched.{searched}
use Rattle.paper.proofs.Extremes.{lowest_found, lowest_either}

-- F + J(i) − k·T(i), a signed number
abbrev pub difference : Tasks → ℕ → ℕ → ℕ → ℤ
difference y i k f = sub_ℕ (f + y.j i) (k * y.t i)

-- L exists, every job of the active period has an F, no signed difference lies above r, that of job k, one of them, is r, and that of each job before it lies below r
pub record Largest (y : Tasks) (s : Standing) (i r k : ℕ) : Type 0 where
  pub l : ℕ
  pub level : level_of y s ≡ Some l
  pub ends : (q : ℕ) → q < before y l i → (g : ℕ) × (job y s i q ≡ Some g)
  pub most : (q g : ℕ) → q < before y l i → job y s i q ≡ Some g → difference y i q g ≤ℤ pos r
  pub among : k < before y l i
  pub f : ℕ
  pub finish : job y s i k ≡ Some f
  pub reached : difference y i k f ≡ pos r
  pub first : (q g : ℕ) → q < k → job y s i q ≡ Some g → difference y i q g <ℤ pos r

-- job k has an F, and F + J(i) ≤ k·T(i) + d
pub record InTime (y : Tasks) (s : Standing) (i d k : ℕ) : Type 0 where
  pub f : ℕ
  pub finish : job y s i k ≡ Some f
  pub ok : f + y.j i ≤ k * y.t i + d

-- L exists, and every job of the active period is in time
pub record AllInTime (y : Tasks) (s : Standing) (i d : ℕ) : Type 0 where
  pub l : ℕ
  pub level : level_of y s ≡ Some l
  pub jobs : (k : ℕ) → k < before y l i → InTime y s i d k

-- L and every F are above 0
pub level_positive : (y : Tasks) (s : Standing) (l : ℕ) → level_of y s ≡ Some l → 1 ≤ l
unfolding level_of
level_positive y s l e = (searched _ 1 _ l e).low

finish_positive : (y : Tasks) (s : Standing) (i k f : ℕ) → job y s i k ≡ Some f → 1 ≤ f
unfolding job finish_from finish_of
finish_positive y s i k f e = go (start_of y s i k) e
  where
    go : (start : Option ℕ) → finish_from y s i start ≡ Some f → 1 ≤ f
    go (Some start) h = omega (arith, (searched _ (start + 1) _ f h).low)
    go None h = let z : ◌≡◌ {A = ℕ} 0 1 = cc in absurd (omega arith)

-- there is a first job
pub first_job : (y : Tasks) (i l : ℕ) → 1 ≤ y.t i → 1 ≤ l → 0 < before y l i
unfolding before
first_job y i l ht hl = (le-div_iff_mul-le ht).1 (rw one-mul (omega arith))

-- signed and truncated differences
signed_le : (a b r : ℕ) → a - b ≤ r → sub_ℕ a b ≤ℤ pos r
signed_le a b r h = go (ltb a b)
  where
    go : (v : Bool) → cond v (negsuc (b - suc a)) (pos (a - b)) ≤ℤ pos r
    go true = record { le = tt }
    go false = record { le = le→leb _ _ h }

le_signed : (a b r : ℕ) → sub_ℕ a b ≤ℤ pos r → a - b ≤ r
le_signed a b r h = go (ltb a b) refl h
  where
    go : (v : Bool) → ltb a b ≡ v → cond v (negsuc (b - suc a)) (pos (a - b)) ≤ℤ pos r → a - b ≤ r
    go true e w = omega (arith, ltb-true a b e)
    go false e w = leb→le _ _ w.le

signed_lt : (a b r : ℕ) → a - b < r → sub_ℕ a b <ℤ pos r
signed_lt a b r h = go (ltb a b)
  where
    go : (v : Bool) → cond v (negsuc (b - suc a)) (pos (a - b)) <ℤ pos r
    go true = record { lt = tt }
    go false = record { lt = lt→ltb _ _ h }

lt_signed : (a b r : ℕ) → 1 ≤ r → sub_ℕ a b <ℤ pos r → a - b < r
lt_signed a b r p h = go (ltb a b) refl h
  where
    go : (v : Bool) → ltb a b ≡ v → cond v (negsuc (b - suc a)) (pos (a - b)) <ℤ pos r → a - b < r
    go true e w = omega (arith, ltb-true a b e)
    go false e w = ltb→lt _ _ w.lt

signed_is : (a b r : ℕ) → 1 ≤ r → a - b ≡ r → sub_ℕ a b ≡ pos r
signed_is a b r h e = rw (le-ltb a b (omega arith), e)

is_signed : (a b r : ℕ) → sub_ℕ a b ≡ pos r → a - b ≡ r
is_signed a b r e = go (ltb a b) e
  where
    go : (v : Bool) → cond v (negsuc (b - suc a)) (pos (a - b)) ≡ pos r → a - b ≡ r
    go true w = absurd (pos-ne-negsuc r (b - suc a) (sym w))
    go false w = cc

module _ (y : Tasks) (s : Standing) (i : ℕ) where
  -- of the worst over m jobs: every job ends, none is later, and one reaches it unless it is 0
  record Over (m r : ℕ) : Type 0 where
    pub ends : (k : ℕ) → k < m → (f : ℕ) × (job y s i k ≡ Some f) × (f + y.j i - k * y.t i ≤ r)
    pub reached : (r ≡ 0) ⊎ ((k : ℕ) × (k < m) × (f : ℕ) × (job y s i k ≡ Some f) × (f + y.j i - k * y.t i ≡ r))

  over_more : (m r : ℕ) (f : ℕ) → Over m r → job y s i m ≡ Some f → Over (suc m) (max r (f + y.j i - m * y.t i))
  over_more m r f w e =
      record {
        ends =
            λ k l.
            let h : k ≤ m = omega arith in
            ⊎_elim
            (λ q. (f, rw q e, rw q (omega arith)))
            (λ q. let v = w.ends k q in (v.0, v.1, omega (arith, v.2)))
            (eq-or-lt_of_le h);
        reached = go (dec_le r (f + y.j i - m * y.t i)) w.reached;
      }
    where
      go : Dec (r ≤ f + y.j i - m * y.t i) → (r ≡ 0) ⊎ ((k : ℕ) × (k < m) × (f : ℕ) × (job y s i k ≡ Some f) × (f + y.j i - k * y.t i ≡ r)) → (max r (f + y.j i - m * y.t i) ≡ 0) ⊎ ((k : ℕ) × (k < suc m) × (g : ℕ) × (job y s i k ≡ Some g) × (g + y.j i - k * y.t i ≡ max r (f + y.j i - m * y.t i)))
      go (yes h) v = inr (m, omega arith, f, e, omega arith)
      go (no h) (inl z) = absurd (omega arith)
      go (no h) (inr v) = inr (v.0, omega (arith, v.1), v.2, v.3, omega (arith, v.4))

  over : (m r : ℕ) → worst y s i m ≡ Some r → Over m r
  unfolding worst later
  over zero r e = record { ends = λ k l. absurd (omega arith); reached = inl (cc) }
  over (suc m) r e = go (worst y s i m) (job y s i m) refl (over m) e
    where
      go : (w v : Option ℕ) → job y s i m ≡ v → ((q : ℕ) → w ≡ Some q → Over m q) → later w v (y.j i) (m * y.t i) ≡ Some r → Over (suc m) r
      go (Some q) (Some f) ef o h = let z : max q (f + y.j i - m * y.t i) ≡ r = cc in rw z at (over_more m q f (o q refl) ef)
      go (Some q) None ef o h = let z : ◌≡◌ {A = ℕ} 0 1 = cc in absurd (omega arith)
      go None v ef o h = let z : ◌≡◌ {A = ℕ} 0 1 = cc in absurd (omega arith)

  -- where every job ends there is a worst
  ended : (m : ℕ) → ((k : ℕ) → k < m → (f : ℕ) × (job y s i k ≡ Some f)) → (r : ℕ) × (worst y s i m ≡ Some r)
  unfolding worst later
  ended zero h = (0, refl)
  ended (suc m) h =
      let w = ended m (λ k l. h k (omega arith)) in
      let f = h m (omega arith) in
      (max w.0 (f.0 + y.j i - m * y.t i), rw (w.1, f.1))

  -- job 0 is among them, and so the worst is above 0
  worst_positive : (m r : ℕ) → 0 < m → worst y s i m ≡ Some r → 1 ≤ r
  worst_positive m r h e =
      let v = (over m r e).ends 0 h in
      omega (arith, v.2, finish_positive y s i 0 v.0 v.1, zero-mul (y.t i))

  -- job k of those below m reaches r, and none before it does
  record Reached (m r k : ℕ) : Type 0 where
    pub among : k < m
    pub f : ℕ
    pub finish : job y s i k ≡ Some f
    pub here : f + y.j i - k * y.t i ≡ r
    pub first : (q g : ℕ) → q < k → job y s i q ≡ Some g → g + y.j i - q * y.t i ≡ r → ⊥

  reached_is : (m r k : ℕ) → Reached m r k → first_reaching y s i m (Some r) ≡ k
  unfolding first_reaching reaches
  reached_is m r k w =
      let z : suc k - 1 ≡ k = omega arith in
      ap (λ (x : ℕ). x - 1) (lowest_found _ m k w.among (rw w.finish (eq-eqb _ _ w.here)) (λ q l. none q l (job y s i q) refl)) ∙ z
    where
      none : (q : ℕ) → q < k → (v : Option ℕ) → job y s i q ≡ v → reaches v (y.j i) (q * y.t i) r ≡ false
      none q l (Some g) e = ne_eqb _ _ (w.first q g l e)
      none q l None e = refl

  -- of the jobs that reach the worst of m there is a first
  some_reached : (m r : ℕ) → 0 < m → worst y s i m ≡ Some r → (k : ℕ) × Reached m r k
  unfolding reaches
  some_reached m r h e = ⊎_elim (λ none. absurd (nobody none)) (λ v. (v.0, made v)) (lowest_either test m)
    where
      test : ℕ → Bool
      test k = reaches (job y s i k) (y.j i) (k * y.t i) r

      nobody : ((k : ℕ) → k < m → test k ≡ false) → ⊥
      nobody none =
          ⊎_elim
          (λ z. omega (arith, worst_positive m r h e))
          (λ v. true≢false (sym (rw v.3 (eq-eqb _ _ v.4)) ∙ none v.0 v.1))
          (over m r e).reached

      here : (v : Option ℕ) (jitter released : ℕ) → reaches v jitter released r ≡ true → (f : ℕ) × (v ≡ Some f) × (f + jitter - released ≡ r)
      here (Some f) jitter released t = (f, refl, eqb-true _ _ t)
      here None jitter released t = absurd (true≢false (sym t))

      made : (v : (k : ℕ) × (k < m) × (test k ≡ true) × ((j : ℕ) → j < k → test j ≡ false)) → Reached m r v.0
      made v =
          let u = here (job y s i v.0) (y.j i) (v.0 * y.t i) v.2 in
          record {
            among = v.1;
            f = u.0;
            finish = u.1;
            here = u.2;
            first = λ q g l eg z. true≢false (sym (rw eg (eq-eqb _ _ z)) ∙ v.3 q l);
          }

  first_reached : (m r : ℕ) → 0 < m → worst y s i m ≡ Some r → Reached m r (first_reaching y s i m (Some r))
  first_reached m r h e =
      let w = some_reached m r h e in
      subst (Reached m r) (sym (reached_is m r w.0 w.1)) w.1

  -- one job more: it takes the place of the first that reached the worst only where it is worse
  pub first_more : (m q f : ℕ) → worst y s i m ≡ Some q → job y s i m ≡ Some f
      → cond (ltb q (f + y.j i - m * y.t i)) m (first_reaching y s i m (Some q)) ≡ first_reaching y s i (suc m) (Some (max q (f + y.j i - m * y.t i)))
  first_more m q f e ef = go (ltb q (f + y.j i - m * y.t i)) refl
    where
      started : (ltb q (f + y.j i - m * y.t i) ≡ false) → 0 < m
      started t = any m refl
        where
          any : (n : ℕ) → m ≡ n → 0 < n
          any zero z =
              let l = ltb-false q (f + y.j i - m * y.t i) t in
              let p = finish_positive y s i m f ef in
              let v : m * y.t i ≡ 0 = ap (λ (x : ℕ). x * y.t i) z ∙ zero-mul (y.t i) in
              absurd (⊎_elim (λ (u : q ≡ 0). omega arith) (λ u. omega (arith, u.1)) (over m q e).reached)
          any (suc n) z = omega arith

      go : (v : Bool) → ltb q (f + y.j i - m * y.t i) ≡ v → cond v m (first_reaching y s i m (Some q)) ≡ first_reaching y s i (suc m) (Some (max q (f + y.j i - m * y.t i)))
      go true t =
          let l = ltb-true q (f + y.j i - m * y.t i) t in
          sym (reached_is (suc m) (max q (f + y.j i - m * y.t i)) m (record {
            among = omega arith;
            f = f;
            finish = ef;
            here = omega arith;
            first = λ k g h eg z. let u = (over m q e).ends k h in let p : u.0 ≡ g = cc u.1 in omega (arith, rw p at u.2);
          }))
      go false t =
          let l = ltb-false q (f + y.j i - m * y.t i) t in
          let w = first_reached m q (started t) e in
          let z : max q (f + y.j i - m * y.t i) ≡ q = omega arith in
          sym (ap (λ r. first_reaching y s i (suc m) (Some r)) z ∙ reached_is (suc m) q _ (record {
            among = omega (arith, w.among);
            f = w.f;
            finish = w.finish;
            here = w.here;
            first = w.first;
          }))

  -- R with its job, where L and R are known
  with_job_at : (l r : ℕ) → level_of y s ≡ Some l → response y s i ≡ Some r → with_job y s i ≡ record { time = Some r; job = first_reaching y s i (before y l i) (Some r) }
  unfolding with_job worst_job
  with_job_at l r el er = rw (el, er)

  time_is : (r k : ℕ) → with_job y s i ≡ record { time = Some r; job = k } → response y s i ≡ Some r
  unfolding with_job
  time_is r k e = ap (λ (v : Response). v.time) e

  worst-at : (l : ℕ) → level_of y s ≡ Some l → response y s i ≡ worst y s i (before y l i)
  unfolding response worst_from
  worst-at l el = rw el

  level_there : (r : ℕ) → response y s i ≡ Some r → level_of y s ≡ None → ⊥
  unfolding response worst_from
  level_there r e el = let z : ◌≡◌ {A = ℕ} 0 1 = cc in omega arith

  -- R is the largest signed difference F + J(i) − k·T(i) over the jobs k below ceil((L + J(i))/T(i)), and the job beside it the first whose difference it is
  pub response_largest : 1 ≤ y.t i → (r k : ℕ) → (with_job y s i ≡ record { time = Some r; job = k }) ↔ Largest y s i r k
  response_largest ht r k = (λ e. says (level_of y s) refl e, gives)
    where
      says : (v : Option ℕ) → level_of y s ≡ v → with_job y s i ≡ record { time = Some r; job = k } → Largest y s i r k
      says (Some l) el e =
          let er = time_is r k e in
          let ew : worst y s i (before y l i) ≡ Some r = sym (worst-at l el) ∙ er in
          let some = first_job y i l ht (level_positive y s l el) in
          let w = over (before y l i) r ew in
          let p = worst_positive (before y l i) r some ew in
          let z : first_reaching y s i (before y l i) (Some r) ≡ k = ap (λ (v : Response). v.job) (sym (with_job_at l r el er) ∙ e) in
          let u = subst (Reached (before y l i) r) z (first_reached (before y l i) r some ew) in
          record {
            l = l;
            level = el;
            ends = λ q h. let v = w.ends q h in (v.0, v.1);
            most = λ q g h eg. let v = w.ends q h in let o : v.0 ≡ g = cc v.1 in signed_le (g + y.j i) (q * y.t i) r (rw o at v.2);
            among = u.among;
            f = u.f;
            finish = u.finish;
            reached = signed_is (u.f + y.j i) (k * y.t i) r p u.here;
            first =
                λ q g h eg.
                let v = w.ends q (omega (arith, u.among)) in
                let o : v.0 ≡ g = cc v.1 in
                let below : g + y.j i - q * y.t i ≤ r = rw o at v.2 in
                signed_lt (g + y.j i) (q * y.t i) r (omega (arith, u.first q g h eg));
          }
      says None el e = absurd (level_there r (time_is r k e) el)

      gives : Largest y s i r k → with_job y s i ≡ record { time = Some r; job = k }
      gives g =
          let m = before y g.l i in
          let e = ended m g.ends in
          let w = over m e.0 e.1 in
          let u = w.ends k g.among in
          let q : u.0 ≡ g.f = cc (u.1, g.finish) in
          let low : r ≤ e.0 = omega (arith, rw q at u.2, is_signed (g.f + y.j i) (k * y.t i) r g.reached) in
          let high : e.0 ≤ r =
          ⊎_elim (λ z. omega arith) (λ z. omega (arith, z.4, le_signed (z.2 + y.j i) (z.0 * y.t i) r (g.most z.0 z.2 z.1 z.3))) w.reached in
          let z : e.0 ≡ r = omega arith in
          let ew : worst y s i m ≡ Some r = e.1 ∙ ap Some z in
          let p = worst_positive m r (omega (arith, g.among)) ew in
          with_job_at g.l r g.level (worst-at g.l g.level ∙ ew)
          ∙ ap (λ j. record { time = Some r; job = j }) (reached_is m r k (record {
            among = g.among;
            f = g.f;
            finish = g.finish;
            here = is_signed (g.f + y.j i) (k * y.t i) r g.reached;
            first = λ q v h ev x. omega (arith, lt_signed (v + y.j i) (q * y.t i) r p (g.first q v h ev));
          }))

  -- beside "beyond" the job is 0
  pub beyond_job : response y s i ≡ None → with_job y s i ≡ record { time = None; job = 0 }
  unfolding with_job worst_job first_reaching
  beyond_job e = ap₂ (λ t j. record { time = t; job = j }) e (none (level_of y s) (response y s i) e)
    where
      none : (l v : Option ℕ) → v ≡ None → worst_job y s i l v ≡ 0
      none (Some l) (Some r) h = let z : ◌≡◌ {A = ℕ} 0 1 = cc in absurd (omega arith)
      none (Some l) None h = refl
      none None v h = refl

  -- one job more
  record Next (w v : Option ℕ) (jitter released d : ℕ) : Type 0 where
    pub first : within w d ≡ true
    pub f : ℕ
    pub finish : v ≡ Some f
    pub ok : f + jitter ≤ released + d

  later_says : (w v : Option ℕ) (jitter released d : ℕ) → within (later w v jitter released) d ≡ true → Next w v jitter released d
  unfolding within later
  later_says (Some r) (Some f) jitter released d e =
      let h = leb-true (max r (f + jitter - released)) d e in
      record { first = le-leb r d (omega arith); f = f; finish = refl; ok = omega arith }
  later_says (Some r) None jitter released d e = absurd (true≢false (sym e))
  later_says None v jitter released d e = absurd (true≢false (sym e))

  later_gives : (w v : Option ℕ) (jitter released d : ℕ) → Next w v jitter released d → within (later w v jitter released) d ≡ true
  unfolding within later
  later_gives (Some r) v jitter released d n =
      rw n.finish (le-leb (max r (n.f + jitter - released)) d (omega (arith, leb-true r d n.first, n.ok)))
  later_gives None v jitter released d n = n.first

  module _ (d : ℕ) where
    worst_says : (m : ℕ) → within (worst y s i m) d ≡ true → (k : ℕ) → k < m → InTime y s i d k
    unfolding worst
    worst_says zero e k l = absurd (omega arith)
    worst_says (suc m) e k l =
        let n = later_says _ _ _ _ _ e in
        let h : k ≤ m = omega arith in
        ⊎_elim
        (λ q. rw q (record { f = n.f; finish = n.finish; ok = n.ok }))
        (λ q. worst_says m n.first k q)
        (eq-or-lt_of_le h)

    worst_gives : (m : ℕ) → ((k : ℕ) → k < m → InTime y s i d k) → within (worst y s i m) d ≡ true
    unfolding worst within
    worst_gives zero h = le-leb 0 d zero-le
    worst_gives (suc m) h =
        let j = h m (omega arith) in
        later_gives _ _ _ _ _ (record { first = worst_gives m (λ k l. h k (omega arith)); f = j.f; finish = j.finish; ok = j.ok })

    -- the worst of the jobs below m is within d exactly when each of them is in time
    pub worst-jobs : (m : ℕ) → (within (worst y s i m) d ≡ true) ↔ ((k : ℕ) → k < m → InTime y s i d k)
    worst-jobs m = (worst_says m, worst_gives m)

    -- R exists and R ≤ d exactly when L exists and every job k below ceil((L + J(i))/T(i)) has an F with F + J(i) ≤ k·T(i) + d
    pub within_jobs : (within (response y s i) d ≡ true) ↔ AllInTime y s i d
    unfolding response worst_from within
    within_jobs = (says (level_of y s) refl, λ a. rw a.level (worst_gives (before y a.l i) a.jobs))
      where
        says : (v : Option ℕ) → level_of y s ≡ v → within (worst_from y s i v) d ≡ true → AllInTime y s i d
        says (Some l) el e = record { l = l; level = el; jobs = worst_says (before y l i) e }
        says None el e = absurd (true≢false (sym e))
