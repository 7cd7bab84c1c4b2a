-- A walk through a function with any number of parameters: their locals are one entry of the context.
--     Blocks τs            a block of memory for each parameter.        places τs bs E      their places in the function's frame, before E.        homes τs ls     their declarations, before ls
--     free τs bs           room for each.        held τs bs vs      each holds its value
--     alloc_all, pass_all, free_all     the parameters are allocated, stored and freed
--     copies i τs          the operands that read them, from local i on.        reads_all, reads_second      they give the values
--     past j τs            the local that is j after the last parameter.        past_finds, past_walks       where it is
-- Assumes `Logic`.
use mathlib.Core.Path.{◌≡◌, refl, sym, subst}
use mathlib.Core.List.{List, [], ◌∷◌}
use Prim.Native.Nat.{ℕ, zero, suc}
use seplogic.Ra.Ura.{Ura}
use base.Fraction.{full_share}
use mir.Syntax.{Ty, Step as PStep, place, Opd as Operand, copy, Local, local, value_local}
use mir.Val.{Val}
use base.Logic.{ent, via}
use base.Fml.{Fml, ftrue, fsep, fat, froom, fdies}
use prog.Wp.{Heap, Env, Spot, spot_of}
use types.Logic.{Logic}
use types.Kit.{Item, ‵, ⋆, Goal, allocs, passes, frees, Seq, Step, step, ◌$◌, ◌∵◌, !, qed, move, drop, fsplit, fjoin, done}
use types.Run.{Reads, Walks, Finds, Opd, Opds, look, init, forget, stop, from, load, and_then, no_more, alloc1, pass1, pass0, free1}
use denote.Laws.{Typed}
use denote.Steps.{nothing}

abbrev pub Blocks : List Ty → Type 0
Blocks [] = Unit {0}
Blocks (τ ∷ τs) = ℕ × Blocks τs

abbrev pub places : (τs : List Ty) → Blocks τs → List (Ty × ℕ) → List (Ty × ℕ)
places [] bs E = E
places (τ ∷ τs) bs E = (τ, bs.0) ∷ places τs bs.1 E

abbrev pub homes : List Ty → List Local → List Local
homes [] ls = ls
homes (τ ∷ τs) ls = local τ value_local ∷ homes τs ls

abbrev pub free : (τs : List Ty) → Blocks τs → Fml
free [] bs = ftrue
free (τ ∷ τs) bs = fsep (froom τ bs.0 zero) (fsep (fdies τ bs.0) (free τs bs.1))

abbrev pub held : (τs : List Ty) → Blocks τs → List Val → Fml
held [] bs vs = ftrue
held (τ ∷ τs) bs [] = ftrue
held (τ ∷ τs) bs (v ∷ vs) = fsep (fat full_share τ bs.0 zero v) (fsep (fdies τ bs.0) (held τs bs.1 vs))

abbrev pub copies : ℕ → List Ty → List Operand
copies i [] = []
copies i (τ ∷ τs) = copy (place i []) ∷ copies (suc i) τs

abbrev pub past : ℕ → List Ty → ℕ
past j [] = suc j
past j (τ ∷ τs) = suc (past j τs)

module _ {M : Type 1} (𝓤 : Ura M) (H : Heap 𝓤) where
  -- the parameters stand from local i on
  abbrev Stand : Env 𝓤 H → ℕ → (τs : List Ty) → Blocks τs → Type 0
  Stand E i [] bs = Unit {0}
  Stand E i (τ ∷ τs) bs = (spot_of 𝓤 H E i ≡ (τ, bs.0, zero)) × Stand E (suc i) τs bs.1

  next : (e : Ty × ℕ) (E : Env 𝓤 H) (i : ℕ) (τs : List Ty) (bs : Blocks τs) → Stand E i τs bs → Stand (e ∷ E) (suc i) τs bs
  next e E i [] bs st = tt
  next e E i (τ ∷ τs) bs st = (st.0, next e E (suc i) τs bs.1 st.1)

  first : (τs : List Ty) (bs : Blocks τs) (E : Env 𝓤 H) → Stand (places τs bs E) 0 τs bs
  first [] bs E = tt
  first (τ ∷ τs) bs E = (refl, next (τ, bs.0) (places τs bs.1 E) 0 τs bs.1 (first τs bs.1 E))

  past_spot : (j : ℕ) (e : Ty × ℕ) (τs : List Ty) (bs : Blocks τs) (E : Env 𝓤 H) → spot_of 𝓤 H (e ∷ places τs bs E) (past j τs) ≡ spot_of 𝓤 H E j
  past_spot j e [] bs E = refl
  past_spot j e (τ ∷ τs) bs E = past_spot j (τ, bs.0) τs bs.1 E

module _ {M : Type 1} {𝓤 : Ura M} {𝓛 : Logic 𝓤} {K : Type 0} where
  open 𝓛 use {H}

  pub alloc_all : K → (τs : List Ty) {ls : List Local} {Kt : Env 𝓤 H → Goal 𝓤 H} {Γ : List (Item 𝓤)}
      → ((bs : Blocks τs) → Seq K 𝓛 (‵ (free τs bs) ∷ Γ) (allocs ls (λ E. Kt (places τs bs E)))) → Seq K 𝓛 Γ (allocs (homes τs ls) Kt)
  alloc_all t [] k = nothing t $ k tt
  alloc_all t (τ ∷ τs) {Kt = Kt} k =
      alloc1 t (λ b. alloc_all t τs {Kt = λ E. Kt ((τ, b) ∷ E)} (λ bs. move t (2 ∷ 0 ∷ []) $ fjoin t $ move t (1 ∷ 0 ∷ []) $ fjoin t $ k (b, bs)))

  pub pass_all : K → (τs : List Ty) (bs : Blocks τs) (vs : List Val) → Typed τs vs → (E : Env 𝓤 H) {Γ : List (Item 𝓤)} {g : Goal 𝓤 H}
      → Step K 𝓛 (‵ (held τs bs vs) ∷ Γ) g (‵ (free τs bs) ∷ Γ) (passes (places τs bs E) vs g)
  pass_all t [] bs [] ty E = pass0 t
  pass_all t [] bs (v ∷ vs) ty E = absurd ty
  pass_all t (τ ∷ τs) bs [] ty E = absurd ty
  pass_all t (τ ∷ τs) bs (v ∷ vs) ty E = step (λ s.
      fsplit t $ pass1 t (init t 0 refl ty.0) $ move t (1 ∷ []) $ fsplit t $ move t (1 ∷ []) $ pass_all t τs bs.1 vs ty.1 E $
      -- [the others; dies; the first's cell]
      move t (1 ∷ 0 ∷ []) $ fjoin t $ move t (1 ∷ 0 ∷ []) $ fjoin t $ s)

  pub free_all : K → (τs : List Ty) (bs : Blocks τs) (vs : List Val) → Typed τs vs → (E : Env 𝓤 H) {Γ : List (Item 𝓤)} {g : Goal 𝓤 H}
      → Step K 𝓛 Γ (frees E g) (‵ (held τs bs vs) ∷ Γ) (frees (places τs bs E) g)
  free_all t [] bs [] ty E = drop t
  free_all t [] bs (v ∷ vs) ty E = absurd ty
  free_all t (τ ∷ τs) bs [] ty E = absurd ty
  free_all t (τ ∷ τs) bs (v ∷ vs) ty E = step (λ s.
      fsplit t $ forget t 0 refl $ move t (1 ∷ []) $ fsplit t $ move t (2 ∷ 0 ∷ []) $ free1 t $ free_all t τs bs.1 vs ty.1 E $ s)

  -- evaluation changes nothing, so it may go on in a context that is the same taken apart
  opd_under : {Γ Γ' : List (Item 𝓤)} {E : Env 𝓤 H} {x : Operand} {v : Val} → ent 𝓤 (⋆ 𝓛 Γ) (⋆ 𝓛 Γ') → ent 𝓤 (⋆ 𝓛 Γ') (⋆ 𝓛 Γ)
      → Opd K 𝓛 Γ' E x v → Opd K 𝓛 Γ E x v
  opd_under {Γ} {Γ'} there back x = record { go = λ Kt h. via 𝓤 (⋆ 𝓛 Γ') there (x.go Kt (via 𝓤 (⋆ 𝓛 Γ) back h)) }

  opds_under : {Γ Γ' : List (Item 𝓤)} {E : Env 𝓤 H} {xs : List Operand} {vs : List Val} → ent 𝓤 (⋆ 𝓛 Γ) (⋆ 𝓛 Γ') → ent 𝓤 (⋆ 𝓛 Γ') (⋆ 𝓛 Γ)
      → Opds K 𝓛 Γ' E xs vs → Opds K 𝓛 Γ E xs vs
  opds_under {Γ} {Γ'} there back xs = record { go = λ Kt h. via 𝓤 (⋆ 𝓛 Γ') there (xs.go Kt (via 𝓤 (⋆ 𝓛 Γ) back h)) }

  reads_from : K → (E : Env 𝓤 H) (i : ℕ) (τs : List Ty) (bs : Blocks τs) (vs : List Val) → Typed τs vs → Stand 𝓤 H E i τs bs → {Γ : List (Item 𝓤)}
      → Opds K 𝓛 (‵ (held τs bs vs) ∷ Γ) E (copies i τs) vs
  reads_from t E i [] bs [] ty st = no_more t
  reads_from t E i [] bs (v ∷ vs) ty st = absurd ty
  reads_from t E i (τ ∷ τs) bs [] ty st = absurd ty
  reads_from t E i (τ ∷ τs) bs (v ∷ vs) ty st {Γ} =
      let cell : Fml = fat full_share τ bs.0 zero v in
      let dies : Fml = fdies τ bs.0 in
      let others : Fml = held τs bs.1 vs in
      let all : List (Item 𝓤) = ‵ (fsep cell (fsep dies others)) ∷ Γ in
      let one : List (Item 𝓤) = ‵ cell ∷ ‵ (fsep dies others) ∷ Γ in
      let apart : List (Item 𝓤) = ‵ others ∷ ‵ cell ∷ ‵ dies ∷ Γ in
      and_then t
      (opd_under {Γ = all} {Γ' = one} (qed 𝓛 all ∵ fsplit ! $ done !) (qed 𝓛 one ∵ fjoin ! $ done !)
      (load t (from t (stop t)) (subst (λ (sp : Spot 𝓤 H). Reads K 𝓛 one sp.0 sp.1 sp.2 v) (sym st.0) (look t 0 refl))))
      (opds_under {Γ = all} {Γ' = apart} (qed 𝓛 all ∵ fsplit ! $ move ! (1 ∷ []) $ fsplit ! $ move ! (1 ∷ 2 ∷ []) $ done !)
      (qed 𝓛 apart ∵ move ! (2 ∷ 0 ∷ []) $ fjoin ! $ move ! (1 ∷ 0 ∷ []) $ fjoin ! $ done !)
      (reads_from t E (suc i) τs bs.1 vs ty.1 st.1))

  -- the operands of a call, where the parameters are the context's third entry
  pub reads_all : K → (e : Ty × ℕ) (E : Env 𝓤 H) (τs : List Ty) (bs : Blocks τs) (vs : List Val) → Typed τs vs → {i j : Item 𝓤} {Γ : List (Item 𝓤)}
      → Opds K 𝓛 (i ∷ j ∷ ‵ (held τs bs vs) ∷ Γ) (e ∷ places τs bs E) (copies 1 τs) vs
  reads_all t e E τs bs vs ty {i} {j} {Γ} =
      let here : List (Item 𝓤) = i ∷ j ∷ ‵ (held τs bs vs) ∷ Γ in
      let ahead : List (Item 𝓤) = ‵ (held τs bs vs) ∷ i ∷ j ∷ Γ in
      opds_under {Γ = here} {Γ' = ahead} (qed 𝓛 here ∵ move ! (2 ∷ []) $ done !) (qed 𝓛 ahead ∵ move ! (1 ∷ 2 ∷ []) $ done !)
      (reads_from t (e ∷ places τs bs E) 1 τs bs vs ty (next 𝓤 H e (places τs bs E) 0 τs bs (first 𝓤 H τs bs E)))

  -- the same where the parameters are the context's second entry, and two locals stand before them
  pub reads_second : K → (e e' : Ty × ℕ) (E : Env 𝓤 H) (τs : List Ty) (bs : Blocks τs) (vs : List Val) → Typed τs vs → {i : Item 𝓤} {Γ : List (Item 𝓤)}
      → Opds K 𝓛 (i ∷ ‵ (held τs bs vs) ∷ Γ) (e ∷ e' ∷ places τs bs E) (copies 2 τs) vs
  reads_second t e e' E τs bs vs ty {i} {Γ} =
      let here : List (Item 𝓤) = i ∷ ‵ (held τs bs vs) ∷ Γ in
      let ahead : List (Item 𝓤) = ‵ (held τs bs vs) ∷ i ∷ Γ in
      opds_under {Γ = here} {Γ' = ahead} (qed 𝓛 here ∵ move ! (1 ∷ []) $ done !) (qed 𝓛 ahead ∵ move ! (1 ∷ []) $ done !)
      (reads_from t (e ∷ e' ∷ places τs bs E) 2 τs bs vs ty (next 𝓤 H e (e' ∷ places τs bs E) 1 τs bs (next 𝓤 H e' (places τs bs E) 0 τs bs (first 𝓤 H τs bs E))))

  -- a place in a local past the parameters, where two locals stand before them
  pub past_walks : K → (j : ℕ) (e e' : Ty × ℕ) (τs : List Ty) (bs : Blocks τs) (E : Env 𝓤 H) {Γ : List (Item 𝓤)} {st : List PStep} {sp : Spot 𝓤 H}
      → Walks K 𝓛 Γ (e ∷ e' ∷ places τs bs E) (spot_of 𝓤 H E j) st sp → Finds K 𝓛 Γ (e ∷ e' ∷ places τs bs E) (place (suc (past j τs)) st) sp
  past_walks t j e e' τs bs E {Γ} {st} {sp} w =
      from t (subst (λ (at : Spot 𝓤 H). Walks K 𝓛 Γ (e ∷ e' ∷ places τs bs E) at st sp) (sym (past_spot 𝓤 H j e' τs bs E)) w)

  pub past_finds : K → (j : ℕ) (e : Ty × ℕ) (τs : List Ty) (bs : Blocks τs) (E : Env 𝓤 H) {Γ : List (Item 𝓤)}
      → Finds K 𝓛 Γ (e ∷ places τs bs E) (place (past j τs) []) (spot_of 𝓤 H E j)
  past_finds t j e τs bs E {Γ} = subst (λ (sp : Spot 𝓤 H). Finds K 𝓛 Γ (e ∷ places τs bs E) (place (past j τs) []) sp) (past_spot 𝓤 H j e τs bs E) (from t (stop t))
