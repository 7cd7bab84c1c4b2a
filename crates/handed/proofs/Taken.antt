-- Functions that take apart what a call hands back, for any data as parameters. Each is lent a buffer, calls a function on its other parameters, which gives a struct of two fields, the second a `&[T]`, and passes the buffer and the two fields to another function.
--     declared, code       the locals and the body of such a function.        walk      the walk through the code
--     Hands                what the first function gives.        asks      a function that requires nothing gives it
--     ForFields, FieldsSay the signature and the contract of the second function: it says `Said` of its parameters and the result
--     ForTaking            the signature of such a function.        takes_apart     it meets its contract
-- All that is known of the two functions is that each meets its contract. The lifetimes are the buffer's, the part's, and m others: the first function has all but the buffer's, and the part's is its first.
-- `walk` assumes `Logic`, and that the table of calls is monotone under a frame; the rest is for every `Model` and every `Running`.
use mathlib.Core.Path.{◌≡◌, refl, sym, ap, subst}
use mathlib.Core.List.{List, [], ◌∷◌}
use Prim.Native.Nat.{ℕ, suc, ◌<◌, ◌^◌}
use seplogic.Ra.Ura.{Ura}
use lib.ListN.{length}
use mir.Syntax.{Callee, Sym, Lifetime, named, erased, mut, Ty, ty_ref, field, deref, place, copy, rv_opd, addr_of, aggregate, Body, seq, assign, return, call, Local, local, value_local, Fn}
use mir.Val.{Val}
use base.Logic.{SProp, ent, sep, ex, emp, via, fst∗, id⊢}
use base.Fml.{Fml, ftrue}
use prog.Wp.{Env, Calls, Loops, WpFn, Tables, Closed}
use prog.Model.{Model}
use prog.Routine.{Routine, Env as Means}
use types.Logic.{Logic, sem}
use contract.Lifetimes.{Lfts, Shares, toks, AllOutlive}
use contract.Monad.{Fun, fact, fact_i}
use contract.Running.{Running, tables, tables_of}
use types.Kit.{‵, raw, ◌⊛◌, some, later, ⋆, at_ret, runs, lands, allocs, params', Seq, ◌$◌, ◌∵◌, !, qed, by, move, keep, drop, use0, use1, use2, split, split3, join, group, pick, fsplit, fjoin, suffices, regoal, frame, await, updating, now as at_once, show, done}
use types.Part.{agg, whole, sub, look_in}
use types.Run.{look, init, forget, stop, hop, fld, from, load, addr, of_opd, and_then, no_more, assigns, land, returns, enter, alloc1, alloc0, params1, pass1, free1, free0}
use sound.WpLaws.{FmC, fm_of, WpFn-mono}
use denote.RattleType.{RattleType, Denots, Valss, mirs, flat, owns}
use denote.Exit.{Kept, yes, Last, left}
use denote.Laws.{Is, Ises, Spells, Tellss, shows, valss, Typed, all_Typed}
use denote.Memory.{pointee}
use denote.Ref.{NamedLft, Bor, MutBor}
use denote.Signature.{Slot, named_lft, plain, mut_slice_of, shr_slice_of, type_at, types_at}
use denote.Signature.Struct.{are_all, takes}
use denote.Slice.{slice_ty, slice_val, shr_slice_vals, shr_slice_Tells, mut_slice_vals, mut_slice_Tells}
use denote.Steps.{only, peeks, heard, nothing}
use denote.Struct.Struct.{Shape, Struct, Struct-Tells}
use denote.Triple.Statement.{Contract, Triple}
use denote.Triple.Call.{calls_from}
use denote.Triple.Entry.{Args, Vals, on_entry}
use denote.Triple.End.{all}
use denote.Triple.Clauses.{Ended, Clauses, AtExit, Lasts, at_exit, lasts, ensured, closing}
use denote.Triple.Spec.{triple_of, Meets}
use denote.Triple.Table.{entered, cited, run_framed}
use denote.Triple.Walked.{says, Stay, Stays, has_of, walk_of, ends_at, walked, walk_Meets}
use Rattle.handed.proofs.Locals.{homes, places, copies, past, alloc_all, pass_all, free_all, reads_second, past_walks}
use Rattle.handed.proofs.Data.{Data, Fits, fits, slice_fits, part_ty}
use Rattle.handed.proofs.Params as params
use Rattle.handed.proofs.Structs.{Pair, pair, two, two_fits}

-- the type of a buffer of elements ε, as a parameter and as a local
abbrev lent : Lifetime → Ty → Ty
lent ℓ ε = slice_ty (ty_ref ℓ mut ε)

-- the result; the buffer; the other parameters; the struct; the buffer's pointer; the buffer lent again; the two fields
abbrev declared : List Ty → Ty → Ty → Sym → Ty → Ty → List Local
declared τs result ε ν σ τ =
    local result value_local ∷ local (lent (named 0) ε) value_local ∷ homes τs (local (pair ν σ τ) value_local ∷ local (ty_ref erased mut ε) value_local ∷ local (lent erased ε) value_local ∷ local σ value_local ∷ local τ value_local ∷ [])

-- what follows the first call
abbrev rest : List Ty → Ty → Callee → Body
rest τs ε g =
    seq (assign (place (suc (past 1 τs)) []) (addr_of (place 1 (field 0 ∷ deref ε ∷ []))))
    (seq (assign (place (suc (past 2 τs)) []) (aggregate (copy (place (suc (past 1 τs)) []) ∷ copy (place 1 (field 1 ∷ [])) ∷ [])))
    (seq (assign (place (suc (past 3 τs)) []) (rv_opd (copy (place (suc (past 0 τs)) (field 0 ∷ [])))))
    (seq (assign (place (suc (past 4 τs)) []) (rv_opd (copy (place (suc (past 0 τs)) (field 1 ∷ [])))))
    (seq (call g (copy (place (suc (past 2 τs)) []) ∷ copy (place (suc (past 3 τs)) []) ∷ copy (place (suc (past 4 τs)) []) ∷ []) (place 0 [])) return))))

abbrev code : List Ty → Ty → Callee → Callee → Body
code τs ε f g = seq (call f (copies 2 τs) (place (suc (past 0 τs)) [])) (rest τs ε g)

-- The walk knows of the first function that from P it gives the struct of u y and v y for some y, with Q y beside it, and of the second that from Q y it gives what the function is to give.
module _ {M : Type 1} {𝓤 : Ura M} (𝓛 : Logic 𝓤) (C : Calls 𝓤 𝓛.H) (Λ : Loops 𝓤 𝓛.H) (fm : FmC 𝓤 𝓛.H 𝓛.laws C) (f g : Callee)
    (τs : List Ty) (vs : List Val) (are : Typed τs vs) (result ε : Ty) (ν : Sym) (σ τ : Ty) (at : ℕ × ℕ) (n : ℕ) (short : n < 2 ^ 64)
    (Y : Type 0) (u v : Y → Val) (u-fits : (y : Y) → Fits σ (u y)) (v-fits : (y : Y) → Fits τ (v y))
    (P : SProp 𝓤) (Q : Y → SProp 𝓤) (Kf : Val → SProp 𝓤)
    (first : ent 𝓤 P (C f vs (λ w. 𝓛.H.⇛ (ex 𝓤 (λ (y : Y). sep 𝓤 (Q y) (fact 𝓤 (w ≡ two (u y) (v y))))))))
    (second : (y : Y) → ent 𝓤 (Q y) (C g (slice_val at n ∷ u y ∷ v y ∷ []) (λ w. 𝓛.H.⇛ (sep 𝓤 (Kf w) (fact 𝓤 (Fits result w)))))) where
  open 𝓛 use {H}

  lent_fits : (ℓ : Lifetime) → Fits (lent ℓ ε) (slice_val at n)
  lent_fits ℓ = (tt, (tt, (record { fits = short }, tt)))

  walk : {K : Type 0} → K → Seq K 𝓛 (raw P ∷ []) (allocs (declared τs result ε ν σ τ) (λ E. params' E (slice_val at n ∷ vs) (runs C Λ E (code τs ε f g) (at_ret E Kf))))
  walk t =
      alloc1 t (λ l₀. alloc1 t (λ l₁. alloc_all t τs (λ bs. alloc1 t (λ l₂. alloc1 t (λ l₃. alloc1 t (λ l₄. alloc1 t (λ l₅. alloc1 t (λ l₆.
      let e₀ : Ty × ℕ = (result, l₀) in
      let e₁ : Ty × ℕ = (lent (named 0) ε, l₁) in
      let E : Env 𝓤 H = (pair ν σ τ, l₂) ∷ (ty_ref erased mut ε, l₃) ∷ (lent erased ε, l₄) ∷ (σ, l₅) ∷ (τ, l₆) ∷ [] in
      alloc0 t $ params1 t $ pass1 t (init t 11 refl (lent_fits (named 0))) $ move t (10 ∷ []) $ pass_all t τs bs vs are E $ move t (15 ∷ []) $
      -- [P; the parameters; room for the second field; …; for the first; …; for the buffer lent again; …; for its pointer; …; for the struct; …; the buffer; …; room for the result; …]
      calls_from t fm (raw P) vs _ first (reads_second t e₀ e₁ E τs bs vs are) (λ w.
      use1 𝓛 (later (some (λ (y : Y). raw (Q y) ⊛ raw (fact 𝓤 (w ≡ two (u y) (v y)))))) (id⊢ 𝓤 _) $ await t tt $ pick t (λ y. split t $ move t (1 ∷ []) $ heard t (w ≡ two (u y) (v y)) (λ is.
      regoal t (λ (x : Val). lands C Λ (e₀ ∷ e₁ ∷ places τs bs E) (place (suc (past 0 τs)) []) x (rest τs ε g) (at_ret (e₀ ∷ e₁ ∷ places τs bs E) Kf)) is refl $
      land t (past_walks t 0 e₀ e₁ τs bs E (stop t)) (init t 10 refl (two_fits ν σ τ (u y) (v y) (u-fits y) (v-fits y))) $
      assigns t (addr t (from t (fld t refl (hop t (look_in t 12 (sub t 0 refl (whole t))) (stop t))))) (past_walks t 1 e₀ e₁ τs bs E (stop t)) (init t 8 refl (tt, tt)) $
      assigns t (agg t (and_then t (load t (past_walks t 1 e₀ e₁ τs bs E (stop t)) (look t 8 refl)) (and_then t (load t (from t (fld t refl (stop t))) (look_in t 12 (sub t 1 refl (whole t)))) (no_more t))))
      (past_walks t 2 e₀ e₁ τs bs E (stop t)) (init t 6 refl (lent_fits erased)) $
      assigns t (of_opd t (load t (past_walks t 0 e₀ e₁ τs bs E (fld t refl (stop t))) (look_in t 10 (sub t 0 refl (whole t))))) (past_walks t 3 e₀ e₁ τs bs E (stop t)) (init t 4 refl (u-fits y)) $
      assigns t (of_opd t (load t (past_walks t 0 e₀ e₁ τs bs E (fld t refl (stop t))) (look_in t 10 (sub t 1 refl (whole t))))) (past_walks t 4 e₀ e₁ τs bs E (stop t)) (init t 2 refl (v-fits y)) $
      -- [Q y; the parameters; the second field; …; the first; …; the buffer lent again; …; its pointer; …; the struct; …; the buffer; …; room for the result; …]
      calls_from t fm (raw (Q y)) (slice_val at n ∷ u y ∷ v y ∷ []) _ (second y)
      (and_then t (load t (past_walks t 2 e₀ e₁ τs bs E (stop t)) (look t 6 refl)) (and_then t (load t (past_walks t 3 e₀ e₁ τs bs E (stop t)) (look t 4 refl)) (and_then t (load t (past_walks t 4 e₀ e₁ τs bs E (stop t)) (look t 2 refl)) (no_more t)))) (λ x.
      use1 𝓛 (later (raw (Kf x) ⊛ raw (fact 𝓤 (Fits result x)))) (id⊢ 𝓤 _) $ await t tt $ split t $ move t (1 ∷ []) $ heard t (Fits result x) (λ ok.
      land t (from t (stop t)) (init t 14 refl ok) $ returns t (look t 14 refl) $ forget t 14 refl $ move t (14 ∷ 15 ∷ []) $ free1 t $ forget t 12 refl $ move t (12 ∷ 13 ∷ []) $ free1 t $
      move t (1 ∷ []) $ free_all t τs bs vs are E $
      -- [what the function is to give; the second field; …; the first; …; the buffer lent again; …; its pointer; …; the struct; …]
      forget t 9 refl $ move t (9 ∷ 10 ∷ []) $ free1 t $ forget t 7 refl $ move t (7 ∷ 8 ∷ []) $ free1 t $ forget t 5 refl $ move t (5 ∷ 6 ∷ []) $ free1 t $
      forget t 3 refl $ move t (3 ∷ 4 ∷ []) $ free1 t $ forget t 1 refl $ move t (1 ∷ 2 ∷ []) $ free1 t $ free0 t $ by t (id⊢ 𝓤 (Kf x)))))))))))))))

-- what is had of a buffer that was given up: what says its last value
abbrev given_up : {n : ℕ} (s : Slot n) (j : Kept) → Stay s j
given_up s j = record { fit = λ κs x w. Unit {0}; has = λ κs x w vs. left ((s.row κs).exit j) x w }

-- a buffer of elements E, at the first of a signature's lifetimes
abbrev buffer : (n : ℕ) → RattleType → Slot (suc n)
buffer n E = mut_slice_of (0 ∷ []) tt (plain (λ _. E))

-- a part of elements Q, at the second
abbrev part : RattleType → Slot 2
part Q = shr_slice_of (1 ∷ []) tt (plain (λ _. Q))

-- the lifetimes of the buffer and of the part
abbrev front : (m : ℕ) → Lfts (suc (suc m)) → Lfts 2
front m κs = (κs.0, (κs.1.0, tt))

abbrev front_shares : (m : ℕ) → Shares (suc (suc m)) → Shares 2
front_shares m qs = (qs.0, (qs.1.0, tt))

-- over the other parameters' slots, the types of the buffer's elements, of the result, of the first field and of the part's elements
abbrev ForTaking : (m : ℕ) → RattleType → RattleType → List (Slot (suc (suc m))) → Ended
ForTaking m E R ss = record { signature = record { lifetimes = suc (suc m); outlives = []; params = buffer (suc m) E ∷ ss; result = plain (λ _. R) }; kept = (yes, all yes ss) }

abbrev ForFields : RattleType → RattleType → RattleType → RattleType → Ended
ForFields E R O Q = record { signature = record { lifetimes = 2; outlives = []; params = buffer 1 E ∷ plain (λ _. O) ∷ part Q ∷ []; result = plain (λ _. R) }; kept = (yes, (yes, (yes, tt))) }

abbrev FieldsSay : {M : Type 1} (𝓤 : Ura M) (E R O Q : RattleType) → ((κs : Lfts 2) → Args (ForFields E R O Q).signature κs → R.Denot → Type 0) → Clauses 𝓤 (ForFields E R O Q)
FieldsSay 𝓤 E R O Q Said κs a = record { ghost = Unit {0}; requires = λ _. emp 𝓤; ensures = λ _ r e. fact 𝓤 (Said κs a r) }

module _ {M : Type 1} {𝓤 : Ura M} (𝓛 : Logic 𝓤) (𝓜 : Model 𝓤 𝓛.H) (𝓡 : Running 𝓤 𝓛.H 𝓜) where
  open 𝓛 use {H, A}

  -- some value of P, with w for its machine value, beside the tokens
  abbrev Handed : (n : ℕ) → Lfts n → Shares n → RattleType → Val → SProp 𝓤
  Handed n κs qs P w = H.⇛ (ex 𝓤 (λ (r : P.Denot). sep 𝓤 (toks 𝓛 n κs qs) (sem 𝓛 (P.own_val r (w ∷ [])))))

  -- from the tokens and what the parameters own, the routine f gives a value of P and the tokens
  abbrev Hands : Routine → (n : ℕ) → Lfts n → Shares n → (Ts : List RattleType) → Denots Ts → Valss Ts → RattleType → Type 1
  Hands f n κs qs Ts a vss P = ent 𝓤 (sep 𝓤 (toks 𝓛 n κs qs) (sem 𝓛 (owns Ts a vss))) (𝓡.run f (flat Ts vss) (Handed n κs qs P))

  pub asks : (f : Routine) (T : Ended) (c : Clauses 𝓤 T) → Triple 𝓤 (𝓡.run f) (triple_of 𝓛 T.signature (closing 𝓛 T c))
      → (κs : Lfts T.signature.lifetimes) (qs : Shares T.signature.lifetimes) (bounds : AllOutlive T.signature.lifetimes T.signature.outlives κs)
      → (a : Args T.signature κs) (vss : Vals T.signature κs) (h : (c κs a).ghost) → ent 𝓤 (emp 𝓤) ((c κs a).requires h)
      → Hands f T.signature.lifetimes κs qs (types_at T.signature.params κs) a vss (type_at T.signature.result κs)
  asks f T c known κs qs bounds a vss h required =
      let entry : SProp 𝓤 = on_entry 𝓛 T.signature κs qs a vss in
      let needed : SProp 𝓤 = (c κs a).requires h in
      let P : RattleType = type_at T.signature.result κs in
      let tokens : SProp 𝓤 = toks 𝓛 T.signature.lifetimes κs qs in
      let vs : List Val = flat (types_at T.signature.params κs) vss in
      let met : Val → SProp 𝓤 = (triple_of 𝓛 T.signature (closing 𝓛 T c)).post ((κs, qs, bounds, a, vss), h) in
      via 𝓤 (sep 𝓤 (𝓡.run f vs met) (emp 𝓤))
      (qed 𝓛 (raw entry ∷ []) ∵ use0 𝓛 (raw needed) required $ move ! (1 ∷ 0 ∷ []) $ use2 𝓛 (raw (𝓡.run f vs met)) (known ((κs, qs, bounds, a, vss), h)) $ frame ! $ nothing ! $ done !)
      (run_framed 𝓤 H 𝓜 𝓡 f vs met (Handed T.signature.lifetimes κs qs P) (emp 𝓤) (λ w.
      qed 𝓛 (later (some (λ (r : P.Denot). (raw tokens ⊛ ‵ (P.own_val r (w ∷ []))) ⊛ raw (ensured 𝓛 T c κs a h r))) ∷ ‵ ftrue ∷ []) ∵
      updating ! $ await ! tt $ pick ! (λ r. split ! $ at_once ! $ show ! (λ (r' : P.Denot). sep 𝓤 tokens (sem 𝓛 (P.own_val r' (w ∷ [])))) r $ split ! $ keep ! (0 ∷ 1 ∷ []) $ done !)))

  module _ (m : ℕ) (E : RattleType) {R O Q : RattleType} {P : NamedLft → RattleType} (result : Data R) (outcome : Data O) (struct : Pair P O Q) (ν : Sym) (ss : List (Slot (suc (suc m)))) (ps : params.Params ss)
      (Said : (κs : Lfts 2) → Args (ForFields E R O Q).signature κs → R.Denot → Type 0) (k : Clauses 𝓤 (ForTaking m E R ss)) where
    abbrev T : Ended
    T = ForTaking m E R ss

    abbrev F : Ended
    F = ForFields E R O Q

    -- nothing is had of the other parameters at exit
    abbrev hs : Stays T.signature.params T.kept
    hs = (given_up (buffer (suc m) E) yes, params.dropped ss (all yes ss))

    -- as a triple: what the walk knows of the second function
    abbrev FieldsOf : Contract 𝓤
    FieldsOf = triple_of 𝓛 F.signature (closing 𝓛 F (FieldsSay 𝓤 E R O Q Said))

    -- the contract k says of the result what the second function says, whatever the fields are
    abbrev Shown : Type 1
    Shown = (κs : Lfts (suc (suc m))) (a : Args T.signature κs) (h : (k κs a).ghost) (e : AtExit T κs) (o : O.Denot) (b : Bor (List Q.Denot)) (r : R.Denot)
        → ent 𝓤 (fact 𝓤 (Said (front m κs) (a.0, (o, (b, tt))) r)) ((k κs a).ensures h r e)

    -- fn is such a function, of f and g
    abbrev IsTaking : Fn → Callee → Callee → Type 0
    IsTaking fn f g = (κs : Lfts (suc (suc m))) → ◌≡◌ {A = List Local × Body} (fn.locals, fn.body)
        (declared (mirs (types_at ss κs)) result.ty (pointee E.written) ν outcome.ty (part_ty erased Q), code (mirs (types_at ss κs)) (pointee E.written) f g)

    module _ (shown : Shown) (κs : Lfts (suc (suc m))) (qs : Shares (suc (suc m))) (x : MutBor (List E.Denot)) (a : Denots (types_at ss κs)) (vss : Valss (types_at ss κs)) (h : (k κs (x, a)).ghost) where
      abbrev Ts : List RattleType
      Ts = types_at ss κs

      -- the buffer's machine value, what it owns, and what says its last value
      abbrev s : Val
      s = slice_val x.ref_ptr (length x.now)

      abbrev Lent : Fml
      Lent = ((buffer (suc m) E).row κs).own_val x (s ∷ [])

      abbrev Ended-at : Last (((buffer (suc m) E).row κs).exit yes) x → Fml
      Ended-at = left (((buffer (suc m) E).row κs).exit yes) x

      abbrev entry : SProp 𝓤
      entry = on_entry 𝓛 T.signature κs qs (x, a) (s ∷ [], vss)

      abbrev Post : Val → SProp 𝓤
      Post = (walk_of 𝓛 T hs k).post ((κs, qs, tt, (x, a), (s ∷ [], vss)), h)

      -- the tokens: of the buffer's lifetime, of the part's, and of the others
      abbrev t₀ : SProp 𝓤
      t₀ = A.lft κs.0 qs.0

      abbrev t₁ : SProp 𝓤
      t₁ = A.lft κs.1.0 qs.1.0

      abbrev t₂ : SProp 𝓤
      t₂ = toks 𝓛 m κs.1.1 qs.1.1

      ends : (o : O.Denot) (b : Bor (List Q.Denot)) (r : R.Denot) (w : Val) (last : Last (((buffer (suc m) E).row κs).exit yes) x) → Said (front m κs) (x, (o, (b, tt))) r
          → ent 𝓤 (⋆ 𝓛 (raw t₀ ∷ raw t₁ ∷ raw t₂ ∷ ‵ (Ended-at last) ∷ ‵ (R.own_val r (w ∷ [])) ∷ [])) (Post w)
      ends o b r w last said =
          let ws = params.finished κs ss (ps κs) a in
          let e : AtExit T κs = at_exit T κs (x, a) (last, ws) in
          qed 𝓛 (raw t₀ ∷ raw t₁ ∷ raw t₂ ∷ ‵ (Ended-at last) ∷ ‵ (R.own_val r (w ∷ [])) ∷ []) ∵
          suffices ! _ (ends_at 𝓛 T hs k ((κs, qs, tt, (x, a), (s ∷ [], vss)), h) w r (last, ws) (tt, params.fits κs ss (all yes ss) a ws)) $
          use0 𝓛 (raw ((k κs (x, a)).ensures h r e)) (via 𝓤 _ (fact_i 𝓤 (Said (front m κs) (x, (o, (b, tt))) r) (emp 𝓤) said) (shown κs (x, a) h e o b r)) $
          use0 𝓛 (‵ (has_of κs ss (all yes ss) (params.dropped ss (all yes ss)) a ws vss)) (params.none_had 𝓛 κs ss (all yes ss) a ws vss) $
          -- [what is had of the other parameters; the clause; the three tokens; what says the last value; the result]
          move ! (5 ∷ 0 ∷ []) $ fjoin ! $ move ! (0 ∷ 5 ∷ []) $ join ! $ move ! (3 ∷ 4 ∷ []) $ join ! $ move ! (3 ∷ 0 ∷ []) $ join ! $ join ! $ done !

      -- the part's lifetime as the struct has it, and the part's type as the second function has it
      abbrev own_lft : NamedLft
      own_lft = named_lft (suc m) 0 tt κs.1

      abbrev D : Type 0
      D = (P own_lft).Denot

      abbrev B : RattleType
      B = type_at (part Q) (front m κs)

      -- the struct as a type of its two fields, their values, and their machine values
      abbrev S : Shape
      S = record { name = ν; args = []; types = []; fields = O ∷ B ∷ [] }

      abbrev sp : Spells (O ∷ B ∷ [])
      sp = ((λ o. outcome.val o ∷ []), (shr_slice_vals, tt))

      abbrev tl : Tellss (O ∷ B ∷ []) (Ises (O ∷ B ∷ [])) sp
      tl = (outcome.tells, (shr_slice_Tells (named 1) κs.1.0 Q, tt))

      abbrev fields : D → Denots (O ∷ B ∷ [])
      fields r = (struct.fst own_lft r, (struct.snd own_lft r, tt))

      abbrev u : D → Val
      u r = outcome.val (struct.fst own_lft r)

      abbrev v : D → Val
      v r = slice_val (struct.snd own_lft r).ref_ptr (length (struct.snd own_lft r).now)

      abbrev Fields : D → Fml
      Fields r = owns (O ∷ B ∷ []) (fields r) (valss (O ∷ B ∷ []) sp (fields r))

      -- a struct that was handed back, and what stands beside the parameters once it is known
      abbrev Y : Type 0
      Y = (r : D) × (Fits outcome.ty (u r) × Fits (part_ty erased Q) (v r))

      abbrev Mid : Y → SProp 𝓤
      Mid y = ⋆ 𝓛 (raw t₀ ∷ raw (toks 𝓛 (suc m) κs.1 qs.1) ∷ ‵ Lent ∷ ‵ (Fields y.0) ∷ [])

      abbrev Parted : Val → SProp 𝓤
      Parted w = H.⇛ (ex 𝓤 (λ (y : Y). sep 𝓤 (Mid y) (fact 𝓤 (w ≡ two (u y.0) (v y.0)))))

      parts : (w : Val) → ent 𝓤 (sep 𝓤 (Handed (suc m) κs.1 qs.1 (P own_lft) w) (sep 𝓤 t₀ (sem 𝓛 Lent))) (Parted w)
      parts w =
          qed 𝓛 (later (some (λ (r : D). raw (toks 𝓛 (suc m) κs.1 qs.1) ⊛ ‵ ((P own_lft).own_val r (w ∷ [])))) ∷ (raw t₀ ⊛ ‵ Lent) ∷ []) ∵
          updating ! $ await ! tt $ pick ! (λ r. split ! $ move ! (1 ∷ []) $
          use1 𝓛 (‵ ((Struct S).own_val (fields r) (w ∷ []))) (subst (λ (X : Fml). ent 𝓤 (sem 𝓛 ((P own_lft).own_val r (w ∷ []))) (sem 𝓛 X)) (struct.takes own_lft r w) (id⊢ 𝓤 _)) $
          peeks ! (Struct S) (Is (Struct S)) (shows 𝓛 (Struct S)) (fields r) (w ∷ []) (λ is.
          let are = are_all S sp tl (fields r) (w ∷ []) is in
          let fit : Fits outcome.ty (u r) × Fits (part_ty erased Q) (v r) = (fits outcome 𝓛 (struct.fst own_lft r) (u r) are.0, slice_fits erased κs.1.0 Q 𝓛 (struct.snd own_lft r) (v r) are.1.0) in
          use1 𝓛 (‵ (Fields r)) (takes 𝓛 S sp tl (fields r) (w ∷ [])) $
          at_once ! $ show ! (λ (y : Y). sep 𝓤 (Mid y) (fact 𝓤 (w ≡ two (u y.0) (v y.0)))) (r, fit) $ says ! (ap only (Struct-Tells S sp tl (fields r) (w ∷ []) is)) $
          -- [what the fields own; the tokens; the buffer's token, and what it owns]
          move ! (2 ∷ []) $ split ! $ move ! (0 ∷ 3 ∷ []) $ done !))

      gives : (f : Routine) → Hands f (suc m) κs.1 qs.1 Ts a vss (P own_lft) → ent 𝓤 entry (𝓡.run f (flat Ts vss) Parted)
      gives f hands =
          let handed : Val → SProp 𝓤 = Handed (suc m) κs.1 qs.1 (P own_lft) in
          via 𝓤 (sep 𝓤 (𝓡.run f (flat Ts vss) handed) (sep 𝓤 t₀ (sem 𝓛 Lent)))
          (qed 𝓛 ((raw t₀ ⊛ raw (toks 𝓛 (suc m) κs.1 qs.1)) ∷ ‵ (owns (types_at (buffer (suc m) E ∷ ss) κs) (x, a) (s ∷ [], vss)) ∷ []) ∵
          split ! $ move ! (2 ∷ []) $ fsplit ! $ move ! (3 ∷ 1 ∷ []) $ use2 𝓛 (raw (𝓡.run f (flat Ts vss) handed)) hands $ frame ! $ move ! (1 ∷ []) $ done !)
          (run_framed 𝓤 H 𝓜 𝓡 f (flat Ts vss) handed Parted (sep 𝓤 t₀ (sem 𝓛 Lent)) parts)

      -- the call of the second function, at the buffer's own lifetime: the buffer is given up
      abbrev to : D → Args F.signature (front m κs)
      to r = (x, fields r)

      abbrev passed : D → FieldsOf.Ghost
      passed r = ((front m κs, front_shares m qs, tt, to r, (s ∷ [], (u r ∷ [], (v r ∷ [], tt)))), tt)

      asked : (r : D) → ent 𝓤 (⋆ 𝓛 (raw t₀ ∷ raw t₁ ∷ ‵ Lent ∷ ‵ (Fields r) ∷ [])) (FieldsOf.pre (passed r))
      asked r =
          qed 𝓛 (raw t₀ ∷ raw t₁ ∷ ‵ Lent ∷ ‵ (Fields r) ∷ []) ∵ move ! (2 ∷ 3 ∷ []) $ fjoin ! $ nothing ! $ nothing ! $
          -- [nothing; nothing; what the parameters own; the two tokens]
          move ! (4 ∷ 0 ∷ []) $ join ! $ move ! (3 ∷ 0 ∷ []) $ join ! $ move ! (0 ∷ 2 ∷ []) $ join ! $ done !

      abbrev Taken : Val → SProp 𝓤
      Taken w = H.⇛ (sep 𝓤 (Post w) (fact 𝓤 (Fits result.ty w)))

      took : (r : D) (w : Val) → ent 𝓤 (sep 𝓤 (FieldsOf.post (passed r) w) t₂) (Taken w)
      took r w =
          let c : Clauses 𝓤 F = FieldsSay 𝓤 E R O Q Said in
          qed 𝓛 (later (some (λ (z : R.Denot). ((raw t₀ ⊛ raw t₁ ⊛ ‵ ftrue) ⊛ ‵ (R.own_val z (w ∷ []))) ⊛ raw (ensured 𝓛 F c (front m κs) (to r) tt z))) ∷ raw t₂ ∷ []) ∵
          updating ! $ await ! tt $ pick ! (λ z. split ! $ move ! (1 ∷ []) $
          use1 𝓛 (some (λ (ws : Lasts F (front m κs) (to r)). ‵ (lasts F (front m κs) (to r) ws) ⊛ raw (fact 𝓤 (Said (front m κs) (to r) z)))) (id⊢ 𝓤 _) $ pick ! (λ ws. split ! $ move ! (1 ∷ []) $ heard ! (Said (front m κs) (to r) z) (λ said.
          fsplit ! $ move ! (1 ∷ []) $ drop ! $
          -- [what says the last value; the tokens and the result; the other tokens]
          move ! (1 ∷ []) $ split ! $ move ! (1 ∷ []) $ peeks ! R (Is R) (shows 𝓛 R) z (w ∷ []) (λ is. at_once ! $ says ! (fits result 𝓛 z w is) $ move ! (1 ∷ []) $ split3 ! $
          -- [the two tokens; nothing; the result; what says the last value; the other tokens]
          keep ! (0 ∷ 1 ∷ 5 ∷ 4 ∷ 3 ∷ []) $ by ! (ends (struct.fst own_lft r) (struct.snd own_lft r) z w ws.0 said)))))

      ends_in : (g : Routine) → Triple 𝓤 (𝓡.run g) FieldsOf → (y : Y) → ent 𝓤 (Mid y) (𝓡.run g (s ∷ u y.0 ∷ v y.0 ∷ []) Taken)
      ends_in g known y =
          let r : D = y.0 in
          let vs : List Val = s ∷ u r ∷ v r ∷ [] in
          via 𝓤 (sep 𝓤 (𝓡.run g vs (FieldsOf.post (passed r))) t₂)
          (qed 𝓛 (raw t₀ ∷ (raw t₁ ⊛ raw t₂) ∷ ‵ Lent ∷ ‵ (Fields r) ∷ []) ∵ move ! (1 ∷ []) $ split ! $ move ! (2 ∷ 0 ∷ 3 ∷ 4 ∷ []) $
          group ! 4 $ use1 𝓛 (raw (FieldsOf.pre (passed r))) (asked r) $ use1 𝓛 (raw (𝓡.run g vs (FieldsOf.post (passed r)))) (known (passed r)) $ done !)
          (run_framed 𝓤 H 𝓜 𝓡 g vs (FieldsOf.post (passed r)) Taken t₂ (took r))

      runs_so : (𝓣 : Tables 𝓤 H) (f g : Callee) → ent 𝓤 entry (𝓣.C f (flat Ts vss) Parted) → ((y : Y) → ent 𝓤 (Mid y) (𝓣.C g (s ∷ u y.0 ∷ v y.0 ∷ []) Taken))
          → length x.now < 2 ^ 64 → Typed (mirs Ts) (flat Ts vss) → (fn : Fn) → IsTaking fn f g → ent 𝓤 entry (WpFn 𝓤 H 𝓣.C 𝓣.Λ fn (s ∷ flat Ts vss) Post)
      runs_so 𝓣 f g first second short are fn is =
          qed 𝓛 (raw entry ∷ []) ∵ enter ! 𝓣.C 𝓣.Λ fn (s ∷ flat Ts vss) Post $
          regoal ! (λ (z : List Local × Body). allocs z.0 (λ E'. params' E' (s ∷ flat Ts vss) (runs 𝓣.C 𝓣.Λ E' z.1 (at_ret E' Post)))) (is κs) refl $
          walk 𝓛 𝓣.C 𝓣.Λ (fm_of 𝓤 H 𝓛.laws 𝓣) f g (mirs Ts) (flat Ts vss) are result.ty (pointee E.written) ν outcome.ty (part_ty erased Q) x.ref_ptr (length x.now) short
          Y (λ y. u y.0) (λ y. v y.0) (λ y. y.1.0) (λ y. y.1.1) entry Mid Post first second !

    -- fn is the code of c, and γ says what the calls in it mean
    pub takes_apart : (γ : Means) (c : Callee) (fn : Fn) → Closed 𝓤 H (tables 𝓤 H 𝓜 𝓡 γ).C (tables 𝓤 H 𝓜 𝓡 γ).Λ c fn
        → (f : Callee) (r : Routine) → γ f ≡ r
        → ((κs : Lfts (suc (suc m))) (qs : Shares (suc (suc m))) (a : Denots (types_at ss κs)) (vss : Valss (types_at ss κs)) → Hands r (suc m) κs.1 qs.1 (types_at ss κs) a vss (P (named_lft (suc m) 0 tt κs.1)))
        → (g : Callee) (s' : Routine) → γ g ≡ s' → Triple 𝓤 (𝓡.run s') FieldsOf → Shown → IsTaking fn f g → Meets 𝓛 T.signature (𝓡.run (γ c)) (closing 𝓛 T k)
    unfolding tables_of
    takes_apart γ c fn closed f r means-f hands g s' means-g known shown is =
        let 𝓣 : Tables 𝓤 H = tables_of 𝓤 H 𝓜 (tables 𝓤 H 𝓜 𝓡 γ) in
        let run : Fun 𝓤 = WpFn 𝓤 H 𝓣.C 𝓣.Λ fn in
        entered 𝓤 H _ (tables 𝓤 H 𝓜 𝓡 γ).C (tables 𝓤 H 𝓜 𝓡 γ).Λ c fn closed
        (walk_Meets 𝓛 T hs ((λ κs x w vs ok. 𝓛.laws.⇛_intro _), params.goes 𝓛 ss ps) k run (WpFn-mono 𝓤 H 𝓛.laws 𝓣 fn)
        (walked 𝓛 T hs k run (λ κs. (mut_slice_vals, params.spells (types_at ss κs) (ps κs))) (λ κs. (mut_slice_Tells (named 0) κs.0 E, params.all_tell (types_at ss κs) (ps κs)))
        (λ κs qs bounds xa h are.
        let x : MutBor (List E.Denot) = xa.0 in
        let a : Denots (types_at ss κs) = xa.1 in
        let vss : Valss (types_at ss κs) = valss (types_at ss κs) (params.spells (types_at ss κs) (ps κs)) a in
        via 𝓤 _ (fst∗ 𝓤 _ ((k κs xa).requires h))
        (runs_so shown κs qs x a vss h 𝓣 f g
        (subst (λ (r' : Routine). ent 𝓤 (entry shown κs qs x a vss h) (𝓡.run r' (flat (types_at ss κs) vss) (Parted shown κs qs x a vss h))) (sym means-f) (gives shown κs qs x a vss h r (hands κs qs a vss)))
        (ends_in shown κs qs x a vss h (γ g) (cited 𝓤 H _ 𝓜 𝓡 γ g s' means-g known))
        are.0.0.1.0 (all_Typed 𝓛 (types_at ss κs) (params.lawfuls 𝓛 (types_at ss κs) (ps κs)) a vss are.1) fn is))))
