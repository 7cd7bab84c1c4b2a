-- Calls that hand a part back, for any data as parameters: each calls a function that gives the outcome, then one that gives the part, on the outcome and the same parameters, and makes a struct of the two. The outcome is data of any type, and the part is a `&[T]` at any of the call's lifetimes.
--     asks         a call of a function whose parameters can be copied: what they own is had twice, once for the call and once for what follows
--     declared, code           the locals and the body of such a call
--     OutcomeSays, PartSays    the contracts of the two functions: the first says `Told` of the outcome, and the second requires that and says `Cut` of the part
--     walk         the walk through the code.        hands       the call meets its contract
-- All that is known of the two functions is that each meets its contract.
-- `asks` assumes `Logic`, and that the table of calls is monotone under a frame; the rest is for every `Model` and every `Running`.
use mathlib.Core.Path.{◌≡◌, refl, sym, subst}
use mathlib.Core.List.{List, [], ◌∷◌}
use Prim.Native.Nat.{ℕ}
use seplogic.Ra.Ura.{Ura}
use mir.Syntax.{Callee, Sym, Lifetime, named, erased, Ty, Place, place, Opd as Operand, copy, aggregate, Body, seq, assign, return, call, Local, local, value_local, Fn}
use mir.Val.{Val}
use base.Logic.{SProp, ent, sep, emp, via, fst∗, snd∗, ex_e, comm∗, mono_l, emp∗, id⊢}
use base.Fml.{Fml}
use prog.Wp.{Env, Calls, Loops, WpFn, Tables, Closed}
use prog.Model.{Model}
use prog.Routine.{Routine, Env as Means}
use types.Logic.{Logic, sem}
use contract.Lifetimes.{Lfts, Within, lft_at, Shares, toks, AllOutlive}
use contract.Monad.{fact, fact_i}
use contract.Running.{Running, tables, tables_of}
use types.Kit.{Item, ‵, raw, ◌⊛◌, some, later, ⋆, Post, at_ret, runs, lands, allocs, params', Seq, ◌$◌, ◌∵◌, !, qed, by, move, drop, use0, use1, use2, split, join, pick, fsplit, fjoin, suffices, regoal, frame, await, done}
use types.Part.{agg}
use types.Run.{Opds, look, init, forget, stop, from, load, and_then, no_more, assigns, land, returns, enter, alloc1, alloc0, params1, free1, free0}
use sound.WpLaws.{FmC, fm_of, WpFn-mono}
use denote.RattleType.{RattleType, Denots, Valss, mirs, flat, owns}
use denote.Exit.{yes}
use denote.Laws.{Is, shows, valss, Typed, all_Typed}
use denote.Ref.{NamedLft, Bor}
use denote.Signature.{Slot, Signature, named_lft, plain, shr_slice_of, type_at, types_at}
use denote.Signature.Struct.{makes}
use denote.Slice.{ShrSlice}
use denote.Steps.{peeks, heard, nothing}
use denote.Struct.Struct.{Copies, twices}
use denote.Triple.Statement.{Contract, Triple}
use denote.Triple.Call.{calls_at}
use denote.Triple.End.{all}
use denote.Triple.Entry.{Args, Vals, Res, alive}
use denote.Triple.Clauses.{Ended, Clauses, AtExit, at_exit, lasts, ensured, closing}
use denote.Triple.Spec.{triple_of, Meets}
use denote.Triple.Table.{entered, cited}
use denote.Triple.Walked.{Stays, has_of, walk_of, ends_at, walked, walk_Meets}
use Rattle.handed.proofs.Locals.{homes, copies, past, past_finds, alloc_all, pass_all, free_all, reads_all}
use Rattle.handed.proofs.Data.{Data, Fits, fits, slice_fits, part_ty}
use Rattle.handed.proofs.Params as params
use Rattle.handed.proofs.Structs.{Pair, pair, two, two_fits}

-- The caller shows what the callee requires, and learns φ of the result and that its machine value u is one of its type.
module _ {M : Type 1} {𝓤 : Ura M} {𝓛 : Logic 𝓤} {K : Type 0} {Γ : List (Item 𝓤)} {E : Env 𝓤 𝓛.H} {C : Calls 𝓤 𝓛.H} {Λ : Loops 𝓤 𝓛.H} {q : Post 𝓤 𝓛.H} {f : Callee} {xs : List Operand} {d : Place} {rest : Body} where
  open 𝓛 use {H}

  asks : K → FmC 𝓤 H 𝓛.laws C → (T : Ended) (c : Clauses 𝓤 T) → Triple 𝓤 (C f) (triple_of 𝓛 T.signature (closing 𝓛 T c))
      → (κs : Lfts T.signature.lifetimes) (qs : Shares T.signature.lifetimes) (bounds : AllOutlive T.signature.lifetimes T.signature.outlives κs)
      → (a : Args T.signature κs) (vss : Vals T.signature κs) (g : (c κs a).ghost)
      → Copies 𝓛 (types_at T.signature.params κs) → ent 𝓤 (emp 𝓤) ((c κs a).requires g)
      → (φ : Res T.signature κs → Type 0) → ((r : Res T.signature κs) (e : AtExit T κs) → ent 𝓤 ((c κs a).ensures g r e) (fact 𝓤 (φ r)))
      → Opds K 𝓛 (raw ((triple_of 𝓛 T.signature (closing 𝓛 T c)).pre ((κs, qs, bounds, a, vss), g)) ∷ ‵ (owns (types_at T.signature.params κs) a vss) ∷ Γ) E xs (flat (types_at T.signature.params κs) vss)
      → ((u : Val) (r : Res T.signature κs) → φ r → Is (type_at T.signature.result κs) r (u ∷ [])
      → Seq K 𝓛 (‵ ((type_at T.signature.result κs).own_val r (u ∷ [])) ∷ raw (alive 𝓛 T.signature κs qs) ∷ ‵ (owns (types_at T.signature.params κs) a vss) ∷ Γ) (lands C Λ E d u rest q))
      → Seq K 𝓛 (raw (alive 𝓛 T.signature κs qs) ∷ ‵ (owns (types_at T.signature.params κs) a vss) ∷ Γ) (runs C Λ E (seq (call f xs d) rest) q)
  asks t fm T c met κs qs bounds a vss g copied required φ said opds k =
      let S : Signature = T.signature in
      let Ts : List RattleType = types_at S.params κs in
      let R : RattleType = type_at S.result κs in
      let own = owns Ts a vss in
      let contract : Contract 𝓤 = triple_of 𝓛 S (closing 𝓛 T c) in
      let x : contract.Ghost = ((κs, qs, bounds, a, vss), g) in
      let entry : SProp 𝓤 = sep 𝓤 (alive 𝓛 S κs qs) (sem 𝓛 own) in
      let needed : SProp 𝓤 = (c κs a).requires g in
      move t (1 ∷ []) $ use1 𝓛 (‵ own ⊛ ‵ own) (twices 𝓛 Ts copied a vss) $ split t $ move t (2 ∷ 0 ∷ []) $
      use2 𝓛 (raw (contract.pre x)) (via 𝓤 (sep 𝓤 (emp 𝓤) entry) (emp∗ 𝓤 entry) (via 𝓤 (sep 𝓤 needed entry) (mono_l 𝓤 entry required) (comm∗ 𝓤 needed entry))) $
      calls_at t fm contract met x opds (λ u.
      use1 𝓛 (later (some (λ (r : Res S κs). (raw (alive 𝓛 S κs qs) ⊛ ‵ (R.own_val r (u ∷ []))) ⊛ raw (ensured 𝓛 T c κs a g r)))) (id⊢ 𝓤 _) $ await t tt $ pick t (λ r.
      split t $ move t (1 ∷ []) $ use1 𝓛 (raw (fact 𝓤 (φ r))) (ex_e 𝓤 _ (λ ws. via 𝓤 _ (snd∗ 𝓤 (sem 𝓛 (lasts T κs a ws)) ((c κs a).ensures g r (at_exit T κs a ws))) (said r (at_exit T κs a ws)))) $
      heard t (φ r) (λ e. split t $ move t (1 ∷ []) $ peeks t R (Is R) (shows 𝓛 R) r (u ∷ []) (λ is. k u r e is))))

-- the result; the parameters; the outcome; the part. ν is the struct's name, σ the outcome's type, j the part's lifetime and Q the type of its elements
abbrev declared : List Ty → Sym → Ty → ℕ → RattleType → List Local
declared τs ν σ j Q = local (pair ν σ (part_ty (named j) Q)) value_local ∷ homes τs (local σ value_local ∷ local (part_ty erased Q) value_local ∷ [])

abbrev code : List Ty → Callee → Callee → Body
code τs f g =
    seq (call f (copies 1 τs) (place (past 0 τs) []))
    (seq (call g (copy (place (past 0 τs) []) ∷ copies 1 τs) (place (past 1 τs) []))
    (seq (assign (place 0 []) (aggregate (copy (place (past 0 τs) []) ∷ copy (place (past 1 τs) []) ∷ []))) return))

-- the signatures, with what is kept at exit: of the function that gives the outcome, of the one that gives the part, and of the call
module _ {n : ℕ} (ss : List (Slot n)) where
  abbrev ForOutcome : RattleType → Ended
  ForOutcome O = record { signature = record { lifetimes = n; outlives = []; params = ss; result = plain (λ _. O) }; kept = all yes ss }

  abbrev ForPart : RattleType → Slot n → Ended
  ForPart O B = record { signature = record { lifetimes = n; outlives = []; params = plain (λ _. O) ∷ ss; result = B }; kept = (yes, all yes ss) }

  abbrev ForBoth : Slot n → Ended
  ForBoth P = record { signature = record { lifetimes = n; outlives = []; params = ss; result = P }; kept = all yes ss }

-- the slots of the part and of the struct
module _ (n j : ℕ) (ok : Within n j) where
  abbrev Part : RattleType → Slot n
  Part Q = shr_slice_of (j ∷ []) ok (plain (λ _. Q))

  abbrev Whole : (NamedLft → RattleType) → Slot n
  Whole P = plain (λ κs. P (named_lft n j ok κs))

module _ {M : Type 1} {𝓤 : Ura M} (𝓛 : Logic 𝓤) (𝓜 : Model 𝓤 𝓛.H) (𝓡 : Running 𝓤 𝓛.H 𝓜) {n : ℕ} (j : ℕ) (ok : Within n j) {O Q : RattleType} {P : NamedLft → RattleType} (outcome : Data O) (struct : Pair P O Q) (ν : Sym)
    (ss : List (Slot n)) (ps : params.Params ss) (Told : (κs : Lfts n) → Denots (types_at ss κs) → O.Denot → Type 0) (Cut : (κs : Lfts n) → Denots (types_at ss κs) → Bor (List Q.Denot) → Type 0) where
  open 𝓛 use {H}

  abbrev OutcomeSays : Clauses 𝓤 (ForOutcome ss O)
  OutcomeSays κs a = record { ghost = Unit {0}; requires = λ _. emp 𝓤; ensures = λ _ o e. fact 𝓤 (Told κs a o) }

  abbrev PartSays : Clauses 𝓤 (ForPart ss O (Part n j ok Q))
  PartSays κs a = record { ghost = Unit {0}; requires = λ _. fact 𝓤 (Told κs a.1 a.0); ensures = λ _ b e. fact 𝓤 (Cut κs a.1 b) }

  -- as triples: what the walk knows of the two
  abbrev OutcomeOf : Contract 𝓤
  OutcomeOf = triple_of 𝓛 (ForOutcome ss O).signature (closing 𝓛 (ForOutcome ss O) OutcomeSays)

  abbrev PartOf : Contract 𝓤
  PartOf = triple_of 𝓛 (ForPart ss O (Part n j ok Q)).signature (closing 𝓛 (ForPart ss O (Part n j ok Q)) PartSays)

  module _ (κs : Lfts n) (C : Calls 𝓤 H) (Λ : Loops 𝓤 H) (fm : FmC 𝓤 H 𝓛.laws C) (f g : Callee) (known-outcome : Triple 𝓤 (C f) OutcomeOf) (known-part : Triple 𝓤 (C g) PartOf)
      (a : Denots (types_at ss κs)) (qs : Shares n) (vss : Valss (types_at ss κs)) (are : Typed (mirs (types_at ss κs)) (flat (types_at ss κs) vss)) (Kf : Val → SProp 𝓤)
      (returned : (o : O.Denot) (b : Bor (List Q.Denot)) (u v : Val) → Told κs a o → Cut κs a b
      → ent 𝓤 (sep 𝓤 (toks 𝓛 n κs qs) (sem 𝓛 ((P (named_lft n j ok κs)).own_val (struct.made (named_lft n j ok κs) o b) (two u v ∷ [])))) (Kf (two u v))) where
    abbrev Ts : List RattleType
    Ts = types_at ss κs

    abbrev B : RattleType
    B = ShrSlice (named j) (lft_at n j ok κs) Q

    leaves : (o : O.Denot) (b : B.Denot) (u v : Val) → Told κs a o → Cut κs a b
        → ent 𝓤 (⋆ 𝓛 (‵ (B.own_val b (v ∷ [])) ∷ raw (toks 𝓛 n κs qs) ∷ ‵ (owns (O ∷ Ts) (o, a) (u ∷ [], vss)) ∷ [])) (Kf (two u v))
    leaves o b u v e e' =
        qed 𝓛 (‵ (B.own_val b (v ∷ [])) ∷ raw (toks 𝓛 n κs qs) ∷ ‵ (owns (O ∷ Ts) (o, a) (u ∷ [], vss)) ∷ []) ∵
        suffices ! _ (returned o b u v e e') $ move ! (1 ∷ []) $ frame ! $ move ! (1 ∷ []) $ fsplit ! $ move ! (1 ∷ []) $ drop ! $
        -- [what o owns; what b owns]
        nothing ! $ move ! (2 ∷ 0 ∷ []) $ fjoin ! $ move ! (1 ∷ 0 ∷ []) $ fjoin ! $
        by ! (subst (λ (F : Fml). ent 𝓤 (sem 𝓛 (owns (O ∷ B ∷ []) (o, (b, tt)) (u ∷ [], (v ∷ [], tt)))) (sem 𝓛 F)) (sym (struct.makes (named_lft n j ok κs) o b (two u v)))
        (makes 𝓛 (O ∷ B ∷ []) (owns (O ∷ B ∷ []) (o, (b, tt))) (u ∷ [], (v ∷ [], tt))))

    part_fits : (ℓ : Lifetime) (b : B.Denot) (v : Val) → Is B b (v ∷ []) → Fits (part_ty ℓ Q) v
    part_fits ℓ = slice_fits ℓ (lft_at n j ok κs) Q 𝓛

    walk : {K : Type 0} → K → Seq K 𝓛 (raw (toks 𝓛 n κs qs) ∷ ‵ (owns Ts a vss) ∷ [])
        (allocs (declared (mirs Ts) ν outcome.ty j Q) (λ E. params' E (flat Ts vss) (runs C Λ E (code (mirs Ts) f g) (at_ret E Kf))))
    walk t =
        let τs : List Ty = mirs Ts in
        let vs : List Val = flat Ts vss in
        let result : Ty = pair ν outcome.ty (part_ty (named j) Q) in
        alloc1 t (λ l₀. alloc_all t τs (λ bs. alloc1 t (λ l₁. alloc1 t (λ l₂.
        let E : Env 𝓤 H = (outcome.ty, l₁) ∷ (part_ty erased Q, l₂) ∷ [] in
        alloc0 t $ params1 t $ move t (4 ∷ []) $ pass_all t τs bs vs are E $ move t (7 ∷ 8 ∷ []) $
        -- [the tokens; what the parameters own; the parameters; room for the part; …; room for the outcome; …; room for the result; …]
        asks t fm (ForOutcome ss O) OutcomeSays known-outcome κs qs tt a vss tt (params.copies 𝓛 Ts (ps κs)) (id⊢ 𝓤 (emp 𝓤)) (Told κs a) (λ o e. id⊢ 𝓤 (fact 𝓤 (Told κs a o)))
        (reads_all t (result, l₀) E τs bs vs are) (λ u o e is.
        -- [what the outcome owns; the tokens; what the parameters own; the parameters; room for the part; …; room for the outcome; …; room for the result; …]
        land t (past_finds t 0 (result, l₀) τs bs E) (init t 6 refl (fits outcome 𝓛 o u is)) $ move t (0 ∷ 2 ∷ []) $ fjoin t $ move t (1 ∷ 0 ∷ []) $
        asks t fm (ForPart ss O (Part n j ok Q)) PartSays known-part κs qs tt (o, a) (u ∷ [], vss) tt (params.copies 𝓛 (O ∷ Ts) (outcome, ps κs)) (fact_i 𝓤 (Told κs a o) (emp 𝓤) e) (Cut κs a) (λ b e'. id⊢ 𝓤 (fact 𝓤 (Cut κs a b)))
        (and_then t (load t (past_finds t 0 (result, l₀) τs bs E) (look t 5 refl)) (reads_all t (result, l₀) E τs bs vs are)) (λ v b e' is'.
        -- [what the part owns; the tokens; what the outcome and the parameters own; the parameters; room for the part; …; the outcome; …; room for the result; …]
        land t (past_finds t 1 (result, l₀) τs bs E) (init t 4 refl (part_fits erased b v is')) $
        assigns t (agg t (and_then t (load t (past_finds t 0 (result, l₀) τs bs E) (look t 6 refl)) (and_then t (load t (past_finds t 1 (result, l₀) τs bs E) (look t 4 refl)) (no_more t))))
        (from t (stop t)) (init t 8 refl (two_fits ν outcome.ty (part_ty (named j) Q) u v (fits outcome 𝓛 o u is) (part_fits (named j) b v is'))) $
        returns t (look t 8 refl) $ forget t 8 refl $ move t (8 ∷ 9 ∷ []) $ free1 t $ move t (3 ∷ []) $ free_all t τs bs vs are E $
        -- [what the part owns; the tokens; what the outcome and the parameters own; the part; …; the outcome; …]
        forget t 5 refl $ move t (5 ∷ 6 ∷ []) $ free1 t $ forget t 3 refl $ move t (3 ∷ 4 ∷ []) $ free1 t $ free0 t $ by t (leaves o b u v e e')))))))

  module _ (k : Clauses 𝓤 (ForBoth ss (Whole n j ok P))) where
    abbrev T : Ended
    T = ForBoth ss (Whole n j ok P)

    -- nothing is had of the parameters at exit
    abbrev hs : Stays ss (all yes ss)
    hs = params.dropped ss (all yes ss)

    -- a walk ends with the tokens and the struct r
    ends : (κs : Lfts n) (qs : Shares n) (bounds : AllOutlive n [] κs) (a : Denots (types_at ss κs)) (vss : Valss (types_at ss κs)) (h : (k κs a).ghost) (r : (P (named_lft n j ok κs)).Denot) (v : Val)
        → ent 𝓤 (emp 𝓤) ((k κs a).ensures h r (at_exit T κs a (params.finished κs ss (ps κs) a)))
        → ent 𝓤 (sep 𝓤 (toks 𝓛 n κs qs) (sem 𝓛 ((P (named_lft n j ok κs)).own_val r (v ∷ [])))) ((walk_of 𝓛 T hs k).post ((κs, qs, bounds, a, vss), h) v)
    ends κs qs bounds a vss h r v shown =
        let ws = params.finished κs ss (ps κs) a in
        qed 𝓛 (raw (toks 𝓛 n κs qs) ∷ ‵ ((P (named_lft n j ok κs)).own_val r (v ∷ [])) ∷ []) ∵
        suffices ! _ (ends_at 𝓛 T hs k ((κs, qs, bounds, a, vss), h) v r ws (params.fits κs ss (all yes ss) a ws)) $
        use0 𝓛 (raw ((k κs a).ensures h r (at_exit T κs a ws))) shown $ use0 𝓛 (‵ (has_of κs ss (all yes ss) hs a ws vss)) (params.none_had 𝓛 κs ss (all yes ss) a ws vss) $
        -- [what is had of the parameters; the clause; the tokens; the struct]
        move ! (0 ∷ 3 ∷ []) $ join ! $ move ! (2 ∷ 0 ∷ []) $ join ! $ frame ! $ done !

    -- the contract k says of the struct what the two functions say of its fields
    abbrev Shown : Type 1
    Shown = (κs : Lfts n) (a : Denots (types_at ss κs)) (h : (k κs a).ghost) (e : AtExit T κs) (o : O.Denot) (b : Bor (List Q.Denot))
        → ent 𝓤 (fact 𝓤 (Told κs a o × Cut κs a b)) ((k κs a).ensures h (struct.made (named_lft n j ok κs) o b) e)

    -- fn is such a call, of f and g
    abbrev IsCall : Fn → Callee → Callee → Type 0
    IsCall fn f g = (κs : Lfts n) → ◌≡◌ {A = List Local × Body} (fn.locals, fn.body) (declared (mirs (types_at ss κs)) ν outcome.ty j Q, code (mirs (types_at ss κs)) f g)

    meets : Shown → (𝓣 : Tables 𝓤 H) (f g : Callee) → Triple 𝓤 (𝓣.C f) OutcomeOf → Triple 𝓤 (𝓣.C g) PartOf → (fn : Fn) → IsCall fn f g → Meets 𝓛 T.signature (WpFn 𝓤 H 𝓣.C 𝓣.Λ fn) (closing 𝓛 T k)
    meets shown 𝓣 f g known-outcome known-part fn is =
        walk_Meets 𝓛 T hs (params.goes 𝓛 ss ps) k (WpFn 𝓤 H 𝓣.C 𝓣.Λ fn) (WpFn-mono 𝓤 H 𝓛.laws 𝓣 fn)
        (walked 𝓛 T hs k (WpFn 𝓤 H 𝓣.C 𝓣.Λ fn) (λ κs. params.spells (types_at ss κs) (ps κs)) (λ κs. params.all_tell (types_at ss κs) (ps κs))
        (λ κs qs bounds a h are.
        let Ts : List RattleType = types_at ss κs in
        let vss : Valss Ts = valss Ts (params.spells Ts (ps κs)) a in
        let Kf : Val → SProp 𝓤 = (walk_of 𝓛 T hs k).post ((κs, qs, bounds, a, vss), h) in
        via 𝓤 _ (fst∗ 𝓤 _ ((k κs a).requires h))
        (qed 𝓛 (raw (toks 𝓛 n κs qs) ∷ ‵ (owns Ts a vss) ∷ []) ∵ enter ! 𝓣.C 𝓣.Λ fn (flat Ts vss) Kf $
        regoal ! (λ (x : List Local × Body). allocs x.0 (λ E. params' E (flat Ts vss) (runs 𝓣.C 𝓣.Λ E x.1 (at_ret E Kf)))) (is κs) refl $
        walk κs 𝓣.C 𝓣.Λ (fm_of 𝓤 H 𝓛.laws 𝓣) f g known-outcome known-part a qs vss (all_Typed 𝓛 Ts (params.lawfuls 𝓛 Ts (ps κs)) a vss are) Kf
        (λ o b u v e e'. ends κs qs bounds a vss h (struct.made (named_lft n j ok κs) o b) (two u v)
        (via 𝓤 _ (fact_i 𝓤 (Told κs a o × Cut κs a b) (emp 𝓤) (e, e')) (shown κs a h (at_exit T κs a (params.finished κs ss (ps κs) a)) o b))) !)))

    -- fn is the code of the call c, and γ says what the calls in it mean
    pub hands : (γ : Means) (c : Callee) (fn : Fn) → Closed 𝓤 H (tables 𝓤 H 𝓜 𝓡 γ).C (tables 𝓤 H 𝓜 𝓡 γ).Λ c fn
        → (f : Callee) (r : Routine) → γ f ≡ r → Triple 𝓤 (𝓡.run r) OutcomeOf
        → (g : Callee) (s : Routine) → γ g ≡ s → Triple 𝓤 (𝓡.run s) PartOf
        → Shown → IsCall fn f g → Meets 𝓛 T.signature (𝓡.run (γ c)) (closing 𝓛 T k)
    unfolding tables_of
    hands γ c fn closed f r means-f met-f g s means-g met-g shown is =
        entered 𝓤 H _ (tables 𝓤 H 𝓜 𝓡 γ).C (tables 𝓤 H 𝓜 𝓡 γ).Λ c fn closed
        (meets shown (tables_of 𝓤 H 𝓜 (tables 𝓤 H 𝓜 𝓡 γ)) f g (cited 𝓤 H _ 𝓜 𝓡 γ f r means-f met-f) (cited 𝓤 H _ 𝓜 𝓡 γ g s means-g met-g) fn is)
