-- Parameters that can be copied and that no function changes: what a walk asks of each, and of a list of them.
--     Datas Rs         each type of a list is data.        spells, all_tell, lawfuls, copies        the four laws of the list
--     Params ss        each slot of a list is, at any lifetimes
--     dropped, goes, finished, fits, none_had     nothing is had of a parameter at exit, and nothing is owed
-- The laws under a model assume `Logic`.
use mathlib.Core.Path.{◌≡◌, refl, sym, subst}
use mathlib.Core.List.{List, [], ◌∷◌}
use Prim.Native.Nat.{ℕ}
use seplogic.Ra.Ura.{Ura}
use base.Logic.{ent, emp, via, emp∗, mono_r, id⊢}
use base.Fml.{ftrue}
use types.Logic.{Logic, sem}
use contract.Lifetimes.{Lfts}
use denote.Exit.{Exit, yes, Last, left, unchanged}
use denote.RattleType.{RattleType, Denots, Valss}
use denote.Laws.{Ises, Tellss, Spells, Lawfuls}
use denote.Signature.{Slot, types_at}
use denote.Struct.Struct.{Copies}
use denote.Triple.End.{Kepts, Fins, all}
use denote.Triple.Walked.{Stays, stay_dropped, fits_of, has_of, AllGo, Goes-dropped}
use Rattle.handed.proofs.Data.{Data}

-- a type that is seen at exit as it was passed
still_last : {D : Type 0} (e : Exit D) → e ≡ unchanged → (x : D) → Last e x
still_last {D} e p x = subst (λ (e' : Exit D). Last e' x) (sym p) tt

still_silent : {D : Type 0} (e : Exit D) → e ≡ unchanged → (x : D) (f : Last e x) → left e x f ≡ ftrue
still_silent {D} e p x = subst (λ (e' : Exit D). (f : Last e' x) → left e' x f ≡ ftrue) (sym p) (λ f. refl)

-- for each of a list of types
abbrev pub Datas : List RattleType → Type 2
Datas [] = Unit {2}
Datas (R ∷ Rs) = Data R × Datas Rs

abbrev pub spells : (Rs : List RattleType) → Datas Rs → Spells Rs
spells [] ds = tt
spells (R ∷ Rs) ds = ((λ x. ds.0.val x ∷ []), spells Rs ds.1)

pub all_tell : (Rs : List RattleType) (ds : Datas Rs) → Tellss Rs (Ises Rs) (spells Rs ds)
all_tell [] ds = tt
all_tell (R ∷ Rs) ds = (ds.0.tells, all_tell Rs ds.1)

module _ {M : Type 1} {𝓤 : Ura M} (𝓛 : Logic 𝓤) where
  pub lawfuls : (Rs : List RattleType) → Datas Rs → Lawfuls 𝓛 Rs
  lawfuls [] ds = tt
  lawfuls (R ∷ Rs) ds = (ds.0.lawful 𝓛, lawfuls Rs ds.1)

  pub copies : (Rs : List RattleType) → Datas Rs → Copies 𝓛 Rs
  copies [] ds = tt
  copies (R ∷ Rs) ds = (ds.0.copied 𝓛, copies Rs ds.1)

module _ {n : ℕ} where
  abbrev pub Params : List (Slot n) → Type 2
  Params ss = (κs : Lfts n) → Datas (types_at ss κs)

  pub finished : (κs : Lfts n) (ss : List (Slot n)) → Datas (types_at ss κs) → (a : Denots (types_at ss κs)) → Fins κs ss (all yes ss) a
  finished κs [] ds a = tt
  finished κs (s ∷ ss) ds a = (still_last ((s.row κs).exit yes) ds.0.still a.0, finished κs ss ds.1 a.1)

  -- nothing is had of a parameter at exit
  abbrev pub dropped : (ss : List (Slot n)) (ks : Kepts ss) → Stays ss ks
  dropped [] ks = tt
  dropped (s ∷ ss) ks = (stay_dropped s ks.0, dropped ss ks.1)

  pub fits : (κs : Lfts n) (ss : List (Slot n)) (ks : Kepts ss) (a : Denots (types_at ss κs)) (ws : Fins κs ss ks a) → fits_of κs ss ks (dropped ss ks) a ws
  fits κs [] ks a ws = tt
  fits κs (s ∷ ss) ks a ws = (tt, fits κs ss ks.1 a.1 ws.1)

  module _ {M : Type 1} {𝓤 : Ura M} (𝓛 : Logic 𝓤) where
    pub none_had : (κs : Lfts n) (ss : List (Slot n)) (ks : Kepts ss) (a : Denots (types_at ss κs)) (ws : Fins κs ss ks a) (vss : Valss (types_at ss κs))
        → ent 𝓤 (emp 𝓤) (sem 𝓛 (has_of κs ss ks (dropped ss ks) a ws vss))
    none_had κs [] ks a ws vss = id⊢ 𝓤 (emp 𝓤)
    none_had κs (s ∷ ss) ks a ws vss = via 𝓤 _ (emp∗ 𝓤 (emp 𝓤)) (mono_r 𝓤 (emp 𝓤) (none_had κs ss ks.1 a.1 ws.1 vss.1))

    pub goes : (ss : List (Slot n)) → Params ss → AllGo 𝓛 n ss (all yes ss) (dropped ss (all yes ss))
    goes [] ps = tt
    goes (s ∷ ss) ps = (Goes-dropped 𝓛 n s yes (λ κs x f. still_silent ((s.row κs).exit yes) (ps κs).0.still x f), goes ss (λ κs. (ps κs).1))
