-- A method of an opened MVAR that takes it apart and calls a function on what is asked and on the fields: it meets its contract where the function meets the same of the fields. A walk of its MIR, by hand, whatever the types of what is asked and of the result, and whatever the function.
-- The struct is Copy: what it owns is had twice, one copy is kept whole for the exit, and the other goes to the function, beside what is asked and the lifetime's token, which comes back.
-- Assumes nothing.
use mathlib.Core.Path.{◌≡◌, refl}
use Prim.Native.Nat.{ℕ}
use mathlib.Core.List.{[], ◌∷◌}
use lib.Dec.{T as Holds}
use lib.ListN.{length}
use seplogic.Ra.Ura.{Ura}
use mir.Syntax.{Ty, Callee, Fn, Body, local, value_local, named, erased, imm, ty_ref, ty_int, w8, w16, place, field, copy, rv_opd, assign, call, seq, return}
use mir.Val.{Val, WT, has_ty, vint}
use base.Logic.{SProp, ent, sep, emp, via, fst∗, snd∗, ex_e, id⊢}
use base.Fml.{Lft, Share, Fml, ftrue, flft}
use prog.Wp.{Calls, Loops, WpFn, Tables}
use types.Logic.{Logic, sem}
use contract.Lifetimes.{Lfts}
use contract.Monad.{fact}
use types.Kit.{‵, raw, ◌⊛◌, given, ⋆, some, later, ◌$◌, ◌∵◌, !, qed, by, move, drop, use1, use2, split, join, learn, pick, fsplit, fjoin, suffices, frame, await, done}
use types.Part.{whole, sub, look_in}
use types.Run.{look, init, forget, stop, fld, from, load, of_opd, and_then, no_more, assigns, land, returns, enter, alloc1, alloc0, params1, pass1, pass0, free1, free0}
use sound.WpLaws.{FmC, fm_of, WpFn-mono}
use denote.RattleType.{RattleType, owns}
use denote.Laws.{Is, Tells, Makes, shows}
use denote.Builtin.{u8, u16, i16, SliceRefOf}
use denote.Signature.{plain, named_lft}
use denote.Slice.{slice_val, slice_ty, ShrSlice}
use denote.Steps.{owned, peeks, heard, nothing}
use denote.Struct.Declared.{Declared}
use denote.Struct.Laws as LL
use denote.Struct.Rest.{all_own, own_open}
use denote.Struct.Values.{Values}
use denote.Triple.Statement.{Contract, Triple}
use denote.Triple.Call.{calls_at}
use denote.Triple.Entry.{Vals, on_entry}
use denote.Triple.Spec.{Meets, triple_of}
use denote.Triple.Walked.{says, Silent, Stays, stay_none, walk_of, Goes-none, Walks, ends_at, walked, walk_Meets}
use denote.Exit.{Last, yes}
use denote.Triple.Clauses.{Ended, Clauses, closing, ensured, lasts}
use Rattle.opentype.specs.Mvar.{Opened}
use Rattle.store.specs.MvarAnswers.{opened_as, opened_of}
use Rattle.store.specs.declared.mvar.Mvar.{Mvar}
use Rattle.store.specs.contracts.mvar.Mvar as T
use Rattle.store.proofs.mvar.Mvar.TheLaws as T'

-- the struct's type, over the signature's lifetimes
abbrev B : Lfts 1 → RattleType
B κs = T.the_row (named_lft 1 0 tt κs)

-- X is the type of what is asked, plain data, R the result's, and Says what is said of a result, an opened MVAR and what is asked
module _ (X R : RattleType) (Says : R.Denot → Opened → X.Denot → Type 0) where
  -- the function's contract, and the method's
  abbrev Worked : Ended
  Worked = record {
    signature = record {
      lifetimes = 1;
      outlives = [];
      params = plain (λ _. X) ∷ SliceRefOf (0 ∷ []) tt (plain (λ _. u8)) (λ _. tt) ∷ SliceRefOf (0 ∷ []) tt (plain (λ _. i16)) (λ _. tt) ∷ plain (λ _. u16) ∷ plain (λ _. u16) ∷ plain (λ _. u16) ∷ [];
      result = plain (λ _. R);
    };
    kept = (yes, (yes, (yes, (yes, (yes, (yes, tt))))));
  }

  abbrev Method : Ended
  Method = record { signature = record { lifetimes = 1; outlives = []; params = plain B ∷ plain (λ _. X) ∷ []; result = plain (λ _. R) }; kept = (yes, (yes, tt)) }

  abbrev stayed : Stays Method.signature.params Method.kept
  stayed = (stay_none B yes, (stay_none (λ _. X) yes, tt))

  module _ {M : Type 1} (𝓤 : Ura M) where
    abbrev work_clauses : Clauses 𝓤 Worked
    work_clauses κs a = record {
      ghost = Unit {0};
      requires = λ _. emp 𝓤;
      ensures = λ _ r e. fact 𝓤 (Says r (opened_as a.1.0.now a.1.1.0.now a.1.1.1.0 a.1.1.1.1.0 a.1.1.1.1.1.0) a.0);
    }

    abbrev method_clauses : Clauses 𝓤 Method
    method_clauses κs a = record { ghost = Unit {0}; requires = λ _. emp 𝓤; ensures = λ _ r e. fact 𝓤 (Says r (opened_of a.0) a.1.0) }

    module _ (𝓛 : Logic 𝓤) where
      abbrev Work : Contract 𝓤
      Work = triple_of 𝓛 Worked.signature (closing 𝓛 Worked work_clauses)

  -- τ and σ are the MIR types of X and R, and #work the function that is called
  module _ (τ σ : Ty) (#work : Callee) where
    -- the method's MIR: local 3 + i is the struct's field i
    abbrev takes : ℕ → ℕ → Body
    takes i j = assign (place i []) (rv_opd (copy (place 1 (field j ∷ []))))

    abbrev function : Fn
    function = record {
      lifetimes = 1;
      outlives = [];
      ty_params = [];
      givens = 0;
      params = 2;
      locals = local σ value_local ∷ local (T'.mir (named 0)) value_local ∷ local τ value_local ∷ local (slice_ty (ty_ref erased imm (ty_int w8))) value_local
          ∷ local (slice_ty (ty_ref erased imm (ty_int w16))) value_local ∷ local (ty_int w16) value_local ∷ local (ty_int w16) value_local ∷ local (ty_int w16) value_local ∷ [];
      body = seq (takes 3 0) (seq (takes 4 1) (seq (takes 5 2) (seq (takes 6 3) (seq (takes 7 4)
          (seq (call #work (copy (place 2 []) ∷ copy (place 3 []) ∷ copy (place 4 []) ∷ copy (place 5 []) ∷ copy (place 6 []) ∷ copy (place 7 []) ∷ []) (place 0 [])) return)))));
    }

    -- X's machine values, with its laws
    module _ (val : X.Denot → Val) (last : (x : X.Denot) → Last (X.exit yes) x) (tells : Tells X (Is X) (λ x. val x ∷ [])) (typed-x : (x : X.Denot) → Is X x (val x ∷ []) → Holds (has_ty τ (val x)) × WT (val x))
        (typed : (r : R.Denot) (u : Val) → Is R r (u ∷ []) → Holds (has_ty σ u) × WT u) {M : Type 1} {𝓤 : Ura M} (𝓛 : Logic 𝓤) (makes : Makes 𝓛 X (Is X)) (silent : Silent 𝓛 1 (plain (λ (_ : Lfts 1). X)) yes) where
      open 𝓛 use {H}

      module _ (κ : Lft) (q : Share) (d : Mvar) (x : X.Denot) (is_x : Is X x (val x ∷ [])) where
        abbrev mach : Val
        mach = T'.lowered d

        abbrev vals : Vals Method.signature (κ, tt)
        vals = (mach ∷ [], (val x ∷ [], tt))

        abbrev Post : Val → SProp 𝓤
        Post = (walk_of 𝓛 Method stayed (method_clauses 𝓤)).post (((κ, tt), (q, tt), tt, (d, (x, tt)), vals), tt)

        abbrev Own : Fml
        Own = (B (κ, tt)).own_val d (mach ∷ [])

        -- the struct's type and laws, and d's fields' values
        abbrev D : Declared
        D = T.the_type (named_lft 1 0 tt (κ, tt))

        abbrev L : LL.Laws D
        L = T'.the_laws (named_lft 1 0 tt (κ, tt))

        abbrev vd : Values D.parts
        vd = (d.«data», (d.coords, (d.rec_size, (d.rec_count, (d.store, tt)))))

        -- what the function is passed
        abbrev passed : Vals Worked.signature (κ, tt)
        passed = (val x ∷ [], (slice_val d.«data».ref_ptr (length d.«data».now) ∷ [], (slice_val d.coords.ref_ptr (length d.coords.now) ∷ [], (vint w16 d.rec_size ∷ [], (vint w16 d.rec_count ∷ [], (vint w16 d.store ∷ [], tt))))))

        abbrev to : (Work 𝓤 𝓛).Ghost
        to = (((κ, tt), (q, tt), tt, (x, vd), passed), tt)

        asked : ent 𝓤 (on_entry 𝓛 Worked.signature (κ, tt) (q, tt) (x, vd) passed) ((Work 𝓤 𝓛).pre to)
        asked = qed 𝓛 ((‵ (flft κ q) ⊛ ‵ ftrue) ∷ ‵ (owns (X ∷ ShrSlice (named 0) κ u8 ∷ ShrSlice (named 0) κ i16 ∷ u16 ∷ u16 ∷ u16 ∷ []) (x, vd) passed) ∷ []) ∵ join ! $ frame ! $ done !

        -- what the struct owns gives what the function asks, and is kept
        apart : ent 𝓤 (on_entry 𝓛 Method.signature (κ, tt) (q, tt) (d, (x, tt)) vals) (sep 𝓤 ((Work 𝓤 𝓛).pre to) (sem 𝓛 Own))
        apart =
            qed 𝓛 ((‵ (flft κ q) ⊛ ‵ ftrue) ∷ ‵ (owns (B (κ, tt) ∷ X ∷ []) (d, (x, tt)) vals) ∷ []) ∵
            move ! (1 ∷ []) $ fsplit ! $ move ! (1 ∷ []) $ drop ! $ use1 𝓛 (‵ Own ⊛ ‵ Own) ((LL.copy D (T'.the_copy (named_lft 1 0 tt (κ, tt))) 𝓛).twice d (mach ∷ [])) $ split ! $
            use1 𝓛 (given (mach ∷ [] ≡ mach ∷ []) (‵ (all_own D.parts L vd))) (own_open 𝓛 D L vd mach) $ learn ! (λ _.
            -- [what the fields own together; what the struct owns; the token]
            owned ! X (Is X) makes x _ is_x $ fjoin ! $
            move ! (2 ∷ 0 ∷ []) $ use2 𝓛 (raw ((Work 𝓤 𝓛).pre to)) asked $ frame ! $ done !)

        -- of what the function ensures, the clause alone: it has no `&mut`, so what is said of last values is dropped
        said : (r : R.Denot) → ent 𝓤 (ensured 𝓛 Worked (work_clauses 𝓤) (κ, tt) (x, vd) tt r) (fact 𝓤 (Says r (opened_of d) x))
        said r = ex_e 𝓤 _ (λ ws. snd∗ 𝓤 (sem 𝓛 (lasts Worked (κ, tt) (x, vd) ws)) (fact 𝓤 (Says r (opened_of d) x)))

        exits : (r : R.Denot) (u : Val) → Says r (opened_of d) x → ent 𝓤 (⋆ 𝓛 (‵ (R.own_val r (u ∷ [])) ∷ (‵ (flft κ q) ⊛ ‵ ftrue) ∷ ‵ Own ∷ [])) (Post u)
        exits r u e =
            qed 𝓛 (‵ (R.own_val r (u ∷ [])) ∷ (‵ (flft κ q) ⊛ ‵ ftrue) ∷ ‵ Own ∷ []) ∵
            suffices ! _ (ends_at 𝓛 Method stayed (method_clauses 𝓤) (((κ, tt), (q, tt), tt, (d, (x, tt)), vals), tt) u r (tt, (last x, tt)) (tt, (tt, tt))) $ says ! e $
            move ! (1 ∷ []) $ frame ! $ nothing ! $ owned ! X (Is X) makes x _ is_x $ fjoin ! $ move ! (2 ∷ 0 ∷ []) $ fjoin ! $ frame ! $ done !

        module _ (C : Calls 𝓤 H) (Λ : Loops 𝓤 H) (fm : FmC 𝓤 H 𝓛.laws C) (known : Triple 𝓤 (C #work) (Work 𝓤 𝓛)) where
          walk : Holds (has_ty (T'.mir (named 0)) mach) × WT mach → ent 𝓤 (on_entry 𝓛 Method.signature (κ, tt) (q, tt) (d, (x, tt)) vals) (WpFn 𝓤 H C Λ function (mach ∷ val x ∷ []) Post)
          walk wt =
              qed 𝓛 (raw (on_entry 𝓛 Method.signature (κ, tt) (q, tt) (d, (x, tt)) vals) ∷ []) ∵ enter ! C Λ function (mach ∷ val x ∷ []) _ $
              alloc1 ! (λ l₀. alloc1 ! (λ l₁. alloc1 ! (λ l₂. alloc1 ! (λ l₃. alloc1 ! (λ l₄. alloc1 ! (λ l₅. alloc1 ! (λ l₆. alloc1 ! (λ l₇. alloc0 ! $ params1 ! $
              pass1 ! (init ! 12 refl wt) $ pass1 ! (init ! 10 refl (typed-x x is_x)) $ pass0 ! $
              assigns ! (of_opd ! (load ! (from ! (fld ! refl (stop !))) (look_in ! 12 (sub ! 0 refl (whole !))))) (from ! (stop !)) (init ! 8 refl (tt, wt.1.0)) $
              assigns ! (of_opd ! (load ! (from ! (fld ! refl (stop !))) (look_in ! 12 (sub ! 1 refl (whole !))))) (from ! (stop !)) (init ! 6 refl (tt, wt.1.1.0)) $
              assigns ! (of_opd ! (load ! (from ! (fld ! refl (stop !))) (look_in ! 12 (sub ! 2 refl (whole !))))) (from ! (stop !)) (init ! 4 refl (tt, wt.1.1.1.0)) $
              assigns ! (of_opd ! (load ! (from ! (fld ! refl (stop !))) (look_in ! 12 (sub ! 3 refl (whole !))))) (from ! (stop !)) (init ! 2 refl (tt, wt.1.1.1.1.0)) $
              assigns ! (of_opd ! (load ! (from ! (fld ! refl (stop !))) (look_in ! 12 (sub ! 4 refl (whole !))))) (from ! (stop !)) (init ! 0 refl (tt, wt.1.1.1.1.1.0)) $
              move ! (16 ∷ []) $ use1 𝓛 (raw ((Work 𝓤 𝓛).pre to) ⊛ ‵ Own) apart $ split ! $
              -- [what is asked; what the struct owns; _7; …; _6; …; _5; …; _4; …; _3; …; _2; …; _1; …; room for _0; …]
              calls_at ! fm (Work 𝓤 𝓛) known to (and_then ! (load ! (from ! (stop !)) (look ! 12 refl)) (and_then ! (load ! (from ! (stop !)) (look ! 10 refl)) (and_then ! (load ! (from ! (stop !)) (look ! 8 refl)) (and_then ! (load ! (from ! (stop !)) (look ! 6 refl)) (and_then ! (load ! (from ! (stop !)) (look ! 4 refl)) (and_then ! (load ! (from ! (stop !)) (look ! 2 refl)) (no_more !))))))) (λ u.
              use1 𝓛 (later (some (λ (r : R.Denot). ((‵ (flft κ q) ⊛ ‵ ftrue) ⊛ ‵ (R.own_val r (u ∷ []))) ⊛ raw (ensured 𝓛 Worked (work_clauses 𝓤) (κ, tt) (x, vd) tt r)))) (id⊢ 𝓤 _) $ await ! tt $ pick ! (λ r.
              split ! $ move ! (1 ∷ []) $ use1 𝓛 (raw (fact 𝓤 (Says r (opened_of d) x))) (said r) $ heard ! (Says r (opened_of d) x) (λ e. split ! $ move ! (1 ∷ []) $
              -- [the result; the token; what the struct owns; _7; …; _1; …; room for _0; …]
              peeks ! R (Is R) (shows 𝓛 R) r (u ∷ []) (λ is.
              land ! (from ! (stop !)) (init ! 17 refl (typed r u is)) $
              returns ! (look ! 17 refl) $ forget ! 3 refl $ forget ! 5 refl $ forget ! 7 refl $ forget ! 9 refl $ forget ! 11 refl $ forget ! 13 refl $ forget ! 15 refl $ forget ! 17 refl $
              move ! (17 ∷ 18 ∷ []) $ free1 ! $ move ! (15 ∷ 16 ∷ []) $ free1 ! $ move ! (13 ∷ 14 ∷ []) $ free1 ! $ move ! (11 ∷ 12 ∷ []) $ free1 ! $
              move ! (9 ∷ 10 ∷ []) $ free1 ! $ move ! (7 ∷ 8 ∷ []) $ free1 ! $ move ! (5 ∷ 6 ∷ []) $ free1 ! $ move ! (3 ∷ 4 ∷ []) $ free1 ! $ free0 ! $ by ! (exits r u e)))))))))))))

      walks : (C : Calls 𝓤 H) (Λ : Loops 𝓤 H) → FmC 𝓤 H 𝓛.laws C → Triple 𝓤 (C #work) (Work 𝓤 𝓛) → Walks 𝓛 Method stayed (WpFn 𝓤 H C Λ function) (method_clauses 𝓤)
      walks C Λ fm known = walked 𝓛 Method stayed (method_clauses 𝓤) (WpFn 𝓤 H C Λ function) (λ κs. (LL.vals (T.the_type (named_lft 1 0 tt κs)) (T'.the_laws (named_lft 1 0 tt κs)), ((λ x. val x ∷ []), tt))) (λ κs. (LL.tells (T.the_type (named_lft 1 0 tt κs)) (T'.the_laws (named_lft 1 0 tt κs)), (tells, tt)))
          (λ κs qs bounds a g are. via 𝓤 _ (fst∗ 𝓤 _ (emp 𝓤)) (walk κs.0 qs.0 a.0 a.1.0 are.1.0 C Λ fm known ((LL.lawful (T.the_type (named_lft 1 0 tt κs)) (T'.the_laws (named_lft 1 0 tt κs)) 𝓛).typed a.0 _ are.0).0))

      pub apart_meets : (𝓣 : Tables 𝓤 H) → Triple 𝓤 (𝓣.C #work) (Work 𝓤 𝓛) → Meets 𝓛 Method.signature (WpFn 𝓤 H 𝓣.C 𝓣.Λ function) (closing 𝓛 Method (method_clauses 𝓤))
      apart_meets 𝓣 known = walk_Meets 𝓛 Method stayed (Goes-none 𝓛 1 B yes (λ κs x f. refl), (Goes-none 𝓛 1 (λ _. X) yes silent, tt)) (method_clauses 𝓤) (WpFn 𝓤 H 𝓣.C 𝓣.Λ function) (WpFn-mono 𝓤 H 𝓛.laws 𝓣 function)
          (walks 𝓣.C 𝓣.Λ (fm_of 𝓤 H 𝓛.laws 𝓣) known)
