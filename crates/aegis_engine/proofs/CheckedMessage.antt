-- The call of `accepted_message`, in which the walks of `finalize` and `open_chunks` end: what is checked becomes what the call
-- asks, and what it returns is read at the destination and the count that the walk began with. Assumes `Logic`.
use mathlib.Core.Path.{◌≡◌, refl}
use mathlib.Core.Bool.{true, false}
use Prim.Native.Nat.{ℕ, ◌≤◌}
use mathlib.Core.List.{List, [], ◌∷◌, ◌++◌}
use lib.ListN.{length, take, drop as drop_list, replicate}
use seplogic.Ra.Ura.{Ura}
use mir.Val.{Val}
use mir.Syntax.{Lifetime}
use base.Logic.{emp, id⊢}
use base.Fml.{Fml, GName, Lft, Share, ftrue, flft}
use prog.Model.{Model}
use types.Logic.{Logic}
use types.Kit.{Item, Goal, Soaks, Seq, Step, step, ‵, ◌⊛◌, raw, some, later, ◌$◌, move, drop, split, join, pick, rewrite, use0, use1, use2, await}
use contract.Monad.{fact, fact_i}
use contract.Running.{Running}
use denote.Builtin.{u8}
use denote.Follow.{follows_if}
use denote.Array.{Array}
use denote.Laws.{Typed, shows}
use denote.RattleType.{RattleType}
use denote.Slice.{MutSlice}
use denote.Steps.{nothing, heard, peeks}
use denote.Triple.Clauses.{lasts, Lasts}
use denote.Triple.Spec.{triple_of}
use denote.Triple.Statement.{Contract}
use Rattle.std.specs.Borrow.{name_if_ok}
use Rattle.std.specs.Prelude.{MatchResult}
use Rattle.aegis_base.specs.declared.error.Error.{Error}
use Rattle.std.proofs.result.Result.TheLaws.{the_row_laws as result_laws}
use Rattle.aegis_base.proofs.error.Error.TheLaws.{the_row_laws as error_laws}
use Rattle.aegis_engine.proofs.Results.{slice_laws}
use Rattle.std.specs.contracts.result.Result as RS
use Rattle.aegis_base.specs.contracts.error.Error as ER
use Rattle.aegis_engine.specs.contracts.destination.Checked as ST
use Rattle.aegis_engine.specs.contracts.destination.accepted_message as h

module _ {M : Type 1} {𝓤 : Ura M} (𝓛 : Logic 𝓤) (𝓜 : Model 𝓤 𝓛.H) (𝓡 : Running 𝓤 𝓛.H 𝓜) where
  abbrev pub Call : Contract 𝓤
  Call = triple_of 𝓛 h.signature (h.spec 𝓛 𝓜.mem 𝓡.returns)

  module _ (ℓ : Lifetime) (κ : Lft) (q : Share) where
    abbrev pub Row : RattleType
    Row = ST.the_row (record { mir = ℓ; lft = κ })

    abbrev pub Out : RattleType
    Out = RS.the_row (MutSlice ℓ κ u8) ER.the_row

    -- the call's arguments
    abbrev pub at : Row.Denot → Val → Call.Ghost
    at r v = (((κ, tt), (q, tt), tt, (r, tt), (v ∷ [], tt)), tt)

    -- what the lender has at the end: what is filled to the message or, without one, zeros, and then the rest
    abbrev pub Ends : GName → ℕ → List ℕ → Out.Denot → Fml
    Ends γ n rest o = follows_if (Array u8 0) (Array u8 0) γ (name_if_ok (λ x. x.ghost_name) o) (λ w. w ++ rest) (replicate n 0 ++ rest)

    abbrev pub Cases : Row.Denot → Out.Denot → Type 0
    Cases r o = MatchResult o (λ x. (r.accepted ≡ true) × (x.now ≡ take r.filled r.dst.now) × (x.ref_ptr ≡ r.dst.ref_ptr)) (λ e. (r.accepted ≡ false) × (e ≡ Error.InvalidTag))

    module _ {K : Type 0} {Γ : List (Item 𝓤)} {G : Goal 𝓤 𝓛.H} where
      -- what is checked, with its lifetime's token, is what the call asks
      pub asks : K → (r : Row.Denot) (v : Val) → r.filled ≤ length r.dst.now → (r.accepted ≡ false → r.dst.now ≡ replicate r.filled 0 ++ drop_list r.filled r.dst.now)
          → Step K 𝓛 (raw (Call.pre (at r v)) ∷ Γ) G (‵ (flft κ q) ∷ ‵ (Row.own_val r (v ∷ [])) ∷ Γ) G
      asks t r v within gone = step (λ s.
          nothing t $ move t (1 ∷ 0 ∷ []) $ join t $ move t (1 ∷ []) $ nothing t $ move t (1 ∷ 0 ∷ []) $ join t $ move t (1 ∷ []) $ join t $
          use0 𝓛 (raw (fact 𝓤 (r.accepted ≡ false → r.dst.now ≡ replicate r.filled 0 ++ drop_list r.filled r.dst.now))) (fact_i 𝓤 _ (emp 𝓤) gone) $
          use0 𝓛 (raw (fact 𝓤 (r.filled ≤ length r.dst.now))) (fact_i 𝓤 _ (emp 𝓤) within) $ join t $ move t (1 ∷ 0 ∷ []) $ use2 𝓛 (raw (Call.pre (at r v))) (id⊢ 𝓤 _) $ s)

      -- what the call returns: the name, the count and the rest are those of the walk's own destination
      pub returned : K → Soaks G → (r : Row.Denot) (v u : Val) {γ : GName} {n : ℕ} {rest : List ℕ} → r.dst.ghost_name ≡ γ → r.filled ≡ n → drop_list r.filled r.dst.now ≡ rest
          → ((o : Out.Denot) → Cases r o → Typed Out.mir (u ∷ []) → Seq K 𝓛 (‵ (Out.own_val o (u ∷ [])) ∷ ‵ (Ends γ n rest o) ∷ (‵ (flft κ q) ⊛ ‵ ftrue) ∷ Γ) G)
          → Seq K 𝓛 (raw (Call.post (at r v) u) ∷ Γ) G
      returned t soaks r v u {γ} {n} {rest} name count left k =
          use1 𝓛 (later (some (λ (o : Out.Denot). ((‵ (flft κ q) ⊛ ‵ ftrue) ⊛ ‵ (Out.own_val o (u ∷ []))) ⊛ some (λ (ws : Lasts h.ended (κ, tt) (r, tt)). ‵ (lasts h.ended (κ, tt) (r, tt) ws)
          ⊛ (‵ (Ends r.dst.ghost_name r.filled (drop_list r.filled r.dst.now) o) ⊛ raw (fact 𝓤 (Cases r o))))))) (id⊢ 𝓤 (Call.post (at r v) u)) $
          await t soaks $ pick t (λ o. split t $ split t $ move t (2 ∷ []) $ pick t (λ ws. split t $ drop t $ split t $ move t (1 ∷ []) $ heard t _ (λ cases.
          rewrite t 0 (λ (l : List ℕ). ‵ (Ends r.dst.ghost_name r.filled l o)) left refl $
          rewrite t 0 (λ (m : ℕ). ‵ (Ends r.dst.ghost_name m rest o)) count refl $
          rewrite t 0 (λ (g : GName). ‵ (Ends g n rest o)) name refl $
          move t (2 ∷ []) $ peeks t Out _ (shows 𝓛 Out) o (u ∷ []) (λ is. k o cases (((result_laws (MutSlice ℓ κ u8) ER.the_row (slice_laws ℓ κ) error_laws).lawful 𝓛).typed o _ is)))))
