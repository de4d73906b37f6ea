-- The message of the kept chunks is returned if there is one, and otherwise the destination is erased. By hand, in the
-- same form as a decryptor's `finalize`, with the destination as a parameter: the walk makes the two calls, of
-- `check_chunks` and of `accepted_message` (`CheckedMessage.antt`), and combines the facts of their contracts. Assumes `Logic`.
use mathlib.Core.Path.{◌≡◌, refl, ap, sym, subst, ◌∙◌}
use mathlib.Core.Bool.{true, false}
use Prim.Native.Nat.{ℕ, ◌≤◌}
use mathlib.Core.List.{List, [], ◌∷◌, ◌++◌}
use lib.ListN.{length, take, drop as drop_list, replicate}
use mir.Syntax.{named, Args, Fn, a_type, a_number, dcons, dnil}
use mir.MapTy.{inst_fn}
use base.Logic.{emp, id⊢}
use base.Fml.{ftrue, flft}
use types.Kit.{‵, ◌⊛◌, raw, some, later, ◌$◌, ◌∵◌, !, qed, move, keep, drop, split, join, pick, fjoin, use1, await, suffices, frame, done}
use types.Run.{no_more, and_then, returns, enter}
use types.ByLocal.{alloc_all, pass_all, free_all, look_at, get, sets, lands_as}
use contract.Monad.{fact}
use contract.Running.{tables}
use denote.Builtin.{u8}
use denote.Exit.{no, yes}
use denote.Laws.{shows}
use denote.Param.{ArrayAt, param, copied, number, bounded}
use denote.RattleType.{RattleType}
use denote.Ref.{shr_vals, shr_Tells}
use denote.Slice.{mut_slice_vals, mut_slice_Tells, ShrSlice, shr_slice_vals, shr_slice_Tells}
use types.Part.{whole, sub, agg}
use types.Run.{stop, fld, hop, from, addr}
use types.ByLocal.{look_in_at, get_in}
use denote.Steps.{nothing, heard, peeks}
use denote.Triple.Call.{calls_at}
use denote.Triple.Clauses.{lasts, Lasts}
use denote.Triple.Spec.{triple_of}
use denote.Triple.Table.{framed}
use denote.Triple.Walked.{Stays, stay_dropped, walk_of, ends_at}
use Rattle.std.proofs.raw_atomic.Walks.{proved}
use Rattle.aegis_engine.proofs.destination.Checked.TheLaws.{the_row_laws as checked_laws}
use Rattle.aegis_engine.specs.contracts.destination.Checked as ST
use Rattle.aegis_engine.specs.contracts.cipher.Cipher as CT
use Rattle.aegis_base.specs.Chunks.{accepted}
use Rattle.aegis_base.specs.Message.{Opens}
use Rattle.aegis_engine.proofs.CheckedMessage.{Call, asks, at, returned}
use Rattle.aegis_engine.proofs.Results.{accepted_ok, says_four, weaken}
use Rattle.aegis_engine.specs.contracts.cipher.Cipher.open_chunks as f
use Rattle.aegis_engine.specs.contracts.cipher.Cipher.check_chunks as g
use Rattle.aegis_engine.proofs.cipher.Cipher.check_chunks.Met.{met as check_tag_met}
use Rattle.aegis_engine.proofs.destination.accepted_message.Met.{met as accepted_message_met}
use Rattle.aegis_engine.proofs.cipher.Cipher.open_chunks.Statement.{statement}
use Rattle.aegis_engine.proofs.cipher.Cipher.open_chunks.Code as code

pub open_chunks_spec : {M : Type 1} → statement M
open_chunks_spec 𝓤 𝓛 𝓜 𝓡 wired S U k n Rw LS LU key_fits fits LR CS CR gS dS gC dC gR dR gRC dRC mS mC mR mRC =
    let K = number k in let N = number n in
    let En = f.ended S U K N Rw gS dS gC dC gR dR gRC dRC in
    let c = f.clauses S U K N Rw gS dS gC dC gR dR gRC dRC 𝓛 𝓜.mem 𝓡.returns in
    let G = triple_of 𝓛 (g.signature S U K N Rw gS dS gC dC gR dR gRC dRC) (g.spec S U K N Rw gS dS gC dC gR dR gRC dRC 𝓛 𝓜.mem 𝓡.returns) in
    let Gn = g.ended S U K N Rw gS dS gC dC gR dR gRC dRC in
    let args : Args = bounded (a_type ∷ a_type ∷ a_number ∷ a_number ∷ a_type ∷ []) (S, (U, (K, (N, (Rw, tt))))) (dcons dS (dcons dC (dcons dR (dcons dRC dnil)))) in
    let fn : Fn = inst_fn args code.function in
    let 𝓣 = tables 𝓤 𝓛.H 𝓜 𝓡 𝓡.env in
    let hs : Stays En.signature.params En.kept = (stay_dropped _ yes, (stay_dropped _ yes, (stay_dropped _ yes, (stay_dropped _ yes, (stay_dropped _ no, tt))))) in
    let W = walk_of 𝓛 En hs c in
    let Row : RattleType = CT.the_row (copied 0 S) (param 1 U) (param 2 K) (param 3 N) (copied 4 Rw) gS gR in
    proved 𝓛 En hs c 𝓜 𝓡 ((λ κs x w vs ok. 𝓛.laws.⇛_intro (emp 𝓤)), ((λ κs x w vs ok. 𝓛.laws.⇛_intro (emp 𝓤)), ((λ κs x w vs ok. 𝓛.laws.⇛_intro (emp 𝓤)), ((λ κs x w vs ok. 𝓛.laws.⇛_intro (emp 𝓤)), ((λ κs x w vs ok. 𝓛.laws.⇛_intro (emp 𝓤)), tt)))))
    (f.Key.name args) fn (code.unfolded 𝓤 𝓛.H 𝓜 𝓡 wired (S, (U, (K, (N, (Rw, tt))))) dS dC dR dRC)
    (λ κs. (shr_vals, (shr_slice_vals, (shr_slice_vals, (shr_vals, (mut_slice_vals, tt))))))
    (λ κs. (shr_Tells (named 0) κs.0 Row, (shr_slice_Tells (named 1) κs.1.0 u8, (shr_slice_Tells (named 2) κs.1.1.0 (ShrSlice (named 3) κs.1.1.1.0 u8), (shr_Tells (named 4) κs.1.1.1.1.0 (ArrayAt u8 (param 3 N)), (mut_slice_Tells (named 5) κs.1.1.1.1.1.0 u8, tt)))))) (λ κs qs bounds a _ are.
    let κ = κs.1.1.1.1.1.0 in let q = qs.1.1.1.1.1.0 in let ad = a.1.0 in let chunks = a.1.1.0 in let tag = a.1.1.1.0 in let d = a.1.1.1.1.0 in
    let all = accepted (length d.now) chunks.now in let count' = length all in
    let IsOpened : List ℕ → Type 0 = λ m. Opens gS.VARIANT n a.0.now.key a.0.now.nonce ad.now all tag.now m in
    let y : W.Ghost = ((κs, qs, bounds, a, (shr_vals a.0, (shr_slice_vals ad, (shr_slice_vals chunks, (shr_vals tag, (mut_slice_vals d, tt)))))), tt) in
    let t0 = ‵ (flft κs.0 qs.0) in let t1 = ‵ (flft κs.1.0 qs.1.0) in let t2 = ‵ (flft κs.1.1.0 qs.1.1.0) in let t3 = ‵ (flft κs.1.1.1.0 qs.1.1.1.0) in let t4 = ‵ (flft κs.1.1.1.1.0 qs.1.1.1.1.0) in
    let others = ‵ (flft κs.1.1.1.1.1.1.0 qs.1.1.1.1.1.1.0) ⊛ ‵ (flft κs.1.1.1.1.1.1.1.0 qs.1.1.1.1.1.1.1.0) ⊛ ‵ (flft κs.1.1.1.1.1.1.1.1.0 qs.1.1.1.1.1.1.1.1.0) ⊛ ‵ (flft κs.1.1.1.1.1.1.1.1.1.0 qs.1.1.1.1.1.1.1.1.1.0) ⊛ ‵ (flft κs.1.1.1.1.1.1.1.1.1.1.0 qs.1.1.1.1.1.1.1.1.1.1.0) ⊛ ‵ ftrue in
    let SRow : RattleType = ST.the_row (record { mir = named 5; lft = κ }) in
    let room = are.1.1.1.1.0.0.1 in
    qed 𝓛 (raw (G.pre y) ∷ []) ∵ enter ! _ _ _ _ _ $ alloc_all ! (λ l. pass_all ! refl ((tt, tt), ((tt, (tt, (record { fits = are.1.0.0.1.0 }, tt))), ((tt, (tt, (record { fits = are.1.1.0.0.1.0 }, tt))), ((tt, tt), ((tt, (tt, (record { fits = room.0 }, tt))), tt))))) $
    sets ! (addr ! (from ! (fld ! refl (hop ! (look_in_at ! 5 (sub ! 0 refl (whole !))) (stop !))))) refl (tt, tt) $
    sets ! (agg ! (and_then ! (get ! refl) (and_then ! (get_in ! (fld ! refl (stop !)) (sub ! 1 refl (whole !))) (no_more !)))) refl (tt, (tt, (record { fits = room.0 }, tt))) $
    calls_at ! (framed 𝓤 𝓛.H 𝓜 𝓣) G (check_tag_met 𝓤 𝓛 𝓜 𝓡 (code.calls-aegis_engine::cipher::Cipher::check_chunks 𝓡.env wired) S U k n Rw LS LU key_fits fits LR CS CR gS dS gC dC gR dR gRC dRC mS mC mR mRC) y
    (and_then ! (get ! refl) (and_then ! (get ! refl) (and_then ! (get ! refl) (and_then ! (get ! refl) (and_then ! (get ! refl) (no_more !)))))) (λ v.
    use1 𝓛 (later (some (λ (r : SRow.Denot). ((t0 ⊛ t1 ⊛ t2 ⊛ t3 ⊛ t4 ⊛ ‵ (flft κ q) ⊛ others) ⊛ ‵ (SRow.own_val r (v ∷ []))) ⊛ some (λ (ws : Lasts Gn κs a). ‵ (lasts Gn κs a ws)
    ⊛ (raw (fact 𝓤 ((r.dst.ghost_name ≡ d.ghost_name) × (r.dst.ref_ptr ≡ d.ref_ptr))) ⊛ raw (fact 𝓤 (r.filled ≤ length r.dst.now)) ⊛ raw (fact 𝓤 (r.filled ≡ count'))
    ⊛ raw (fact 𝓤 (r.accepted ≡ false → r.dst.now ≡ replicate r.filled 0 ++ drop_list r.filled r.dst.now)) ⊛ raw (fact 𝓤 (drop_list r.filled r.dst.now ≡ drop_list r.filled d.now))
    ⊛ raw (fact 𝓤 (r.accepted ≡ true → IsOpened (take r.filled r.dst.now))) ⊛ raw (fact 𝓤 ((m : List ℕ) → IsOpened m → r.accepted ≡ true)) ⊛ raw (fact 𝓤 ((m : List ℕ) → IsOpened m → take r.filled r.dst.now ≡ m))))))) (id⊢ 𝓤 (G.post y v)) $
    await ! tt $ pick ! (λ r. split ! $ split ! $ move ! (2 ∷ []) $ pick ! (λ ws. split ! $ drop ! $ split ! $ heard ! _ (λ same. split ! $ heard ! _ (λ within. split ! $ heard ! _ (λ count. split ! $ heard ! _ (λ gone. split ! $ heard ! _ (λ rest. split ! $ heard ! _ (λ opened. split ! $ heard ! _ (λ found. heard ! _ (λ only.
    move ! (1 ∷ []) $ peeks ! SRow _ (shows 𝓛 SRow) r (v ∷ []) (λ is.
    lands_as ! refl refl (((checked_laws (record { mir = named 5; lft = κ })).lawful 𝓛).typed r _ is).0 $
    -- [the checked one; the tokens; the locals]
    move ! (1 ∷ []) $ split ! $ move ! (1 ∷ []) $ split ! $ move ! (1 ∷ []) $ split ! $ move ! (1 ∷ []) $ split ! $ move ! (1 ∷ []) $ split ! $ move ! (1 ∷ []) $ split ! $
    move ! (0 ∷ 7 ∷ []) $ asks 𝓛 𝓜 𝓡 (named 5) κ q ! r v within gone $
    -- [what `accepted_message` asks; the others; the first, from the last of them on; the locals]
    calls_at ! (framed 𝓤 𝓛.H 𝓜 𝓣) (Call 𝓛 𝓜 𝓡) (accepted_message_met 𝓤 𝓛 𝓜 𝓡 (code.calls-aegis_engine::destination::accepted_message 𝓡.env wired)) (at 𝓛 𝓜 𝓡 (named 5) κ q r v) (and_then ! (get ! refl) (no_more !)) (λ u.
    returned 𝓛 𝓜 𝓡 (named 5) κ q ! tt r v u same.0 count (rest ∙ ap (λ (n : ℕ). drop_list n d.now) count) (λ o cases is'.
    -- [the result; how it ends; the token; the other tokens; the locals]
    lands_as ! refl refl is'.0 $
    returns ! (look_at ! 0 refl) $ free_all ! refl $
    suffices ! _ (ends_at 𝓛 En hs c y u o (tt, (tt, (tt, (tt, (tt, tt))))) (tt, (tt, (tt, (tt, (tt, tt)))))) $
    nothing ! $ nothing ! $ fjoin ! $ nothing ! $ fjoin ! $ nothing ! $ fjoin ! $ nothing ! $ fjoin ! $ nothing ! $ fjoin ! $ join ! $
    -- [what is left and the result; how it ends; the token; the others; the first, from the last of them on]
    move ! (2 ∷ []) $ split ! $ move ! (0 ∷ 4 ∷ []) $ join ! $ move ! (4 ∷ 0 ∷ []) $ join ! $ move ! (4 ∷ 0 ∷ []) $ join ! $ move ! (4 ∷ 0 ∷ []) $ join ! $ move ! (4 ∷ 0 ∷ []) $ join ! $ move ! (4 ∷ 0 ∷ []) $ join ! $ keep ! (0 ∷ 2 ∷ 3 ∷ []) $ join ! $ frame ! $
    says_four ! (
      weaken o (λ x p. subst IsOpened (sym p.1) (opened p.0)) (λ e p. p.1) cases,
      weaken o (λ x p. p.2 ∙ same.1) (λ e p. tt) cases,
      (λ m is. accepted_ok o (weaken o (λ x p. p.0) (λ e p. p.0) cases) (found m is)),
      (λ m is. weaken o (λ x p. p.1 ∙ only m is) (λ e p. tt) cases),
    ) $ done !))))))))))))))))
