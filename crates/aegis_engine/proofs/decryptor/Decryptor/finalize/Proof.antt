-- The message is returned if the tag is right, and otherwise it is erased. By hand, since the result lends a slice that
-- a struct holds: the walk makes the two calls, of `check_tag` and of `accepted_message` (`CheckedMessage.antt`), and combines the facts of
-- their contracts. Assumes `Logic`.
use mathlib.Core.Path.{◌≡◌, refl, ap, ◌∙◌}
use mathlib.Core.Bool.{true, false}
use Prim.Native.Nat.{ℕ, ◌≤◌}
use mathlib.Core.List.{List, [], ◌∷◌, ◌++◌}
use lib.ListN.{length, take, drop as drop_list, replicate}
use mir.Syntax.{named, Args, Fn, Ty, a_type, a_number, dcons, dnil}
use mir.Val.{Val}
use mir.MapTy.{inst_fn}
use base.Logic.{ent, emp, id⊢}
use base.Fml.{ftrue, flft}
use types.Kit.{‵, ◌⊛◌, raw, some, later, ◌$◌, ◌∵◌, !, qed, move, keep, drop, split, join, pick, fjoin, use1, await, suffices, frame, updating, now as at_once, done}
use types.Run.{no_more, and_then, of_opd, returns, enter}
use types.ByLocal.{alloc_all, pass_all, free_all, look_at, get, sets, lands_as}
use contract.Monad.{fact}
use contract.Running.{tables}
use denote.Builtin.{u8}
use denote.Exit.{no, yes}
use denote.Laws.{Typed, shows}
use prog.Wp.{WpFn}
use denote.Param.{ArrayAt, param, copied, number, bounded}
use denote.Param.Laws.{copied_laws, Laws}
use denote.RattleType.{RattleType}
use denote.Memory.{lone}
use denote.Ref.{NamedLft, ShrRef, shr_Lawful}
use denote.Signature.{named_lft}
use denote.Steps.{nothing, heard, peeks}
use denote.Triple.Call.{calls_at}
use denote.Triple.Clauses.{lasts, Lasts}
use denote.Triple.Spec.{triple_of}
use denote.Triple.Table.{framed}
use denote.Triple.Walked.{Stays, stay_dropped, walk_of, ends_at}
use Rattle.std.proofs.raw_atomic.Walks.{proved_at}
use Rattle.std.specs.Prelude.{MatchResult}
use Rattle.aegis_engine.proofs.CheckedMessage.{Call, asks, at, returned}
use Rattle.aegis_engine.proofs.Results.{accepted_ok, ok_accepted, says_four, weaken}
use Rattle.aegis_base.specs.Context.{IsAccepted, IsTagged}
use Rattle.aegis_engine.proofs.destination.Checked.TheLaws.{the_row_laws as checked_laws}
use Rattle.aegis_engine.specs.contracts.destination.Checked as ST
use Rattle.aegis_engine.specs.contracts.decryptor.Decryptor as DT
use Rattle.aegis_engine.proofs.decryptor.Decryptor.TheLaws as DL
use Rattle.aegis_engine.specs.contracts.decryptor.Decryptor.finalize as f
use Rattle.aegis_engine.specs.contracts.decryptor.Decryptor.check_tag as g
use Rattle.aegis_engine.proofs.decryptor.Decryptor.check_tag.Met.{met as check_tag_met}
use Rattle.aegis_engine.proofs.destination.accepted_message.Met.{met as accepted_message_met}
use Rattle.aegis_engine.proofs.decryptor.Decryptor.finalize.Statement.{statement}
use Rattle.aegis_engine.proofs.decryptor.Decryptor.finalize.Code as code

-- values of one machine type are one value
one : (τ : Ty) (P : List Val → Type 1) → ((v : Val) → Typed (τ ∷ []) (v ∷ []) → P (v ∷ [])) → (vs : List Val) → Typed (τ ∷ []) vs → P vs
one τ P k [] t = absurd t
one τ P k (v ∷ []) t = k v t
one τ P k (v ∷ w ∷ vs) t = absurd t.1

pub finalize_spec : {M : Type 1} → statement M
finalize_spec 𝓤 𝓛 𝓜 𝓡 wired S n Rw LS fits LR CS CR gS dS gC dC gR dR gRC dRC mS mC mR mRC =
    let N = number n in
    let En = f.ended S N Rw gS dS gC dC gR dR gRC dRC in
    let c = f.clauses S N Rw gS dS gC dC gR dR gRC dRC 𝓛 𝓜.mem 𝓡.returns in
    let G = triple_of 𝓛 (g.signature S N Rw gS dS gC dC gR dR gRC dRC) (g.spec S N Rw gS dS gC dC gR dR gRC dRC 𝓛 𝓜.mem 𝓡.returns) in
    let Gn = g.ended S N Rw gS dS gC dC gR dR gRC dRC in
    let args : Args = bounded (a_type ∷ a_number ∷ a_type ∷ []) (S, (N, (Rw, tt))) (dcons dS (dcons dC (dcons dR (dcons dRC dnil)))) in
    let fn : Fn = inst_fn args code.function in
    let 𝓣 = tables 𝓤 𝓛.H 𝓜 𝓡 𝓡.env in
    let hs : Stays En.signature.params En.kept = (stay_dropped _ no, (stay_dropped _ yes, tt)) in
    let W = walk_of 𝓛 En hs c in
    let Row : NamedLft → RattleType = λ a. DT.the_row a (copied 0 S) (param 1 N) (copied 2 Rw) gS gR in
    let LS' = copied_laws 0 S LS in let LR' = copied_laws 2 Rw LR in
    let laws : (a : NamedLft) → Laws (Row a) = λ a. DL.the_row_laws a (copied 0 S) (param 1 N) (copied 2 Rw) gS gR LS' refl LR' in
    proved_at 𝓛 En hs c 𝓜 𝓡 ((λ κs x w vs ok. qed 𝓛 (‵ ftrue ∷ []) ∵ updating ! $ at_once ! $ nothing ! $ fjoin ! $ nothing ! $ fjoin ! $ done !), ((λ κs x w vs ok. 𝓛.laws.⇛_intro (emp 𝓤)), tt))
    (f.Key.name args) fn (code.unfolded 𝓤 𝓛.H 𝓜 𝓡 wired (S, (N, (Rw, tt))) dS dC dR dRC)
    (λ z are.
    let κs = z.0.0 in let qs = z.0.1 in let a = z.0.3 in
    let Goes : W.Ghost → Type 1 = λ y. ent 𝓤 (W.pre y) (WpFn 𝓤 𝓛.H 𝓣.C 𝓣.Λ fn (W.args y) (W.post y)) in
    one (lone (Row (named_lft 5 0 tt κs)).mir) (λ vs. Goes ((κs, qs, z.0.2, a, (vs, z.0.4.1)), z.1)) (λ vd td. one (lone (ShrRef (named 1) κs.1.0 (ArrayAt u8 (param 1 N))).mir) (λ vs. Goes ((κs, qs, z.0.2, a, (vd ∷ [], (vs, tt))), z.1)) (λ vt tt'.
    let κ = κs.0 in let q = qs.0 in let d = a.0 in
    let y : W.Ghost = ((κs, qs, z.0.2, a, (vd ∷ [], (vt ∷ [], tt))), z.1) in
    let typed = td.0 in
    let others = ‵ (flft κs.1.0 qs.1.0) ⊛ ‵ (flft κs.1.1.0 qs.1.1.0) ⊛ ‵ (flft κs.1.1.1.0 qs.1.1.1.0) ⊛ ‵ (flft κs.1.1.1.1.0 qs.1.1.1.1.0) ⊛ ‵ ftrue in
    let SRow : RattleType = ST.the_row (record { mir = named 0; lft = κ }) in
    let L = gS in
    let beginning = take d.context.message_bytes d.dst.now in
    let held = d.context in
    let Tagged : Type 0 → Type 0 = λ P. IsTagged L.VARIANT n held beginning a.1.0.now P in
    let Found : Type 0 → Type 0 = λ P. IsAccepted L.VARIANT n held beginning a.1.0.now P in
    qed 𝓛 (raw (G.pre y) ∷ []) ∵ enter ! _ _ _ _ _ $ alloc_all ! (λ l. pass_all ! refl (typed, (tt'.0, tt)) $
    sets ! (of_opd ! (get ! refl)) refl typed $
    calls_at ! (framed 𝓤 𝓛.H 𝓜 𝓣) G (check_tag_met 𝓤 𝓛 𝓜 𝓡 (code.calls-aegis_engine::decryptor::Decryptor::check_tag 𝓡.env wired) S n Rw LS fits LR CS CR gS dS gC dC gR dR gRC dRC mS mC mR mRC) y
    (and_then ! (get ! refl) (and_then ! (get ! refl) (no_more !))) (λ v.
    use1 𝓛 (later (some (λ (r : SRow.Denot). ((‵ (flft κ q) ⊛ others) ⊛ ‵ (SRow.own_val r (v ∷ []))) ⊛ some (λ (ws : Lasts Gn κs a). ‵ (lasts Gn κs a ws)
    ⊛ (raw (fact 𝓤 ((r.dst.ghost_name ≡ d.dst.ghost_name) × (r.dst.ref_ptr ≡ d.dst.ref_ptr))) ⊛ raw (fact 𝓤 (r.filled ≡ d.context.message_bytes)) ⊛ raw (fact 𝓤 (r.filled ≤ length r.dst.now)) ⊛ raw (fact 𝓤 (r.accepted ≡ true → r.dst.now ≡ d.dst.now))
    ⊛ raw (fact 𝓤 (r.accepted ≡ false → r.dst.now ≡ replicate r.filled 0 ++ drop_list r.filled r.dst.now)) ⊛ raw (fact 𝓤 (drop_list r.filled r.dst.now ≡ drop_list d.context.message_bytes d.dst.now)) ⊛ raw (fact 𝓤 (Tagged (r.accepted ≡ true))) ⊛ raw (fact 𝓤 (Found (r.accepted ≡ true)))))))) (id⊢ 𝓤 (G.post y v)) $
    await ! tt $ pick ! (λ r. split ! $ split ! $ move ! (2 ∷ []) $ pick ! (λ ws. split ! $ drop ! $ split ! $ heard ! _ (λ same. split ! $ heard ! _ (λ count. split ! $ heard ! _ (λ within. split ! $ heard ! _ (λ kept. split ! $ heard ! _ (λ gone. split ! $ heard ! _ (λ rest. split ! $ heard ! _ (λ tagged. heard ! _ (λ found.
    move ! (1 ∷ []) $ peeks ! SRow _ (shows 𝓛 SRow) r (v ∷ []) (λ is.
    lands_as ! refl refl (((checked_laws (record { mir = named 0; lft = κ })).lawful 𝓛).typed r _ is).0 $
    -- [the checked one; the tokens; the locals]
    move ! (1 ∷ []) $ split ! $ move ! (0 ∷ 2 ∷ []) $ asks 𝓛 𝓜 𝓡 (named 0) κ q ! r v within gone $
    calls_at ! (framed 𝓤 𝓛.H 𝓜 𝓣) (Call 𝓛 𝓜 𝓡) (accepted_message_met 𝓤 𝓛 𝓜 𝓡 (code.calls-aegis_engine::destination::accepted_message 𝓡.env wired)) (at 𝓛 𝓜 𝓡 (named 0) κ q r v) (and_then ! (get ! refl) (no_more !)) (λ u.
    returned 𝓛 𝓜 𝓡 (named 0) κ q ! tt r v u same.0 count rest (λ o cases is'.
    -- [the result; how it ends; the token; the other tokens; the locals]
    lands_as ! refl refl is'.0 $
    returns ! (look_at ! 0 refl) $ free_all ! refl $
    let by_cases : MatchResult o (λ _. r.accepted ≡ true) (λ _. r.accepted ≡ false) = weaken o (λ x p. p.0) (λ e p. p.0) cases in
    suffices ! _ (ends_at 𝓛 En hs c y u o ((tt, (tt, tt)), (tt, tt)) (tt, (tt, tt))) $
    nothing ! $ nothing ! $ fjoin ! $ nothing ! $ fjoin ! $ join ! $ move ! (2 ∷ []) $ split ! $ keep ! (0 ∷ 4 ∷ 2 ∷ 3 ∷ []) $ join ! $ join ! $ frame ! $
    says_four ! (
      weaken o (λ x p. p.1 ∙ ap (λ (w : ℕ × List ℕ). take w.0 w.1) (λ i. (count i, kept p.0 i))) (λ e p. p.1) cases,
      weaken o (λ x p. p.2 ∙ same.1) (λ e p. tt) cases,
      (λ key nonce ad stands. let same = tagged key nonce ad stands in ((λ ok. same.0 (ok_accepted o by_cases ok)), (λ is. accepted_ok o by_cases (same.1 is)))),
      (λ key nonce ad m stands opens. accepted_ok o by_cases (found key nonce ad m stands opens)),
    ) $ done !))))))))))))))))
    z.0.4.1.0 ((shr_Lawful 𝓛 (named 1) κs.1.0 (ArrayAt u8 (param 1 N))).typed a.1.0 z.0.4.1.0 are.1.0)) z.0.4.0 (((laws (named_lft 5 0 tt κs)).lawful 𝓛).typed a.0 z.0.4.0 are.0))
