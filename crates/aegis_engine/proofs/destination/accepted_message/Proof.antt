-- The beginning of a checked destination is returned if the message is accepted. By hand, since no proof is generated
-- for a function that lends a slice of a struct: the walk takes the struct apart, and each arm ends by one lemma of
-- `Prefix` and one of `Results`. Assumes `Logic`.
use mathlib.Core.Path.{◌≡◌, refl, sym, subst}
use mathlib.Core.Bool.{Bool, true, false, not}
use Prim.Native.Nat.{ℕ, ◌≤◌, ◌<◌, ◌^◌, ◌*◌}
use native.Mathlib.Omega.{arith}
use native.Mathlib.Nat.{mul-le-mul_right}
use mathlib.Core.List.{List, [], ◌∷◌, ◌++◌}
use lib.Dec.{T, lit<}
use lib.ListN.{length, take, drop as drop_list}
use lib.ListN.{replicate}
use mir.Syntax.{w64, named}
use mir.Val.{Val, vint, vbool, vstruct, vcons, vnil, of_list}
use base.Stored.{coded_list}
use base.Fml.{ftrue, flft, fres}
use prog.Wp.{Env}
use types.Match.{live}
use types.Kit.{updating, now as at_once, ‵, ◌⊛◌, raw, some, later, at_ret, ◌$◌, ◌∵◌, !, qed, move, keep, drop, split, split3, join, pick, rewrite, fsplit, fjoin, fpick, feq_l, use0, use1, use2, await, suffices, frame, done}
use types.Part.{whole, sub, agg}
use types.Run.{stop, fld, hop, from, addr, lit, and_then, no_more, of_opd, first, branches, exec, returns, enter}
use types.ByLocal.{alloc_all, pass_all, free_all, look_at, look_in_at, get, get_in, sets, sets_last, env}
use contract.Monad.{fact}
use contract.Running.{tables}
use denote.Builtin.{u8}
use denote.Exit.{no}
use denote.Plain.{uint_vals, uint_Tells, bool_vals, bool_Tells}
use denote.Ref.{MutBor}
use denote.Signature.{plain, named_lft}
use denote.Slice.{MutSlice, Room, slice_val, mut_slice_vals, mut_slice_Tells}
use denote.Steps.{nothing, heard}
use denote.Struct.Struct.{Struct-Tells}
use denote.Struct.Declared.{shape}
use denote.Follow.{follows_by}
use denote.Triple.Walked.{Stays, stay_dropped, walk_of, ends_at, says}
use borrow.Table.Elements.{length-take-le}
use Rattle.std.proofs.raw_atomic.Walks.{proved}
use Rattle.std.specs.declared.result.Result.TheVariants.{Ok, Err}
use Rattle.std.specs.contracts.result.Result as RS
use Rattle.aegis_base.specs.contracts.error.Error as ER
use Rattle.aegis_base.specs.declared.error.Error.{Error}
use Rattle.aegis_engine.specs.declared.destination.Checked.{Checked}
use Rattle.aegis_engine.specs.contracts.destination.Checked as ST
use Rattle.aegis_engine.specs.contracts.destination.accepted_message as f
use Rattle.aegis_engine.proofs.Results.{ok_made, err_made, invalid_tag_made}
use Rattle.aegis_engine.proofs.Prefix.{prefix_lent, lends_prefix, spent}
use Rattle.aegis_engine.proofs.destination.accepted_message.Statement.{statement}
use Rattle.aegis_engine.proofs.destination.accepted_message.Code as code

abbrev stayed : Stays f.ended.signature.params f.ended.kept
stayed = (stay_dropped (plain (λ κs. ST.the_row (named_lft 1 0 tt κs))) no, tt)

-- how the machine stores one
abbrev checked_vals : Checked → List Val
checked_vals s = vstruct (vcons (slice_val s.dst.ref_ptr (length s.dst.now)) (vcons (vint w64 s.filled) (vcons (vbool s.accepted) vnil))) ∷ []

is_true : (t : Bool) → T t → t ≡ true
is_true true y = refl
is_true false y = absurd y

is_false : (t : Bool) → T (not t) → t ≡ false
is_false true y = absurd y
is_false false y = refl

pub accepted_message_spec : {M : Type 1} → statement M
unfolding follows_by
accepted_message_spec 𝓤 𝓛 𝓜 𝓡 wired =
    let c = f.clauses 𝓛 𝓜.mem 𝓡.returns in let W = walk_of 𝓛 f.ended stayed c in let 𝓣 = tables 𝓤 𝓛.H 𝓜 𝓡 𝓡.env in
    proved 𝓛 f.ended stayed c 𝓜 𝓡 ((λ κs x w vs ok. qed 𝓛 (‵ ftrue ∷ []) ∵ updating ! $ at_once ! $ nothing ! $ fjoin ! $ done !), tt)
    f.Key.name code.function (code.unfolded 𝓤 𝓛.H 𝓜 𝓡 wired)
    (λ κs. (checked_vals, tt)) (λ κs. ((λ s vs p. Struct-Tells (shape (ST.the_type (named_lft 1 0 tt κs))) (mut_slice_vals, (uint_vals w64, (bool_vals, tt))) (mut_slice_Tells (named 0) κs.0 u8, (uint_Tells w64, (bool_Tells, tt))) ((ST.the_type (named_lft 1 0 tt κs)).to s) vs p), tt)) (λ κs qs bounds a _ are.
    let κ = κs.0 in let q = qs.0 in let s = a.0 in let r = s.dst in let b = r.ref_ptr.0 in let o = r.ref_ptr.1 in let xs = r.now in let m = s.filled in
    let rm : Room u8 (length xs) = are.0.1.1.0.0.1 in
    let fm : m < 2 ^ 64 = are.0.1.1.1.0.1 in
    let y : W.Ghost = ((κs, qs, bounds, a, (checked_vals s, tt)), tt) in
    let Post = W.post y in
    let Row = ST.the_row (named_lft 1 0 tt κs) in let Lent = MutSlice (named 0) κ u8 in
    let En : (l : _) → Env 𝓤 𝓛.H = λ l. env code.Mir.locals l in
    qed 𝓛 (((‵ (flft κ q) ⊛ ‵ ftrue) ⊛ ‵ (Row.own_val s (checked_vals s)) ⊛ ‵ ftrue) ∷ (raw (fact 𝓤 (m ≤ length xs)) ⊛ raw (fact 𝓤 (s.accepted ≡ false → xs ≡ replicate m 0 ++ drop_list m xs))) ∷ []) ∵
    move ! (1 ∷ []) $ split ! $ heard ! _ (λ le. heard ! _ (λ gone. split ! $ split ! $ move ! (2 ∷ []) $ split ! $ keep ! (0 ∷ 2 ∷ []) $
    enter ! _ _ _ _ _ $ alloc_all ! (λ l. pass_all ! refl ((tt, ((tt, (record { fits = rm.0 }, tt)), (record { fits = fm }, (tt, tt)))), tt) $
    -- [the struct; the token; the locals]
    fpick ! (λ vss. fsplit ! $ feq_l ! (λ _. fsplit ! $ move ! (1 ∷ []) $ drop ! $
    sets ! (of_opd ! (get_in ! (fld ! refl (stop !)) (sub ! 0 refl (whole !)))) refl (tt, (tt, (record { fits = rm.0 }, tt))) $
    sets ! (of_opd ! (get_in ! (fld ! refl (stop !)) (sub ! 1 refl (whole !)))) refl (tt, record { fits = fm }) $
    sets ! (of_opd ! (get_in ! (fld ! refl (stop !)) (sub ! 2 refl (whole !)))) refl (tt, tt) $
    sets ! (of_opd ! (get ! refl)) refl (tt, tt) $
    first ! $ branches ! (get ! refl)
    (λ t. sets ! (addr ! (from ! (fld ! refl (hop ! (look_in_at ! 2 (sub ! 0 refl (whole !))) (stop !))))) refl (tt, tt) $
    sets ! (agg ! (and_then ! (get ! refl) (and_then ! (get ! refl) (no_more !)))) refl (tt, (tt, (record { fits = fm }, tt))) $
    sets_last ! (agg ! (and_then ! (lit ! tt) (and_then ! (get ! refl) (no_more !)))) refl (tt, (record { fits = lit< tt }, ((tt, (record { fits = fm }, tt)), tt))) $
    exec ! 𝓣.C 𝓣.Λ (En l) code.Mir.t-6 (at_ret (En l) Post) $
    sets ! (of_opd ! (get ! refl)) refl (tt, (record { fits = lit< tt }, ((tt, (record { fits = fm }, tt)), tt))) $
    let lf : length (take m xs) ≡ m = length-take-le m xs le in
    let short : m * 1 ≤ length xs * 1 = mul-le-mul_right 1 le in
    let room : Room u8 (length (take m xs)) = subst (Room u8) (sym lf) (fm, omega (arith, rm.1)) in
    use2 𝓛 (later (some (prefix_lent 𝓛 (named 0) κ q b o r.ghost_name u8 m xs le))) (lends_prefix 𝓛 (named 0) κ q b o r.ghost_name u8 m xs le room vss.0) $ await ! tt $ pick ! (λ δ.
    returns ! (look_at ! 0 refl) $ free_all ! refl $ split3 ! $
    let x : MutBor (List ℕ) = record { ref_ptr = (b, o); ghost_name = δ; now = take m xs } in let v = slice_val (b, o) m in
    rewrite ! 0 (λ (k : ℕ). ‵ (Lent.own_val x (slice_val (b, o) k ∷ []))) lf refl $
    use1 𝓛 (‵ ((RS.the_row Lent ER.the_row).own_val (Ok x) (live 0 (of_list (v ∷ [])) ∷ []))) (ok_made Lent ER.the_row 𝓛 x v) $
    suffices ! _ (ends_at 𝓛 f.ended stayed c y (live 0 (of_list (v ∷ []))) (Ok x) ((tt, tt), tt) (tt, tt)) $
    nothing ! $ nothing ! $ fjoin ! $ join ! $ nothing ! $ move ! (2 ∷ 0 ∷ []) $ join ! $ join ! $ frame ! $ says ! (is_true s.accepted t, refl, refl) $ done !))
    (λ t. sets ! (agg ! (and_then ! (lit ! tt) (no_more !))) refl (tt, (record { fits = lit< tt }, tt)) $
    sets_last ! (agg ! (and_then ! (lit ! tt) (and_then ! (get ! refl) (no_more !)))) refl (tt, (record { fits = lit< tt }, ((record { fits = lit< tt }, tt), tt))) $
    exec ! 𝓣.C 𝓣.Λ (En l) code.Mir.t-6 (at_ret (En l) Post) $
    sets ! (of_opd ! (get ! refl)) refl (tt, (record { fits = lit< tt }, ((record { fits = lit< tt }, tt), tt))) $
    use1 𝓛 (‵ (fres r.ghost_name ((coded_list u8.coded).code xs))) (spent 𝓛 (named 0) κ q b o r.ghost_name u8 m xs le vss.0) $
    rewrite ! 0 (λ (l : List ℕ). ‵ (fres r.ghost_name ((coded_list u8.coded).code l))) (gone (is_false s.accepted t)) refl $
    returns ! (look_at ! 0 refl) $ free_all ! refl $
    let e = live 0 (of_list []) in
    use0 𝓛 (‵ (ER.the_row.own_val Error.InvalidTag (e ∷ []))) (invalid_tag_made 𝓛) $
    use1 𝓛 (‵ ((RS.the_row Lent ER.the_row).own_val (Err Error.InvalidTag) (live 1 (of_list (e ∷ [])) ∷ []))) (err_made Lent ER.the_row 𝓛 Error.InvalidTag e) $
    move ! (0 ∷ 2 ∷ 1 ∷ []) $
    suffices ! _ (ends_at 𝓛 f.ended stayed c y (live 1 (of_list (e ∷ []))) (Err Error.InvalidTag) ((tt, tt), tt) (tt, tt)) $
    nothing ! $ nothing ! $ fjoin ! $ join ! $ nothing ! $ move ! (2 ∷ 0 ∷ []) $ join ! $ join ! $ frame ! $ says ! (is_false s.accepted t, refl) $ done !)))))))
