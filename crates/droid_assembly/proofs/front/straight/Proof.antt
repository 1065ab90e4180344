-- `straight` lends the buffer to `lend` for good, and shares the slice for good: the buffer then rests as it was.
use Rattle.circular_buffer.specs.Buffer.{Buffer, buffer}
use Rattle.std.proofs.Common.{◌≡◌, ◌∙◌, ℕ, List, [], ◌∷◌, refl, ap, MutBor, w8, length, drop, take_at, ◌*◌, ◌^◌}
use Rattle.std.proofs.raw_atomic.Walks.{proved}
use Rattle.std.specs.List.{refill}
use Rattle.std.specs.Prelude.{⊤}
use Rattle.droid_assembly.proofs.front.lend.Met.{met}
use Rattle.droid_assembly.proofs.front.straight.Statement.{statement}
use Rattle.droid_assembly.specs.FrontLending.{buffer_row, BufferStays}
use base.Fml.{ftrue, flft, fres, GName}
use base.Logic.{id⊢, ent}
use borrow.Rule.Slice.Handed.{sl_Share}
use borrow.Table.Copies.{c_rf, Shares-copy}
use borrow.Table.Referent.{f_int}
use contract.Monad.{fact}
use contract.Running.{tables}
use denote.Array.{Array}
use denote.Builtin.{u8}
use denote.Exit.{no}
use denote.Follow.{follows, follows_by, follows_so, such_by}
use denote.FollowSlice.{followed_slice}
use denote.Plain.{uint_row_laws}
use denote.RattleType.{RattleType}
use denote.Ref.{mut_vals, mut_Tells}
use denote.Signature.{plain, mut_ref_to}
use denote.Slice.{MutSlice, finally, slice_val}
use denote.Steps.{nothing, heard, only}
use denote.Triple.Call.{calls_at}
use denote.Triple.Clauses.{lasts}
use denote.Triple.Spec.{triple_of}
use denote.Triple.Table.{framed}
use denote.Triple.Walked.{Stays, stay_dropped, says, ends_at, Goes-spent_ref}
use mathlib.Core.Option.{none}
use mir.Syntax.{named, erased}
use mir.Val.{Val}
use seplogic.Ra.Ura.{Ura}
use types.ByLocal.{alloc_all, pass_all, free_all, look_at, get, through, sets, lands_as, get_in, look_in_at}
use types.Kit.{‵, raw, ◌⊛◌, some, later, ◌$◌, ◌∵◌, !, qed, move, keep, use1, use2, split, join, fsplit, fsplit3, fjoin, feq_i, feq_l, pick, await, rewrite, suffices, frame, done, fjoin3, flt_l, flt_i, fpack}
use types.Logic.{Logic, sem}
use types.Part.{whole, sub, agg}
use types.Run.{enter, addr, stop, fld, hop, no_more, and_then, returns, from}
use borrow.Table.Owned as row
use Rattle.droid_assembly.specs.contracts.front.straight as f
use Rattle.droid_assembly.proofs.front.straight.Code as code
use Rattle.droid_assembly.specs.contracts.front.lend as g

abbrev stayed : Stays f.ended.signature.params f.ended.kept
stayed = (stay_dropped (mut_ref_to (0 ∷ []) tt (plain (λ _. buffer_row))) no, tt)

-- whoever says that the lender ends at v says that it comes to rest there
rested : {M : Type 1} {𝓤 : Ura M} (𝓛 : Logic 𝓤) (R : RattleType) (γ : GName) (v : R.Denot)
    → ent 𝓤 (𝓛.A.res γ (R.coded.code v)) (sem 𝓛 (follows_so R R γ none (λ _ _. ⊤) (λ last. last ≡ v)))
unfolding such_by follows_by
rested 𝓛 R γ v =
    qed 𝓛 (‵ (fres γ (R.coded.code v)) ∷ []) ∵
    fpack ! ((s : (R.Denot → R.Denot) × R.Denot) × ((w : R.Denot) → ⊤) × (s.1 ≡ v)) (λ s. follows_by R.Denot R.Denot R.coded.code R.coded.code γ none s.0.0 s.0.1) ((λ w. w, v), λ w. tt, refl) $ done !

-- what the buffer ends as, where ws are the last bytes of the slice
abbrev with_bytes : Buffer ℕ → List ℕ → Buffer ℕ
with_bytes b ws = buffer (refill (length b.items) b.items ws) b.capacity

same : (b : Buffer ℕ) (ws : List ℕ) → ws ≡ b.items → with_bytes b ws ≡ b
same b ws e = ap (with_bytes b) e ∙ ap (λ xs. buffer xs b.capacity) (take_at b.items (drop (length b.items) b.items) (length b.items) refl)

pub straight_spec : {M : Type 1} → statement M
straight_spec 𝓤 𝓛 𝓜 𝓡 wired =
    let c = f.clauses 𝓛 𝓜.mem 𝓡.returns in
    proved 𝓛 f.ended stayed c 𝓜 𝓡 (Goes-spent_ref 𝓛 1 (0 ∷ []) tt (plain (λ _. buffer_row)), tt)
    f.Key.name code.function (code.unfolded 𝓤 𝓛.H 𝓜 𝓡 wired)
    (λ κs. (mut_vals, tt)) (λ κs. (mut_Tells (named 0) κs.0 buffer_row, tt)) (λ κs qs bounds a _ are.
    let κ = κs.0 in let q = qs.0 in let b = a.0 in
    let G = triple_of 𝓛 g.signature (g.spec 𝓛 𝓜.mem 𝓡.returns) in
    let z : G.Ghost = ((κs, qs, bounds, a, (mut_vals a.0, tt)), tt) in
    qed 𝓛 (raw (G.pre z) ∷ []) ∵ enter ! _ _ _ _ _ $
    alloc_all ! (λ l. pass_all ! refl ((tt, tt), tt) $
    sets ! (addr ! (through ! refl (stop !))) refl (tt, tt) $
    calls_at ! (framed 𝓤 𝓛.H 𝓜 (tables 𝓤 𝓛.H 𝓜 𝓡 𝓡.env)) G (met 𝓤 𝓛 𝓜 𝓡 (code.calls-droid_assembly::front::lend 𝓡.env wired)) z
    (and_then ! (get ! refl) (no_more !)) (λ v.
    use1 𝓛 (later (some (λ (r : MutBor (List ℕ)). ((‵ (flft κ q) ⊛ ‵ ftrue) ⊛ ‵ ((MutSlice (named 0) κ u8).own_val r (v ∷ []))) ⊛
    some (λ (ws : Unit {0} × Unit {0}). ‵ (lasts g.ended κs a ws) ⊛ ‵ (follows buffer_row (Array u8 0) b.ghost_name r.ghost_name (with_bytes b.now)) ⊛ raw (fact 𝓤 (r.now ≡ b.now.items)))))) (id⊢ 𝓤 _) $
    await ! tt $ pick ! (λ r. split ! $ split ! $ split ! $
    -- [the token; nothing; the slice; what the call ensures]
    move ! (3 ∷ []) $ pick ! (λ ws. split ! $ move ! (1 ∷ []) $ split ! $ move ! (1 ∷ []) $ heard ! _ (λ value.
    -- [what the buffer follows; its last value; the token; nothing; the slice]
    move ! (4 ∷ []) $ fsplit3 ! $ fsplit ! $ feq_l ! (λ is. fsplit ! $ flt_l ! (λ small. flt_l ! (λ bytes.
    flt_i ! (length r.now * 1) (2 ^ 63) bytes $ flt_i ! (length r.now) (2 ^ 64) small $ fjoin ! $ fjoin3 ! $
    move ! (0 ∷ 3 ∷ []) $
    use2 𝓛 (later (‵ ((row.ShrSlice erased κ u8).own_val (record { ref_ptr = r.ref_ptr; now = r.now })) ⊛ (‵ (finally u8 r.ghost_name r.now) ⊛ ‵ (flft κ q))))
    (sl_Share 𝓛 u8 r.ref_ptr.0 r.ref_ptr.1 r.ghost_name r.now (uint_row_laws w8) κ q (Shares-copy 𝓛 (c_rf (f_int w8)) κ)) $ await ! tt $ split ! $ move ! (1 ∷ []) $ split ! $
    -- [the slice's last value; the token; the shared slice; what the buffer follows; its last value; nothing]
    move ! (3 ∷ 0 ∷ []) $
    use2 𝓛 (‵ (fres b.ghost_name (buffer_row.coded.code (with_bytes b.now r.now)))) (followed_slice 𝓛 buffer_row u8 (with_bytes b.now) b.ghost_name r.ghost_name r.now) $
    rewrite ! 0 (λ (x : Buffer ℕ). ‵ (fres b.ghost_name (buffer_row.coded.code x))) (same b.now r.now value) refl $
    use1 𝓛 (‵ (BufferStays b)) (rested 𝓛 buffer_row b.ghost_name b.now) $
    -- [the buffer rests; the token; the shared slice; its last value; nothing]
    lands_as ! (ap only is) refl (tt, (tt, (record { fits = small }, tt))) $
    sets ! (addr ! (from ! (fld ! refl (hop ! (look_in_at ! 2 (sub ! 0 refl (whole !))) (stop !))))) refl (tt, tt) $
    sets ! (agg ! (and_then ! (get ! refl) (and_then ! (get_in ! (fld ! refl (stop !)) (sub ! 1 refl (whole !))) (no_more !)))) refl (tt, (tt, (record { fits = small }, tt))) $
    returns ! (look_at ! 0 refl) $ free_all ! refl $ keep ! (2 ∷ 1 ∷ 0 ∷ []) $
    fsplit ! $ feq_i ! (List Val) (slice_val r.ref_ptr (length r.now) ∷ []) (slice_val r.ref_ptr (length r.now) ∷ []) refl $ fjoin ! $ fjoin ! $
    -- [the result; the token; the buffer rests]
    suffices ! _ (ends_at 𝓛 f.ended stayed c ((κs, qs, bounds, a, (mut_vals a.0, tt)), tt) (slice_val r.ref_ptr (length r.now)) (record { ref_ptr = r.ref_ptr; now = r.now }) (tt, tt) (tt, tt)) $
    nothing ! $ nothing ! $ fjoin ! $ join ! $ nothing ! $ move ! (2 ∷ 0 ∷ []) $ join ! $ join ! $ frame ! $ says ! value $ done !)))))))))
