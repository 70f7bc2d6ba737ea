-- `and` makes a value of no bytes, whose ghost field is the list with what the reference shows behind it.
use mathlib.Core.Path.{◌≡◌, refl}
use mathlib.Core.List.{List, [], ◌∷◌, ◌++◌}
use mir.Syntax.{a_type, named}
use mir.MapTy.{inst_fn}
use mir.Val.{Val, vptr, vstruct, vcons, vnil}
use base.Logic.{SProp, emp}
use base.Fml.{Fml}
use contract.Monad.{fact, fact_i}
use contract.Running.{tables}
use types.Kit.{‵, raw, ◌⊛◌, ◌$◌, ◌∵◌, !, qed, by, keep, split, fjoin, use0}
use types.Run.{no_more, and_then, returns, enter}
use types.Part.{agg}
use types.ByLocal.{alloc_all, pass_all, free_all, look_at, get, sets}
use denote.RattleType.{RattleType, owns}
use denote.Exit.{yes}
use denote.Param.{param, layouts}
use denote.Shadow.{makes_shadow}
use denote.Builtin.{RefOf}
use denote.Ref.{shr_vals, shr_Tells}
use denote.Signature.{types_at, plain}
use denote.Steps.{nothing}
use denote.Triple.Walked.{Stays, stay_dropped, walk_of, Goes-dropped}
use Rattle.atomic_table.proofs.Walks.{proved, leaves}
use Rattle.co_timers.specs.contracts.log.Log as Log
use Rattle.co_timers.specs.contracts.log.Log.and.{ended, clauses}
use Rattle.co_timers.specs.contracts.log.Log.and.Key.{name as #self}
use Rattle.co_timers.proofs.log.Log.and.Statement.{statement}
use Rattle.co_timers.proofs.log.Log.and.Code as code

pub and_spec : {M : Type 1} → statement M
and_spec 𝓤 𝓛 𝓜 𝓡 wired Y _ =
    let H = 𝓛.H in let 𝓣 = tables 𝓤 H 𝓜 𝓡 𝓡.env in let R : RattleType = param 0 Y in let En = ended Y in
    let inst = layouts (a_type ∷ []) (Y, tt) in let fn = inst_fn inst code.function in let c = clauses Y 𝓛 𝓜.mem 𝓡.returns in
    let one = RefOf (0 ∷ []) tt (plain (λ _. Log.the_row R)) (λ _. tt) in let two = RefOf (1 ∷ []) tt (plain (λ _. R)) (λ _. tt) in
    let hs : Stays En.signature.params En.kept = (stay_dropped one yes, (stay_dropped two yes, tt)) in
    proved 𝓛 En hs c 𝓜 𝓡 (Goes-dropped 𝓛 3 one yes (λ κs x f. refl), (Goes-dropped 𝓛 3 two yes (λ κs x f. refl), tt)) (#self inst) fn (code.unfolded 𝓤 H 𝓜 𝓡 wired (Y, tt))
    (λ κs. (shr_vals, (shr_vals, tt))) (λ κs. (shr_Tells (named 0) κs.0 (Log.the_row R), (shr_Tells (named 1) κs.1.0 R, tt))) (λ κs qs bounds a gh are.
    let p : Val = vptr a.0.ref_ptr.0 a.0.ref_ptr.1 in let q : Val = vptr a.1.0.ref_ptr.0 a.1.0.ref_ptr.1 in let v : Val = vstruct (vcons (vstruct vnil) vnil) in
    let items : List Y.Denot = a.0.now.items ++ a.1.0.now ∷ [] in let r : (Log.the_row Y).Denot = record { marker = record {}; items = items } in let F : Fml = (Log.the_row Y).own_val r (v ∷ []) in
    let y : (walk_of 𝓛 En hs c).Ghost = ((κs, qs, bounds, a, (p ∷ [], (q ∷ [], tt))), gh) in let Post : Val → SProp 𝓤 = (walk_of 𝓛 En hs c).post y in
    qed 𝓛 ((raw (denote.Triple.Entry.alive 𝓛 En.signature κs qs) ⊛ ‵ (owns (types_at En.signature.params κs) a y.0.4)) ∷ raw ((c κs a).requires gh) ∷ []) ∵ split ! $ keep ! (0 ∷ []) $
    enter ! 𝓣.C 𝓣.Λ fn (p ∷ q ∷ []) Post $ alloc_all ! (λ l. pass_all ! refl ((tt, tt), ((tt, tt), tt)) $
    sets ! (agg ! (no_more !)) refl (tt, tt) $ sets ! (agg ! (and_then ! (get ! refl) (no_more !))) refl (tt, (tt, tt)) $
    use0 𝓛 (raw (fact 𝓤 (items ≡ items))) (fact_i 𝓤 (items ≡ items) (emp 𝓤) refl) $
    use0 𝓛 (‵ F) (makes_shadow 𝓛 F ((λ vss. (tt, ((λ uss. (tt, tt)), tt))), tt) (((vstruct vnil ∷ [], tt), (refl, ((tt, (refl, tt)), tt))), tt)) $ nothing ! $ nothing ! $ fjoin ! $ nothing ! $ fjoin ! $
    returns ! (look_at ! 0 refl) $ free_all ! refl $ keep ! (3 ∷ 0 ∷ 1 ∷ 2 ∷ []) $ by ! (leaves 𝓛 En hs c y v r (tt, (tt, tt)) (tt, (tt, tt)))))
