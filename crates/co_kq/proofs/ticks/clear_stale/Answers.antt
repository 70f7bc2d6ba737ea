use Rattle.std.proofs.Common.{◌≡◌, ◌≢◌, ◌++◌, ℕ, ap, sym, subst, ◌∙◌, List, length, take, drop}
use Rattle.co_kq.specs.declared.numbers.Use.{Use}
use Rattle.co_kq.specs.declared.numbers.Use.TheVariants.{Stale}
use Rattle.co_kq.specs.Numbers.{use_at}
use Rattle.co_kq.specs.Ticks.{AreCleared}
use Rattle.co_kq.proofs.Ending.{take_whole}
use Rattle.co_kq.proofs.ticks.clear_stale.Goals as goal

pub returns-clause-cleared : goal.returns-clause-cleared
returns-clause-cleared g c =
    let old = c.uses.inside.list.items in
    let new = c.clear_all.new.uses in
    let cleared = c.clear_all.ensures.cleared in
    let all : take c.uses.inside.list.len (new ++ drop (length new) old) ≡ new = take_whole new old c.uses.inside.list.len (sym c.uses.inside.list.ok.0) (cleared.all ∙ ap length c.as_mut_slice.ensures.value) in
    let was : c.as_mut_slice.result.now ≡ c.args.uses.now = c.as_mut_slice.ensures.value ∙ c.uses.view_is in
    subst (λ (t : List Use × List Use). AreCleared t.0 c.args.single.now t.1 c.clear_all.new.single) (λ j. (was j, sym all j)) cleared

pub returns-clause-none : goal.returns-clause-none
returns-clause-none g c =
    let old = c.uses.inside.list.items in
    let new = c.clear_all.new.uses in
    let all : take c.uses.inside.list.len (new ++ drop (length new) old) ≡ new = take_whole new old c.uses.inside.list.len (sym c.uses.inside.list.ok.0) (c.clear_all.ensures.cleared.all ∙ ap length c.as_mut_slice.ensures.value) in
    subst (λ (u : List Use). (number : ℕ) → use_at u number ≢ Stale) (sym all) c.clear_all.ensures.none
