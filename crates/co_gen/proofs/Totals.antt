-- The counts of all callouts: that the fates add up to the accepted armings.
use Rattle.std.proofs.Common.{◌≡◌, ℕ, zero, suc, ◌+◌, ◌≤◌, Bool, false, List, length, refl, ap, sym, subst, ◌∙◌, arith, count_by}
use Rattle.co_object.specs.declared.Entry.{Entry}
use Rattle.co_object.specs.declared.Note.{Note}
use Rattle.co_object.specs.Actors.{Actors}
use Rattle.co_object.specs.Fate.{Fate, Pending}
use Rattle.co_object.specs.History.{IsLegal}
use Rattle.co_object.specs.Laws.OneFate.{is_fired}
use Rattle.co_object.specs.Lists.{callout_history}
use Rattle.co_object.proofs.Passing.{count-passing}
use Rattle.co_program.specs.declared.Script.{Script}
use Rattle.co_program.specs.Action.{spec_at}
use Rattle.co_gen.specs.declared.counts.Counts.{Counts}
use Rattle.co_gen.specs.declared.fates.ToFire.TheVariants.{Nothing}
use Rattle.co_gen.specs.Fates.{fates_told}
use Rattle.co_gen.specs.Soak.{is_superseded, is_stopped, is_pending, armings, fates_of, with_fate, counts_of_first, counts_of}
use Rattle.co_gen.specs.Laws.{HaveLegalHistories, FatesAddUp}
use Rattle.co_gen.proofs.Ranges.{sum-more}
use Rattle.co_gen.proofs.FatesMet.{accepts, made-is, fates-met, fates-count, four-kinds}

abbrev made_of : ℕ → ℕ → ℕ → ℕ → ℕ → ℕ → Counts
made_of n a f p s q = record { notes = n; armed = a; fired = f; superseded = p; stopped = s; pending = q }

-- counts with the same numbers are the same
pub same-counts : (c d : Counts) → c.notes ≡ d.notes → c.armed ≡ d.armed → c.fired ≡ d.fired → c.superseded ≡ d.superseded → c.stopped ≡ d.stopped → c.pending ≡ d.pending → c ≡ d
same-counts c d n a f p s q =
    ap (λ x. made_of x c.armed c.fired c.superseded c.stopped c.pending) n
    ∙ ap (λ x. made_of d.notes x c.fired c.superseded c.stopped c.pending) a
    ∙ ap (λ x. made_of d.notes d.armed x c.superseded c.stopped c.pending) f
    ∙ ap (λ x. made_of d.notes d.armed d.fired x c.stopped c.pending) p
    ∙ ap (λ x. made_of d.notes d.armed d.fired d.superseded x c.pending) s
    ∙ ap (λ x. made_of d.notes d.armed d.fired d.superseded d.stopped x) q

module _ (actors : Actors) (s : Script) (lists : List (List Note)) (i : ℕ) (legal : IsLegal actors (spec_at s i) (callout_history i lists)) where
  abbrev H : List Entry
  H = callout_history i lists

  pub met : (P : Fate → Bool) → P Pending ≡ false → with_fate P s lists i ≡ count_by P (fates_told Nothing H)
  met P no_end = count-passing P (fates_of s lists i) ∙ (fates-met actors (spec_at s i) P no_end H legal ∙ sym (count-passing P (fates_told Nothing H)))

  -- each accepted arming has one fate
  callout-adds-up : armings H ≡ with_fate is_fired s lists i + with_fate is_superseded s lists i + with_fate is_stopped s lists i + with_fate is_pending s lists i
  callout-adds-up =
      let fs : List Fate = fates_of s lists i in
      omega (
        arith,
        count-passing accepts H,
        made-is actors (spec_at s i) H legal,
        fates-count actors (spec_at s i) H legal,
        four-kinds fs,
        count-passing is_fired fs,
        count-passing is_superseded fs,
        count-passing is_stopped fs,
        count-passing is_pending fs,
      )

abbrev AddUp : Script → List (List Note) → ℕ → Type 0
AddUp s lists n = (counts_of_first s lists n).armed ≡ (counts_of_first s lists n).fired + (counts_of_first s lists n).superseded + (counts_of_first s lists n).stopped + (counts_of_first s lists n).pending

first-add-up : (actors : Actors) (s : Script) (lists : List (List Note)) → HaveLegalHistories actors s lists → (n : ℕ) → n ≤ length s.timers → AddUp s lists n
first-add-up actors s lists legal zero inside = refl
first-add-up actors s lists legal (suc n) inside =
    let next : suc n ≡ n + 1 = omega arith in
    subst (AddUp s lists) (sym next) (omega (
      arith,
      first-add-up actors s lists legal n (omega (arith, inside)),
      callout-adds-up actors s lists n (legal n (omega (arith, inside))),
      sum-more (λ k. armings (callout_history k lists)) n,
      sum-more (with_fate is_fired s lists) n,
      sum-more (with_fate is_superseded s lists) n,
      sum-more (with_fate is_stopped s lists) n,
      sum-more (with_fate is_pending s lists) n,
    ))

pub fates-add-up : FatesAddUp
unfolding counts_of
fates-add-up actors s lists legal = first-add-up actors s lists legal (length s.timers) (omega arith)
