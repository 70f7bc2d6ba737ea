use Rattle.std.proofs.Common.{◌≡◌, ℕ, ◌+◌, ◌-◌, ◌/◌, ◌<◌, ◌≤◌, subst, sym, arith, inl, inr}
use Rattle.std.proofs.lemmas.Bool.{cases_eq}
use Rattle.std.proofs.lemmas.List.{get_or_read}
use Rattle.co_kq.specs.declared.index.Keyed.{Keyed}
use Rattle.co_kq.specs.Index.{index_entry, no_entry}
use Rattle.co_kq.proofs.Indexing.{falling_at}
use Rattle.co_kq.proofs.index.seek.Goals as goal

pub loop-low-preserved-then-ident-index : goal.loop-low-preserved-then-ident-index
loop-low-preserved-then-ident-index c =
    let ps = c.args.entries.now.items in
    let middle : ℕ = c.loop-low.low + (c.loop-low.high - c.loop-low.low) / 2 in
    let inside : middle < c.loop-low.high = omega arith in
    let is : c.index.result.now ≡ index_entry ps middle = get_or_read ps middle c.index.result.now (omega (arith, inside, c.loop-low.invariant.within)) c.index.ensures no_entry in
    let test : c.args.ident < (index_entry ps middle).ident = subst (λ (p : Keyed). c.args.ident < p.ident) is c.if-ident-index.true in
    record {
      order = omega arith;
      within = c.loop-low.invariant.within;
      above = λ j low. elim (cases_eq j middle) [
        | inl here ↦ subst (λ k. c.args.ident < (index_entry ps k).ident) (sym here) test
        | inr there ↦ let less = falling_at ps j middle c.requires (omega (arith, low, there)) (omega (arith, inside, c.loop-low.invariant.within)) in omega (arith, less, test)
      ];
      below = c.loop-low.invariant.below;
    }

pub loop-low-preserved : goal.loop-low-preserved
loop-low-preserved c =
    let ps = c.args.entries.now.items in
    let middle : ℕ = c.loop-low.low + (c.loop-low.high - c.loop-low.low) / 2 in
    let inside : middle < c.loop-low.high = omega arith in
    let is : c.index.result.now ≡ index_entry ps middle = get_or_read ps middle c.index.result.now (omega (arith, inside, c.loop-low.invariant.within)) c.index.ensures no_entry in
    let test : (index_entry ps middle).ident ≤ c.args.ident = subst (λ (p : Keyed). p.ident ≤ c.args.ident) is c.if-ident-index.false in
    record {
      order = omega arith;
      within = omega (arith, inside, c.loop-low.invariant.within);
      above = c.loop-low.invariant.above;
      below = λ j high low. elim (cases_eq j middle) [
        | inl here ↦ subst (λ k. (index_entry ps k).ident ≤ c.args.ident) (sym here) test
        | inr there ↦ let less = falling_at ps middle j c.requires (omega (arith, high, there)) low in omega (arith, less, test)
      ];
    }
