use Rattle.std.proofs.Common.{◌∙◌, ap, sym, arith, inl, inr}
use Rattle.std.proofs.lemmas.Bool.{cases_eq, cases_lt}
use Rattle.co_single.proofs.OfAct.{none_adds, adds_more}
use Rattle.co_kq.specs.Numbers.{use_at}
use Rattle.co_kq.proofs.Clearing.{cleared_none, cleared_more, stays_clear, past_clear}
use Rattle.co_kq.proofs.ticks.clear_all.Goals as goal

pub loop-number-init : goal.loop-number-init
loop-number-init g c = record {
  cleared = cleared_none c.args.uses.now c.args.single.now;
  entries = none_adds c.args.single.now c.args.act;
  none = λ t low. absurd (omega (arith, low));
}

pub clear-requires-clause-callouts : goal.clear-requires-clause-callouts
clear-requires-clause-callouts g c = c.loop-number.invariant.cleared.count ∙ (c.requires.callouts ∙ sym c.loop-number.invariant.cleared.all)

pub loop-number-preserved : goal.loop-number-preserved
loop-number-preserved g c =
    let h = c.loop-number.invariant in
    record {
      cleared = cleared_more c.args.uses.now c.loop-number.uses c.clear.new.uses c.args.single.now c.loop-number.single c.clear.new.single h.cleared c.clear.ensures.cleared;
      entries = adds_more c.args.single.now c.loop-number.single c.clear.new.single c.args.act h.entries c.clear.ensures.entries;
      none = λ t low. elim (cases_eq t c.loop-number.number) [
        | inl here ↦ λ stale. c.clear.ensures.free (sym (ap (λ n. use_at c.clear.new.uses n) here) ∙ stale)
        | inr there ↦ stays_clear c.loop-number.uses c.clear.new.uses c.loop-number.single c.clear.new.single t c.clear.ensures.cleared (h.none t (omega (arith, low, there)))
      ];
    }

pub returns-clause-none : goal.returns-clause-none
returns-clause-none g c t = elim (cases_lt t c.loop-number.number) [
  | inl low ↦ c.loop-number.invariant.none t low
  | inr past ↦ past_clear c.loop-number.uses t (omega (arith, past, c.loop-number.invariant.cleared.all, c.loop-number-test.false))
]
