use Rattle.std.proofs.Common.{◌≡◌, ℕ, ◌+◌, ◌-◌, ◌<◌, List, [], ◌∷◌, ◌++◌, ap, sym, ◌∙◌, arith, append_assoc, length, set, take, append-nil}
use Rattle.std.proofs.lemmas.List.{length-set, length-take, take_more_set}
use Rattle.co_kq.specs.declared.kevent.Event.{Event}
use Rattle.co_kq.specs.declared.knote.Knote.{Knote}
use Rattle.co_kq.specs.Kevents.{events_in, left_in, events}
use Rattle.co_kq.specs.Slots.{TellsOne}
use Rattle.co_kq.proofs.Telling.{events_zero, left_zero}
use Rattle.co_kq.proofs.kq.Kq.events.Goals as goal

-- one event more is told, and written behind the others
module _ (out : List Event) (count : ℕ) (e : Event) (first before after : List Knote) (inside : count < length out) (tells : TellsOne before e after) where
  long : length (set out count e) ≡ length out
  long = length-set out count e

  one_less : length out - count ≡ (length (set out count e) - (count + 1)) + 1
  one_less = omega (arith, inside, long)

  told_more : take count out ++ events_in (length out - count) before ≡ events_in (length out) first → take (count + 1) (set out count e) ++ events_in (length (set out count e) - (count + 1)) after ≡ events_in (length (set out count e)) first
  told_more told =
      let rest = events_in (length (set out count e) - (count + 1)) after in
      ap (λ l. l ++ rest) (take_more_set out count e inside)
      ∙ (append_assoc (take count out) (e ∷ []) rest
      ∙ (ap (λ l. take count out ++ l) (sym (ap (λ n. events_in n before) one_less ∙ tells.told (length (set out count e) - (count + 1))))
      ∙ (told ∙ ap (λ n. events_in n first) (sym long))))

  left_more : left_in (length out - count) before ≡ left_in (length out) first → left_in (length (set out count e) - (count + 1)) after ≡ left_in (length (set out count e)) first
  left_more left =
      sym (ap (λ n. left_in n before) one_less ∙ tells.left (length (set out count e) - (count + 1)))
      ∙ (left ∙ ap (λ n. left_in n first) (sym long))

pub loop-count-preserved : goal.loop-count-preserved
loop-count-preserved g c =
    let h = c.loop-count.invariant in
    let out = c.loop-count.out in
    let before = c.loop-count.self.list.knotes in
    let after = c.tell.new.self.list.knotes in
    let long = length-set out c.loop-count.count c.in-Some.event in
    record {
      room = c.tell.ensures.room ∙ h.room;
      work = c.tell.ensures.work ∙ h.work;
      passes = c.tell.ensures.passes ∙ h.passes;
      clock = c.tell.ensures.clock ∙ h.clock;
      within = omega (arith, c.loop-count-test.true, long);
      told = told_more out c.loop-count.count c.in-Some.event c.args.self.now.list.knotes before after c.loop-count-test.true c.in-Some.ensures.some h.told;
      left = left_more out c.loop-count.count c.in-Some.event c.args.self.now.list.knotes before after c.loop-count-test.true c.in-Some.ensures.some h.left;
    }

pub returns-clause-told : goal.returns-clause-told
returns-clause-told g c =
    let done = take c.loop-count.count c.loop-count.out in
    let ks = c.loop-count.self.list.knotes in
    let none : length c.loop-count.out - c.loop-count.count ≡ 0 = omega (arith, c.loop-count-test.false) in
    sym (append-nil done)
    ∙ (ap (λ t. done ++ t) (sym (events_zero ks))
    ∙ (ap (λ n. done ++ events_in n ks) (sym none)
    ∙ (c.loop-count.invariant.told
    ∙ ap (λ n. events_in n c.args.self.now.list.knotes) c.loop-count.auto.out)))

pub returns-clause-count : goal.returns-clause-count
returns-clause-count g c =
    let told : length (take c.loop-count.count c.loop-count.out) ≡ length (events c.args.self.now.list (length c.args.out.now)) = ap length (returns-clause-told g c) in
    let long = length-take c.loop-count.count c.loop-count.out in
    omega (arith, told, long, c.loop-count.invariant.within)

pub returns-clause-list : goal.returns-clause-list
returns-clause-list g c =
    let ks = c.loop-count.self.list.knotes in
    let none : length c.loop-count.out - c.loop-count.count ≡ 0 = omega (arith, c.loop-count-test.false) in
    let left : ks ≡ left_in (length c.args.out.now) c.args.self.now.list.knotes =
    sym (left_zero ks)
    ∙ (ap (λ n. left_in n ks) (sym none)
    ∙ (c.loop-count.invariant.left
    ∙ ap (λ n. left_in n c.args.self.now.list.knotes) c.loop-count.auto.out)) in
    ap (λ t. record { clock = t; knotes = ks }) c.loop-count.invariant.clock
    ∙ ap (λ l. record { clock = c.args.self.now.list.clock; knotes = l }) left
