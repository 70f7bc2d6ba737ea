use Rattle.std.proofs.Common.{◌≡◌, ◌+◌, ◌<◌, ◌^◌, ap, sym, subst, ◌∙◌, arith, refl, List}
use Rattle.co_single.specs.Seen.{AddsEntries}
use Rattle.co_single.proofs.OfAct.{none_adds}
use Rattle.co_kq.specs.declared.kevent.Add.TheVariants.{Full}
use Rattle.co_kq.specs.Kevents.{add_answer, added, span_of, new_knote, put}
use Rattle.co_kq.specs.Slots.{HasNoIdent, StandsAtKey, knotes_in}
use Rattle.co_kq.specs.Numbers.{kevents_in}
use Rattle.co_kq.specs.declared.knote.Knote.{Knote}
use Rattle.co_kq.proofs.Adding.{full_answer, new_answer, old_answer, refused, accepted, worked}
use Rattle.co_kq.proofs.kq.Kq.add.Goals as goal

pub returns-then-len-self-clause-answer : goal.returns-then-len-self-clause-answer
returns-then-len-self-clause-answer g c =
    sym (full_answer c.self.inside.room c.self.inside.clock c.args.ident (span_of c.args.value c.args.unit) c.self.inside.knotes.slots c.in-Some.ensures.0 c.in-None.ensures.absent (omega (arith, c.len.ensures, c.if-len-self.true)))
    ∙ ap (λ b. add_answer b.room b.list c.args.ident (span_of c.args.value c.args.unit)) c.self.view_is

pub returns-then-len-self-clause-list : goal.returns-then-len-self-clause-list
returns-then-len-self-clause-list g c =
    subst (λ b. kevents_in c.self.inside.clock c.self.inside.knotes.slots ≡ added b.room b.list c.args.ident (span_of c.args.value c.args.unit) c.args.oneshot) c.self.view_is
    (sym (refused c.self.inside.room c.args.ident (span_of c.args.value c.args.unit) (kevents_in c.self.inside.clock c.self.inside.knotes.slots) c.args.oneshot Full
    (full_answer c.self.inside.room c.self.inside.clock c.args.ident (span_of c.args.value c.args.unit) c.self.inside.knotes.slots c.in-Some.ensures.0 c.in-None.ensures.absent (omega (arith, c.len.ensures, c.if-len-self.true))) refl))

pub returns-in-Some-find-clause-answer : goal.returns-in-Some-find-clause-answer
returns-in-Some-find-clause-answer g c =
    sym (old_answer c.self.inside.room c.self.inside.clock c.in-Some-find.key c.args.ident (span_of c.args.value c.args.unit) c.self.inside.knotes.slots c.in-Some.ensures.0 c.in-Some-find.ensures.found c.self.invariant.kept.distinct)
    ∙ ap (λ b. add_answer b.room b.list c.args.ident (span_of c.args.value c.args.unit)) c.self.view_is

pub returns-in-Some-find-clause-list : goal.returns-in-Some-find-clause-list
returns-in-Some-find-clause-list g c =
    let clock = c.self.inside.clock in
    let old = knotes_in c.self.inside.knotes.slots in
    let new = knotes_in c.replace.new.knotes.slots in
    let span = span_of c.args.value c.args.unit in
    let knote : c.begun-knote.result ≡ new_knote clock c.args.ident span c.args.oneshot = c.begun-knote.ensures ∙ ap (λ s. new_knote clock c.args.ident s c.args.oneshot) c.in-Some.ensures.1 in
    let list : new ≡ put (new_knote clock c.args.ident span c.args.oneshot) old = c.replace.ensures.put.list ∙ ap (λ k. put k old) knote in
    let after : kevents_in clock c.replace.new.knotes.slots ≡ added c.self.inside.room (kevents_in clock c.self.inside.knotes.slots) c.args.ident span c.args.oneshot =
    ap (λ (ks : List Knote). record { clock = clock; knotes = ks }) list
    ∙ sym (accepted c.self.inside.room c.args.ident span (kevents_in clock c.self.inside.knotes.slots) c.args.oneshot (old_answer c.self.inside.room c.self.inside.clock c.in-Some-find.key c.args.ident (span_of c.args.value c.args.unit) c.self.inside.knotes.slots c.in-Some.ensures.0 c.in-Some-find.ensures.found c.self.invariant.kept.distinct)) in
    subst (λ b. kevents_in clock c.replace.new.knotes.slots ≡ added b.room b.list c.args.ident span c.args.oneshot) c.self.view_is after

pub returns-else-len-self-clause-answer : goal.returns-else-len-self-clause-answer
returns-else-len-self-clause-answer g c =
    sym (new_answer c.self.inside.room c.self.inside.clock c.args.ident (span_of c.args.value c.args.unit) c.self.inside.knotes.slots c.in-Some.ensures.0 c.in-None.ensures.absent (omega (arith, c.len.ensures, c.if-len-self.false)))
    ∙ ap (λ b. add_answer b.room b.list c.args.ident (span_of c.args.value c.args.unit)) c.self.view_is

pub returns-else-len-self-clause-list : goal.returns-else-len-self-clause-list
returns-else-len-self-clause-list g c =
    let clock = c.self.inside.clock in
    let old = knotes_in c.self.inside.knotes.slots in
    let new = knotes_in c.place.new.knotes.slots in
    let span = span_of c.args.value c.args.unit in
    let knote : c.begun-knote.result ≡ new_knote clock c.args.ident span c.args.oneshot = c.begun-knote.ensures ∙ ap (λ s. new_knote clock c.args.ident s c.args.oneshot) c.in-Some.ensures.1 in
    let list : new ≡ put (new_knote clock c.args.ident span c.args.oneshot) old = c.place.ensures.put.list ∙ ap (λ k. put k old) knote in
    let after : kevents_in clock c.place.new.knotes.slots ≡ added c.self.inside.room (kevents_in clock c.self.inside.knotes.slots) c.args.ident span c.args.oneshot =
    ap (λ (ks : List Knote). record { clock = clock; knotes = ks }) list
    ∙ sym (accepted c.self.inside.room c.args.ident span (kevents_in clock c.self.inside.knotes.slots) c.args.oneshot (new_answer c.self.inside.room c.self.inside.clock c.args.ident (span_of c.args.value c.args.unit) c.self.inside.knotes.slots c.in-Some.ensures.0 c.in-None.ensures.absent (omega (arith, c.len.ensures, c.if-len-self.false)))) in
    subst (λ b. kevents_in clock c.place.new.knotes.slots ≡ added b.room b.list c.args.ident span c.args.oneshot) c.self.view_is after

-- ---- what the list keeps

pub place-requires : goal.place-requires
place-requires g c =
    let i = c.self.invariant in
    let next = ap (λ (k : Knote). k.next) c.begun-knote.ensures in
    record {
      kept = i.kept;
      room = omega (arith, c.len.ensures, c.if-len-self.false, i.all);
      has = omega (arith, i.all, i.has);
      absent = subst (λ (k : Knote). HasNoIdent c.self.inside.knotes.slots k.ident) (sym c.begun-knote.ensures) c.in-None.ensures.absent;
      low = subst (λ b. b.work < 2 ^ 62) (sym c.self.view_is) c.requires.work;
      next = cc;
      fresh = ap (λ (k : Knote). k.count) c.begun-knote.ensures;
    }

pub replace-requires-clause-low : goal.replace-requires-clause-low
replace-requires-clause-low g c = subst (λ b. b.work < 2 ^ 62) (sym c.self.view_is) c.requires.work

pub replace-requires-clause-fresh : goal.replace-requires-clause-fresh
replace-requires-clause-fresh g c = ap (λ (k : Knote). k.count) c.begun-knote.ensures

pub replace-requires-clause-there : goal.replace-requires-clause-there
replace-requires-clause-there g c = subst (λ (k : Knote). StandsAtKey c.self.inside.knotes.slots c.in-Some-find.key k.ident) (sym c.begun-knote.ensures) c.in-Some-find.ensures.found

pub invariant_of-self : goal.invariant_of-self
invariant_of-self g c = worked c.self.inside.clock c.self.inside.room c.self.inside.work c.self.inside.knotes c.self.inside.uses c.self.inside.single c.self.invariant

pub invariant_of-self-then-len-self : goal.invariant_of-self-then-len-self
invariant_of-self-then-len-self g c = worked c.self.inside.clock c.self.inside.room c.self.inside.work c.self.inside.knotes c.self.inside.uses c.self.inside.single c.self.invariant

pub invariant_of-self-in-Some-find : goal.invariant_of-self-in-Some-find
invariant_of-self-in-Some-find g c =
    let put = c.replace.ensures.put in
    record { kept = put.kept; all = c.self.invariant.all; has = omega (arith, put.capacity, c.self.invariant.has); last = put.clock ∙ c.self.invariant.last }

pub invariant_of-self-in-None : goal.invariant_of-self-in-None
invariant_of-self-in-None g c =
    let put = c.place.ensures.put in
    record { kept = put.kept; all = c.place.ensures.all ∙ c.self.invariant.all; has = omega (arith, put.capacity, c.self.invariant.has); last = put.clock ∙ c.self.invariant.last }

-- ---- what contracts see of it

pub returns-in-Some-find-clause-room : goal.returns-in-Some-find-clause-room
returns-in-Some-find-clause-room g c = ap (λ b. b.room) c.self.view_is

pub returns-in-Some-find-clause-work : goal.returns-in-Some-find-clause-work
returns-in-Some-find-clause-work g c = ap (λ b. b.work + 1) c.self.view_is

pub returns-in-Some-find-clause-entries : goal.returns-in-Some-find-clause-entries
returns-in-Some-find-clause-entries g c = subst (λ b. AddsEntries b.passes b.work c.replace.new.single) c.self.view_is c.replace.ensures.put.entries

pub returns-else-len-self-clause-room : goal.returns-else-len-self-clause-room
returns-else-len-self-clause-room g c = ap (λ b. b.room) c.self.view_is

pub returns-else-len-self-clause-work : goal.returns-else-len-self-clause-work
returns-else-len-self-clause-work g c = ap (λ b. b.work + 1) c.self.view_is

pub returns-else-len-self-clause-entries : goal.returns-else-len-self-clause-entries
returns-else-len-self-clause-entries g c = subst (λ b. AddsEntries b.passes b.work c.place.new.single) c.self.view_is c.place.ensures.put.entries

pub returns-then-len-self-clause-room : goal.returns-then-len-self-clause-room
returns-then-len-self-clause-room g c = ap (λ b. b.room) c.self.view_is

pub returns-then-len-self-clause-work : goal.returns-then-len-self-clause-work
returns-then-len-self-clause-work g c = ap (λ b. b.work + 1) c.self.view_is

pub returns-then-len-self-clause-entries : goal.returns-then-len-self-clause-entries
returns-then-len-self-clause-entries g c = subst (λ b. AddsEntries b.passes b.work c.self.inside.single) c.self.view_is (none_adds c.self.inside.single c.self.inside.work)
