use Rattle.std.proofs.Common.{◌∙◌, ◌+◌, ◌<◌, ◌^◌, ap, sym, subst, refl}
use Rattle.co_single.specs.Seen.{AddsEntries}
use Rattle.co_single.proofs.OfAct.{adds_more}
use Rattle.co_kq.specs.Kevents.{ticked, expirations}
use Rattle.co_kq.specs.Numbers.{kevents_in, callouts_in, FiresCounted}
use Rattle.co_kq.proofs.Ending.{are_due, new_kq, new_list, new_answer, new_counts}
use Rattle.co_kq.proofs.kq.Kq.tick.Goals as goal

pub serve_all-requires : goal.serve_all-requires
serve_all-requires g c =
    let cleared = c.clear_stale.ensures.cleared in
    are_due c.self.inside.clock c.args.now c.later-self-inside.result c.self.inside.room c.self.inside.work c.scan-count.result c.self.inside.knotes c.self.inside.uses c.clear_stale.new.uses c.self.inside.single c.clear_stale.new.single c.scan-count.new.self c.self.invariant (subst (λ b. b.work < 2 ^ 62) (sym c.self.view_is) c.requires.work) cleared c.clear_stale.ensures.none c.scan-count.ensures.scanned c.later-self-inside.ensures

pub invariant_of-self : goal.invariant_of-self
invariant_of-self g c =
    let cleared = c.clear_stale.ensures.cleared in
    new_kq c.self.inside.clock c.args.now c.later-self-inside.result c.self.inside.room c.self.inside.work c.scan-count.result c.self.inside.knotes c.self.inside.uses c.clear_stale.new.uses c.self.inside.single c.clear_stale.new.single c.scan-count.new.self c.self.invariant (subst (λ b. b.work < 2 ^ 62) (sym c.self.view_is) c.requires.work) cleared c.clear_stale.ensures.none c.scan-count.ensures.scanned c.later-self-inside.ensures c.serve_all.new.knotes c.serve_all.new.single c.serve_all.ensures.serving c.serve_all.ensures.nothing c.clear_stale.new.uses refl c.serve_all.ensures.capacity

pub returns-clause-answer : goal.returns-clause-answer
returns-clause-answer g c =
    let cleared = c.clear_stale.ensures.cleared in
    new_answer c.self.inside.clock c.args.now c.later-self-inside.result c.self.inside.room c.self.inside.work c.scan-count.result c.self.inside.knotes c.self.inside.uses c.clear_stale.new.uses c.self.inside.single c.clear_stale.new.single c.scan-count.new.self c.self.invariant (subst (λ b. b.work < 2 ^ 62) (sym c.self.view_is) c.requires.work) cleared c.clear_stale.ensures.none c.scan-count.ensures.scanned c.later-self-inside.ensures c.serve_all.new.knotes c.serve_all.new.single c.serve_all.ensures.serving c.serve_all.ensures.nothing ∙ ap (λ b. expirations b.list c.args.now) c.self.view_is

pub returns-clause-list : goal.returns-clause-list
returns-clause-list g c =
    let cleared = c.clear_stale.ensures.cleared in
    new_list c.self.inside.clock c.args.now c.later-self-inside.result c.self.inside.room c.self.inside.work c.scan-count.result c.self.inside.knotes c.self.inside.uses c.clear_stale.new.uses c.self.inside.single c.clear_stale.new.single c.scan-count.new.self c.self.invariant (subst (λ b. b.work < 2 ^ 62) (sym c.self.view_is) c.requires.work) cleared c.clear_stale.ensures.none c.scan-count.ensures.scanned c.later-self-inside.ensures c.serve_all.new.knotes c.serve_all.new.single c.serve_all.ensures.serving c.serve_all.ensures.nothing ∙ ap (λ b. ticked b.list c.args.now) c.self.view_is

pub returns-clause-fires : goal.returns-clause-fires
returns-clause-fires g c =
    let cleared = c.clear_stale.ensures.cleared in
    subst (λ b. FiresCounted b c.args.now c.scan-count.result (record { room = c.self.inside.room; work = c.self.inside.work + 1; list = kevents_in c.later-self-inside.result c.serve_all.new.knotes.slots; passes = c.serve_all.new.single; callouts = callouts_in c.serve_all.new.knotes.slots })) c.self.view_is
    (new_counts c.self.inside.clock c.args.now c.later-self-inside.result c.self.inside.room c.self.inside.work c.scan-count.result c.self.inside.knotes c.self.inside.uses c.clear_stale.new.uses c.self.inside.single c.clear_stale.new.single c.scan-count.new.self c.self.invariant (subst (λ b. b.work < 2 ^ 62) (sym c.self.view_is) c.requires.work) cleared c.clear_stale.ensures.none c.scan-count.ensures.scanned c.later-self-inside.ensures c.serve_all.new.knotes c.serve_all.new.single c.serve_all.ensures.serving c.serve_all.ensures.nothing)

pub returns-clause-entries : goal.returns-clause-entries
returns-clause-entries g c =
    let p = c.self.inside.single in
    let work = c.self.inside.work in
    let scanned = adds_more p c.clear_stale.new.single c.scan-count.new.self work c.clear_stale.ensures.entries c.scan-count.ensures.entries in
    subst (λ b. AddsEntries b.passes b.work c.serve_all.new.single) c.self.view_is (adds_more p c.scan-count.new.self c.serve_all.new.single work scanned c.serve_all.ensures.entries)

pub returns-clause-room : goal.returns-clause-room
returns-clause-room g c = ap (λ b. b.room) c.self.view_is

pub returns-clause-work : goal.returns-clause-work
returns-clause-work g c = ap (λ b. b.work + 1) c.self.view_is
