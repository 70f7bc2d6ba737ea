use Rattle.std.proofs.Common.{◌≡◌, subst, ◌∙◌, ap}
use Rattle.co_single.specs.Seen.{AddsEntries}
use Rattle.co_single.proofs.OfAct.{adds_more}
use Rattle.co_itimer.proofs.Ticking.{all-wait, count-is, ticked-is, each-fires}
use Rattle.co_itimer.specs.Itimers.{EachFires}
use Rattle.co_itimer.specs.Serving.{AreServed}
use Rattle.co_itimer.specs.Timers.{clock_after, expirations, ticked}
use Rattle.co_itimer.proofs.itimers.Itimers.tick.Goals as goal

pub serve_all-requires-clause-wait : goal.serve_all-requires-clause-wait
serve_all-requires-clause-wait g c =
    let s = c.self.inside in
    all-wait s.work c.args.now c.scan-count.result s.single c.scan-count.new.self s.book c.self.invariant c.scan-count.ensures.scanned c.advance.new.self c.advance.ensures

pub returns-clause-answer : goal.returns-clause-answer
returns-clause-answer g c =
    let s = c.self.inside in
    subst (λ v. c.scan-count.result ≡ expirations v.alone c.args.now) c.self.view_is
    (count-is s.work c.args.now c.scan-count.result s.single c.scan-count.new.self s.book c.self.invariant c.scan-count.ensures.scanned)

pub returns-clause-alone : goal.returns-clause-alone
returns-clause-alone g c =
    let s = c.self.inside in
    let q = c.scan-count.new.self in
    let done = subst (λ t. AreServed s.work q t c.serve_all.new.single c.serve_all.new.book) c.advance.ensures c.serve_all.ensures.served in
    ticked-is s.work c.args.now c.scan-count.result s.single q s.book c.self.invariant c.scan-count.ensures.scanned c.serve_all.new.single c.serve_all.new.book done
    ∙ ap (λ v. ticked v.alone c.args.now) c.self.view_is

pub returns-clause-seen : goal.returns-clause-seen
returns-clause-seen g c =
    let s = c.self.inside in
    let q = c.scan-count.new.self in
    let done = subst (λ t. AreServed s.work q t c.serve_all.new.single c.serve_all.new.book) c.advance.ensures c.serve_all.ensures.served in
    subst (λ v. EachFires v.alone (clock_after v.alone c.args.now) c.args.now c.scan-count.result v.seen c.serve_all.new.single) c.self.view_is
    (each-fires s.work c.args.now c.scan-count.result s.single q s.book c.self.invariant c.scan-count.ensures.scanned c.serve_all.new.single c.serve_all.new.book done)

pub returns-clause-entries : goal.returns-clause-entries
returns-clause-entries g c =
    let s = c.self.inside in
    subst (λ v. AddsEntries v.seen v.work c.serve_all.new.single) c.self.view_is (adds_more s.single c.scan-count.new.self c.serve_all.new.single s.work c.scan-count.ensures.entries c.serve_all.ensures.entries)
