use Rattle.std.proofs.Common.{◌≡◌, ℕ, refl, sym, ap, ◌∙◌, subst, arith}
use Rattle.co_object.specs.declared.queue.QOp.TheVariants.{Scan}
use Rattle.co_object.specs.declared.queue.QReply.TheVariants.{Count}
use Rattle.co_bucket.specs.Visits.{looks_at_visited}
use Rattle.co_desk.specs.Desk.{IsDesk}
use Rattle.co_desk.specs.declared.outs.Scanned.{Scanned}
use Rattle.co_desk.specs.Outcomes.{noted_turn, queue_entry_by, IsScan}
use Rattle.co_desk.specs.Kinds.{cpu_kind}
use Rattle.co_desk.specs.Writes.{WritesEntry}
use Rattle.co_desk.specs.Written.{AreTogether}
use Rattle.co_desk.specs.Books.{BooksView}
use Rattle.co_desk.specs.Views.{PassesView}
use Rattle.co_desk.proofs.DeskKept.{scanned_desk}
use Rattle.co_desk.proofs.ScanTold.{scan_told}
use Rattle.co_desk.proofs.desk.Desk.scan.Goals as goal

pub invariant_of-self : goal.invariant_of-self
invariant_of-self g c =
    let desk = subst (λ b. IsDesk c.self.inside.wheel b c.self.inside.scans) (sym c.meet.ensures.kept) c.self.invariant in
    subst (λ b. IsDesk c.scan-count.new.self b c.saturating_add-self-inside.result) (sym c.write_turn-pos.ensures.books)
    (scanned_desk c.self.inside.wheel c.scan-count.new.self c.meet.new.self c.self.inside.scans c.saturating_add-self-inside.result (queue_entry_by c.meet.new.passes c.args.act (Scan c.args.now) (Count c.scan-count.result)) c.args.now desk c.scan-count.ensures.callouts c.scan-count.ensures.queue refl (omega arith))

pub returns : goal.returns
returns g c =
    let desk = subst (λ b. IsDesk c.self.inside.wheel b c.self.inside.scans) (sym c.meet.ensures.kept) c.self.invariant in
    let params = ap (λ b. b.params) c.meet.ensures.kept ∙ (c.meet.ensures.params ∙ ap (λ p. p.params) (sym c.meet.ensures.passes)) in
    let here : c.meet.new.self.cpu ≡ c.args.cpu = (let k = ap (λ b. b.cpu) c.meet.ensures.kept in let n = c.cpu.ensures in let f = c.if-cpu.false in omega arith) in
    let written = subst (λ b. WritesEntry cpu_kind c.meet.new.passes c.meet.new.self.cpu (queue_entry_by c.meet.new.passes c.args.act (Scan c.args.now) (Count c.scan-count.result)) c.write_turn-pos.result b.journal c.write_turn-pos.new.passes) c.write_turn-pos.ensures.books c.write_turn-pos.ensures.written in
    let out : Scanned = record { count = c.scan-count.result; note = c.turn_note.result; looks = c.count.result } in
    let note = c.turn_note.ensures ∙ ap (λ (a : ℕ). noted_turn a c.args.act c.args.cpu (Scan c.args.now) (Count c.scan-count.result) c.write_turn-pos.result) c.actor-actor.ensures in
    let looks : c.scan-count.new.looks ≡ looks_at_visited c.self.inside.wheel.timers c.args.now = (let l = c.scan-count.ensures.looks in let n = c.new-looks.ensures in omega arith) in
    record {
      asked = record {
        none = tt;
        some =
            subst (λ p. IsScan p c.args.cpu c.args.act c.args.now out c.write_turn-pos.new.passes) c.meet.ensures.passes
            (scan_told c.meet.new.passes c.write_turn-pos.new.passes c.self.inside.wheel c.meet.new.self c.self.inside.scans c.args.cpu c.args.act c.args.now c.scan-count.new.looks c.write_turn-pos.result out desk params here note written looks c.count.ensures);
      };
      why = tt;
    }

pub write_turn-pos-requires-clause-together : goal.write_turn-pos-requires-clause-together
write_turn-pos-requires-clause-together g c =
    let met = c.meet.ensures in
    subst (λ (t : PassesView × BooksView). AreTogether g.N.Name.name c.args.places.now t.0 t.1) (λ d. (sym met.passes d, sym met.kept d)) record { here = c.requires.service; params_are = met.params }
