use Rattle.std.proofs.Common.{◌≡◌, ◌∷◌, [], false, length, sym, subst}
use Rattle.co_desk.specs.declared.params.Params.{Params}
use Rattle.co_single.specs.Acts.{IsScanned}
use Rattle.co_single.specs.Alarms.{waiting_of}
use Rattle.co_single.specs.Seen.{scan_entries, AddsEntries}
use Rattle.co_single.specs.Rest.{IsSingle}
use Rattle.co_single.proofs.OfAct.{scan_adds}
use Rattle.co_single.proofs.Scanning.{is_scanned_now, rests_scanned}
use Rattle.co_single.proofs.Told.{written_is, one_is}
use Rattle.co_single.proofs.single.Single.scan.Goals as goal

pub invariant_of-self : goal.invariant_of-self
invariant_of-self g c =
    let n = length c.self.inside.service.specs in
    let p = c.self.inside.passes in
    let q = c.scan_alone.new.passes in
    let out = c.scan_alone.result in
    let scanned = c.scan_alone.ensures.scanned in
    let written = written_is n p q (out.note ∷ []) (scan_entries p c.args.act c.args.now out.count) c.self.invariant.single (one_is out.note _ _ scanned.note.place scanned.note.entry) scanned.written in
    subst (λ (s : Params). IsSingle g.N.Name.name s q c.self.inside.ending) (sym c.scan_alone.ensures.kept.params_are) record {
      of = c.scan_alone.ensures.kept.keeps.of;
      single = written.1;
      free = c.scan_alone.ensures.kept.keeps.free false 0 c.self.invariant.free;
      rest = rests_scanned n p q c.self.invariant.single written.1 c.self.invariant.rest c.args.act c.args.now out.count written.0 (subst (λ v. waiting_of v ≡ []) (sym c.self.view_is) c.requires.served);
      nothing = c.self.invariant.nothing;
      room = c.self.invariant.room;
    }

pub returns-clause-scanned : goal.returns-clause-scanned
returns-clause-scanned g c =
    let n = length c.self.inside.service.specs in
    let p = c.self.inside.passes in
    let q = c.scan_alone.new.passes in
    let out = c.scan_alone.result in
    let scanned = c.scan_alone.ensures.scanned in
    let written = written_is n p q (out.note ∷ []) (scan_entries p c.args.act c.args.now out.count) c.self.invariant.single (one_is out.note _ _ scanned.note.place scanned.note.entry) scanned.written in
    subst (λ v. IsScanned v c.args.now out.count q) c.self.view_is
    (is_scanned_now n p q c.self.invariant.single written.1 c.self.invariant.rest c.args.act c.args.now out.count written.0 (subst (λ v. waiting_of v ≡ []) (sym c.self.view_is) c.requires.served))

pub returns-clause-entries : goal.returns-clause-entries
returns-clause-entries g c =
    let n = length c.self.inside.service.specs in
    let p = c.self.inside.passes in
    let q = c.scan_alone.new.passes in
    let out = c.scan_alone.result in
    let scanned = c.scan_alone.ensures.scanned in
    let written = written_is n p q (out.note ∷ []) (scan_entries p c.args.act c.args.now out.count) c.self.invariant.single (one_is out.note _ _ scanned.note.place scanned.note.entry) scanned.written in
    subst (λ v. AddsEntries v c.args.act q) c.self.view_is (scan_adds p q c.args.act c.args.now out.count written.0)
