-- The ledger holds counts of the journal's entries and of its Scans, each at most the number of notes; one entry more is as the plain world has it.
use Rattle.std.proofs.Common.{rules, false, arith, ◌≡◌, ◌<◌, ◌≤◌, ◌+◌, [], ◌∷◌, ℕ, refl, sym, ap, subst, ◌∙◌, length, get_or, set}
use Rattle.std.proofs.lemmas.List.{get_or_read}
use Rattle.std.proofs.lemmas.Result.{on_ok_weaker}
use Rattle.co_object.specs.declared.note.Note.{Note}
use Rattle.co_program.specs.Follows.{one_scan}
use Rattle.co_core.specs.contracts.ledger.Ledger.{the_view}
use Rattle.co_core.specs.Written.{Booked, Written, IsNoted, noted, with_lists}
use Rattle.co_core.proofs.written.Entries.{written_queue, queue_note}
use Rattle.co_core.proofs.written.There.{journal_there, scan_there}
use Rattle.co_core.proofs.written.Notes.{both, counts_from, is_noted, may_note}
use Rattle.co_core.proofs.ledger.Ledger.write_queue.Goals as goal

pub index-pos-requires : goal.index-pos-requires
index-pos-requires g c =
    let m = c.requires.may.may in
    let there = journal_there c.args.script.now (with_lists c.args.self.now m.lists) m.world m.written c.args.cpu c.requires.may.known in
    let within : c.args.cpu < length c.self.inside.journals.items = subst (λ (x : Booked). c.args.cpu < length x.journals) (sym c.self.view_is) there.0 in
    search (rules, within)

pub index_mut-requires : goal.index_mut-requires
index_mut-requires g c =
    let m = c.requires.may.may in
    let there = journal_there c.args.script.now (with_lists c.args.self.now m.lists) m.world m.written c.args.cpu c.requires.may.known in
    let within : c.args.cpu < length c.self.inside.journals.items = subst (λ (x : Booked). c.args.cpu < length x.journals) (sym c.self.view_is) there.0 in
    search (rules, within)

pub overflow_add-pos : goal.overflow_add-pos
overflow_add-pos g c =
    let m = c.requires.may.may in
    let there = journal_there c.args.script.now (with_lists c.args.self.now m.lists) m.world m.written c.args.cpu c.requires.may.known in
    let within : c.args.cpu < length c.self.inside.journals.items = subst (λ (x : Booked). c.args.cpu < length x.journals) (sym c.self.view_is) there.0 in
    let few : get_or c.self.inside.journals.items c.args.cpu 0 ≤ c.args.self.now.made = subst (λ (x : Booked). get_or x.journals c.args.cpu 0 ≤ c.args.self.now.made) (sym c.self.view_is) there.1 in
    let read : c.index-pos.result.now ≡ get_or c.self.inside.journals.items c.args.cpu 0 = get_or_read c.self.inside.journals.items c.args.cpu c.index-pos.result.now within c.index-pos.ensures 0 in
    let most = c.requires.may.may.few in
    omega (arith, few, read, most)

pub index-scans-requires : goal.index-scans-requires
index-scans-requires g c =
    let m = c.requires.may.may in
    let there = scan_there c.args.script.now (with_lists c.args.self.now m.lists) m.world m.written c.args.cpu c.requires.may.known in
    let within : c.args.cpu < length c.self.inside.scans.items = subst (λ (x : Booked). c.args.cpu < length x.scans) (sym c.self.view_is) there.0 in
    search (rules, within)

pub index_mut-requires-2 : goal.index_mut-requires-2
index_mut-requires-2 g c =
    let m = c.requires.may.may in
    let there = scan_there c.args.script.now (with_lists c.args.self.now m.lists) m.world m.written c.args.cpu c.requires.may.known in
    let within : c.args.cpu < length c.self.inside.scans.items = subst (λ (x : Booked). c.args.cpu < length x.scans) (sym c.self.view_is) there.0 in
    search (rules, within)

pub overflow_add-scans : goal.overflow_add-scans
overflow_add-scans g c =
    let m = c.requires.may.may in
    let there = scan_there c.args.script.now (with_lists c.args.self.now m.lists) m.world m.written c.args.cpu c.requires.may.known in
    let within : c.args.cpu < length c.self.inside.scans.items = subst (λ (x : Booked). c.args.cpu < length x.scans) (sym c.self.view_is) there.0 in
    let few : get_or c.self.inside.scans.items c.args.cpu 0 ≤ c.args.self.now.made = subst (λ (x : Booked). get_or x.scans c.args.cpu 0 ≤ c.args.self.now.made) (sym c.self.view_is) there.1 in
    let read : c.index-scans.result.now ≡ get_or c.self.inside.scans.items c.args.cpu 0 = get_or_read c.self.inside.scans.items c.args.cpu c.index-scans.result.now within c.index-scans.ensures 0 in
    let most = c.requires.may.may.few in
    omega (arith, few, read, most, c.one_scan.ensures.few)

pub write-requires-clause-may : goal.write-requires-clause-may
write-requires-clause-may g c =
    may_note c.args.script.now c.args.self.now _ c.args.author.actor c.requires.may.may (ap (λ (x : Booked). x.cursors) c.self.view_is) (ap (λ (x : Booked). x.made) c.self.view_is)

pub returns-clause-made : goal.returns-clause-made
returns-clause-made g c =
    let s = c.args.script.now in
    let a = c.args.author.actor in
    let cpu = c.args.cpu in
    let pos = c.index-pos.result.now in
    let scans = c.index-scans.result.now in
    let note : Note = queue_note a c.args.author.act cpu pos c.args.op c.args.reply in
    on_ok_weaker c.write.result (λ booked. record {
      notes = note ∷ [];
      one = refl;
      written = λ queue lists w written.
          (let x : Written = with_lists c.args.self.now lists in
          let x2 : Written = with_lists c.write.new.self (noted lists a (note ∷ [])) in
          let there = journal_there s x w written cpu c.requires.may.known in
          let there' = scan_there s x w written cpu c.requires.may.known in
          let within : cpu < length c.self.inside.journals.items = subst (λ (x : Booked). cpu < length x.journals) (sym c.self.view_is) there.0 in
          let within' : cpu < length c.self.inside.scans.items = subst (λ (x : Booked). cpu < length x.scans) (sym c.self.view_is) there'.0 in
          let at : pos ≡ get_or c.args.self.now.journals cpu 0 =
          get_or_read c.self.inside.journals.items cpu pos within c.index-pos.ensures 0 ∙ ap (λ (x : Booked). get_or x.journals cpu 0) c.self.view_is in
          let at' : scans ≡ get_or c.args.self.now.scans cpu 0 =
          get_or_read c.self.inside.scans.items cpu scans within' c.index-scans.ensures 0 ∙ ap (λ (x : Booked). get_or x.scans cpu 0) c.self.view_is in
          written_queue s x x2 w a c.args.author.act cpu pos scans c.args.op (queue, c.args.reply) written c.requires.may.may.exists c.requires.may.known at at'
          (subst (λ (y : Booked). IsNoted s a false note (record (with_lists y lists) { journals = set y.journals cpu (pos + 1); scans = set y.scans cpu (scans + one_scan c.args.op) }) x2) c.self.view_is
          (subst (λ (n : ℕ). IsNoted s a false note (record (with_lists (the_view c.self.inside) lists) { journals = set c.self.inside.journals.items cpu (pos + 1); scans = set c.self.inside.scans.items cpu (scans + n) }) x2) c.one_scan.ensures.scans
          (is_noted s a false note _ c.write.new.self lists booked.0))));
      wrote = counts_from g.N.Listener.has g.N.Listener.room a (note ∷ []) c.args.self.now _ c.write.new.self c.args.listener.now c.write.new.listener (ap (λ (x : Booked). x.made) c.self.view_is) booked.1;
    }) (both _ _ c.write.result c.write.ensures.booked c.write.ensures.wrote)
