-- The ledger holds a count of the callout's entries, which is below the number of notes; one entry more is as the plain world has it.
use Rattle.std.proofs.Common.{rules, arith, ◌≡◌, ◌<◌, ◌≤◌, ◌+◌, [], ◌∷◌, refl, sym, ap, subst, ◌∙◌, length, get_or, set}
use Rattle.std.proofs.lemmas.Result.{on_ok_weaker}
use Rattle.co_object.specs.declared.note.Note.{Note}
use Rattle.std.proofs.lemmas.List.{get_or_read}
use Rattle.co_core.specs.Written.{Booked, Written, IsNoted, noted, with_lists}
use Rattle.co_core.proofs.written.Entries.{written_callout, callout_note}
use Rattle.co_core.proofs.written.There.{history_there}
use Rattle.co_core.proofs.written.Notes.{both, counts_from, is_noted, may_note}
use Rattle.co_core.proofs.ledger.Ledger.write_callout.Goals as goal

pub index-pos-requires : goal.index-pos-requires
index-pos-requires g c =
    let m = c.requires.may in
    let there = history_there c.args.script.now (with_lists c.args.self.now m.lists) m.world m.written c.args.i c.requires.known in
    let within : c.args.i < length c.self.inside.histories.items = subst (λ (x : Booked). c.args.i < length x.histories) (sym c.self.view_is) there.0 in
    search (rules, within)

pub index_mut-requires : goal.index_mut-requires
index_mut-requires g c =
    let m = c.requires.may in
    let there = history_there c.args.script.now (with_lists c.args.self.now m.lists) m.world m.written c.args.i c.requires.known in
    let within : c.args.i < length c.self.inside.histories.items = subst (λ (x : Booked). c.args.i < length x.histories) (sym c.self.view_is) there.0 in
    search (rules, within)

pub overflow_add-pos : goal.overflow_add-pos
overflow_add-pos g c =
    let m = c.requires.may in
    let there = history_there c.args.script.now (with_lists c.args.self.now m.lists) m.world m.written c.args.i c.requires.known in
    let within : c.args.i < length c.self.inside.histories.items = subst (λ (x : Booked). c.args.i < length x.histories) (sym c.self.view_is) there.0 in
    let few : get_or c.self.inside.histories.items c.args.i 0 ≤ c.args.self.now.made = subst (λ (x : Booked). get_or x.histories c.args.i 0 ≤ c.args.self.now.made) (sym c.self.view_is) there.1 in
    let read : c.index-pos.result.now ≡ get_or c.self.inside.histories.items c.args.i 0 = get_or_read c.self.inside.histories.items c.args.i c.index-pos.result.now within c.index-pos.ensures 0 in
    let most = c.requires.may.few in
    omega (arith, few, read, most)

pub write-requires-clause-may : goal.write-requires-clause-may
write-requires-clause-may g c =
    may_note c.args.script.now c.args.self.now _ c.args.author.actor c.requires.may (ap (λ (x : Booked). x.cursors) c.self.view_is) (ap (λ (x : Booked). x.made) c.self.view_is)

pub returns-clause-made : goal.returns-clause-made
returns-clause-made g c =
    let s = c.args.script.now in
    let a = c.args.author.actor in
    let pos = c.index-pos.result.now in
    let note : Note = callout_note a c.args.author.act c.args.i pos c.args.op.now c.args.reply.now in
    on_ok_weaker c.write.result (λ booked. record {
      notes = note ∷ [];
      one = refl;
      written = λ state is lists w written.
          (let x : Written = with_lists c.args.self.now lists in
          let x2 : Written = with_lists c.write.new.self (noted lists a (note ∷ [])) in
          let there = history_there s x w written c.args.i c.requires.known in
          let within : c.args.i < length c.self.inside.histories.items = subst (λ (x : Booked). c.args.i < length x.histories) (sym c.self.view_is) there.0 in
          let at : pos ≡ get_or c.args.self.now.histories c.args.i 0 =
          get_or_read c.self.inside.histories.items c.args.i pos within c.index-pos.ensures 0 ∙ ap (λ (x : Booked). get_or x.histories c.args.i 0) c.self.view_is in
          written_callout s x x2 w a c.args.author.act c.args.i pos c.args.op.now (state, c.args.reply.now) c.args.listed written c.requires.may.exists c.requires.known is at
          (subst (λ (y : Booked). IsNoted s a c.args.listed note (record (with_lists y lists) { histories = set y.histories c.args.i (pos + 1) }) x2) c.self.view_is
          (is_noted s a c.args.listed note _ c.write.new.self lists booked.0)));
      wrote = counts_from g.N.Listener.has g.N.Listener.room a (note ∷ []) c.args.self.now _ c.write.new.self c.args.listener.now c.write.new.listener (ap (λ (x : Booked). x.made) c.self.view_is) booked.1;
    }) (both _ _ c.write.result c.write.ensures.booked c.write.ensures.wrote)
