-- The note's line is appended where its place is, and nowhere if the script hasn't its place.
use Rattle.std.proofs.Common.{◌<◌, sym, subst}
use Rattle.std.proofs.lemmas.Result.{on_ok_weaker}
use Rattle.co_report.specs.Sections.{Written, NotesAreTold}
use Rattle.co_program.specs.Actors.{actor_count}
use Rattle.co_report.proofs.ToldPages.{told-written, told-nowhere}
use Rattle.co_report.proofs.sections.Sections.write.Goals as goal

pub returns-in-Some-clause-has : goal.returns-in-Some-clause-has
returns-in-Some-clause-has c =
    on_ok_weaker c.write.result
    (λ e made told. told-written c.self.inside.script.now made (record { actor = c.args.actor; note = c.args.note.now }) c.self.inside.pages.items c.self.inside.counts.items c.index_mut-count.result.now c.in_ok-count.field-0
    (subst (λ (x : Written). NotesAreTold x made) (sym c.self.view_is) told) c.note_is_typed.ensures c.in_ok-count.ensures.few
    (subst (λ (x : Written). c.args.actor < actor_count x.script) (sym c.self.view_is) c.requires.actor)
    c.index_mut-count.ensures.value c.in_ok-count.ensures.next c.in-Some.place c.index_mut-page.result.now c.write.new.self
    c.in-Some.ensures.0 c.in-Some.ensures.1 c.index_mut-page.ensures.value e)
    c.write.ensures

pub returns-in-None-clause-has : goal.returns-in-None-clause-has
returns-in-None-clause-has c made told =
    told-nowhere c.self.inside.script.now made (record { actor = c.args.actor; note = c.args.note.now }) c.self.inside.pages.items c.self.inside.counts.items c.index_mut-count.result.now c.in_ok-count.field-0
    (subst (λ (x : Written). NotesAreTold x made) (sym c.self.view_is) told) c.note_is_typed.ensures c.in_ok-count.ensures.few
    (subst (λ (x : Written). c.args.actor < actor_count x.script) (sym c.self.view_is) c.requires.actor)
    c.index_mut-count.ensures.value c.in_ok-count.ensures.next c.in-None.ensures
