-- The line's number is taken, or something is wrong with it.
use Rattle.std.proofs.Common.{ℕ, ◌≡◌, ◌≢◌, ◌<◌, ◌+◌, length, get_or, set, ap, sym, subst, ◌∙◌, refl, arith}
use Rattle.std.specs.Prelude.{Some, None, slice_get}
use Rattle.std.proofs.lemmas.List.Sums.{count_by-le-length}
use Rattle.std.proofs.lemmas.Option.{slice_get_read}
use Rattle.co_packed.specs.declared.heads.Head.{Head}
use Rattle.co_check.specs.Shown.{actor_of, is_by}
use Rattle.co_program.proofs.Places.{index_fits}
use Rattle.co_program.specs.Places.{place_exists}
use Rattle.co_print.specs.Order.{place_index}
use Rattle.co_report.specs.PackedLines.{line_of}
use Rattle.co_print.proofs.Places.{index_below}
use Rattle.co_check.proofs.Noted.{renumbered}
use Rattle.co_check.proofs.Numbered.{numbered, not_free, too_low, in_range}
use Rattle.co_check.proofs.index.Index.take.Goals as goal

pub place_index-place-requires : goal.place_index-place-requires
place_index-place-requires c = index_fits c.args.script.now c.args.head.place c.requires.script (ap (λ (h : Head). place_exists c.args.script.now h.place) c.requires.line.1 ∙ c.requires.line.2.place)

pub returns-then-not-put : goal.returns-then-not-put
returns-then-not-put c note line lines above of_note fits is h =
    let actor : c.args.head.actor ≡ actor_of note.entry = ap (λ (h : Head). h.actor) of_note in
    let pos : c.args.head.pos ≡ note.pos = ap (λ (h : Head). h.pos) of_note in
    let below : c.args.head.actor < length c.args.self.now.slots.items = omega (arith, actor, fits.actor, h.actors) in
    let row_is = ap (slice_get c.args.self.now.slots.items) (sym actor) ∙ slice_get_read c.args.self.now.slots.items (length c.args.self.now.slots.items) c.args.head.actor c.index_mut-row.result.now refl below c.index_mut-row.ensures.value in
    not_free c.args.script.now lines above (line_of line note) c.index_mut-row.result.now.items (h.slots (actor_of note.entry) c.index_mut-row.result.now row_is)
    (subst (λ (n : ℕ). slice_get c.index_mut-row.result.now.items n ≢ Some None) pos c.if-not-put.ensures)

pub raise-requires-clause-actor : goal.raise-requires-clause-actor
raise-requires-clause-actor c =
    let note = c.requires.line.0 in
    let fits = c.requires.line.2 in
    let h = c.requires.indexed.2 in
    let actor : c.args.head.actor ≡ actor_of note.entry = ap (λ (h : Head). h.actor) c.requires.line.1 in
    let place : c.place_index-place.result ≡ place_index c.args.script.now note.place = c.place_index-place.ensures ∙ ap (λ (h : Head). place_index c.args.script.now h.place) c.requires.line.1 in
    let inside : c.place_index-place.result < length c.args.self.now.latest.items = omega (arith, place, index_below c.args.script.now note.place fits.place, h.places) in
    let high_is = ap (slice_get c.args.self.now.latest.items) (sym place) ∙ slice_get_read c.args.self.now.latest.items (length c.args.self.now.latest.items) c.place_index-place.result c.index_mut-high.result.now refl inside c.index_mut-high.ensures.value in
    omega (arith, actor, fits.actor, (h.latest note.place c.index_mut-high.result.now fits.place high_is).count)

pub raise-requires-clause-number : goal.raise-requires-clause-number
raise-requires-clause-number c =
    let note = c.requires.line.0 in
    let h = c.requires.indexed.2 in
    let actor : c.args.head.actor ≡ actor_of note.entry = ap (λ (h : Head). h.actor) c.requires.line.1 in
    let pos : c.args.head.pos ≡ note.pos = ap (λ (h : Head). h.pos) c.requires.line.1 in
    let below : c.args.head.actor < length c.args.self.now.slots.items = omega (arith, actor, c.requires.line.2.actor, h.actors) in
    let row_is = ap (slice_get c.args.self.now.slots.items) (sym actor) ∙ slice_get_read c.args.self.now.slots.items (length c.args.self.now.slots.items) c.args.head.actor c.index_mut-row.result.now refl below c.index_mut-row.ensures.value in
    let free = ap (slice_get c.index_mut-row.result.now.items) (sym pos) ∙ c.if-not-put.ensures.0 in
    omega (
      arith,
      pos,
      in_range c.args.script.now c.requires.indexed.0 c.requires.indexed.1 (line_of 0 note) c.index_mut-row.result.now.items (h.slots (actor_of note.entry) c.index_mut-row.result.now row_is) free,
      count_by-le-length (is_by (actor_of note.entry)) c.requires.indexed.0,
      c.requires.indexed.3,
    )

pub returns-then-not-raise : goal.returns-then-not-raise
returns-then-not-raise c note line lines above of_note fits is h =
    let actor : c.args.head.actor ≡ actor_of note.entry = ap (λ (h : Head). h.actor) of_note in
    let pos : c.args.head.pos ≡ note.pos = ap (λ (h : Head). h.pos) of_note in
    let place : c.place_index-place.result ≡ place_index c.args.script.now note.place = c.place_index-place.ensures ∙ ap (λ (h : Head). place_index c.args.script.now h.place) of_note in
    let below : c.args.head.actor < length c.args.self.now.slots.items = omega (arith, actor, fits.actor, h.actors) in
    let row_is = ap (slice_get c.args.self.now.slots.items) (sym actor) ∙ slice_get_read c.args.self.now.slots.items (length c.args.self.now.slots.items) c.args.head.actor c.index_mut-row.result.now refl below c.index_mut-row.ensures.value in
    let free = ap (slice_get c.index_mut-row.result.now.items) (sym pos) ∙ c.if-not-put.ensures.0 in
    let inside : c.place_index-place.result < length c.args.self.now.latest.items = omega (arith, place, index_below c.args.script.now note.place fits.place, h.places) in
    let high_is = ap (slice_get c.args.self.now.latest.items) (sym place) ∙ slice_get_read c.args.self.now.latest.items (length c.args.self.now.latest.items) c.place_index-place.result c.index_mut-high.result.now refl inside c.index_mut-high.ensures.value in
    too_low c.args.script.now lines above (line_of line note) c.index_mut-row.result.now.items (h.slots (actor_of note.entry) c.index_mut-row.result.now row_is) free
    (omega (arith, c.if-not-raise.ensures, pos, ap (λ n. get_or c.index_mut-high.result.now.items n 0) actor, (h.latest note.place c.index_mut-high.result.now fits.place high_is).each (actor_of note.entry) fits.actor))

pub returns : goal.returns
returns c note line lines above of_note fits is h =
    let actor : c.args.head.actor ≡ actor_of note.entry = ap (λ (h : Head). h.actor) of_note in
    let pos : c.args.head.pos ≡ note.pos = ap (λ (h : Head). h.pos) of_note in
    let place : c.place_index-place.result ≡ place_index c.args.script.now note.place = c.place_index-place.ensures ∙ ap (λ (h : Head). place_index c.args.script.now h.place) of_note in
    let below : c.args.head.actor < length c.args.self.now.slots.items = omega (arith, actor, fits.actor, h.actors) in
    let row_is = ap (slice_get c.args.self.now.slots.items) (sym actor) ∙ slice_get_read c.args.self.now.slots.items (length c.args.self.now.slots.items) c.args.head.actor c.index_mut-row.result.now refl below c.index_mut-row.ensures.value in
    let free = ap (slice_get c.index_mut-row.result.now.items) (sym pos) ∙ c.if-not-put.ensures.0 in
    let inside : c.place_index-place.result < length c.args.self.now.latest.items = omega (arith, place, index_below c.args.script.now note.place fits.place, h.places) in
    let high_is = ap (slice_get c.args.self.now.latest.items) (sym place) ∙ slice_get_read c.args.self.now.latest.items (length c.args.self.now.latest.items) c.place_index-place.result c.index_mut-high.result.now refl inside c.index_mut-high.ensures.value in
    numbered c.args.script.now lines above (line_of line note) c.args.self.now _ c.index_mut-row.result.now c.put.new.row c.index_mut-high.result.now c.raise.new.row c.args.at (renumbered c.args.script.now note 0 line fits) is h
    row_is free (c.if-not-put.ensures.1 ∙ ap (λ n. set c.index_mut-row.result.now.items n (Some c.args.at)) pos)
    high_is (omega (arith, c.if-not-raise.ensures.0, pos, ap (λ n. get_or c.index_mut-high.result.now.items n 0) actor))
    (c.if-not-raise.ensures.1 ∙ ap (λ n. set c.index_mut-high.result.now.items n (c.args.head.pos + 1)) actor ∙ ap (λ n. set c.index_mut-high.result.now.items (actor_of note.entry) (n + 1)) pos)
    (ap (λ n. set c.args.self.now.slots.items n c.put.new.row) actor)
    (ap (λ n. set c.args.self.now.latest.items n c.raise.new.row) place)
