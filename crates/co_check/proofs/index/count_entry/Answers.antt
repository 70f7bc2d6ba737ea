-- One note more is counted.
use Rattle.std.proofs.Common.{◌≡◌, ◌<◌, length, refl, ap, sym, ◌∙◌, arith}
use Rattle.std.proofs.lemmas.Option.{slice_get_read, get_or_from_slice_get}
use Rattle.co_check.specs.Shown.{actor_of}
use Rattle.co_check.proofs.Indexing.{counted-more, count-few}
use Rattle.co_check.proofs.index.count_entry.Goals as goal

pub overflow_add-index_mut : goal.overflow_add-index_mut
overflow_add-index_mut c =
    let counts = c.args.counts.now.items in
    let inside : c.actor-actor.result < length counts = omega (arith, c.actor-actor.ensures, c.requires.actor) in
    let count = get_or_from_slice_get counts c.actor-actor.result c.index_mut.result.now 0 (slice_get_read counts (length counts) c.actor-actor.result c.index_mut.result.now refl inside c.index_mut.ensures.value) in
    omega (arith, count, count-few (length counts) c.requires.counted.0 counts c.actor-actor.result c.requires.counted.1 inside, c.requires.counted.2)

pub returns : goal.returns
returns c actors l above is counted =
    let counts = c.args.counts.now.items in
    let inside : c.actor-actor.result < length counts = omega (arith, c.actor-actor.ensures, c.requires.actor) in
    let count = get_or_from_slice_get counts c.actor-actor.result c.index_mut.result.now 0 (slice_get_read counts (length counts) c.actor-actor.result c.index_mut.result.now refl inside c.index_mut.ensures.value) in
    let here : c.actor-actor.result ≡ actor_of l.entry = c.actor-actor.ensures ∙ ap actor_of (sym is) in
    counted-more actors above l counts c.actor-actor.result c.index_mut.result.now counted here (omega (arith, inside, counted.long)) (sym count)
