-- The append and the split keep the rule; what was appended follows what the pass had seen and entries of others.
use Rattle.std.proofs.Common.{[], ◌∷◌, ◌++◌, List, arith, rules, sym, ap, ◌∙◌, subst}
use Rattle.std.proofs.lemmas.Grind.{common_steps}
use Rattle.std.specs.List.{All}
use Rattle.std.specs.Prelude.{◌<◌, ℕ, Some}
use Rattle.co_life.specs.Seen.{Extends}
use Rattle.co_life.specs.Rule.{glance}
use Rattle.co_life.specs.Steps.{with_entry, let_in, left_by, let_out}
use Rattle.co_life.specs.Views.{history_in, made_in, seen_in}
use Rattle.co_life.proofs.Histories.{extends}
use Rattle.co_life.proofs.Moves.{leaves_as, all_below}
use Rattle.co_life.proofs.life.Life.write.Goals as goal

pub append-requires-clause-inside : goal.append-requires-clause-inside
append-requires-clause-inside g c =
    let l = c.let_in.ensures in
    let p = glance c.args.pass.actor c.args.pass.seen in
    let before = sym (ap (λ t. t.history) c.keeper.view_is) ∙ ap (λ m. history_in m.0) (sym l.seat.1) in (
      p,
      record {
        inside = l.seat.1 ∙ (λ j. let_in (history_in (sym l.seat.1 j).0) (made_in (sym l.seat.1 j).0) p);
        own = c.requires.actor;
        is_legal = subst (λ (h : List g.row.S-Entry.Denot). g.S.Story.legal (h ++ c.args.entry ∷ [])) before c.requires.legal;
      },
    )

pub split_seat-seat-requires : goal.split_seat-seat-requires
split_seat-seat-requires g c =
    let l = c.let_in.ensures in
    let x = c.append.ensures in (
      x.seat.0 ∙ sym c.self.view_is,
      omega (arith, c.self.invariant.0),
      leaves_as g.S.Story.actor g.S.Story.legal _ _ _ _ _ (ap (λ m. m.0) x.seat.1 ∙ ap (λ m. with_entry m.0 (Some c.args.entry)) l.seat.1),
    )

pub returns-clause-extends : goal.returns-clause-extends
returns-clause-extends g c =
    let l = c.let_in.ensures in
    let k = l.learns in
    let x = c.append.ensures in
    let e = c.args.entry in
    let out = ap (λ m. m.0) c.split_seat-seat.ensures.4 ∙ (ap (λ m. let_out m.0) x.seat.1 ∙ ap (λ m. let_out (with_entry m.0 (Some e))) l.seat.1) in
    subst (λ (xs : List g.row.S-Entry.Denot). Extends g.S.Story.actor c.args.pass.actor c.args.pass.seen e xs) (sym (ap seen_in out)) (extends g.S.Story.actor c.args.pass.actor _ _ e k.fits.prefix k.fits.all_own)

pub returns-clause-actors : goal.returns-clause-actors
returns-clause-actors g c =
    let l = c.let_in.ensures in
    let k = l.learns in
    let x = c.append.ensures in
    let e = c.args.entry in
    let left = ap (λ m. m.0) c.split_seat-seat.ensures.2 ∙ (ap (λ m. left_by m.0) x.seat.1 ∙ ap (λ m. left_by (with_entry m.0 (Some e))) l.seat.1) in
    subst (λ (t : List g.row.S-Entry.Denot × ℕ). All (λ y. g.S.Story.actor y < t.1) t.0) (λ i. (sym (ap history_in left) i, sym (ap made_in left) i)) (all_below g.S.Story.actor g.S.Story.legal _ e _ _ c.requires.actor k.actors k.below)

pub returns-clause-position : goal.returns-clause-position
returns-clause-position g c = search rules

pub invariant_of-keeper : goal.invariant_of-keeper
invariant_of-keeper g c = grind (arith, common_steps)

pub returns-clause-keeper : goal.returns-clause-keeper
returns-clause-keeper g c = search rules

pub returns-clause-pass : goal.returns-clause-pass
returns-clause-pass g c = search rules
