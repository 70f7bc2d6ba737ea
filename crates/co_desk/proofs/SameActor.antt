-- What is written leaves whose passes they are.
use Rattle.std.proofs.Common.{ℕ, List, [], ◌∷◌, ap, ◌∙◌}
use Rattle.co_object.specs.declared.note.AnyEntry.{AnyEntry}
use Rattle.co_object.specs.declared.note.AnyEntry.TheVariants as of
use Rattle.co_object.specs.declared.note.Note.{Note}
use Rattle.co_object.specs.declared.note.Place.{Place}
use Rattle.co_object.specs.declared.note.Place.TheVariants.{Timer, Cpu, Actor}
use Rattle.co_desk.specs.Services.{AreSame}
use Rattle.co_desk.specs.Views.{PassesView}
use Rattle.co_desk.specs.Writes.{Writes, WritesAt}

keeps_at : (p q : PassesView) (place : Place) (entry : AnyEntry) (pos : ℕ) → WritesAt p place entry pos q → AreSame p q
keeps_at p q (Timer i) (of.Timer e) pos w = record { name = ap (λ (v : PassesView). v.name) w.1.passes; params = ap (λ (v : PassesView). v.params) w.1.passes; actor = ap (λ (v : PassesView). v.actor) w.1.passes }
keeps_at p q (Timer i) (of.Cpu e) pos w = absurd w
keeps_at p q (Timer i) (of.Own e) pos w = absurd w
keeps_at p q (Cpu cpu) (of.Timer e) pos w = absurd w
keeps_at p q (Cpu cpu) (of.Cpu e) pos w = record { name = ap (λ (v : PassesView). v.name) w.1.passes; params = ap (λ (v : PassesView). v.params) w.1.passes; actor = ap (λ (v : PassesView). v.actor) w.1.passes }
keeps_at p q (Cpu cpu) (of.Own e) pos w = absurd w
keeps_at p q (Actor a) entry pos w = absurd w

pub writes_keep : (p q : PassesView) (notes : List Note) → Writes p notes q → AreSame p q
writes_keep p q [] w = record { name = ap (λ (v : PassesView). v.name) w; params = ap (λ (v : PassesView). v.params) w; actor = ap (λ (v : PassesView). v.actor) w }
writes_keep p q (n ∷ ns) w =
    let first = keeps_at p w.0 n.place n.entry n.pos w.1 in
    let rest = writes_keep w.0 q ns w.2 in
    record { name = rest.name ∙ first.name; params = rest.params ∙ first.params; actor = rest.actor ∙ first.actor }
