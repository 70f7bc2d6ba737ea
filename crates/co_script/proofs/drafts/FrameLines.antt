-- A line of the frame keeps a draft fine: it closes the open section, and may open the next.
use Rattle.std.proofs.Common.{◌≡◌, ◌+◌, true, List, length, refl, sym, subst}
use Rattle.std.specs.Prelude.{Ok, nat_lt, nat_le, sum_by}
use Rattle.std.proofs.lemmas.Bool.{ltb-true, leb-true}
use Rattle.co_object.proofs.Changes.{both_true}
use Rattle.co_text.specs.Values.{Word}
use Rattle.co_program.specs.declared.Script.{Script}
use Rattle.co_grammar.specs.declared.Kind.{Kind}
use Rattle.co_grammar.specs.declared.Kind.TheVariants as kind
use Rattle.co_grammar.specs.declared.Opener.TheVariants.{Frame}
use Rattle.co_grammar.specs.Statements.{Statement}
use Rattle.co_grammar.specs.Statements as states
use Rattle.co_grammar.specs.Forms.{frame_form}
use Rattle.co_grammar.specs.Checks.{is_next_of, spec_exists}
use Rattle.co_script.specs.Drafts.{Draft, closed}
use Rattle.co_script.specs.Refusals.{times_of, draft_with, draft_after}
use Rattle.co_script.specs.Reading.{may_stand, frame_line}
use Rattle.co_script.proofs.LinesFold.{Passes}
use Rattle.co_script.proofs.TurnLines.{version-kept}
use Rattle.co_script.proofs.told.Steps.{bind-ok}
use Rattle.co_script.proofs.told.Frames.{IsStated, frame-ok}
use Rattle.co_script.proofs.drafts.Firm.{Firm, Fine, close}
use Rattle.co_script.proofs.drafts.Order.{rank-rises, rank-after}
use Rattle.co_script.proofs.drafts.HeadLines.{hz-line, cpus-line, wheel-line, funcs-line}
use Rattle.co_script.proofs.drafts.TimerLines.{lock-line-fine, timer-line-fine}
use Rattle.co_script.proofs.drafts.SectionLines.{func-line-fine, client-line-fine, cpu-line-fine}
use Rattle.co_script.proofs.drafts.TurnsLine.{turns-line-fine}
use Rattle.co_script.proofs.drafts.Passed.{passes-ok}

framed : (d : Draft) (s : Script) (k : Kind) (say : Statement) → Firm d.funcs d.count d.stage s → may_stand d.stage (Frame k) ≡ true → IsStated s.version k say → Passes d s say → Fine (draft_with d s say)
framed d s kind.Hz (states.Hz n) h order stated p = hz-line d.funcs d.count d.stage s n h (rank-after d.stage kind.Hz refl order) p.numbers
framed d s kind.Cpus (states.Cpus n) h order stated p = cpus-line d.funcs d.count d.stage s n h (rank-after d.stage kind.Cpus refl order) p.numbers
framed d s kind.Wheel (states.Wheel n) h order stated p = wheel-line d.funcs d.count d.stage s n h (rank-after d.stage kind.Wheel refl order) p.numbers
framed d s kind.Funcs (states.Funcs n) h order stated p = funcs-line d.funcs d.count d.stage s n h (rank-after d.stage kind.Funcs refl order) p.numbers
framed d s kind.Lock (states.Lock n k) h order stated p = lock-line-fine d.funcs d.count d.stage s n k h (rank-rises d.stage kind.Lock order) p.numbers
framed d s kind.Timer (states.Timer n x) h order stated p =
    let both = both_true (is_next_of 1024 (length s.timers) n) (spec_exists s x.lock) p.numbers in
    timer-line-fine d.funcs d.count d.stage s n x h (rank-rises d.stage kind.Timer order) both.0 both.1 p.kinds stated
framed d s kind.Func (states.Func n) h order stated p =
    let both = both_true (nat_lt n d.funcs) (nat_le (length s.funcs) n) p.numbers in
    func-line-fine d.funcs d.count d.stage s n h (rank-rises d.stage kind.Func order) (ltb-true n d.funcs both.0) (leb-true (length s.funcs) n both.1)
framed d s kind.Client (states.Client n) h order stated p = client-line-fine d.funcs d.count d.stage s n h (rank-rises d.stage kind.Client order) p.numbers
framed d s kind.Cpu (states.Cpu n) h order stated p =
    let both = both_true (nat_lt n s.cpus) (nat_le (length s.ticks) n) p.numbers in
    cpu-line-fine d.funcs d.count d.stage s n h (rank-rises d.stage kind.Cpu order) (ltb-true n s.cpus both.0) (leb-true (length s.ticks) n both.1)
framed d s kind.Turns (states.Turns ts) h order stated p =
    turns-line-fine d.funcs d.count d.stage s ts h stated p.numbers (leb-true (length s.turns + sum_by times_of ts) 1000000 p.room)
framed d s kind.Callout (states.Hz n) h order stated p = absurd stated
framed d s kind.Callout (states.Cpus n) h order stated p = absurd stated
framed d s kind.Callout (states.Wheel n) h order stated p = absurd stated
framed d s kind.Callout (states.Funcs n) h order stated p = absurd stated
framed d s kind.Callout (states.Lock n l) h order stated p = absurd stated
framed d s kind.Callout (states.Timer n x) h order stated p = absurd stated
framed d s kind.Callout (states.Func n) h order stated p = absurd stated
framed d s kind.Callout (states.Client n) h order stated p = absurd stated
framed d s kind.Callout (states.Cpu n) h order stated p = absurd stated
framed d s kind.Callout (states.Turns ts) h order stated p = absurd stated
framed d s kind.Callout (states.Does a) h order stated p = absurd stated
framed d s kind.Hz (states.Cpus n) h order stated p = absurd stated
framed d s kind.Hz (states.Wheel n) h order stated p = absurd stated
framed d s kind.Hz (states.Funcs n) h order stated p = absurd stated
framed d s kind.Hz (states.Lock n l) h order stated p = absurd stated
framed d s kind.Hz (states.Timer n x) h order stated p = absurd stated
framed d s kind.Hz (states.Func n) h order stated p = absurd stated
framed d s kind.Hz (states.Client n) h order stated p = absurd stated
framed d s kind.Hz (states.Cpu n) h order stated p = absurd stated
framed d s kind.Hz (states.Turns ts) h order stated p = absurd stated
framed d s kind.Hz (states.Does a) h order stated p = absurd stated
framed d s kind.Cpus (states.Hz n) h order stated p = absurd stated
framed d s kind.Cpus (states.Wheel n) h order stated p = absurd stated
framed d s kind.Cpus (states.Funcs n) h order stated p = absurd stated
framed d s kind.Cpus (states.Lock n l) h order stated p = absurd stated
framed d s kind.Cpus (states.Timer n x) h order stated p = absurd stated
framed d s kind.Cpus (states.Func n) h order stated p = absurd stated
framed d s kind.Cpus (states.Client n) h order stated p = absurd stated
framed d s kind.Cpus (states.Cpu n) h order stated p = absurd stated
framed d s kind.Cpus (states.Turns ts) h order stated p = absurd stated
framed d s kind.Cpus (states.Does a) h order stated p = absurd stated
framed d s kind.Wheel (states.Hz n) h order stated p = absurd stated
framed d s kind.Wheel (states.Cpus n) h order stated p = absurd stated
framed d s kind.Wheel (states.Funcs n) h order stated p = absurd stated
framed d s kind.Wheel (states.Lock n l) h order stated p = absurd stated
framed d s kind.Wheel (states.Timer n x) h order stated p = absurd stated
framed d s kind.Wheel (states.Func n) h order stated p = absurd stated
framed d s kind.Wheel (states.Client n) h order stated p = absurd stated
framed d s kind.Wheel (states.Cpu n) h order stated p = absurd stated
framed d s kind.Wheel (states.Turns ts) h order stated p = absurd stated
framed d s kind.Wheel (states.Does a) h order stated p = absurd stated
framed d s kind.Funcs (states.Hz n) h order stated p = absurd stated
framed d s kind.Funcs (states.Cpus n) h order stated p = absurd stated
framed d s kind.Funcs (states.Wheel n) h order stated p = absurd stated
framed d s kind.Funcs (states.Lock n l) h order stated p = absurd stated
framed d s kind.Funcs (states.Timer n x) h order stated p = absurd stated
framed d s kind.Funcs (states.Func n) h order stated p = absurd stated
framed d s kind.Funcs (states.Client n) h order stated p = absurd stated
framed d s kind.Funcs (states.Cpu n) h order stated p = absurd stated
framed d s kind.Funcs (states.Turns ts) h order stated p = absurd stated
framed d s kind.Funcs (states.Does a) h order stated p = absurd stated
framed d s kind.Lock (states.Hz n) h order stated p = absurd stated
framed d s kind.Lock (states.Cpus n) h order stated p = absurd stated
framed d s kind.Lock (states.Wheel n) h order stated p = absurd stated
framed d s kind.Lock (states.Funcs n) h order stated p = absurd stated
framed d s kind.Lock (states.Timer n x) h order stated p = absurd stated
framed d s kind.Lock (states.Func n) h order stated p = absurd stated
framed d s kind.Lock (states.Client n) h order stated p = absurd stated
framed d s kind.Lock (states.Cpu n) h order stated p = absurd stated
framed d s kind.Lock (states.Turns ts) h order stated p = absurd stated
framed d s kind.Lock (states.Does a) h order stated p = absurd stated
framed d s kind.Timer (states.Hz n) h order stated p = absurd stated
framed d s kind.Timer (states.Cpus n) h order stated p = absurd stated
framed d s kind.Timer (states.Wheel n) h order stated p = absurd stated
framed d s kind.Timer (states.Funcs n) h order stated p = absurd stated
framed d s kind.Timer (states.Lock n l) h order stated p = absurd stated
framed d s kind.Timer (states.Func n) h order stated p = absurd stated
framed d s kind.Timer (states.Client n) h order stated p = absurd stated
framed d s kind.Timer (states.Cpu n) h order stated p = absurd stated
framed d s kind.Timer (states.Turns ts) h order stated p = absurd stated
framed d s kind.Timer (states.Does a) h order stated p = absurd stated
framed d s kind.Func (states.Hz n) h order stated p = absurd stated
framed d s kind.Func (states.Cpus n) h order stated p = absurd stated
framed d s kind.Func (states.Wheel n) h order stated p = absurd stated
framed d s kind.Func (states.Funcs n) h order stated p = absurd stated
framed d s kind.Func (states.Lock n l) h order stated p = absurd stated
framed d s kind.Func (states.Timer n x) h order stated p = absurd stated
framed d s kind.Func (states.Client n) h order stated p = absurd stated
framed d s kind.Func (states.Cpu n) h order stated p = absurd stated
framed d s kind.Func (states.Turns ts) h order stated p = absurd stated
framed d s kind.Func (states.Does a) h order stated p = absurd stated
framed d s kind.Client (states.Hz n) h order stated p = absurd stated
framed d s kind.Client (states.Cpus n) h order stated p = absurd stated
framed d s kind.Client (states.Wheel n) h order stated p = absurd stated
framed d s kind.Client (states.Funcs n) h order stated p = absurd stated
framed d s kind.Client (states.Lock n l) h order stated p = absurd stated
framed d s kind.Client (states.Timer n x) h order stated p = absurd stated
framed d s kind.Client (states.Func n) h order stated p = absurd stated
framed d s kind.Client (states.Cpu n) h order stated p = absurd stated
framed d s kind.Client (states.Turns ts) h order stated p = absurd stated
framed d s kind.Client (states.Does a) h order stated p = absurd stated
framed d s kind.Cpu (states.Hz n) h order stated p = absurd stated
framed d s kind.Cpu (states.Cpus n) h order stated p = absurd stated
framed d s kind.Cpu (states.Wheel n) h order stated p = absurd stated
framed d s kind.Cpu (states.Funcs n) h order stated p = absurd stated
framed d s kind.Cpu (states.Lock n l) h order stated p = absurd stated
framed d s kind.Cpu (states.Timer n x) h order stated p = absurd stated
framed d s kind.Cpu (states.Func n) h order stated p = absurd stated
framed d s kind.Cpu (states.Client n) h order stated p = absurd stated
framed d s kind.Cpu (states.Turns ts) h order stated p = absurd stated
framed d s kind.Cpu (states.Does a) h order stated p = absurd stated
framed d s kind.Turns (states.Hz n) h order stated p = absurd stated
framed d s kind.Turns (states.Cpus n) h order stated p = absurd stated
framed d s kind.Turns (states.Wheel n) h order stated p = absurd stated
framed d s kind.Turns (states.Funcs n) h order stated p = absurd stated
framed d s kind.Turns (states.Lock n l) h order stated p = absurd stated
framed d s kind.Turns (states.Timer n x) h order stated p = absurd stated
framed d s kind.Turns (states.Func n) h order stated p = absurd stated
framed d s kind.Turns (states.Client n) h order stated p = absurd stated
framed d s kind.Turns (states.Cpu n) h order stated p = absurd stated
framed d s kind.Turns (states.Does a) h order stated p = absurd stated

pub frame-fine : (d : Draft) (k : Kind) (ws : List Word) (e : Draft) → Fine d → may_stand d.stage (Frame k) ≡ true → frame_line d k ws ≡ Ok e → Fine e
frame-fine d k ws e h order read =
    let say = bind-ok (frame_form d.script.version k ws) (draft_after d (closed d)) e read in
    let p = passes-ok d (closed d) say.0 e say.2 in
    let stated : IsStated (closed d).version k say.0 =
    subst (λ v. IsStated v k say.0) (sym (version-kept d.stage d.script d.acts)) (frame-ok d.script.version k ws say.0 say.1) in
    subst (λ x. Fine x) p.1 (framed d (closed d) k say.0 (close d h) order stated p.0)
