-- An interrupt that makes the Scans which it owes has scanned at each tick of its program, and has nothing in service still.
use Rattle.std.proofs.Common.{◌≡◌, ℕ, ◌+◌, ◌≤◌, Bool, true, false, sym, refl, subst}
use Rattle.co_object.specs.declared.QEntry.{QEntry}
use Rattle.co_object.specs.declared.QOp.TheVariants.{Scan}
use Rattle.co_object.specs.declared.QReply.TheVariants.{Count}
use Rattle.co_object.specs.declared.Place.TheVariants as place
use Rattle.co_object.specs.declared.AnyEntry.TheVariants as entry
use Rattle.co_object.specs.Group.{Placed, placed}
use Rattle.co_program.specs.declared.Role.{Role}
use Rattle.co_program.specs.declared.Role.TheVariants.{Client, Cpu, Interrupt}
use Rattle.co_program.specs.Follows.{scan_count}
use Rattle.co_program.specs.Stages.{Ready}
use Rattle.co_desk.specs.declared.outs.Scanned.{Scanned}
use Rattle.co_desk.specs.Outcomes.{IsScan, queue_entry_by}
use Rattle.co_desk.specs.Services.{IsFree}
use Rattle.co_desk.specs.Views.{PassesView, journal_seen}
use Rattle.co_desk.specs.Writes.{WritesAt}
use Rattle.co_run.specs.Acting.{ServesAsStage}
use Rattle.co_run.proofs.kept.Scanned.{scans_once}

pub scan_counts : (p q : PassesView) (cpu act now : ℕ) (out : Scanned) → IsScan p cpu act now out q → scan_count (journal_seen p cpu) + 1 ≤ scan_count (journal_seen q cpu)
scan_counts p q cpu act now out scan =
    let e : QEntry = queue_entry_by p act (Scan now) (Count out.count) in
    let at : placed out.note ≡ (place.Cpu cpu, entry.Cpu e) = λ d. (scan.note.place d, scan.note.entry d) in
    let w : WritesAt p out.note.place out.note.entry out.note.pos q = subst (WritesAt p out.note.place out.note.entry out.note.pos) (sym scan.written.2) scan.written.1 in
    scans_once p q cpu out.note.pos e refl (subst (λ (x : Placed). WritesAt p x.0 x.1 out.note.pos q) at w)

pub serves_still : (role : Role) (p q : PassesView) → ((direct : Bool) (x : ℕ) → IsFree direct p x → IsFree direct q x) → ServesAsStage role p Ready → ServesAsStage role q Ready
serves_still (Client k) p q free h = tt
serves_still (Cpu x) p q free h = free false x h
serves_still (Interrupt x) p q free h = free true x h
