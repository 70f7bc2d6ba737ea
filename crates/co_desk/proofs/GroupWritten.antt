-- A call's section in the books, entry after entry.
use Rattle.std.proofs.Common.{◌≡◌, ℕ, true, List, [], ◌∷◌, ◌++◌, map, refl, sym, ap, ◌∙◌, subst}
use Rattle.std.specs.Prelude.{slice_index_or}
use Rattle.std.specs.declared.option.Option.{Option}
use Rattle.std.specs.declared.option.Option.TheVariants.{Some}
use Rattle.co_object.specs.declared.note.Entry.{Entry}
use Rattle.co_object.specs.declared.op.CallOp.{CallOp}
use Rattle.co_object.specs.declared.op.Op.TheVariants.{Call}
use Rattle.co_object.specs.declared.reply.Reply.{Reply}
use Rattle.co_object.specs.Callout.{call}
use Rattle.co_object.specs.Group.{off_of, placed}
use Rattle.co_wheel.specs.Cpu.{Cpu}
use Rattle.co_desk.specs.declared.told.Inserted.{Inserted}
use Rattle.co_desk.specs.declared.told.Told.{Told}
use Rattle.co_desk.specs.Books.{BooksView, entries_at, is_kept, with_history}
use Rattle.co_desk.specs.Call.{call_entry, due_named, insert_turns, insertion_told, number_accepted, removal_told}
use Rattle.co_desk.specs.Desk.{Owes, scans_in}
use Rattle.co_desk.specs.May.{state_at}
use Rattle.co_desk.specs.Name.{ServiceName}
use Rattle.co_desk.specs.Services.{AreSame}
use Rattle.co_desk.specs.Views.{PassesView, seen_of}
use Rattle.co_desk.specs.Written.{AreTogether, IsEntryWritten, IsGroupWritten, IsInsertionWritten, IsRemovalWritten, MayAnswer}
use Rattle.co_desk.proofs.CallNoted.{insertion_same, told_placed, told_written}
use Rattle.co_desk.proofs.Items.{index_set}
use Rattle.co_desk.proofs.SameActor.{writes_keep}

-- what was of one service still is, where neither the service nor the parameters have changed
pub still_together : (service places : ServiceName) (p q : PassesView) (b b' : BooksView) → AreTogether service places p b → AreSame p q → b'.params ≡ b.params → AreTogether service places q b'
still_together service places p q b b' t same params = record {
  here = record { places_are = t.here.places_are; passes_are = same.name ∙ t.here.passes_are };
  params_are = params ∙ (t.params_are ∙ sym same.params);
}

pub entry_same : (p q : PassesView) (b b' : BooksView) (i pos : ℕ) (e : Entry) → IsEntryWritten p b i e pos q b' → AreSame p q
entry_same p q b b' i pos e w = record { name = ap (λ (v : PassesView). v.name) w.written.passes; params = ap (λ (v : PassesView). v.params) w.written.passes; actor = ap (λ (v : PassesView). v.actor) w.written.passes }

module _ (service places : ServiceName) (p : PassesView) (b : BooksView) (act i : ℕ) (op : CallOp) (told : Told) (together : AreTogether service places p b) (may : MayAnswer b i op told.out) where
  abbrev reply : Reply
  reply = told.out.reply

  module _ (p1 : PassesView) (b1 : BooksView) (removal : ℕ) (r : IsRemovalWritten p b act i (off_of told.out.reply) removal p1 b1) where
    first : AreSame p p1
    first = writes_keep p p1 (removal_told p.actor act i (off_of reply) removal) r.written

    pub entry_together : AreTogether service places p1 b1
    entry_together = still_together service places p p1 b b1 together first (ap (λ (v : BooksView). v.params) r.books)

    pub entry_here : is_kept b1 i ≡ true
    entry_here = ap (λ (v : BooksView). is_kept v i) r.books ∙ may.here

    pub entry_reply : told.out.reply ≡ (call (state_at b1 i) op).1
    entry_reply = may.reply ∙ ap (λ (v : BooksView). (call (state_at v i) op).1) (sym r.books)

    -- the entry, by the passes before the call
    same_after : entries_at b1 i ++ call_entry p1 act op reply ∷ [] ≡ entries_at b i ++ call_entry p act op reply ∷ []
    same_after = λ d. entries_at (r.books d) i ++ (record { actor = first.actor d; act = act; op = Call op; reply = reply }) ∷ []

    module _ (p2 : PassesView) (b2 : BooksView) (entry : ℕ) (e : IsEntryWritten p1 b1 i (call_entry p1 act op told.out.reply) entry p2 b2) (n due : ℕ) (number : n ≡ number_accepted told.out.reply) (time : due ≡ due_named op) where
      pub insertion_together : AreTogether service places p2 b2
      insertion_together = still_together service places p1 p2 b1 b2 entry_together (entry_same p1 p2 b1 b2 i entry (call_entry p1 act op reply) e) (ap (λ (v : BooksView). v.params) e.books)

      still_owed : (w : Cpu) → Owes (insert_turns i (number_accepted reply) (due_named op) told.out.inserted) w b1 → Owes (insert_turns i n due told.out.inserted) w b2
      still_owed w o =
          subst (λ (t : ℕ × ℕ × BooksView). Owes (insert_turns i t.0 t.1 told.out.inserted) w t.2) (λ d. (sym number d, sym time d, sym e.books d)) (record { takes = o.takes })

      pub insertion_owed : (w : Cpu) × Owes (insert_turns i n due told.out.inserted) w b2
      insertion_owed = (may.owes.0, still_owed may.owes.0 (r.goes_on (insert_turns i (number_accepted reply) (due_named op) told.out.inserted) may.owes.0 may.owes.1))

      module _ (p3 : PassesView) (b3 : BooksView) (insertion : Option Inserted) (x : IsInsertionWritten p2 b2 act i n due told.out.inserted insertion p3 b3) where
        acted : p2.actor ≡ p.actor
        acted = ap (λ (v : PassesView). v.actor) e.written.passes ∙ first.actor

        cpu : b2.cpu ≡ b.cpu
        cpu = ap (λ (v : BooksView). v.cpu) e.books ∙ ap (λ (v : BooksView). v.cpu) r.books

        abbrev all : Told
        all = record { out = told.out; removal = removal; entry = entry; insertion = insertion }

        pub group_written : IsGroupWritten p b act i op told (record { out = told.out; removal = removal; entry = entry; insertion = insertion }) p3 b3
        group_written = record {
          out = refl;
          books = x.books
              ∙ (ap (λ (v : BooksView). record v { journal = b3.journal }) e.books
              ∙ (ap (λ (v : BooksView). record (with_history v i (Some (entries_at b1 i ++ call_entry p1 act op reply ∷ []))) { journal = b3.journal }) r.books
              ∙ ap (λ (H : List Entry). record (with_history b i (Some H)) { journal = b3.journal }) same_after));
          scans = x.scans ∙ (ap (λ (v : BooksView). scans_in v.journal) e.books ∙ r.scans);
          written = told_written p act b.cpu i op all told.out.inserted p1 p2 p3 (entries_at b1 i ++ call_entry p1 act op reply ∷ []) first.actor acted r.written e.written x.written;
          placed = told_placed p act b.cpu i op all told.out.inserted
              ((λ d. map placed (insertion_told (sym acted d) act i insertion))
              ∙ (x.placed ∙ insertion_same p p2 act b.cpu b2.cpu i (number_accepted reply) n (due_named op) due told.out.inserted acted cpu number time));
          seen = ap (λ (l : List (List Entry)). slice_index_or l i []) x.timers
              ∙ (ap (λ (v : PassesView). seen_of v i) e.written.passes
              ∙ (index_set p1.timers i (entries_at b1 i ++ call_entry p1 act op reply ∷ []) [] e.written.below ∙ same_after));
          room = x.none;
          goes_on = λ w o. x.goes_on w (still_owed w (r.goes_on (insert_turns i (number_accepted reply) (due_named op) told.out.inserted) w o));
        }
