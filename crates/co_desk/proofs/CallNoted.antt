-- The notes of a call beside its entry: what it took out of the queue, and what it put in.
use Rattle.std.proofs.Common.{◌≡◌, ℕ, true, false, List, [], ◌∷◌, ◌++◌, map, refl, sym, ap, ◌∙◌, subst}
use Rattle.std.specs.Prelude.{is_some}
use Rattle.std.specs.declared.option.Option.{Option}
use Rattle.std.specs.declared.option.Option.TheVariants.{Some, None}
use Rattle.co_object.specs.declared.note.Entry.{Entry}
use Rattle.co_object.specs.declared.note.QEntry.{QEntry}
use Rattle.co_object.specs.declared.note.Note.{Note}
use Rattle.co_object.specs.declared.note.Place.TheVariants as at
use Rattle.co_object.specs.declared.note.AnyEntry.TheVariants as of
use Rattle.co_object.specs.declared.op.CallOp.{CallOp}
use Rattle.co_object.specs.declared.op.Op.TheVariants.{Call}
use Rattle.co_object.specs.declared.queue.QOp.TheVariants.{Insert, Remove}
use Rattle.co_object.specs.declared.queue.QReply.TheVariants.{At, Off}
use Rattle.co_object.specs.Group.{Placed, off_of, placed, removal_notes}
use Rattle.co_desk.specs.declared.told.Told.{Told}
use Rattle.co_desk.specs.Books.{BooksView}
use Rattle.co_desk.specs.Call.{call_entry, due_named, insertion_notes, insertion_told, number_accepted, removal_told, section_notes, told_notes}
use Rattle.co_desk.specs.Desk.{scans_in}
use Rattle.co_desk.specs.Outcomes.{noted_entry, queue_entry_by}
use Rattle.co_desk.specs.Views.{PassesView}
use Rattle.co_desk.specs.Kinds.{timer_kind}
use Rattle.co_desk.specs.Writes.{Writes, WritesEntry}
use Rattle.co_desk.specs.Written.{IsInsertionWritten, IsRemovalWritten, IsTurnWritten}
use Rattle.co_desk.proofs.DeskKept.{scans_same}
use Rattle.co_desk.proofs.Noting.{turn_written, writes-append}

-- the books after an entry of the journal: it alone has changed
journal_alone : (p q : PassesView) (b b' : BooksView) (e : QEntry) (pos : ℕ) → IsTurnWritten p b e pos q b' → b' ≡ record b { journal = b'.journal }
journal_alone p q b b' e pos w = w.books ∙ ap (λ (J : List QEntry). record b { journal = J }) (sym (ap (λ (v : BooksView). v.journal) w.books))

-- where a call took no arming out of the queue
pub no_removal : (p : PassesView) (b : BooksView) (act i pos : ℕ) (off : Option ℕ) → is_some off ≡ false → IsRemovalWritten p b act i off pos p b
no_removal p b act i pos None none = record { books = refl; scans = refl; written = refl; timers = refl; goes_on = λ turns w o. o }
no_removal p b act i pos (Some x) none = absurd (cc)

-- where it took one, its Remove
pub removal_written : (p q : PassesView) (b b' : BooksView) (act i pos : ℕ) (off : Option ℕ) → is_some off ≡ true → ((x : ℕ) → off ≡ Some x → x ≡ b.cpu) → IsTurnWritten p b (queue_entry_by p act (Remove i) Off) pos q b' → IsRemovalWritten p b act i off pos q b'
removal_written p q b b' act i pos None some here w = absurd (cc)
removal_written p q b b' act i pos (Some x) some here w = record {
  books = journal_alone p q b b' (queue_entry_by p act (Remove i) Off) pos w;
  scans = ap (λ (v : BooksView). scans_in v.journal) w.books ∙ scans_same b (queue_entry_by p act (Remove i) Off) refl;
  written = turn_written p q act b.cpu x (Remove i) Off pos b'.journal (here x refl) w.written;
  timers = ap (λ (v : PassesView). v.timers) w.written.passes;
  goes_on = w.goes_on;
}

-- where the queue has an accepted arming, its Insert
pub insertion_written : (p q : PassesView) (b b' : BooksView) (act i n due : ℕ) (o : Option ℕ) (place time pos : ℕ) → o ≡ Some time → place ≡ b.cpu → IsTurnWritten p b (queue_entry_by p act (Insert i n due) (At time)) pos q b'
    → IsInsertionWritten p b act i n due o (Some (record { cpu = place; n = n; due = due; at = time; pos = pos })) q b'
insertion_written p q b b' act i n due o place time pos some here w = subst (λ (x : Option ℕ). IsInsertionWritten p b act i n due x (Some (record { cpu = place; n = n; due = due; at = time; pos = pos })) q b') (sym some) record {
  books = journal_alone p q b b' (queue_entry_by p act (Insert i n due) (At time)) pos w;
  scans = ap (λ (v : BooksView). scans_in v.journal) w.books ∙ scans_same b (queue_entry_by p act (Insert i n due) (At time)) refl;
  written = turn_written p q act b.cpu place (Insert i n due) (At time) pos b'.journal here w.written;
  timers = ap (λ (v : PassesView). v.timers) w.written.passes;
  none = λ no. absurd (cc);
  placed = λ d. (at.Cpu (here d), of.Cpu (record { actor = p.actor; act = act; op = Insert i n due; reply = At time })) ∷ [];
  goes_on = w.goes_on [];
}

-- the notes of what was put in depend on the actor alone, of whom they are
pub insertion_same : (p q : PassesView) (act cpu cpu' i n n' due due' : ℕ) (o : Option ℕ) → q.actor ≡ p.actor → cpu' ≡ cpu → n' ≡ n → due' ≡ due → insertion_notes q act cpu' i n' due' o ≡ insertion_notes p act cpu i n due o
insertion_same p q act cpu cpu' i n n' due due' None actor here number time = refl
insertion_same p q act cpu cpu' i n n' due due' (Some t) actor here number time = λ d. (at.Cpu (here d), of.Cpu (record { actor = actor d; act = act; op = Insert i (number d) (time d); reply = At t })) ∷ []

module _ (p : PassesView) (act cpu i : ℕ) (op : CallOp) (t : Told) (inserted : Option ℕ) where
  abbrev entry : Entry
  entry = call_entry p act op t.out.reply

  abbrev put : List Note
  put = insertion_told p.actor act i t.insertion

  -- the notes of a section are what it told
  pub told_placed : map placed put ≡ insertion_notes p act cpu i (number_accepted t.out.reply) (due_named op) inserted → map placed (told_notes p.actor act i op t) ≡ section_notes p act cpu i op t.out.reply inserted
  told_placed = by_off (off_of t.out.reply) where
    by_off : (o : Option ℕ) → map placed put ≡ insertion_notes p act cpu i (number_accepted t.out.reply) (due_named op) inserted
        → map placed (removal_told p.actor act i o t.removal ++ noted_entry i entry t.entry ∷ put) ≡ removal_notes i entry o ++ ((at.Timer i, of.Timer entry) ∷ []) ++ insertion_notes p act cpu i (number_accepted t.out.reply) (due_named op) inserted
    by_off None is = ap (λ (ns : List Placed). (at.Timer i, of.Timer entry) ∷ ns) is
    by_off (Some x) is = ap (λ (ns : List Placed). (at.Cpu x, of.Cpu (queue_entry_by p act (Remove i) Off)) ∷ (at.Timer i, of.Timer entry) ∷ ns) is

  -- a section, entry after entry
  pub told_written : (q r s : PassesView) (after : List Entry) → q.actor ≡ p.actor → r.actor ≡ p.actor → Writes p (removal_told p.actor act i (off_of t.out.reply) t.removal) q
      → WritesEntry timer_kind q i (call_entry q act op t.out.reply) t.entry after r → Writes r (insertion_told r.actor act i t.insertion) s → Writes p (told_notes p.actor act i op t) s
  told_written q r s after mine still a w b = writes-append p q s (removal_told p.actor act i (off_of t.out.reply) t.removal) (noted_entry i entry t.entry ∷ put) a (
    r,
    (after, subst (λ (n : ℕ). WritesEntry timer_kind q i (record { actor = n; act = act; op = Call op; reply = t.out.reply }) t.entry after r) mine w),
    subst (λ (n : ℕ). Writes r (insertion_told n act i t.insertion) s) still b,
  )
