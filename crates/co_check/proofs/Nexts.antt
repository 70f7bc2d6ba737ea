-- The test of a note beside a program means what the program's definition says: it is the next note, and follows.
use Rattle.std.proofs.Common.{◌≡◌, ℕ, ◌≤◌, ◌==◌, ◌&&◌, Bool, true, false, cond, nat_le, List, [], ◌∷◌, refl, ap, sym, subst, ◌∙◌, arith}
use Rattle.std.specs.Prelude.{Option, Some, None}
use Rattle.std.proofs.lemmas.Bool.Decides.{nat_tests}
use Rattle.co_object.specs.declared.Entry.{Entry}
use Rattle.co_object.specs.declared.QEntry.{QEntry}
use Rattle.co_object.specs.declared.OwnEntry.{OwnEntry}
use Rattle.co_object.specs.declared.OwnKind.{OwnKind}
use Rattle.co_object.specs.declared.Op.{Op}
use Rattle.co_object.specs.declared.Op.TheVariants.{Call, Run}
use Rattle.co_object.specs.declared.QOp.{QOp}
use Rattle.co_object.specs.declared.QOp.TheVariants.{Remove}
use Rattle.co_object.specs.declared.QReply.TheVariants.{Off}
use Rattle.co_object.specs.declared.Place.{Place}
use Rattle.co_object.specs.declared.Place.TheVariants as place
use Rattle.co_object.specs.declared.AnyEntry.{AnyEntry}
use Rattle.co_object.specs.declared.AnyEntry.TheVariants as of
use Rattle.co_object.specs.Group.{off_of}
use Rattle.co_program.specs.declared.action.Asked.TheVariants.{Callout, Queue, Itself}
use Rattle.co_object.specs.declared.Note.{Note}
use Rattle.co_program.specs.declared.script.Script.{Script}
use Rattle.co_program.specs.Action.{Action, Nothing, Silent, Take, Asks, action_for, scans_first}
use Rattle.co_program.specs.Advance.{advance}
use Rattle.co_program.specs.Cursor.{Cursor, start_of}
use Rattle.co_program.specs.Follows.{Histories, Fits, FitsCallout, FitsQueue, FitsOwn, IsNextNote, AreNext, Follows, cursor_after, listed_after, at_next_note}
use Rattle.co_program.specs.Follows as follows
use Rattle.co_check.specs.Asking.{asks, asks_callout, asks_queue, asks_itself, is_nothing}
use Rattle.co_check.specs.Astray.{SeenLine, is_next_note, goes_on, first_astray, cursor_after_lines}
use Rattle.co_check.specs.Programs.{IsSeenAs, AreSeenAs, IsOfProgram}
use Rattle.co_check.specs.Same.{same_number, same_op, same_queue_op, same_answer, same_kind}
use Rattle.co_check.proofs.Walking.{astray-on}
use Rattle.co_check.proofs.SameValues.{first, second, equal, itself, all, number-equal, number-itself, op-equal, op-itself, queue_op-equal, queue_op-itself, kind-equal, kind-itself, answer-equal}

-- ---- an entry made of what it says

abbrev entry_of : Entry → (a act : ℕ) → Op → Entry
entry_of e a act op = record { actor = a; act = act; op = op; reply = e.reply }

abbrev queue_entry_of : QEntry → (a act : ℕ) → QOp → QEntry
queue_entry_of e a act op = record { actor = a; act = act; op = op; reply = e.reply }

abbrev own_entry_of : (a act : ℕ) → OwnKind → OwnEntry
own_entry_of a act kind = record { actor = a; act = act; kind = kind }

entry-is : (e : Entry) (a act : ℕ) (op : Op) → e.actor ≡ a → e.act ≡ act → e.op ≡ op → e ≡ record { actor = a; act = act; op = op; reply = e.reply }
entry-is e a act op x y z = ap (λ n. entry_of e n e.act e.op) x ∙ (ap (λ n. entry_of e a n e.op) y ∙ ap (entry_of e a act) z)

queue_entry-is : (e : QEntry) (a act : ℕ) (op : QOp) → e.actor ≡ a → e.act ≡ act → e.op ≡ op → e ≡ record { actor = a; act = act; op = op; reply = e.reply }
queue_entry-is e a act op x y z = ap (λ n. queue_entry_of e n e.act e.op) x ∙ (ap (λ n. queue_entry_of e a n e.op) y ∙ ap (queue_entry_of e a act) z)

-- ---- what is asked

callout-fits : (a act i : ℕ) (op : Op) (removed : Option ℕ) (p : Place) (e : AnyEntry) → asks_callout a act i op removed p e ≡ true → FitsCallout a act i op removed p e
callout-fits a act i (Call op) removed (place.Timer j) (of.Timer e) h =
    let four = first (j == i && e.actor == a && e.act == act && same_op e.op (Call op)) (same_number (off_of e.reply) removed) h in
    let three = first (j == i && e.actor == a && e.act == act) (same_op e.op (Call op)) four in
    let two = first (j == i && e.actor == a) (e.act == act) three in (
      equal j i (first (j == i) (e.actor == a) two),
      entry-is e a act (Call op) (equal e.actor a (second (j == i) (e.actor == a) two)) (equal e.act act (second (j == i && e.actor == a) (e.act == act) three)) (op-equal e.op (Call op) (second (j == i && e.actor == a && e.act == act) (same_op e.op (Call op)) four)),
      number-equal (off_of e.reply) removed (second (j == i && e.actor == a && e.act == act && same_op e.op (Call op)) (same_number (off_of e.reply) removed) h),
    )
callout-fits a act i (Call op) removed (place.Cpu cpu) (of.Cpu e) h =
    let four = first (same_number removed None && e.actor == a && e.act == act && same_queue_op e.op (Remove i)) (same_answer e.reply Off) h in
    let three = first (same_number removed None && e.actor == a && e.act == act) (same_queue_op e.op (Remove i)) four in
    let two = first (same_number removed None && e.actor == a) (e.act == act) three in
    let off : e.reply ≡ Off = answer-equal e.reply Off (second (same_number removed None && e.actor == a && e.act == act && same_queue_op e.op (Remove i)) (same_answer e.reply Off) h) in (
      number-equal removed None (first (same_number removed None) (e.actor == a) two),
      queue_entry-is e a act (Remove i) (equal e.actor a (second (same_number removed None) (e.actor == a) two)) (equal e.act act (second (same_number removed None && e.actor == a) (e.act == act) three)) (queue_op-equal e.op (Remove i) (second (same_number removed None && e.actor == a && e.act == act) (same_queue_op e.op (Remove i)) four))
          ∙ ap (λ r. record { actor = a; act = act; op = Remove i; reply = r }) off,
    )
callout-fits a act i (Run op) removed (place.Timer j) (of.Timer e) h =
    let three = first (j == i && e.actor == a && e.act == act) (same_op e.op (Run op)) h in
    let two = first (j == i && e.actor == a) (e.act == act) three in (
      equal j i (first (j == i) (e.actor == a) two),
      entry-is e a act (Run op) (equal e.actor a (second (j == i) (e.actor == a) two)) (equal e.act act (second (j == i && e.actor == a) (e.act == act) three)) (op-equal e.op (Run op) (second (j == i && e.actor == a && e.act == act) (same_op e.op (Run op)) h)),
    )
callout-fits a act i (Call op) removed (place.Timer j) (of.Cpu e) h = cc
callout-fits a act i (Call op) removed (place.Timer j) (of.Own e) h = cc
callout-fits a act i (Call op) removed (place.Cpu j) (of.Timer e) h = cc
callout-fits a act i (Call op) removed (place.Cpu j) (of.Own e) h = cc
callout-fits a act i (Call op) removed (place.Actor j) e h = cc
callout-fits a act i (Run op) removed (place.Timer j) (of.Cpu e) h = cc
callout-fits a act i (Run op) removed (place.Timer j) (of.Own e) h = cc
callout-fits a act i (Run op) removed (place.Cpu j) e h = cc
callout-fits a act i (Run op) removed (place.Actor j) e h = cc

fits-callout : (a act i : ℕ) (op : Op) (removed : Option ℕ) (p : Place) (e : AnyEntry) → FitsCallout a act i op removed p e → asks_callout a act i op removed p e ≡ true
fits-callout a act i (Call op) removed (place.Timer j) (of.Timer e) (j_is, e_is, off_is) =
    all (j == i && e.actor == a && e.act == act && same_op e.op (Call op)) (same_number (off_of e.reply) removed)
    (all (j == i && e.actor == a && e.act == act) (same_op e.op (Call op))
    (all (j == i && e.actor == a) (e.act == act)
    (all (j == i) (e.actor == a) (ap (λ n. n == i) j_is ∙ itself i) (ap (λ (x : Entry). x.actor == a) e_is ∙ itself a))
    (ap (λ (x : Entry). x.act == act) e_is ∙ itself act))
    (ap (λ (x : Entry). same_op x.op (Call op)) e_is ∙ op-itself (Call op)))
    (ap (λ o. same_number o removed) off_is ∙ number-itself removed)
fits-callout a act i (Call op) removed (place.Cpu cpu) (of.Cpu e) (none, e_is) =
    all (same_number removed None && e.actor == a && e.act == act && same_queue_op e.op (Remove i)) (same_answer e.reply Off)
    (all (same_number removed None && e.actor == a && e.act == act) (same_queue_op e.op (Remove i))
    (all (same_number removed None && e.actor == a) (e.act == act)
    (all (same_number removed None) (e.actor == a) (ap (λ o. same_number o None) none) (ap (λ (x : QEntry). x.actor == a) e_is ∙ itself a))
    (ap (λ (x : QEntry). x.act == act) e_is ∙ itself act))
    (ap (λ (x : QEntry). same_queue_op x.op (Remove i)) e_is ∙ queue_op-itself (Remove i)))
    (ap (λ (x : QEntry). same_answer x.reply Off) e_is)
fits-callout a act i (Run op) removed (place.Timer j) (of.Timer e) (j_is, e_is) =
    all (j == i && e.actor == a && e.act == act) (same_op e.op (Run op))
    (all (j == i && e.actor == a) (e.act == act)
    (all (j == i) (e.actor == a) (ap (λ n. n == i) j_is ∙ itself i) (ap (λ (x : Entry). x.actor == a) e_is ∙ itself a))
    (ap (λ (x : Entry). x.act == act) e_is ∙ itself act))
    (ap (λ (x : Entry). same_op x.op (Run op)) e_is ∙ op-itself (Run op))
fits-callout a act i (Call op) removed (place.Timer j) (of.Cpu e) h = absurd h
fits-callout a act i (Call op) removed (place.Timer j) (of.Own e) h = absurd h
fits-callout a act i (Call op) removed (place.Cpu j) (of.Timer e) h = absurd h
fits-callout a act i (Call op) removed (place.Cpu j) (of.Own e) h = absurd h
fits-callout a act i (Call op) removed (place.Actor j) e h = absurd h
fits-callout a act i (Run op) removed (place.Timer j) (of.Cpu e) h = absurd h
fits-callout a act i (Run op) removed (place.Timer j) (of.Own e) h = absurd h
fits-callout a act i (Run op) removed (place.Cpu j) e h = absurd h
fits-callout a act i (Run op) removed (place.Actor j) e h = absurd h

queue-fits : (a act cpu : ℕ) (op : QOp) (p : Place) (e : AnyEntry) → asks_queue a act cpu op p e ≡ true → FitsQueue a act cpu op p e
queue-fits a act cpu op (place.Cpu x) (of.Cpu e) h =
    let three = first (x == cpu && e.actor == a && e.act == act) (same_queue_op e.op op) h in
    let two = first (x == cpu && e.actor == a) (e.act == act) three in (
      equal x cpu (first (x == cpu) (e.actor == a) two),
      queue_entry-is e a act op (equal e.actor a (second (x == cpu) (e.actor == a) two)) (equal e.act act (second (x == cpu && e.actor == a) (e.act == act) three)) (queue_op-equal e.op op (second (x == cpu && e.actor == a && e.act == act) (same_queue_op e.op op) h)),
    )
queue-fits a act cpu op (place.Cpu x) (of.Timer e) h = cc
queue-fits a act cpu op (place.Cpu x) (of.Own e) h = cc
queue-fits a act cpu op (place.Timer x) e h = cc
queue-fits a act cpu op (place.Actor x) e h = cc

fits-queue : (a act cpu : ℕ) (op : QOp) (p : Place) (e : AnyEntry) → FitsQueue a act cpu op p e → asks_queue a act cpu op p e ≡ true
fits-queue a act cpu op (place.Cpu x) (of.Cpu e) (x_is, e_is) =
    all (x == cpu && e.actor == a && e.act == act) (same_queue_op e.op op)
    (all (x == cpu && e.actor == a) (e.act == act)
    (all (x == cpu) (e.actor == a) (ap (λ n. n == cpu) x_is ∙ itself cpu) (ap (λ (y : QEntry). y.actor == a) e_is ∙ itself a))
    (ap (λ (y : QEntry). y.act == act) e_is ∙ itself act))
    (ap (λ (y : QEntry). same_queue_op y.op op) e_is ∙ queue_op-itself op)
fits-queue a act cpu op (place.Cpu x) (of.Timer e) h = absurd h
fits-queue a act cpu op (place.Cpu x) (of.Own e) h = absurd h
fits-queue a act cpu op (place.Timer x) e h = absurd h
fits-queue a act cpu op (place.Actor x) e h = absurd h

own_entry-is : (e : OwnEntry) (a act : ℕ) (kind : OwnKind) → e.actor ≡ a → e.act ≡ act → e.kind ≡ kind → e ≡ record { actor = a; act = act; kind = kind }
own_entry-is e a act kind x y z = ap (λ n. own_entry_of n e.act e.kind) x ∙ (ap (λ n. own_entry_of a n e.kind) y ∙ ap (own_entry_of a act) z)

own-fits : (a act : ℕ) (kind : OwnKind) (p : Place) (e : AnyEntry) → asks_itself a act kind p e ≡ true → FitsOwn a act (Itself kind) p e
own-fits a act kind (place.Actor b) (of.Own e) h =
    let three = first (b == a && e.actor == a && e.act == act) (same_kind e.kind kind) h in
    let two = first (b == a && e.actor == a) (e.act == act) three in (
      equal b a (first (b == a) (e.actor == a) two),
      own_entry-is e a act kind (equal e.actor a (second (b == a) (e.actor == a) two)) (equal e.act act (second (b == a && e.actor == a) (e.act == act) three)) (kind-equal e.kind kind (second (b == a && e.actor == a && e.act == act) (same_kind e.kind kind) h)),
    )
own-fits a act kind (place.Actor b) (of.Timer e) h = cc
own-fits a act kind (place.Actor b) (of.Cpu e) h = cc
own-fits a act kind (place.Timer b) e h = cc
own-fits a act kind (place.Cpu b) e h = cc

fits-own : (a act : ℕ) (kind : OwnKind) (p : Place) (e : AnyEntry) → FitsOwn a act (Itself kind) p e → asks_itself a act kind p e ≡ true
fits-own a act kind (place.Actor b) (of.Own e) (b_is, e_is) =
    all (b == a && e.actor == a && e.act == act) (same_kind e.kind kind)
    (all (b == a && e.actor == a) (e.act == act)
    (all (b == a) (e.actor == a) (ap (λ n. n == a) b_is ∙ itself a) (ap (λ (y : OwnEntry). y.actor == a) e_is ∙ itself a))
    (ap (λ (y : OwnEntry). y.act == act) e_is ∙ itself act))
    (ap (λ (y : OwnEntry). same_kind y.kind kind) e_is ∙ kind-itself kind)
fits-own a act kind (place.Actor b) (of.Timer e) h = absurd h
fits-own a act kind (place.Actor b) (of.Cpu e) h = absurd h
fits-own a act kind (place.Timer b) e h = absurd h
fits-own a act kind (place.Cpu b) e h = absurd h

pub asks-fits : (a : ℕ) (c : Cursor) (action : Action) (p : Place) (e : AnyEntry) → asks a c.removed action p e ≡ true → Fits a c action p e
asks-fits a c Nothing p e h = cc
asks-fits a c (Silent to) p e h = cc
asks-fits a c (Take held to) p e h = cc
asks-fits a c (Asks act (Callout i op)) p e h = callout-fits a act i op c.removed p e h
asks-fits a c (Asks act (Queue cpu op)) p e h = queue-fits a act cpu op p e h
asks-fits a c (Asks act (Itself kind)) p e h = own-fits a act kind p e h

pub fits-asks : (a : ℕ) (c : Cursor) (action : Action) (p : Place) (e : AnyEntry) → Fits a c action p e → asks a c.removed action p e ≡ true
fits-asks a c Nothing p e h = absurd h
fits-asks a c (Silent to) p e h = absurd h
fits-asks a c (Take held to) p e h = absurd h
fits-asks a c (Asks act (Callout i op)) p e h = fits-callout a act i op c.removed p e h
fits-asks a c (Asks act (Queue cpu op)) p e h = fits-queue a act cpu op p e h
fits-asks a c (Asks act (Itself kind)) p e h = fits-own a act kind p e h

-- ---- a note, and a list of them

on-or-off : (b : Bool) (later : Option ℕ) (line : ℕ) → cond {A = Option ℕ} b later (Some line) ≡ None → (b ≡ true) × (later ≡ None)
on-or-off true later line h = (refl, h)
on-or-off false later line h = cc

module _ (s : Script) (H : Histories) (a : ℕ) where
  le-true : (m n : ℕ) → m ≤ n → nat_le m n ≡ true
  le-true m n h = grind (arith, nat_tests)

  true-le : (m n : ℕ) → nat_le m n ≡ true → m ≤ n
  true-le m n h = grind (arith, nat_tests)

  pub next-is : (c : Cursor) (note : Note) (x : SeenLine) → IsSeenAs s H note x → is_next_note s a c x ≡ true → IsNextNote s H a c note
  next-is c note x as_seen h =
      let asked = first (asks a c.removed (action_for s a c) x.line.place x.line.entry) (nat_le (scans_first c) x.scans) h in
      let scanned = second (asks a c.removed (action_for s a c) x.line.place x.line.entry) (nat_le (scans_first c) x.scans) h in
      record {
        fits = subst (Fits a c (action_for s a c) note.place) as_seen.entry (subst (λ p. Fits a c (action_for s a c) p x.line.entry) as_seen.place (asks-fits a c (action_for s a c) x.line.place x.line.entry asked));
        scanned = subst (λ n. scans_first c ≤ n) as_seen.scans (true-le (scans_first c) x.scans scanned);
      }

  pub is-next : (c : Cursor) (note : Note) (x : SeenLine) → IsSeenAs s H note x → IsNextNote s H a c note → is_next_note s a c x ≡ true
  is-next c note x as_seen h =
      all (asks a c.removed (action_for s a c) x.line.place x.line.entry) (nat_le (scans_first c) x.scans)
      (fits-asks a c (action_for s a c) x.line.place x.line.entry (subst (Fits a c (action_for s a c) x.line.place) (sym as_seen.entry) (subst (λ p. Fits a c (action_for s a c) p note.entry) (sym as_seen.place) h.fits)))
      (le-true (scans_first c) x.scans (subst (λ n. scans_first c ≤ n) (sym as_seen.scans) h.scanned))

  on-is : (c : Cursor) (note : Note) (x : SeenLine) → IsSeenAs s H note x → goes_on s c x ≡ follows.goes_on s H c note
  on-is c note x as_seen =
      ap (λ b. advance s c b x.line.place x.line.entry) as_seen.listed
      ∙ (ap (λ p. advance s c (listed_after s H note.place note.pos) p x.line.entry) as_seen.place
      ∙ ap (advance s c (listed_after s H note.place note.pos) note.place) as_seen.entry)

  place-is : (c : Cursor) (notes : List Note) (xs : List SeenLine) → AreSeenAs s H notes xs → cursor_after_lines s a c xs ≡ cursor_after s H a c notes
  place-is c [] [] h = refl
  place-is c (note ∷ notes) (x ∷ xs) (h, hs) =
      ap (λ y. cursor_after_lines s a y xs) (on-is (at_next_note s a c) note x h) ∙ place-is (follows.goes_on s H (at_next_note s a c) note) notes xs hs
  place-is c [] (x ∷ xs) h = absurd h
  place-is c (note ∷ notes) [] h = absurd h

  none-astray : (c : Cursor) (notes : List Note) (xs : List SeenLine) → AreSeenAs s H notes xs → AreNext s H a c notes → first_astray s a c xs ≡ None
  none-astray c [] [] h next = refl
  none-astray c (note ∷ notes) (x ∷ xs) (h, hs) (is, next) =
      astray-on s a c x xs (is-next (at_next_note s a c) note x h is)
      ∙ (ap (λ y. first_astray s a y xs) (on-is (at_next_note s a c) note x h) ∙ none-astray (follows.goes_on s H (at_next_note s a c) note) notes xs hs next)
  none-astray c [] (x ∷ xs) h next = absurd h
  none-astray c (note ∷ notes) [] h next = absurd h

  are-next : (c : Cursor) (notes : List Note) (xs : List SeenLine) → AreSeenAs s H notes xs → first_astray s a c xs ≡ None → AreNext s H a c notes
  are-next c [] [] h fine = tt
  are-next c (note ∷ notes) (x ∷ xs) (h, hs) fine =
      let both = on-or-off (is_next_note s a (at_next_note s a c) x) (first_astray s a (goes_on s (at_next_note s a c) x) xs) x.line.line fine in (
        next-is (at_next_note s a c) note x h both.0,
        are-next (follows.goes_on s H (at_next_note s a c) note) notes xs hs (ap (λ y. first_astray s a y xs) (sym (on-is (at_next_note s a c) note x h)) ∙ both.1),
      )
  are-next c [] (x ∷ xs) h fine = absurd h
  are-next c (note ∷ notes) [] h fine = absurd h

  nothing-is : (action : Action) → is_nothing action ≡ true → action ≡ Nothing
  nothing-is Nothing h = refl
  nothing-is (Silent to) h = cc
  nothing-is (Take held to) h = cc
  nothing-is (Asks act asked) h = cc

  -- the notes follow exactly where none is astray and nothing is to come
  pub follows-then : (notes : List Note) (xs : List SeenLine) → AreSeenAs s H notes xs → Follows s H a notes → IsOfProgram s a xs
  follows-then notes xs h f = (
    none-astray (start_of s a) notes xs h f.each,
    ap (λ y. is_nothing (action_for s a (at_next_note s a y))) (place-is (start_of s a) notes xs h) ∙ ap is_nothing f.whole,
  )

  pub then-follows : (notes : List Note) (xs : List SeenLine) → AreSeenAs s H notes xs → IsOfProgram s a xs → Follows s H a notes
  then-follows notes xs h (fine, ended) = record {
    each = are-next (start_of s a) notes xs h fine;
    whole = ap (λ y. action_for s a (at_next_note s a y)) (sym (place-is (start_of s a) notes xs h)) ∙ nothing-is (action_for s a (at_next_note s a (cursor_after_lines s a (start_of s a) xs))) ended;
  }
