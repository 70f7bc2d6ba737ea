-- What the notes of a run name exists. What each note asks does, by its actor's program. So the replies do, by induction over
-- the one history in which the entry stands: a callout's home, its armings and its drain function are what the entries before
-- it asked, and what a Pop gets was inserted.
use Rattle.std.proofs.Common.{◌≡◌, ℕ, zero, suc, ◌<◌, true, List, [], ◌∷◌, length, Option, Some, None, refl, subst, arith}
use Rattle.std.specs.Prelude.{slice_index_or}
use Rattle.std.proofs.lemmas.Bool.{ltb-true}
use Rattle.std.specs.List.{AllByRecursion}
use Rattle.co_object.specs.declared.Spec.{Spec}
use Rattle.co_object.specs.declared.State.{State}
use Rattle.co_object.specs.declared.Reply.{Reply}
use Rattle.co_object.specs.declared.QOp.{QOp}
use Rattle.co_object.specs.declared.QOp.TheVariants.{Insert}
use Rattle.co_object.specs.declared.QReply.{QReply}
use Rattle.co_object.specs.declared.QReply.TheVariants.{Got}
use Rattle.co_object.specs.declared.Place.{Place}
use Rattle.co_object.specs.declared.Place.TheVariants as place
use Rattle.co_object.specs.declared.AnyEntry.{AnyEntry}
use Rattle.co_object.specs.declared.AnyEntry.TheVariants as entry
use Rattle.co_object.specs.declared.Entry.{Entry}
use Rattle.co_object.specs.declared.QEntry.{QEntry}
use Rattle.co_object.specs.declared.Note.{Note}
use Rattle.co_object.specs.Actors.{Actors}
use Rattle.co_object.specs.Callout.{opening, step}
use Rattle.co_object.specs.History as history
use Rattle.co_object.specs.Journal as journal
use Rattle.co_object.specs.Lists.{callout_history, cpu_journal, IsWellFormed}
use Rattle.co_object.specs.Machine.{IsLegalFrom}
use Rattle.co_object.specs.Queue.{Queue, empty_queue}
use Rattle.co_object.proofs.EntriesKept.{EntriesFit, entries_change, entries_got}
use Rattle.co_object.proofs.Gathered.{IsNoted, HasNote, all-has, all-of, all-lists, lists-all, callout-noted, cpu-noted, callout-entered, cpu-entered}
use Rattle.co_object.proofs.QueueChanges.{QChange, change}
use Rattle.co_program.specs.declared.script.Script.{Script}
use Rattle.co_program.specs.Action.{spec_at}
use Rattle.co_program.specs.Actors.{actor_count}
use Rattle.co_program.specs.Cursor.{start_of}
use Rattle.co_program.specs.Existing.{IsCallout, QOpExists, QReplyExists}
use Rattle.co_program.specs.Follows.{AreNext}
use Rattle.co_program.specs.Laws.{RunsNameWhatExists}
use Rattle.co_program.specs.Names.{FuncsExist, OpNames, ReplyNames, JournalNames, EntryNames, AllNotesName}
use Rattle.co_program.specs.Places.{place_exists, HavePlaces, AllHavePlaces}
use Rattle.co_program.specs.Runs.{actors_of, are_direct, notes_by, shown_histories}
use Rattle.co_program.specs.Scripts.{IsScript}
use Rattle.co_program.proofs.Asking.{EntryAsks, NoteAsks, program_asks}
use Rattle.co_program.proofs.FuncsKept.{StateFuncs, Keeps, open_funcs, funcs_kept}
use Rattle.co_program.proofs.Homes.{CpusFit}
use Rattle.co_program.proofs.Replied.{AnswerFits, answer_fits}

module _ (s : Script) (ok : IsScript s) where
  -- ---- one callout

  abbrev Asks : Entry → Type 0
  Asks e = OpNames s e.op

  abbrev Replies : Entry → Type 0
  Replies e = ReplyNames s e.reply

  replied : (actors : Actors) (spec : Spec) (t : State) (H : List Entry) → CpusFit s.cpus t → StateFuncs s t → AllByRecursion Asks H → IsLegalFrom (history.next spec) (history.May actors spec) t H → AllByRecursion Replies H
  replied actors spec t [] fit funcs asks legal = tt
  replied actors spec t (e ∷ H) fit funcs asks legal = go (step spec t e.op) refl legal.0.0 legal.1 (λ u cpus fs rest. replied actors spec u H cpus fs asks.1 rest) where
    go : (o : Option (State × Reply)) → step spec t e.op ≡ o → history.reply_of o ≡ Some e.reply → IsLegalFrom (history.next spec) (history.May actors spec) (history.state_of o t) H →
        ((u : State) → CpusFit s.cpus u → StateFuncs s u → IsLegalFrom (history.next spec) (history.May actors spec) u H → AllByRecursion Replies H) → Replies e × AllByRecursion Replies H
    go None is answer rest later = cc
    go (Some o) is answer rest later =
        let same : o.1 ≡ e.reply = cc in
        let fits : AnswerFits s o = answer_fits s ok.cpus.0 spec t e.op o is fit asks.0.exists in
        let keeps : Keeps s o = funcs_kept s spec t e.op o is funcs asks.0.func in
        (subst (ReplyNames s) same (record { exists = fits.reply.exists; off = fits.reply.gone; func = keeps.reply }), later o.0 fits.state keeps.state rest)

  pub callout_replies : (i : ℕ) (H : List Entry) → history.IsLegal (actors_of s) (spec_at s i) H → AllByRecursion Asks H → AllByRecursion Replies H
  callout_replies i H legal asks =
      replied (actors_of s) (spec_at s i) (opening 0) H (record { home = (let h = ok.cpus.0 in omega arith); target = λ arming is. cc }) (open_funcs s 0) asks legal

  -- ---- one queue

  abbrev Standing : ℕ → ℕ → ℕ → Type 0
  Standing i n t = IsCallout s i

  abbrev Answers : QEntry → Type 0
  Answers e = JournalNames s e.op e.reply

  got_exists : (q : Queue) (op : QOp) (r : QReply) (t : Queue) → QChange s.buckets (are_direct s) q op r t → EntriesFit Standing q → QReplyExists s r
  got_exists q op (Got i n time) t change fit = entries_got Standing (λ i n t u later h. h) s.buckets (are_direct s) q op (Got i n time) t i n time change refl fit
  got_exists q op r t change fit = tt

  inserts : (op : QOp) → QOpExists s op → (i n t : ℕ) → op ≡ Insert i n t → IsCallout s i
  inserts op exists i n t is = subst (QOpExists s) is exists

  answered : (actors : Actors) (cpu : ℕ) (q : Queue) (J : List QEntry) → EntriesFit Standing q → AllByRecursion (λ e. QOpExists s e.op) J →
      IsLegalFrom (journal.next s.buckets (are_direct s)) (journal.May actors cpu s.buckets (are_direct s)) q J → AllByRecursion Answers J
  answered actors cpu q [] fit asks legal = tt
  answered actors cpu q (e ∷ J) fit asks legal =
      let t : Queue = journal.next s.buckets (are_direct s) q e in
      let changes : QChange s.buckets (are_direct s) q e.op e.reply t = change s.buckets (are_direct s) q e.op e.reply legal.0.0 in
      let fits : EntriesFit Standing t = entries_change Standing (λ i n t u later h. h) s.buckets (are_direct s) q e.op e.reply t changes (inserts e.op asks.0) fit in (
        record { op = asks.0; reply = got_exists q e.op e.reply t changes fit; queue = q; answers = legal.0.0 },
        answered actors cpu t J fits asks.1 legal.1,
      )

  pub queue_answers : (cpu : ℕ) (J : List QEntry) → journal.IsLegalQueue (actors_of s) cpu s.buckets (are_direct s) J → AllByRecursion (λ e. QOpExists s e.op) J → AllByRecursion Answers J
  queue_answers cpu J legal asks = answered (actors_of s) cpu empty_queue J (record { content = tt; expired = tt; urgent = tt }) asks legal

-- ---- all lists

each_list : (P : List Note → Type 0) (lists : List (List Note)) → ((a : ℕ) → a < length lists → P (slice_index_or lists a [])) → AllByRecursion P lists
each_list P [] each = tt
each_list P (notes ∷ lists) each = (each 0 (omega arith), each_list P lists (λ a below. each (suc a) (omega (arith, below))))

list_at : (P : List Note → Type 0) (lists : List (List Note)) (a : ℕ) → AllByRecursion P lists → a < length lists → P (slice_index_or lists a [])
list_at P [] a all below = absurd (omega (arith, below))
list_at P (notes ∷ lists) zero all below = all.0
list_at P (notes ∷ lists) (suc a) all below = list_at P lists a all.1 (omega (arith, below))

-- the notes of a run at any moment of it: each is the next one of its actor's program
pub record AreOfRun (s : Script) (lists : List (List Note)) : Type 0 where
  pub actors : length lists ≡ actor_count s
  pub places : AllHavePlaces s lists
  pub formed : IsWellFormed lists
  pub callouts : (i : ℕ) → i < length s.timers → history.IsLegal (actors_of s) (spec_at s i) (callout_history i lists)
  pub cpus : (cpu : ℕ) → cpu < s.cpus → journal.IsLegalQueue (actors_of s) cpu s.buckets (are_direct s) (cpu_journal cpu lists)
  pub next : (a : ℕ) → a < actor_count s → AreNext s (shown_histories lists) a (start_of s a) (notes_by lists a)

module _ (s : Script) (ok : IsScript s) (exist : FuncsExist s) (lists : List (List Note)) (run : AreOfRun s lists) where
  asks : AllByRecursion (λ notes. AllByRecursion (NoteAsks s) notes) lists
  asks = each_list (AllByRecursion (NoteAsks s)) lists (λ a below.
      let may : a < actor_count s = omega (arith, below, run.actors) in
      program_asks s ok exist a may (shown_histories lists) (notes_by lists a) (list_at (HavePlaces s) lists a run.places below) (run.next a may))

  asked_of : (n : Note) → HasNote n lists → NoteAsks s n
  asked_of n inside = lists-all (NoteAsks s) lists n asks inside

  -- what stands in a history was asked
  callout_asks : (i : ℕ) → AllByRecursion (λ e. OpNames s e.op) (callout_history i lists)
  callout_asks i = all-of (λ e. OpNames s e.op) (callout_history i lists) (λ e h.
      let n : IsNoted (place.Timer i) (entry.Timer e) lists = callout-noted lists i e h in
      (subst (λ x. EntryAsks s (place.Timer i) x) n.entry (subst (λ p. EntryAsks s p n.note.entry) n.place (asked_of n.note n.inside))).1)

  cpu_asks : (cpu : ℕ) → AllByRecursion (λ e. QOpExists s e.op) (cpu_journal cpu lists)
  cpu_asks cpu = all-of (λ e. QOpExists s e.op) (cpu_journal cpu lists) (λ e h.
      let n : IsNoted (place.Cpu cpu) (entry.Cpu e) lists = cpu-noted lists cpu e h in
      (subst (λ x. EntryAsks s (place.Cpu cpu) x) n.entry (subst (λ p. EntryAsks s p n.note.entry) n.place (asked_of n.note n.inside))).1)

  -- and the entry of each note stands in one
  timer_names : (i : ℕ) (e : Entry) (n : Note) → HasNote n lists → n.place ≡ place.Timer i → n.entry ≡ entry.Timer e → place_exists s (place.Timer i) ≡ true → ReplyNames s e.reply
  timer_names i e n inside at is there =
      all-has (λ x. ReplyNames s x.reply) (callout_history i lists) e
      (callout_replies s ok i (callout_history i lists) (run.callouts i (ltb-true i (length s.timers) there)) (callout_asks i)) (callout-entered lists run.formed i e n inside at is)

  cpu_names : (cpu : ℕ) (e : QEntry) (n : Note) → HasNote n lists → n.place ≡ place.Cpu cpu → n.entry ≡ entry.Cpu e → place_exists s (place.Cpu cpu) ≡ true → JournalNames s e.op e.reply
  cpu_names cpu e n inside at is there =
      all-has (λ x. JournalNames s x.op x.reply) (cpu_journal cpu lists) e
      (queue_answers s ok cpu (cpu_journal cpu lists) (run.cpus cpu (ltb-true cpu s.cpus there)) (cpu_asks cpu)) (cpu-entered lists run.formed cpu e n inside at is)

  entry_names : (p : Place) (e : AnyEntry) (n : Note) → HasNote n lists → n.place ≡ p → n.entry ≡ e → place_exists s p ≡ true → EntryAsks s p e → EntryNames s p e
  entry_names (place.Timer i) (entry.Timer e) n inside at is there asks = (asks.0, (asks.1, timer_names i e n inside at is there))
  entry_names (place.Cpu cpu) (entry.Cpu e) n inside at is there asks = (asks.0, cpu_names cpu e n inside at is there)
  entry_names (place.Actor b) (entry.Own e) n inside at is there asks = asks
  entry_names p e n inside at is there asks = absurd asks

  pub all_name : AllNotesName s lists
  all_name = all-lists (λ n. EntryNames s n.place n.entry) lists (λ n inside.
      entry_names n.place n.entry n inside refl refl (lists-all (λ n. place_exists s n.place ≡ true) lists n run.places inside) (asked_of n inside))

pub runs_name : RunsNameWhatExists
runs_name s lists ok exist run =
    all_name s ok exist lists (record { actors = run.actors; places = run.places; formed = run.formed; callouts = run.callouts; cpus = run.cpus; next = λ a below. (run.follow a below).each })
