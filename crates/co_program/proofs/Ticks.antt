-- The list of a CPU, or of its interrupt, is made of the notes of its ticks, or of its soft acts.
use Rattle.std.proofs.Common.{◌≡◌, ℕ, zero, suc, ◌+◌, ◌≤◌, ◌<◌, inl, inr, true, false, List, [], ◌∷◌, ◌++◌, map, length, length-append, take, refl, sym, ap, subst, ◌∙◌, None, arith, append_assoc}
use Rattle.std.specs.List.{AllByRecursion}
use Rattle.co_object.specs.declared.Note.{Note}
use Rattle.co_object.specs.declared.Place.{Place}
use Rattle.co_object.specs.declared.Place.TheVariants as place
use Rattle.co_object.specs.declared.QOp.TheVariants.{Scan}
use Rattle.co_object.specs.declared.QReply.{QReply}
use Rattle.co_object.specs.declared.QReply.TheVariants.{Got, Empty}
use Rattle.co_object.specs.Group.{Placed}
use Rattle.co_program.specs.declared.act.Act.{Act}
use Rattle.co_program.specs.declared.act.Act.TheVariants as does
use Rattle.co_program.specs.declared.script.Script.{Script}
use Rattle.co_program.specs.declared.role.Role.{Role}
use Rattle.co_program.specs.declared.program.Task.{Task}
use Rattle.co_program.specs.declared.program.Task.TheVariants.{Does, Soft}
use Rattle.co_program.specs.declared.action.Asked.TheVariants.{Queue as IsQueue}
use Rattle.co_program.specs.Actors.{role_of, cpu_of, softs}
use Rattle.co_program.specs.Stages.{Stage, Ready, Popping, Picking}
use Rattle.co_program.specs.Cursor.{Cursor}
use Rattle.co_program.specs.Action.{Asks, action_for, pop_of}
use Rattle.co_program.specs.Advance.{popped}
use Rattle.co_program.specs.Follows.{Histories, at_next_note, scan_count, scans_before}
use Rattle.co_program.specs.Groups.{turns}
use Rattle.co_program.specs.Programs.{FirstThen, AreRounds, nothing, another, IsOfTick, IsOfSoft, AreOfTicks, AreOfSofts}
use Rattle.co_program.specs.Runs.{are_direct}
use Rattle.co_program.specs.Scripts.{IsScript, is_tick}
use Rattle.co_program.proofs.NextNotes.{IsTurnFirst, turn-first}
use Rattle.co_program.proofs.Programs.{ready, Goes, ended}
use Rattle.co_program.proofs.Rests.{IsRest, at-next-asks}
use Rattle.co_program.proofs.Rounds.{after-pop, round-first}
use Rattle.co_program.proofs.ServiceReplies.{Pops, pop-replies}

shorter : (notes front rest : List Note) (n : Note) (more : List Note) → notes ≡ front ++ rest → front ≡ n ∷ more → length rest < length notes
shorter notes [] rest n more split is = absurd (never is) where
  never : [] ≡ n ∷ more → ⊥
  never e = cc
shorter notes (x ∷ front) rest n more split is = omega (arith, ap length split, length-append front rest)

module _ (s : Script) (ok : IsScript s) (H : Histories) (a : ℕ) where
  abbrev by : Role
  by = role_of s a

  abbrev cpu : ℕ
  cpu = cpu_of s (role_of s a)

  -- in this task, which serves, or is about to
  abbrev within : Task → List Task → ℕ → ℕ → Stage → Cursor
  within x left n now stage = record { left = x ∷ left; act = n; now = now; hold = None; stage = stage; removed = None; parcel = None }

  abbrev Again : Task → List Task → ℕ → ℕ → ℕ → Type 0
  Again x left now act fuel = (over : ℕ) (later : List Note) → length later ≤ fuel → IsRest s H a (within x left over now (Popping act)) later → (last : ℕ) × FirstThen (AreRounds s H a by act over last) (λ rest. Goes s H a left last now None rest) later

  rounds-made : (x : Task) (left : List Task) (now act fuel n first : ℕ) (stage : Stage) (notes : List Note) → length notes ≤ fuel → IsRest s H a (within x left n now stage) notes →
      action_for s a (within x left n now stage) ≡ Asks act (IsQueue cpu (pop_of by)) →
      ((i k at : ℕ) → popped (within x left n now stage) (Got i k at) stage ≡ within x left first now (Picking (record { act = act; i = i; n = k; at = at }))) →
      popped (within x left n now stage) Empty stage ≡ ready s H a left first now None →
      (last : ℕ) × FirstThen (AreRounds s H a by act first last) (λ rest. Goes s H a left last now None rest) notes
  rounds-made x left now act zero n first stage notes few rest asks taken emptied =
      let t = turn-first s H a (within x left n now stage) act cpu (pop_of by) notes rest asks in absurd (omega (arith, few, ap length t.split))
  rounds-made x left now act (suc fuel) n first stage notes few rest asks taken emptied =
      let t = turn-first s H a (within x left n now stage) act cpu (pop_of by) notes rest asks in
      at_reply t (pop-replies s.buckets (are_direct s) by t.queue t.reply t.answers)
      (λ over later fewer on. rounds-made x left now act fuel over over (Popping act) later fewer on refl (λ i k at. refl) refl) where
        at_reply : (t : IsTurnFirst s H a (within x left n now stage) act cpu (pop_of by) notes) → Pops t.reply → Again x left now act fuel →
            (last : ℕ) × FirstThen (AreRounds s H a by act first last) (λ rest. Goes s H a left last now None rest) notes
        at_reply t (inl none) again = (
          first,
          record {
            front = t.note ∷ [];
            rest = t.rest;
            split = t.split;
            first = nothing first t.note (t.at ∙ ap (turns s H a act cpu (pop_of by)) none);
            later = subst (λ (c : Cursor). IsRest s H a (at_next_note s a c) t.rest) (after-pop s (within x left n now stage) cpu by t.reply ∙ ap (λ (r : QReply). popped (within x left n now stage) r stage) none ∙ emptied) t.later;
          },
        )
        at_reply t (inr got) again =
            let r = round-first s ok H a (within x left n now stage) act first got.0 got.1 got.2 notes t got.3 (taken got.0 got.1 got.2) refl refl in
            let on : IsRest s H a (within x left r.over now (Popping act)) r.rest = subst (λ (c : Cursor). IsRest s H a c r.rest) (at-next-asks s a (within x left r.over now (Popping act)) act (IsQueue cpu (pop_of by)) refl) r.later in
            let m = again r.over r.rest (omega (arith, few, shorter notes r.front r.rest _ _ r.split r.round.all)) on in (
              m.0,
              record {
                front = r.front ++ m.1.front;
                rest = m.1.rest;
                split = r.split ∙ ap (λ (l : List Note). r.front ++ l) m.1.split ∙ sym (append_assoc r.front m.1.front m.1.rest);
                first = another first m.0 r.front m.1.front r.round (subst (λ (k : ℕ). AreRounds s H a by act k m.0 m.1.front) r.over_is m.1.first);
                later = m.1.later;
              },
            )

  -- ---- ticks

  abbrev pub AreTicks : List Act → Type 0
  AreTicks acts = AllByRecursion (λ x. is_tick x ≡ true) acts

  tick-first : (time : ℕ) (left : List Task) (n now : ℕ) (notes : List Note) → Goes s H a (Does (does.Tick time) ∷ left) n now None notes →
      (last : ℕ) × FirstThen (IsOfTick s H a by n time last) (λ rest. Goes s H a left last now None rest) notes
  tick-first time left n now notes rest =
      let x : Task = Does (does.Tick time) in
      let d : Cursor = ready s H a (x ∷ left) n now None in
      let t = turn-first s H a d n cpu (Scan time) notes (subst (λ (c : Cursor). IsRest s H a c notes) (at-next-asks s a d n (IsQueue cpu (Scan time)) refl) rest) refl in
      let on : IsRest s H a (within x left (n + 1) now (Popping n)) t.rest = subst (λ (c : Cursor). IsRest s H a c t.rest) (at-next-asks s a (within x left (n + 1) now (Popping n)) n (IsQueue cpu (pop_of by)) refl) t.later in
      let m = rounds-made x left now n (length t.rest) (n + 1) (n + 1) (Popping n) t.rest (omega arith) on refl (λ i k at. refl) refl in (
        m.0,
        record {
          front = t.note ∷ m.1.front;
          rest = m.1.rest;
          split = t.split ∙ ap (λ (l : List Note). t.note ∷ l) m.1.split;
          first = record { scan = t.note; rest = m.1.front; split = refl; reply = t.reply; scanned = t.at; rounds = m.1.first };
          later = m.1.later;
        },
      )

  pub ticks-made : (acts : List Act) (n now : ℕ) (notes : List Note) → AreTicks acts → Goes s H a (map Does acts) n now None notes → AreOfTicks s H a by n acts notes
  ticks-made [] n now notes are rest = ended s H a (ready s H a [] n now None) notes refl rest
  ticks-made (does.Tick time ∷ acts) n now notes are rest =
      let f = tick-first time (map Does acts) n now notes rest in
      (f.0, record { front = f.1.front; rest = f.1.rest; split = f.1.split; first = f.1.first; later = ticks-made acts f.0 now f.1.rest are.1 f.1.later })
  ticks-made (x ∷ acts) n now notes are rest = absurd (let e : false ≡ true = are.0 in cc)

  -- ---- soft acts

  long : (act first last : ℕ) (notes : List Note) → AreRounds s H a by act first last notes → 0 < length notes
  long act first last notes (nothing f pop is) = omega arith
  long act first last notes (another f l front rest round later) = omega (arith, length-append front rest, ap length round.all)

  -- the notes that come first begin with the first note
  begins-with : (n : Note) (notes front rest : List Note) → n ∷ notes ≡ front ++ rest → 0 < length front → (more : List Note) × (front ≡ n ∷ more)
  begins-with n notes [] rest split some = absurd (omega (arith, some))
  begins-with n notes (x ∷ front) rest split some = (front, let same : x ≡ n = cc in ap (λ (y : Note). y ∷ front) same)

  soft-first : (j : ℕ) (left : List Task) (n now : ℕ) (notes : List Note) → Goes s H a (Soft j ∷ left) n now None notes →
      (last : ℕ) × FirstThen (IsOfSoft s H a by n j last) (λ rest. Goes s H a left last now None rest) notes
  soft-first j left n now notes rest =
      let x : Task = Soft j in
      let d : Cursor = within x left n now Ready in
      let on : IsRest s H a d notes = subst (λ (c : Cursor). IsRest s H a c notes) (at-next-asks s a d n (IsQueue cpu (pop_of by)) refl) rest in
      let t = turn-first s H a d n cpu (pop_of by) notes on refl in
      let stands : t.note.place ≡ place.Cpu cpu = ap (λ (at : Placed). at.0) t.at in
      let scanned = (subst (λ (l : List Note). IsRest s H a d l) t.split on).0.scanned in
      let enough : suc j ≤ scan_count (take t.note.pos (H.cpus cpu)) = subst (λ (p : Place). suc j ≤ scans_before H p t.note.pos) stands scanned in
      let m = rounds-made x left now n (length notes) n (n + 1) Ready notes (omega arith) on refl (λ i k at. refl) refl in
      let head = begins-with t.note t.rest m.1.front m.1.rest (sym t.split ∙ m.1.split) (long n (n + 1) m.0 m.1.front m.1.first) in (
        m.0,
        record {
          front = m.1.front;
          rest = m.1.rest;
          split = m.1.split;
          first = record { pop = t.note; rest = head.0; split = head.1; scanned = omega (arith, enough); rounds = m.1.first };
          later = m.1.later;
        },
      )

  pub softs-made : (count j n now : ℕ) (notes : List Note) → Goes s H a (softs j count) n now None notes → AreOfSofts s H a by n j count notes
  softs-made zero j n now notes rest = ended s H a (ready s H a [] n now None) notes refl rest
  softs-made (suc count) j n now notes rest =
      let f = soft-first j (softs (suc j) count) n now notes rest in
      (f.0, record { front = f.1.front; rest = f.1.rest; split = f.1.split; first = f.1.first; later = softs-made count (suc j) f.0 now f.1.rest f.1.later })
