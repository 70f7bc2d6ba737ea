-- The canonical text of a script that fits is read as this script: its lines lead, part by part, to a draft that is the
-- whole script, and there are few enough bytes.
use Rattle.std.proofs.Common.{◌≡◌, ℕ, zero, suc, ◌+◌, ◌*◌, ◌<◌, ◌≤◌, true, List, [], ◌∷◌, ◌++◌, length, map, refl, ap, sym, ◌∙◌, arith, inl, inr, append-nil, length-append}
use Rattle.std.specs.Prelude.{Some, Ok, ◌⊎◌, codes, nat_le, sum_by}
use Rattle.std.proofs.lemmas.Bool.{and_parts, lt-ltb, leb-true, le-leb}
use Rattle.std.proofs.lemmas.List.Sums.{sum_by-cons}
use Rattle.co_text.specs.Fallible.{◌>>=◌, ◌>>◌, unless, at_line}
use Rattle.co_text.specs.Lines.{line_text, text, lines_of}
use Rattle.co_text.specs.Values.{Word}
use Rattle.co_text.specs.declared.Cause.TheVariants as cause
use Rattle.co_text.proofs.LinesBack.{AreWords, whole_line, lines-back}
use Rattle.co_text.proofs.ValuesBack.{decimal-word}
use Rattle.co_lock.specs.declared.LockKind.{LockKind}
use Rattle.co_object.specs.declared.Spec.{Spec}
use Rattle.co_program.specs.declared.Script.{Script}
use Rattle.co_program.specs.declared.Act.{Act}
use Rattle.co_program.specs.Actors.{actor_count}
use Rattle.co_grammar.specs.Spelling.{numbered, lock_line, timer_line}
use Rattle.co_grammar.proofs.ActsBack.{IsShort}
use Rattle.co_grammar.proofs.Sizes.{numbered-short}
use Rattle.co_script.specs.Drafts.{Draft, first_draft, closed, padded, padded_script, finished}
use Rattle.co_script.specs.Reading.{lines_read, text_end, lines_script, script_of}
use Rattle.co_script.specs.Canonical.{each_from, section_lines, runs, run_words, canonical_lines, canonical}
use Rattle.co_script.specs.Fits.{fits}
use Rattle.co_script.proofs.Pads.{padded-whole}
use Rattle.co_script.proofs.drafts.Firm.{acts_in}
use Rattle.co_script.proofs.ReadFits.{timers-closed}
use Rattle.co_script.proofs.LinesFold.{version-read}
use Rattle.co_script.proofs.Leads.{Leads, and-then, at-most}
use Rattle.co_script.proofs.parts.Fitting.{Fitting, fitting}
use Rattle.co_script.proofs.parts.After.{After, headed, locked, timed, with_funcs, with_clients, with_ticks, letters}
use Rattle.co_script.proofs.parts.Heads.{head_behind, head-leads}
use Rattle.co_script.proofs.parts.Sections.{section_size, funcs-lead, clients-lead, ticks-lead}
use Rattle.co_script.proofs.parts.Locks.{locks-lead}
use Rattle.co_script.proofs.parts.Timers.{timers-lead}
use Rattle.co_script.proofs.TurnsBack.{runs-few, runs-back, are-runs, steps_in, turns-lead}

-- ---- how long the parts are

each-150 : {X : Type 0} (xs : List X) → sum_by (λ (x : X). 150) xs ≡ 150 * length xs
each-150 [] = refl
each-150 {X} (x ∷ xs) = omega (arith, sum_by-cons (λ (x : X). 150) x xs, each-150 xs)

sections-size : (lists : List (List Act)) → sum_by section_size lists ≡ 150 * (length lists + acts_in lists)
sections-size [] = refl
sections-size (acts ∷ lists) = omega (arith, sum_by-cons section_size acts lists, sum_by-cons (λ (x : List Act). length x) acts lists, sections-size lists)

-- ---- the lines behind the first

abbrev cpu_lines : Script → List (List Word)
cpu_lines s = each_from (section_lines (codes "cpu")) 0 s.ticks ++ map (run_words s) (runs s.turns)

abbrev client_lines : Script → List (List Word)
client_lines s = each_from (section_lines (codes "client")) 0 s.clients ++ cpu_lines s

abbrev func_lines : Script → List (List Word)
func_lines s = each_from (section_lines (codes "func")) 0 s.funcs ++ client_lines s

abbrev timer_lines : Script → List (List Word)
timer_lines s = each_from timer_line 0 s.timers ++ func_lines s

abbrev lock_lines : Script → List (List Word)
lock_lines s = each_from lock_line 0 s.locks ++ timer_lines s

abbrev behind_first : Script → List (List Word)
behind_first s = head_behind s ++ lock_lines s

-- the most bytes that these lines have
abbrev most : ℕ
most = 60000000

module _ (s : Script) (f : Fitting s) where
  abbrev funcs_of : ℕ
  funcs_of = length s.funcs

  abbrev acts_of : ℕ
  acts_of = acts_in s.funcs + acts_in s.clients + acts_in s.ticks

  abbrev Whole : Draft → Type 0
  Whole = After s funcs_of acts_of 10

  runs-size : 20 * length (runs s.turns) ≤ 20000000
  runs-size =
      let all : length (steps_in (runs s.turns)) ≡ length s.turns = ap (λ (l : List ℕ). length l) (runs-back s.turns) in
      omega (arith, all, f.turns_few, runs-few (actor_count s) (runs s.turns) (are-runs (actor_count s) s.turns f.turns))

  behind-leads : Leads (first_draft s.version) (behind_first s) most Whole
  behind-leads =
      let runs_most : ℕ = 20 * length (runs s.turns) in
      let cpus_most : ℕ = sum_by section_size s.ticks + runs_most in
      let clients_most : ℕ = sum_by section_size s.clients + cpus_most in
      let funcs_most : ℕ = sum_by section_size s.funcs + clients_most in
      let timers_most : ℕ = sum_by (λ (x : Spec). 150) s.timers + funcs_most in
      let locks_most : ℕ = sum_by (λ (k : LockKind). 150) s.locks + timers_most in
      at-most (first_draft s.version) (behind_first s) (600 + locks_most) most Whole
      (omega (arith, runs-size, sections-size s.ticks, sections-size s.clients, sections-size s.funcs, each-150 s.timers, each-150 s.locks, f.total, f.small.locks, f.small.timers, f.small.funcs_fit, f.small.cpus, f.clients_few, f.ticks_all))
      (and-then (first_draft s.version) (head_behind s) (lock_lines s) 600 locks_most (After (headed s) funcs_of 0 4) Whole (head-leads s f)
      (λ d1 h1. and-then d1 (each_from lock_line 0 s.locks) (timer_lines s) (sum_by (λ (k : LockKind). 150) s.locks) timers_most (After (locked s s.locks) funcs_of 0 5) Whole (locks-lead s f d1 h1)
      (λ d2 h2. and-then d2 (each_from timer_line 0 s.timers) (func_lines s) (sum_by (λ (x : Spec). 150) s.timers) funcs_most (After (timed s s.timers) funcs_of 0 6) Whole (timers-lead s f d2 h2)
      (λ d3 h3. and-then d3 (each_from (section_lines (codes "func")) 0 s.funcs) (client_lines s) (sum_by section_size s.funcs) clients_most (After (with_funcs s s.funcs) funcs_of (acts_in s.funcs) 7) Whole (funcs-lead s f d3 h3)
      (λ d4 h4. and-then d4 (each_from (section_lines (codes "client")) 0 s.clients) (cpu_lines s) (sum_by section_size s.clients) cpus_most (After (with_clients s s.clients) funcs_of (acts_in s.funcs + acts_in s.clients) 8) Whole (clients-lead s f d4 h4)
      (λ d5 h5. and-then d5 (each_from (section_lines (codes "cpu")) 0 s.ticks) (map (run_words s) (runs s.turns)) (sum_by section_size s.ticks) runs_most (After (with_ticks s s.ticks) funcs_of acts_of 9) Whole (ticks-lead s f d5 h5)
      (λ d6 h6. turns-lead s f acts_of d6 h6)))))))

  -- ---- the end: nothing is filled up

  ends : (d : Draft) → Whole d → text_end (Some d) ≡ Ok s
  ends d w =
      let kept : length (closed d).timers ≡ length d.script.timers = ap (λ (xs : List Spec). length xs) (timers-closed d.stage d.script d.acts) in
      let all : length (closed d).timers ≡ length s.timers = ap (λ (t : Script). length t.timers) w.script_is in
      let some : 0 < length d.script.timers = omega (arith, kept, all, f.timers_some) in
      let full : finished d ≡ s =
      ap (λ t. padded_script d.funcs t) w.script_is
      ∙ (ap (λ l. record s { funcs = l; ticks = padded s.cpus s.ticks }) (padded-whole d.funcs s.funcs (omega (arith, w.funcs_are)))
      ∙ ap (λ l. record s { ticks = l }) (padded-whole s.cpus s.ticks (omega (arith, f.ticks_all)))) in
      ap (λ b. unless b cause.Timer >> Ok (finished d)) (lt-ltb 0 (length d.script.timers) some) ∙ ap (λ t. Ok t) full

  -- ---- the whole text

  known : (v : ℕ) → 1 ≤ v → v ≤ 2 → (v ≡ 1) ⊎ (v ≡ 2)
  known zero low high = absurd (omega (arith, low))
  known (suc zero) low high = inl refl
  known (suc (suc zero)) low high = inr refl
  known (suc (suc (suc v))) low high = absurd (omega (arith, high))

  lines-read : lines_script (map whole_line (numbered (codes "callout") s.version ∷ behind_first s)) ≡ Ok s
  lines-read =
      let range = and_parts (nat_le 1 s.version) (nat_le s.version 2) f.version in
      let low : 1 ≤ s.version = leb-true 1 s.version range.0 in
      let high : s.version ≤ 2 = leb-true s.version 2 range.1 in
      let short : IsShort s.version = omega (arith, high) in
      let words : AreWords (numbered (codes "callout") s.version) = (letters (codes "callout") (omega arith) refl, (decimal-word s.version short, tt)) in
      let rest = behind-leads.read 2 [] in
      ap (λ r. r >>= λ d. at_line 0 (text_end d))
      (version-read s.version (map whole_line (behind_first s)) (known s.version low high) words
      ∙ (ap (λ ls. lines_read 2 (Some (first_draft s.version)) ls) (sym (append-nil (map whole_line (behind_first s)))) ∙ rest.1))
      ∙ ap (λ r. at_line 0 r) (ends behind-leads.draft behind-leads.holds)

  text-read : script_of (text (numbered (codes "callout") s.version ∷ behind_first s)) ≡ Ok s
  unfolding script_of
  text-read =
      let first : List Word = numbered (codes "callout") s.version in
      let bytes : List ℕ = text (first ∷ behind_first s) in
      let range = and_parts (nat_le 1 s.version) (nat_le s.version 2) f.version in
      let high : s.version ≤ 2 = leb-true s.version 2 range.1 in
      let short : IsShort s.version = omega (arith, high) in
      let words : AreWords first = (letters (codes "callout") (omega arith) refl, (decimal-word s.version short, tt)) in
      let few : length bytes ≤ 67108864 = omega (arith, length-append (line_text first) (text (behind_first s)), numbered-short (codes "callout") s.version (omega arith) short, behind-leads.short) in
      ap (λ b. at_line 0 (unless b cause.Size) >> lines_script (lines_of bytes)) (le-leb (length bytes) 67108864 few)
      ∙ (ap (λ ls. lines_script ls) (lines-back (first ∷ behind_first s) (words, behind-leads.words)) ∙ lines-read)

pub reads-back : (s : Script) → fits s ≡ true → script_of (canonical s) ≡ Ok s
unfolding canonical canonical_lines
reads-back s h = text-read s (fitting s h)
