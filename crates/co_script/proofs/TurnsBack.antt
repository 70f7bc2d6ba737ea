-- The turns of a canonical text, each run read again: the runs are the turns, each names its actor, and its line adds
-- its steps.
use Rattle.std.proofs.Common.{◌≡◌, ℕ, suc, ◌+◌, ◌-◌, ◌*◌, ◌<◌, ◌≤◌, Bool, true, false, cond, ◌&&◌, List, [], ◌∷◌, ◌++◌, length, map, refl, ap, sym, subst, ◌∙◌, arith, decimal, append_assoc, append-nil, length-append}
use Rattle.std.specs.Prelude.{Option, Some, None, Ok, ◌==◌, if◌then◌else◌, codes, nat_lt, nat_le, replicate, flat_map, sum_by, is_some}
use Rattle.std.specs.List.{list_all, AllByRecursion}
use Rattle.std.proofs.lemmas.Bool.{and_parts, and_from, lt-ltb, le-leb, ltb-true, ltb-false, eqb-true}
use Rattle.std.proofs.lemmas.Fmt.{length-decimal-le}
use Rattle.std.proofs.lemmas.List.{length-replicate}
use Rattle.std.proofs.lemmas.List.Folds.{list_all-append}
use Rattle.co_text.specs.Lines.{line_text}
use Rattle.co_text.specs.Values.{Word}
use Rattle.co_text.proofs.LinesBack.{IsWord, AreWords, is_ink}
use Rattle.co_text.proofs.ValuesBack.{decimal-word}
use Rattle.co_text.proofs.Sizes.{line-weight}
use Rattle.co_program.specs.declared.Script.{Script}
use Rattle.co_program.specs.declared.Role.{Role}
use Rattle.co_program.specs.declared.Role.TheVariants.{Client, Cpu, Interrupt}
use Rattle.co_program.specs.Actors.{role_of, actor_count}
use Rattle.co_grammar.specs.declared.Kind.TheVariants as kind
use Rattle.co_grammar.specs.Statements as states
use Rattle.co_grammar.specs.Turns.{Turn, turn}
use Rattle.co_grammar.specs.Checks.{is_within}
use Rattle.co_grammar.specs.Spelling.{role_word}
use Rattle.co_grammar.proofs.ActsBack.{IsShort}
use Rattle.co_grammar.proofs.FrameBack.{turn-back, client-back, cpu-back, interrupt-back, turns-line}
use Rattle.co_script.specs.Drafts.{Draft}
use Rattle.co_script.specs.Refusals.{actor_number, below, times_of, number_or_0, steps_of_turn, draft_with}
use Rattle.co_script.specs.Canonical.{Run, runs, run_before, begins_with, run_words}
use Rattle.co_script.proofs.LinesFold.{frame-read, opens-anywhere, no-verb}
use Rattle.co_script.proofs.Leads.{Leads, no-lines, one-more, at-most}
use Rattle.co_script.proofs.parts.Fitting.{Fitting}
use Rattle.co_script.proofs.parts.After.{After, version-after, may-stand, letters}

-- ---- the runs are the turns

-- the steps of runs
abbrev pub steps_in : List Run → List ℕ
steps_in rs = flat_map (λ (r : Run). replicate r.length r.actor) rs

begun : (b : Bool) (a : ℕ) (rs : List Run) → begins_with a rs ≡ b → steps_in (run_before b a rs) ≡ a ∷ steps_in rs
begun true a [] is = refl
begun false a [] is = refl
begun true a (r ∷ rs) is =
    let more : r.length + 1 ≡ suc r.length = omega arith in
    let same : r.actor ≡ a = eqb-true r.actor a is in
    ap (λ n. replicate n r.actor ++ steps_in rs) more ∙ ap (λ b. b ∷ steps_in (r ∷ rs)) same
begun false a (r ∷ rs) is = refl

pub runs-back : (turns : List ℕ) → steps_in (runs turns) ≡ turns
runs-back [] = refl
runs-back (a ∷ turns) = begun (begins_with a (runs turns)) a (runs turns) refl ∙ ap (λ l. a ∷ l) (runs-back turns)

-- a run steps an actor of the script, once or more
pub record IsRun (actors : ℕ) (r : Run) : Type 0 where
  pub exists : r.actor < actors
  pub some : 1 ≤ r.length

begun-run : (actors : ℕ) (b : Bool) (a : ℕ) (rs : List Run) → a < actors → AllByRecursion (IsRun actors) rs → AllByRecursion (IsRun actors) (run_before b a rs)
begun-run actors true a [] h all = (record { exists = h; some = omega arith }, tt)
begun-run actors false a [] h all = (record { exists = h; some = omega arith }, tt)
begun-run actors true a (r ∷ rs) h all = (record { exists = all.0.exists; some = omega arith }, all.1)
begun-run actors false a (r ∷ rs) h all = (record { exists = h; some = omega arith }, all)

pub are-runs : (actors : ℕ) (turns : List ℕ) → list_all (λ a. nat_lt a actors) turns ≡ true → AllByRecursion (IsRun actors) (runs turns)
are-runs actors [] h = tt
are-runs actors (a ∷ turns) h =
    let both = and_parts (nat_lt a actors) (list_all (λ a. nat_lt a actors) turns) h in
    begun-run actors (begins_with a (runs turns)) a (runs turns) (ltb-true a actors both.0) (are-runs actors turns both.1)

steps-long : (r : Run) (rs : List Run) → length (steps_in (r ∷ rs)) ≡ r.length + length (steps_in rs)
steps-long r rs = length-append (replicate r.length r.actor) (steps_in rs) ∙ ap (λ n. n + length (steps_in rs)) (length-replicate r.length r.actor)

pub runs-few : (actors : ℕ) (rs : List Run) → AllByRecursion (IsRun actors) rs → length rs ≤ length (steps_in rs)
runs-few actors [] all = omega arith
runs-few actors (r ∷ rs) all = omega (arith, steps-long r rs, runs-few actors rs all.1, all.0.some)

-- ---- the word of an actor

-- it names the actor, by a letter and at most two digits
record Names (s : Script) (a : ℕ) (x : Role) : Type 0 where
  number : (done : List ℕ) → actor_number (record s { turns = done }) x ≡ Some a
  short : length (role_word x) ≤ 3
  word : (n : ℕ) → IsShort n → IsWord (role_word x ++ 42 ∷ decimal n)
  read : (n : ℕ) → IsShort n → turn s.version (role_word x ++ 42 ∷ decimal n) ≡ Ok (record { who = x; times = n })

ink-append : (xs ys : List ℕ) → list_all is_ink xs ≡ true → list_all is_ink ys ≡ true → list_all is_ink (xs ++ ys) ≡ true
ink-append xs ys h k = list_all-append is_ink xs ys ∙ and_from (list_all is_ink xs) (list_all is_ink ys) h k

turn-word : (c m n : ℕ) → is_ink c ≡ true → IsShort m → IsShort n → IsWord ((c ∷ decimal m) ++ 42 ∷ decimal n)
turn-word c m n ink hm hn = record {
  some = omega arith;
  ink = ink-append (c ∷ decimal m) (42 ∷ decimal n) (and_from (is_ink c) (list_all is_ink (decimal m)) ink (decimal-word m hm).ink) (decimal-word n hn).ink;
}

few-digits : (c m : ℕ) → m < 100 → length (c ∷ decimal m) ≤ 3
few-digits c m h = let two : length (decimal m) ≤ 2 = length-decimal-le 2 m (omega arith) (omega (arith, h)) (omega (arith, h)) in omega (arith, two)

abbrev counted : Bool → ℕ → Option ℕ
counted b n = if b then Some n else None

below-is : (count first n a : ℕ) → n < count → first + n ≡ a → below count first n ≡ Some a
below-is count first n a less sum = ap (λ b. counted b (first + n)) (lt-ltb n count less) ∙ ap Some sum

module _ (s : Script) (a : ℕ) (cpus : s.cpus ≤ 16) (clients : length s.clients ≤ 16) (exists : a < actor_count s) where
  names-by : (b c : Bool) → nat_lt a (length s.clients) ≡ b → nat_lt a (length s.clients + s.cpus) ≡ c → Names s a (if b then Client a else if c then Cpu (a - length s.clients) else Interrupt (a - length s.clients - s.cpus))
  names-by true c is_client is_cpu =
      let less : a < length s.clients = ltb-true a (length s.clients) is_client in
      let short : IsShort a = omega (arith, less, clients) in
      record {
        number = λ done. below-is (length s.clients) 0 a a less (omega arith);
        short = few-digits 99 a (omega (arith, less, clients));
        word = λ n h. turn-word 99 a n refl short h;
        read = λ n h. turn-back s.version 99 a n (Client a) refl short h (client-back s.version a short);
      }
  names-by false true is_client is_cpu =
      let m : ℕ = a - length s.clients in
      let from : length s.clients ≤ a = ltb-false a (length s.clients) is_client in
      let less : a < length s.clients + s.cpus = ltb-true a (length s.clients + s.cpus) is_cpu in
      let short : IsShort m = omega (arith, less, cpus) in
      record {
        number = λ done. below-is s.cpus (length s.clients) m a (omega (arith, less, from)) (omega (arith, from));
        short = few-digits 112 m (omega (arith, less, cpus));
        word = λ n h. turn-word 112 m n refl short h;
        read = λ n h. turn-back s.version 112 m n (Cpu m) refl short h (cpu-back s.version m short);
      }
  names-by false false is_client is_cpu = by (s.version == 2) refl exists where
    by : (two : Bool) → (s.version == 2) ≡ two → a < cond two (length s.clients + 2 * s.cpus) (length s.clients + s.cpus) → Names s a (Interrupt (a - length s.clients - s.cpus))
    by true two less =
        let m : ℕ = a - length s.clients - s.cpus in
        let from : length s.clients + s.cpus ≤ a = ltb-false a (length s.clients + s.cpus) is_cpu in
        let short : IsShort m = omega (arith, less, cpus) in
        record {
          number = λ done. below-is s.cpus (length s.clients + s.cpus) m a (omega (arith, less, from)) (omega (arith, from));
          short = few-digits 104 m (omega (arith, less, cpus));
          word = λ n h. turn-word 104 m n refl short h;
          read = λ n h. turn-back s.version 104 m n (Interrupt m) refl short h (interrupt-back s.version m two short);
        }
    by false two less = let from : length s.clients + s.cpus ≤ a = ltb-false a (length s.clients + s.cpus) is_cpu in absurd (omega (arith, from, less))

  names : Names s a (role_of s a)
  names = names-by (nat_lt a (length s.clients)) (nat_lt a (length s.clients + s.cpus)) refl refl

-- ---- lines of turns

abbrev pub with_turns : Script → List ℕ → Script
with_turns s turns = record s { turns = turns }

run-short : (w : Word) (n : ℕ) → length w ≤ 3 → n ≤ 1000000 → length (line_text (codes "turns" ∷ (w ++ 42 ∷ decimal n) ∷ [])) ≤ 20
run-short w n few h =
    let digits : length (decimal n) ≤ 7 = length-decimal-le 7 n (omega arith) (omega (arith, h)) (omega (arith, h)) in
    omega (arith, line-weight (codes "turns" ∷ (w ++ 42 ∷ decimal n) ∷ []), length-append w (42 ∷ decimal n), digits, few)

module _ (s : Script) (f : Fitting s) where
  pub runs-lead : (rs : List Run) (done : List ℕ) (count : ℕ) (d : Draft) → AllByRecursion (IsRun (actor_count s)) rs → length done + length (steps_in rs) ≤ 1000000 → After (with_turns s done) (length s.funcs) count 10 d
      → Leads d (map (run_words s) rs) (20 * length rs) (After (with_turns s (done ++ steps_in rs)) (length s.funcs) count 10)
  runs-lead [] done count d all room at = no-lines d (After (with_turns s (done ++ [])) (length s.funcs) count 10) (subst (λ l. After (with_turns s l) (length s.funcs) count 10 d) (sym (append-nil done)) at)
  runs-lead (r ∷ rs) done count d all room at =
      let t : Script = with_turns s done in
      let x : Role = role_of s r.actor in
      let say : Turn = record { who = x; times = r.length } in
      let steps : List ℕ = replicate r.length r.actor in
      let named = names s r.actor f.small.cpus f.clients_few all.0.exists in
      let long = steps-long r rs in
      let few : r.length ≤ 1000000 = omega (arith, room, long) in
      let short : IsShort r.length = omega (arith, few) in
      let P : Draft → Type 0 = After (with_turns s (done ++ steps_in (r ∷ rs))) (length s.funcs) count 10 in
      let words : AreWords (run_words s r) = (letters (codes "turns") (omega arith) refl, (named.word r.length short, tt)) in
      let adds : flat_map (steps_of_turn t) (say ∷ []) ≡ steps = ap (λ o. replicate r.length (number_or_0 o) ++ []) (named.number done) ∙ append-nil steps in
      let e : Draft = draft_with d t (states.Turns (say ∷ [])) in
      let version : s.version ≡ d.script.version = sym (version-after t (length s.funcs) count 10 d at) in
      let here : After (with_turns s (done ++ steps)) (length s.funcs) count 10 e = record {
        script_is = ap (λ l. with_turns s (done ++ l)) adds;
        funcs_are = at.funcs_are;
        count_is = at.count_is;
        stage = omega arith;
      } in
      let room_behind : length (done ++ steps) + length (steps_in rs) ≤ 1000000 = omega (arith, length-append done steps, length-replicate r.length r.actor, room, long) in
      at-most d (run_words s r ∷ map (run_words s) rs) (20 + 20 * length rs) (20 * suc (length rs)) P (omega arith)
      (one-more d e (run_words s r) (map (run_words s) rs) 20 (20 * length rs) P words (run-short (role_word x) r.length named.short few)
      (frame-read d t kind.Turns (codes "turns") ((role_word x ++ 42 ∷ decimal r.length) ∷ []) (states.Turns (say ∷ [])) at.script_is words
      (opens-anywhere d kind.Turns (codes "turns") (no-verb d.script.version (codes "turns") refl refl refl) refl)
      (may-stand d.stage kind.Turns at.stage refl)
      (turns-line d.script.version (role_word x ++ 42 ∷ decimal r.length) say (subst (λ v. turn v (role_word x ++ 42 ∷ decimal r.length) ≡ Ok say) version (named.read r.length short)))
      (record {
        numbers = and_from (is_some (actor_number t x) && is_within 1 1000000 r.length) true
            (and_from (is_some (actor_number t x)) (is_within 1 1000000 r.length) (ap (λ (o : Option ℕ). is_some o) (named.number done)) (and_from (nat_le 1 r.length) (nat_le r.length 1000000) (le-leb 1 r.length all.0.some) (le-leb r.length 1000000 few)))
            refl;
        kinds = refl;
        times = refl;
        room = le-leb (length done + sum_by times_of (say ∷ [])) 1000000 (omega (arith, room, long));
      }))
      (subst (λ l. Leads e (map (run_words s) rs) (20 * length rs) (After (with_turns s l) (length s.funcs) count 10)) (append_assoc done steps (steps_in rs))
      (runs-lead rs (done ++ steps) count e all.1 room_behind here)))

  pub turns-lead : (count : ℕ) (d : Draft) → After (with_turns s []) (length s.funcs) count 9 d → Leads d (map (run_words s) (runs s.turns)) (20 * length (runs s.turns)) (After s (length s.funcs) count 10)
  turns-lead count d at =
      let back : steps_in (runs s.turns) ≡ s.turns = runs-back s.turns in
      subst (λ l. Leads d (map (run_words s) (runs s.turns)) (20 * length (runs s.turns)) (After (with_turns s l) (length s.funcs) count 10)) back
      (runs-lead (runs s.turns) [] count d (are-runs (actor_count s) s.turns f.turns)
      (let all : length (steps_in (runs s.turns)) ≡ length s.turns = ap (λ (l : List ℕ). length l) back in omega (arith, all, f.turns_few))
      (record { script_is = at.script_is; funcs_are = at.funcs_are; count_is = at.count_is; stage = omega (arith, at.stage) }))
