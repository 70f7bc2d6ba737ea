-- The head of a canonical text is read again.
use Rattle.std.proofs.Common.{◌≡◌, ℕ, ◌+◌, ◌≤◌, true, false, List, [], ◌∷◌, length, refl, arith, decimal}
use Rattle.std.specs.Prelude.{Some, Ok, codes, nat_le}
use Rattle.std.proofs.lemmas.Bool.{and_parts, and_from, leb-true, le-leb}
use Rattle.std.proofs.lemmas.Bool.Decides.{nat_tests}
use Rattle.co_text.specs.Values.{Word}
use Rattle.co_text.proofs.LinesBack.{IsWord}
use Rattle.co_text.proofs.ValuesBack.{decimal-word}
use Rattle.co_program.specs.declared.Script.{Script}
use Rattle.co_grammar.specs.declared.Kind.{Kind}
use Rattle.co_grammar.specs.declared.Kind.TheVariants as kind
use Rattle.co_grammar.specs.declared.Opener.TheVariants.{Frame}
use Rattle.co_grammar.specs.Keywords.{act_kind, is_section}
use Rattle.co_grammar.specs.Statements.{Statement}
use Rattle.co_grammar.specs.Statements as states
use Rattle.co_object.specs.Queue.{is_wheel_size}
use Rattle.co_grammar.specs.Forms.{frame_form}
use Rattle.co_grammar.specs.Spelling.{numbered}
use Rattle.co_grammar.proofs.ActsBack.{IsShort}
use Rattle.co_grammar.proofs.FrameBack.{number-line}
use Rattle.co_grammar.proofs.Sizes.{numbered-short}
use Rattle.co_script.specs.Drafts.{Draft, first_draft, closed}
use Rattle.co_script.specs.Refusals.{draft_with}
use Rattle.co_script.specs.Reading.{may_stand}
use Rattle.co_script.proofs.LinesFold.{Passes, frame-read, opens-outside}
use Rattle.co_script.proofs.Leads.{Leads, no-lines, one-more}
use Rattle.co_script.proofs.parts.Fitting.{Fitting}
use Rattle.co_script.proofs.parts.After.{After, letters, headed}

abbrev pub head_behind : Script → List (List Word)
head_behind s =
    numbered (codes "hz") s.hz
    ∷ numbered (codes "cpus") s.cpus
    ∷ numbered (codes "wheel") s.buckets
    ∷ numbered (codes "funcs") (length s.funcs)
    ∷ []

-- one line of it
head-line : (d : Draft) (k : Kind) (w : Word) (n : ℕ) (state : Statement) (ls : List (List Word)) (m : ℕ) (P : Draft → Type 0) → IsWord w → length w ≤ 10 → IsShort n → is_section d.stage ≡ false → act_kind w ≡ Some k → may_stand d.stage (Frame k) ≡ true → frame_form d.script.version k (decimal n ∷ []) ≡ Ok state → Passes d (closed d) state
    → Leads (draft_with d (closed d) state) ls m P → Leads d (numbered w n ∷ ls) (150 + m) P
head-line d k w n state ls m P word few short out is stands form passes l =
    one-more d (draft_with d (closed d) state) (numbered w n) ls 150 m P (word, (decimal-word n short, tt)) (numbered-short w n few short)
    (frame-read d (closed d) k w (decimal n ∷ []) state refl (word, (decimal-word n short, tt)) (opens-outside d k w out is) stands form passes) l

wheel-short : (n : ℕ) → is_wheel_size n ≡ true → n ≤ 65536
wheel-short n h = grind (arith, nat_tests)

module _ (s : Script) (f : Fitting s) where
  pub head-leads : Leads (first_draft s.version) (head_behind s) 600 (After (headed s) (length s.funcs) 0 4)
  head-leads =
      let P : Draft → Type 0 = After (headed s) (length s.funcs) 0 4 in
      let d0 : Draft = first_draft s.version in
      let d1 : Draft = draft_with d0 (closed d0) (states.Hz s.hz) in
      let d2 : Draft = draft_with d1 (closed d1) (states.Cpus s.cpus) in
      let d3 : Draft = draft_with d2 (closed d2) (states.Wheel s.buckets) in
      let d4 : Draft = draft_with d3 (closed d3) (states.Funcs (length s.funcs)) in
      let hz : s.hz ≤ 1000000 = leb-true s.hz 1000000 (and_parts (nat_le 1 s.hz) (nat_le s.hz 1000000) f.hz).1 in
      let buckets : s.buckets ≤ 65536 = wheel-short s.buckets f.buckets in
      let hz_short : IsShort s.hz = omega (arith, hz) in
      let cpus_short : IsShort s.cpus = omega (arith, f.small.cpus) in
      let wheel_short : IsShort s.buckets = omega (arith, buckets) in
      let funcs_short : IsShort (length s.funcs) = omega (arith, f.small.funcs_fit) in
      head-line d0 kind.Hz (codes "hz") s.hz (states.Hz s.hz) (numbered (codes "cpus") s.cpus ∷ numbered (codes "wheel") s.buckets ∷ numbered (codes "funcs") (length s.funcs) ∷ []) 450 P (letters (codes "hz") (omega arith) refl) (omega arith) hz_short refl refl refl (number-line s.hz states.Hz hz_short) (record { numbers = f.hz; kinds = refl; times = refl; room = refl })
      (head-line d1 kind.Cpus (codes "cpus") s.cpus (states.Cpus s.cpus) (numbered (codes "wheel") s.buckets ∷ numbered (codes "funcs") (length s.funcs) ∷ []) 300 P (letters (codes "cpus") (omega arith) refl) (omega arith) cpus_short refl refl refl (number-line s.cpus states.Cpus cpus_short) (record { numbers = f.cpus; kinds = refl; times = refl; room = refl })
      (head-line d2 kind.Wheel (codes "wheel") s.buckets (states.Wheel s.buckets) (numbered (codes "funcs") (length s.funcs) ∷ []) 150 P (letters (codes "wheel") (omega arith) refl) (omega arith) wheel_short refl refl refl (number-line s.buckets states.Wheel wheel_short) (record { numbers = f.buckets; kinds = refl; times = refl; room = refl })
      (head-line d3 kind.Funcs (codes "funcs") (length s.funcs) (states.Funcs (length s.funcs)) [] 0 P (letters (codes "funcs") (omega arith) refl) (omega arith) funcs_short refl refl refl (number-line (length s.funcs) states.Funcs funcs_short) (record { numbers = and_from (nat_le 0 (length s.funcs)) (nat_le (length s.funcs) 1024) (le-leb 0 (length s.funcs) (omega arith)) (le-leb (length s.funcs) 1024 f.small.funcs_fit); kinds = refl; times = refl; room = refl })
      (no-lines d4 P (record { script_is = refl; funcs_are = refl; count_is = refl; stage = omega arith })))))
