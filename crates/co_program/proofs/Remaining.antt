-- What is left of a list of acts once some are over: its first act, and its rest.
-- The inductions are over the list and the number together; that a program is short makes `task_past` exact.
use Rattle.std.proofs.Common.{◌≡◌, ℕ, zero, suc, ◌+◌, ◌<◌, ◌≤◌, ◌==◌, Bool, true, false, cond, List, [], ◌∷◌, map, length, drop, Option, Some, None, slice_get, refl, sym, ap, ◌∙◌, add-one, arith, inl, inr}
use Rattle.std.proofs.Math.Nat.{min-eq_left}
use Rattle.std.specs.Option.{option_map}
use Rattle.std.proofs.lemmas.Bool.{cases_lt, ne_eqb}
use Rattle.std.proofs.lemmas.Option.{slice_get-map}
use Rattle.std.proofs.lemmas.List.{length-map}
use Rattle.co_program.specs.declared.act.Act.{Act}
use Rattle.co_program.specs.declared.script.Script.{Script}
use Rattle.co_program.specs.declared.program.Task.{Task}
use Rattle.co_program.specs.declared.program.Task.TheVariants.{Does, Soft}
use Rattle.co_program.specs.declared.role.Role.{Role}
use Rattle.co_program.specs.declared.role.Role.TheVariants.{Client, Cpu, Interrupt}
use Rattle.co_program.specs.Actors.{acts_at, program_of, softs}
use Rattle.co_program.specs.Action.{scans_of}
use Rattle.co_program.specs.Advance.{tail_of}
use Rattle.co_program.specs.Indexed.{acts_of, is_soft, task_past}
use Rattle.co_program.specs.Scripts.{IsScript}

pub first-drop : {X : Type 0} (xs : List X) (n : ℕ) → slice_get (drop n xs) 0 ≡ slice_get xs n
first-drop xs zero = refl
first-drop [] (suc n) = refl
first-drop (x ∷ xs) (suc n) = first-drop xs n

pub tail_of-drop : {X : Type 0} (xs : List X) (n : ℕ) → tail_of (drop n xs) ≡ drop (suc n) xs
tail_of-drop [] zero = refl
tail_of-drop (x ∷ xs) zero = refl
tail_of-drop [] (suc n) = refl
tail_of-drop (x ∷ xs) (suc n) = tail_of-drop xs n

pub drop_some : {X : Type 0} (xs : List X) (x : X) → slice_get xs 0 ≡ Some x → xs ≡ x ∷ tail_of xs
drop_some [] x h = cc
drop_some (y ∷ xs) x h = cc

pub drop_end : {X : Type 0} (xs : List X) (n : ℕ) → length xs ≤ n → drop n xs ≡ []
drop_end [] zero h = refl
drop_end [] (suc n) h = refl
drop_end (x ∷ xs) zero h = absurd (omega arith)
drop_end (x ∷ xs) (suc n) h = drop_end xs n (omega arith)

past-low : (n : ℕ) → n < 65536 → task_past n ≡ n + 1
past-low n low = min-eq_left (omega arith)

past-high : (n : ℕ) → 65536 ≤ n → 65536 ≤ task_past n
past-high n high = omega arith

pub drop-past : {X : Type 0} (xs : List X) (n : ℕ) → length xs ≤ 65536 → drop (task_past n) xs ≡ tail_of (drop n xs)
drop-past xs n short =
    elim (cases_lt n 65536) [
      | inl low ↦ rw (past-low n low) (rw add-one (sym (tail_of-drop xs n)))
      | inr high ↦
          let ended : drop (task_past n) xs ≡ [] = drop_end xs (task_past n) (omega (arith, past-high n high)) in
          let over : drop n xs ≡ [] = drop_end xs n (omega arith) in
          ended ∙ sym (ap tail_of over)
    ]

-- a choice of two values, each of which has the property
cond_kept : {X : Type 0} (P : X → Type 0) (b : Bool) (x y : X) → P x → P y → P (cond b x y)
cond_kept P true x y of_x of_y = of_x
cond_kept P false x y of_x of_y = of_y

pub slice_get-softs : (j n k i : ℕ) → k < n → j + k ≡ i → slice_get (softs j n) k ≡ Some (Soft i)
slice_get-softs j zero k i h e = absurd (omega arith)
slice_get-softs j (suc n) zero i h e = ap (λ x. Some (Soft x)) (omega arith)
slice_get-softs j (suc n) (suc k) i h e = slice_get-softs (suc j) n k i (omega arith) (omega arith)

pub slice_get-softs_end : (j n k : ℕ) → n ≤ k → slice_get (softs j n) k ≡ None
slice_get-softs_end j zero k h = refl
slice_get-softs_end j (suc n) zero h = absurd (omega arith)
slice_get-softs_end j (suc n) (suc k) h = slice_get-softs_end (suc j) n k (omega arith)

pub length-softs : (j n : ℕ) → length (softs j n) ≡ n
length-softs j zero = refl
length-softs j (suc n) = ap suc (length-softs (suc j) n)

pub length-program : (s : Script) → IsScript s → (role : Role) → length (program_of s role) ≤ 65536
length-program s is (Client c) = rw length-map (is.short_clients c)
length-program s is (Cpu x) =
    cond_kept (λ (tasks : List Task). length tasks ≤ 65536) (s.version == 2) (softs 0 (length (acts_at s.ticks x))) (map Does (acts_at s.ticks x))
    (rw length-softs (is.short_ticks x))
    (rw length-map (is.short_ticks x))
length-program s is (Interrupt x) = rw length-map (is.short_ticks x)

-- an act that is left has a small number
pub task_below : (s : Script) → IsScript s → (role : Role) (n : ℕ) (task : Task) → slice_get (drop n (program_of s role)) 0 ≡ Some task → n < 65536
task_below s is role n task e =
    elim (cases_lt n 65536) [
      | inl low ↦ low
      | inr high ↦
          let long = length-program s is role in
          let none : slice_get (drop n (program_of s role)) 0 ≡ None = ap (λ (xs : List Task). slice_get xs 0) (drop_end (program_of s role) n (omega (arith, long, high))) in
          let never : None ≡ Some task = sym none ∙ e in
          cc
    ]

pub first_does : (acts : List Act) (n : ℕ) → option_map Does (slice_get acts n) ≡ slice_get (drop n (map Does acts)) 0
first_does acts n = sym (first-drop (map Does acts) n ∙ slice_get-map Does acts n)

pub program-soft : (s : Script) (x : ℕ) → s.version ≡ 2 → program_of s (Cpu x) ≡ softs 0 (length (acts_at s.ticks x))
program-soft s x e = ap (λ b. cond b (softs 0 (length (acts_at s.ticks x))) (map Does (acts_at s.ticks x))) (ap (λ v. v == 2) e)

pub program-hard : (s : Script) (x : ℕ) → (s.version ≡ 2 → ⊥) → program_of s (Cpu x) ≡ map Does (acts_at s.ticks x)
program-hard s x ne = ap (λ b. cond b (softs 0 (length (acts_at s.ticks x))) (map Does (acts_at s.ticks x))) (ne_eqb s.version 2 ne)

-- a program by its acts

pub program-does : (s : Script) (role : Role) → is_soft s role ≡ false → program_of s role ≡ map Does (acts_of s role)
program-does s (Client c) e = refl
program-does s (Cpu x) e = ap (λ b. cond b (softs 0 (length (acts_at s.ticks x))) (map Does (acts_at s.ticks x))) e
program-does s (Interrupt x) e = refl

pub program-softs : (s : Script) (role : Role) → is_soft s role ≡ true → program_of s role ≡ softs 0 (length (acts_of s role))
program-softs s (Client c) e = cc
program-softs s (Cpu x) e = ap (λ b. cond b (softs 0 (length (acts_at s.ticks x))) (map Does (acts_at s.ticks x))) e
program-softs s (Interrupt x) e = cc

length-acts : (s : Script) (role : Role) (b : Bool) → is_soft s role ≡ b → length (program_of s role) ≡ length (acts_of s role)
length-acts s role true e = ap length (program-softs s role e) ∙ length-softs 0 (length (acts_of s role))
length-acts s role false e = rw (program-does s role e, length-map) refl

pub none_left : (s : Script) (role : Role) (n : ℕ) → length (acts_of s role) ≤ n → drop n (program_of s role) ≡ []
none_left s role n high = let long = length-acts s role (is_soft s role) refl in drop_end (program_of s role) n (omega (arith, long, high))

pub soft_left : (s : Script) (role : Role) (n : ℕ) → is_soft s role ≡ true → n < length (acts_of s role) → drop n (program_of s role) ≡ Soft n ∷ tail_of (drop n (program_of s role))
soft_left s role n e low =
    drop_some (drop n (program_of s role)) (Soft n)
    (first-drop (program_of s role) n ∙ (ap (λ (tasks : List Task). slice_get tasks n) (program-softs s role e) ∙ slice_get-softs 0 (length (acts_of s role)) n n low (omega arith)))

pub act_left : (s : Script) (role : Role) (n : ℕ) (act : Act) → is_soft s role ≡ false → slice_get (acts_of s role) n ≡ Some act → slice_get (drop n (program_of s role)) 0 ≡ Some (Does act)
act_left s role n act e is =
    ap (λ (tasks : List Task). slice_get (drop n tasks) 0) (program-does s role e) ∙ (sym (first_does (acts_of s role) n) ∙ ap (option_map Does) is)

no_scans : (acts : List Act) (n : ℕ) → scans_of (drop n (map Does acts)) ≡ 0
no_scans [] zero = refl
no_scans [] (suc n) = refl
no_scans (act ∷ acts) zero = refl
no_scans (act ∷ acts) (suc n) = no_scans acts n

-- and other acts wait for no Scan
pub hard_scans : (s : Script) (role : Role) (n : ℕ) → is_soft s role ≡ false → scans_of (drop n (program_of s role)) ≡ 0
hard_scans s role n e = ap (λ (tasks : List Task). scans_of (drop n tasks)) (program-does s role e) ∙ no_scans (acts_of s role) n

-- a soft act's number is below the number of ticks

does_no_soft : (found : Option Act) (j : ℕ) → option_map Does found ≡ Some (Soft j) → ⊥
does_no_soft None j e = cc
does_no_soft (Some act) j e = cc

softs_below : (i n k j : ℕ) → slice_get (softs i n) k ≡ Some (Soft j) → j < i + n
softs_below i zero k j e = cc
softs_below i (suc n) zero j e = let same : i ≡ j = cc in omega arith
softs_below i (suc n) (suc k) j e = let below = softs_below (suc i) n k j e in omega arith

soft_of : (s : Script) (x : ℕ) (b : Bool) (n j : ℕ) → slice_get (cond b (softs 0 (length (acts_at s.ticks x))) (map Does (acts_at s.ticks x))) n ≡ Some (Soft j) → j < length (acts_at s.ticks x)
soft_of s x true n j e = let below = softs_below 0 (length (acts_at s.ticks x)) n j e in omega arith
soft_of s x false n j e = absurd (does_no_soft (slice_get (acts_at s.ticks x) n) j (sym (slice_get-map Does (acts_at s.ticks x) n) ∙ e))

soft_in : (s : Script) → IsScript s → (role : Role) (n j : ℕ) → slice_get (program_of s role) n ≡ Some (Soft j) → j < 65536
soft_in s is (Client c) n j e = absurd (does_no_soft (slice_get (acts_at s.clients c) n) j (sym (slice_get-map Does (acts_at s.clients c) n) ∙ e))
soft_in s is (Cpu x) n j e = let below = soft_of s x (s.version == 2) n j e in omega (arith, is.short_ticks x)
soft_in s is (Interrupt x) n j e = absurd (does_no_soft (slice_get (acts_at s.ticks x) n) j (sym (slice_get-map Does (acts_at s.ticks x) n) ∙ e))

pub soft_few : (s : Script) → IsScript s → (role : Role) (n j : ℕ) → slice_get (drop n (program_of s role)) 0 ≡ Some (Soft j) → j < 65536
soft_few s is role n j e = soft_in s is role n j (sym (first-drop (program_of s role) n) ∙ e)
