-- A section that fits is read again: its line, and then each of its acts behind those before it.
use Rattle.std.proofs.Common.{◌≡◌, ℕ, suc, ◌+◌, ◌*◌, ◌^◌, ◌<◌, ◌≤◌, Bool, true, false, not, ◌&&◌, ◌||◌, List, [], ◌∷◌, ◌++◌, length, map, refl, ap, sym, subst, ◌∙◌, arith, ℤ, pos, negsuc, decimal, append_assoc, append-nil, length-append}
use Rattle.std.specs.Prelude.{Some, Ok, nat_lt, nat_le}
use Rattle.std.specs.List.{list_all}
use Rattle.std.proofs.lemmas.Bool.{and_parts, and_from, ltb-true, lt-ltb, leb-true}
use Rattle.co_text.specs.Values.{Word}
use Rattle.co_text.proofs.LinesBack.{IsWord}
use Rattle.co_text.proofs.ValuesBack.{IsI32, decimal-word}
use Rattle.co_program.specs.declared.Script.{Script}
use Rattle.co_program.specs.declared.Act.{Act}
use Rattle.co_program.specs.declared.Act.TheVariants as act
use Rattle.co_program.specs.declared.Who.{Who}
use Rattle.co_program.specs.declared.Who.TheVariants as callout
use Rattle.co_program.specs.declared.When.{When}
use Rattle.co_program.specs.declared.When.TheVariants as when
use Rattle.co_program.specs.declared.Where.{Where}
use Rattle.co_program.specs.declared.Where.TheVariants as cpu
use Rattle.co_program.specs.Scripts.{who_exists, cpu_exists, names_exist}
use Rattle.co_grammar.specs.declared.Kind.{Kind}
use Rattle.co_grammar.specs.declared.Opener.TheVariants.{Frame}
use Rattle.co_grammar.specs.Keywords.{is_section, is_func, verb_of_act}
use Rattle.co_grammar.specs.Statements.{Statement}
use Rattle.co_grammar.specs.Forms.{frame_form}
use Rattle.co_grammar.specs.Checks.{HasSmallNumbers, is_i32, call_fits, values_fit, act_fits, act_kind_fits, act_rises}
use Rattle.co_grammar.specs.Spelling.{numbered, act_words}
use Rattle.co_grammar.proofs.ActsBack.{IsShort, WhoStands, MomentStands, WhereStands, ActStands, act-words}
use Rattle.co_grammar.proofs.Sizes.{act-short, numbered-short}
use Rattle.co_script.specs.Drafts.{Draft, closed, with_section, time_after}
use Rattle.co_script.specs.Refusals.{draft_with, most_acts}
use Rattle.co_script.specs.Reading.{opener_of, may_stand}
use Rattle.co_script.specs.Canonical.{section_lines}
use Rattle.co_script.specs.Fits.{is_of_version, is_time, is_moment, rises_after, act_stands, section_fits}
use Rattle.co_program.specs.Calls.{is_me}
use Rattle.co_script.proofs.drafts.Named.{named_by, fits-named, kind-named}
use Rattle.co_script.proofs.LinesFold.{Passes, MayAdd, with_act, act-read, frame-read}
use Rattle.co_script.proofs.Standing.{Standing, standing}
use Rattle.co_script.proofs.Leads.{Leads, no-lines, one-more, at-most}

-- ---- what an act that fits names can be written and read

or-false : (b : Bool) → (b || false) ≡ true → b ≡ true
or-false true h = refl
or-false false h = h

i32-stands : (k : ℤ) → is_i32 k ≡ true → IsI32 k
i32-stands (pos n) h = let le : n ≤ 2147483647 = leb-true n 2147483647 h in omega (arith, le)
i32-stands (negsuc n) h = let le : n ≤ 2147483647 = leb-true n 2147483647 (and_parts (nat_le n 2147483647) true h).0 in omega (arith, le)

moment-stands : (m : When) → is_moment m ≡ true → MomentStands m
moment-stands (when.After t) h = ltb-true t (2 ^ 63) h
moment-stands (when.At t) h = ltb-true t (2 ^ 63) h

module _ (k : Kind) (funcs : ℕ) (s : Script) (small : HasSmallNumbers s funcs) where
  who-stands : (w : Who) → (is_func k || not (is_me w)) ≡ true → who_exists s w ≡ true → WhoStands (is_func k) w
  who-stands (callout.Timer i) me exists = let below : i < length s.timers = ltb-true i (length s.timers) exists in omega (arith, below, small.timers)
  who-stands callout.Me me exists = or-false (is_func k) me

  where-stands : (c : Where) → cpu_exists s c ≡ true → WhereStands c
  where-stands cpu.Home exists = tt
  where-stands (cpu.Cpu c) exists = let below : c < s.cpus = ltb-true c s.cpus exists in omega (arith, below, small.cpus)
  where-stands cpu.Here exists = tt

  lock-stands : (l : ℕ) → nat_lt l (length s.locks) ≡ true → IsShort l
  lock-stands l exists = let below : l < length s.locks = ltb-true l (length s.locks) exists in omega (arith, below, small.locks)

  func-stands : (f : ℕ) → nat_lt f funcs ≡ true → IsShort f
  func-stands f exists = let below : f < funcs = ltb-true f funcs exists in omega (arith, below, small.funcs_fit)

  act-stands : (a : Act) → Standing funcs s k a → ActStands (is_func k) a
  act-stands (act.Now t) h = ltb-true t (2 ^ 63) h.times
  act-stands (act.Lock l) h = lock-stands l h.values
  act-stands (act.ReadLock l) h = lock-stands l h.values
  act-stands act.Unlock h = tt
  act-stands (act.Reset w f m a c p) h =
      let t = and_parts (is_moment m) (is_time p) h.times in
      let n = and_parts (who_exists s w) (cpu_exists s c) h.names in
      let j = and_parts (nat_lt f funcs) (nat_lt a (2 ^ 64)) h.values in
      (who-stands w h.me n.0, moment-stands m t.0, func-stands f j.0, ltb-true a (2 ^ 64) j.1, where-stands c n.1, ltb-true p (2 ^ 63) t.1)
  act-stands (act.Ticks w i f a c) h =
      let n = and_parts (who_exists s w) (cpu_exists s c) h.names in
      let v = and_parts (is_i32 i) (call_fits funcs f a) h.values in
      let j = and_parts (nat_lt f funcs) (nat_lt a (2 ^ 64)) v.1 in
      (who-stands w h.me n.0, i32-stands i v.0, func-stands f j.0, ltb-true a (2 ^ 64) j.1, where-stands c n.1)
  act-stands (act.Schedule w m c p) h =
      let t = and_parts (is_moment m) (is_time p) h.times in
      let n = and_parts (who_exists s w) (cpu_exists s c) h.names in
      (who-stands w h.me n.0, moment-stands m t.0, where-stands c n.1, ltb-true p (2 ^ 63) t.1)
  act-stands (act.Stop w) h = who-stands w h.me h.names
  act-stands (act.Drain i) h = let below : i < length s.timers = ltb-true i (length s.timers) h.names in omega (arith, below, small.timers)
  act-stands (act.AsyncDrain w f) h = (who-stands w h.me h.names, func-stands f h.values)
  act-stands (act.Active w) h = who-stands w h.me h.names
  act-stands (act.Pending w) h = who-stands w h.me h.names
  act-stands (act.Deactivate w) h = who-stands w h.me h.names
  act-stands (act.Init w) h = who-stands w h.me h.names
  act-stands (act.Retire w) h = who-stands w h.me h.names
  act-stands (act.Tick t) h = ltb-true t (2 ^ 63) h.times

-- ---- the acts of a section

-- a draft with an open section, in which an act may name what it may name in the script
pub record IsOpen (s : Script) (d : Draft) : Type 0 where
  pub section : is_section d.stage ≡ true
  pub version : d.script.version ≡ s.version
  pub funcs : d.funcs ≡ length s.funcs
  pub named : named_by d.script ≡ named_by s

module _ (s : Script) (small : HasSmallNumbers s (length s.funcs)) where
  fits-alike : (d : Draft) (a : Act) → IsOpen s d → act_fits d.funcs d.script a ≡ act_fits (length s.funcs) s a
  fits-alike d a o = fits-named d.funcs d.script a ∙ (ap (λ t. act_fits d.funcs t a) o.named ∙ (ap (λ n. act_fits n (named_by s) a) o.funcs ∙ sym (fits-named (length s.funcs) s a)))

  kind-alike : (d : Draft) (a : Act) → IsOpen s d → act_kind_fits d.script a ≡ act_kind_fits s a
  kind-alike d a o = kind-named d.script a ∙ (ap (λ t. act_kind_fits t a) o.named ∙ sym (kind-named s a))

  may-add : (d : Draft) (a : Act) → IsOpen s d → act_stands s d.stage a ≡ true → act_rises d.clock a ≡ true → length d.acts < most_acts (is_func d.stage) → d.count < 262144 → MayAdd d a
  may-add d a o stands rises few room =
      let h = standing (length s.funcs) s d.stage a stands in
      record {
        section = o.section;
        may = h.verb;
        version = ap (λ x. is_of_version x (verb_of_act a)) o.version ∙ h.version;
        stands = act-stands d.stage (length s.funcs) s small a h;
        fits = fits-alike d a o ∙ and_from (names_exist s a) (values_fit (length s.funcs) s a) h.names h.values;
        kind = kind-alike d a o ∙ h.kind;
        rises = rises;
        room = and_from (nat_lt (length d.acts) (most_acts (is_func d.stage))) (nat_lt d.count 262144) (lt-ltb (length d.acts) (most_acts (is_func d.stage)) few) (lt-ltb d.count 262144 room);
      }

  abbrev behind : Draft → ℕ → List Act → Draft
  behind d clock acts = record d { acts = d.acts ++ acts; clock = clock; count = d.count + length acts }

  acts-lead : (d : Draft) (acts : List Act) (P : Draft → Type 0) → IsOpen s d → length d.acts + length acts ≤ most_acts (is_func d.stage) → d.count + length acts ≤ 262144
      → list_all (act_stands s d.stage) acts ≡ true → rises_after d.clock acts ≡ true → ((clock : ℕ) → P (behind d clock acts))
      → Leads d (map act_words acts) (150 * length acts) P
  acts-lead d [] P o few room stand rise then' =
      let none : d.count + 0 ≡ d.count = omega arith in
      no-lines d P (subst (λ n. P (record d { count = n })) none (subst (λ l. P (record d { acts = l; count = d.count + 0 })) (append-nil d.acts) (then' d.clock)))
  acts-lead d (a ∷ acts) P o few room stand rise then' =
      let st = and_parts (act_stands s d.stage a) (list_all (act_stands s d.stage) acts) stand in
      let ri = and_parts (act_rises d.clock a) (rises_after (time_after d.clock a) acts) rise in
      let may = may-add d a o st.0 ri.0 (omega (arith, few)) (omega (arith, room)) in
      let long : length (d.acts ++ a ∷ []) ≡ length d.acts + 1 = simp length-append in
      let more : (d.count + 1) + length acts ≡ d.count + suc (length acts) = omega arith in
      let rest = acts-lead (with_act d a) acts P (record { section = o.section; version = o.version; funcs = o.funcs; named = o.named }) (omega (arith, few, long)) (omega (arith, room)) st.1 ri.1
      (λ clock. subst (λ n. P (record d { acts = (d.acts ++ a ∷ []) ++ acts; clock = clock; count = n })) (sym more) (subst (λ l. P (record d { acts = l; clock = clock; count = d.count + suc (length acts) })) (sym (append_assoc d.acts (a ∷ []) acts)) (then' clock))) in
      at-most d (act_words a ∷ map act_words acts) (150 + 150 * length acts) (150 * suc (length acts)) P (omega arith)
      (one-more d (with_act d a) (act_words a) (map act_words acts) 150 (150 * length acts) P (act-words (is_func d.stage) a may.stands) (act-short (is_func d.stage) a may.stands) (act-read d a may) rest)

  -- ---- a section

  -- its line may stand, and opens it: of the script before, the line makes the one with which the section is open
  pub record Opens (d : Draft) (before opened : Script) (k : Kind) (w : Word) (n : ℕ) (state : Statement) : Type 0 where
    pub before_is : closed d ≡ before
    pub word : IsWord w
    pub few : length w ≤ 10
    pub short : IsShort n
    pub opens : opener_of d w ≡ Ok (Frame k)
    pub stands : may_stand d.stage (Frame k) ≡ true
    pub form : frame_form d.script.version k (decimal n ∷ []) ≡ Ok state
    pub passes : Passes d before state
    pub adds : draft_with d before state ≡ record d { script = opened; stage = k; acts = []; clock = 0 }
    pub section : is_section k ≡ true
    pub version : opened.version ≡ s.version
    pub funcs : d.funcs ≡ length s.funcs
    pub named : named_by opened ≡ named_by s

  -- what the lines of a section add
  pub record IsBehind (d : Draft) (k : Kind) (opened : Script) (acts : List Act) (e : Draft) : Type 0 where
    pub script : closed e ≡ with_section k opened acts
    pub funcs : e.funcs ≡ d.funcs
    pub count : e.count ≡ d.count + length acts
    pub stage : e.stage ≡ k

  pub section-leads : (d : Draft) (before opened : Script) (k : Kind) (w : Word) (n : ℕ) (state : Statement) (acts : List Act) → Opens d before opened k w n state
      → section_fits s k acts ≡ true → d.count + length acts ≤ 262144
      → Leads d (section_lines w n acts) (150 * (1 + length acts)) (IsBehind d k opened acts)
  section-leads d before opened k w n state acts o fits room =
      let e : Draft = record d { script = opened; stage = k; acts = []; clock = 0 } in
      let f = and_parts (nat_le (length acts) (most_acts (is_func k))) (list_all (act_stands s k) acts && rises_after 0 acts) fits in
      let g = and_parts (list_all (act_stands s k) acts) (rises_after 0 acts) f.1 in
      let few : length acts ≤ most_acts (is_func k) = leb-true (length acts) (most_acts (is_func k)) f.0 in
      at-most d (section_lines w n acts) (150 + 150 * length acts) (150 * (1 + length acts)) (IsBehind d k opened acts) (omega arith)
      (one-more d e (numbered w n) (map act_words acts) 150 (150 * length acts) (IsBehind d k opened acts) (o.word, (decimal-word n o.short, tt)) (numbered-short w n o.few o.short)
      (frame-read d before k w (decimal n ∷ []) state o.before_is (o.word, (decimal-word n o.short, tt)) o.opens o.stands o.form o.passes ∙ ap (λ x. Ok (Some x)) o.adds)
      (acts-lead e acts (IsBehind d k opened acts) (record { section = o.section; version = o.version; funcs = o.funcs; named = o.named }) (omega (arith, few)) room g.0 g.1
      (λ clock. record { script = refl; funcs = refl; count = refl; stage = refl })))
