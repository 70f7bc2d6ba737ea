-- An act keeps a draft fine: it is one more of the open section.
use Rattle.std.proofs.Common.{◌≡◌, ℕ, ◌+◌, ◌<◌, Bool, true, false, cond, not, ◌&&◌, ◌||◌, List, [], ◌∷◌, ◌++◌, length, refl, ap, sym, subst, ◌∙◌, arith, length-append}
use Rattle.std.specs.Prelude.{Option, Some, None, Ok, ◌==◌, nat_lt, nat_le, codes}
use Rattle.std.specs.List.{list_all}
use Rattle.std.proofs.lemmas.Bool.{and_from, ltb-true, le-leb}
use Rattle.co_object.proofs.Changes.{both_true}
use Rattle.co_text.specs.Values.{Word, is_word}
use Rattle.co_program.specs.declared.Act.{Act}
use Rattle.co_program.specs.Scripts.{names_exist}
use Rattle.co_grammar.specs.declared.Kind.{Kind}
use Rattle.co_grammar.specs.declared.Verb.{Verb}
use Rattle.co_grammar.specs.declared.Verb.TheVariants as verb
use Rattle.co_grammar.specs.declared.Opener.TheVariants.{Act as Does}
use Rattle.co_grammar.specs.Keywords.{verb_of, old_verb_of, is_func, may_act, verb_of_act}
use Rattle.co_grammar.specs.Statements as states
use Rattle.co_grammar.specs.Forms.{act_form}
use Rattle.co_grammar.specs.Checks.{values_fit, act_fits, act_kind_fits, act_rises}
use Rattle.co_script.specs.Drafts.{Draft, time_after}
use Rattle.co_script.specs.Refusals.{most_acts, draft_with, draft_after}
use Rattle.co_script.specs.Reading.{opener_by, act_line}
use Rattle.co_script.specs.Fits.{is_of_version, has_times, rises_after}
use Rattle.co_program.specs.Calls.{names_me}
use Rattle.co_script.proofs.LinesFold.{Passes}
use Rattle.co_script.proofs.Standing.{stands, stands-from}
use Rattle.co_script.proofs.told.Steps.{bind-ok}
use Rattle.co_script.proofs.told.Acts.{act-ok}
use Rattle.co_script.proofs.drafts.Named.{named_by, fits-named, kind-named}
use Rattle.co_script.proofs.drafts.Sections.{clock_after, rises-more, clock-more}
use Rattle.co_script.proofs.drafts.Firm.{Fine}
use Rattle.co_script.proofs.AllPass.{more-pass, one-passes}
use Rattle.co_script.proofs.drafts.Passed.{passes-ok}

-- an act that its version has
old-of-version : (version : ℕ) (w : Word) (v : Verb) → old_verb_of w ≡ Some v → is_of_version version v ≡ true
old-of-version version w v k = old (is_word w (codes "now")) (is_word w (codes "lock")) (is_word w (codes "rlock")) (is_word w (codes "unlock")) (is_word w (codes "reset")) (is_word w (codes "ticks")) (is_word w (codes "schedule")) (is_word w (codes "stop")) (is_word w (codes "drain")) (is_word w (codes "adrain")) (is_word w (codes "active")) (is_word w (codes "pending")) (is_word w (codes "deactivate")) (is_word w (codes "tick")) k where
  old : (b0 b1 b2 b3 b4 b5 b6 b7 b8 b9 b10 b11 b12 b13 : Bool) → cond b0 (Some verb.Now) (cond b1 (Some verb.Lock) (cond b2 (Some verb.ReadLock) (cond b3 (Some verb.Unlock) (cond b4 (Some verb.Reset) (cond b5 (Some verb.Ticks) (cond b6 (Some verb.Schedule) (cond b7 (Some verb.Stop) (cond b8 (Some verb.Drain) (cond b9 (Some verb.AsyncDrain) (cond b10 (Some verb.Active) (cond b11 (Some verb.Pending) (cond b12 (Some verb.Deactivate) (cond b13 (Some verb.Tick) (None)))))))))))))) ≡ Some v → is_of_version version v ≡ true
  old true b1 b2 b3 b4 b5 b6 b7 b8 b9 b10 b11 b12 b13 h = let same : verb.Now ≡ v = cc in subst (λ u. is_of_version version u ≡ true) same refl
  old false true b2 b3 b4 b5 b6 b7 b8 b9 b10 b11 b12 b13 h = let same : verb.Lock ≡ v = cc in subst (λ u. is_of_version version u ≡ true) same refl
  old false false true b3 b4 b5 b6 b7 b8 b9 b10 b11 b12 b13 h = let same : verb.ReadLock ≡ v = cc in subst (λ u. is_of_version version u ≡ true) same refl
  old false false false true b4 b5 b6 b7 b8 b9 b10 b11 b12 b13 h = let same : verb.Unlock ≡ v = cc in subst (λ u. is_of_version version u ≡ true) same refl
  old false false false false true b5 b6 b7 b8 b9 b10 b11 b12 b13 h = let same : verb.Reset ≡ v = cc in subst (λ u. is_of_version version u ≡ true) same refl
  old false false false false false true b6 b7 b8 b9 b10 b11 b12 b13 h = let same : verb.Ticks ≡ v = cc in subst (λ u. is_of_version version u ≡ true) same refl
  old false false false false false false true b7 b8 b9 b10 b11 b12 b13 h = let same : verb.Schedule ≡ v = cc in subst (λ u. is_of_version version u ≡ true) same refl
  old false false false false false false false true b8 b9 b10 b11 b12 b13 h = let same : verb.Stop ≡ v = cc in subst (λ u. is_of_version version u ≡ true) same refl
  old false false false false false false false false true b9 b10 b11 b12 b13 h = let same : verb.Drain ≡ v = cc in subst (λ u. is_of_version version u ≡ true) same refl
  old false false false false false false false false false true b10 b11 b12 b13 h = let same : verb.AsyncDrain ≡ v = cc in subst (λ u. is_of_version version u ≡ true) same refl
  old false false false false false false false false false false true b11 b12 b13 h = let same : verb.Active ≡ v = cc in subst (λ u. is_of_version version u ≡ true) same refl
  old false false false false false false false false false false false true b12 b13 h = let same : verb.Pending ≡ v = cc in subst (λ u. is_of_version version u ≡ true) same refl
  old false false false false false false false false false false false false true b13 h = let same : verb.Deactivate ≡ v = cc in subst (λ u. is_of_version version u ≡ true) same refl
  old false false false false false false false false false false false false false true h = let same : verb.Tick ≡ v = cc in subst (λ u. is_of_version version u ≡ true) same refl
  old false false false false false false false false false false false false false false h = cc

pub of-version : (version : ℕ) (w : Word) (v : Verb) → verb_of version w ≡ Some v → is_of_version version v ≡ true
of-version version w v h = go (version == 2) refl (is_word w (codes "init")) (is_word w (codes "retire")) h where
  go : (a : Bool) → (version == 2) ≡ a → (b c : Bool) → cond (a && b) (Some verb.Init) (cond (a && c) (Some verb.Retire) (old_verb_of w)) ≡ Some v → is_of_version version v ≡ true
  go true is true c k = let same : verb.Init ≡ v = cc in subst (λ u. is_of_version version u ≡ true) same is
  go true is false true k = let same : verb.Retire ≡ v = cc in subst (λ u. is_of_version version u ≡ true) same is
  go true is false false k = old-of-version version w v k
  go false is b c k = old-of-version version w v k

pub opener-verb : (inside : Bool) (k : Option Kind) (o : Option Verb) (v : Verb) → opener_by inside k o ≡ Ok (Does v) → o ≡ Some v
opener-verb inside None None v h = cc
opener-verb true None (Some u) v h = cc
opener-verb true (Some k) (Some u) v h = cc
opener-verb true (Some k) None v h = cc
opener-verb false (Some k) None v h = cc
opener-verb false (Some k) (Some u) v h = cc
opener-verb false None (Some u) v h = cc

pub act-fine : (d : Draft) (v : Verb) (ws : List Word) (e : Draft) → Fine d → is_of_version d.script.version v ≡ true → may_act d.stage v ≡ true → act_line d v ws ≡ Ok e → Fine e
act-fine d v ws e h version order read =
    let a = bind-ok (act_form (is_func d.stage) v ws) (λ a. draft_after d d.script (states.Does a)) e read in
    let p = passes-ok d d.script (states.Does a.0) e a.2 in
    let formed = act-ok (is_func d.stage) v ws a.0 a.1 in
    subst (λ x. Fine x) p.1 (one-more d a.0 h (subst (λ u. is_of_version d.script.version u ≡ true) (sym formed.verb) version) (subst (λ u. may_act d.stage u ≡ true) (sym formed.verb) order) formed.me formed.times p.0) where
      one-more : (d : Draft) (a : Act) → Fine d → is_of_version d.script.version (verb_of_act a) ≡ true → may_act d.stage (verb_of_act a) ≡ true
          → (is_func d.stage || not (names_me a)) ≡ true → has_times a ≡ true → Passes d d.script (states.Does a) → Fine (draft_with d d.script (states.Does a))
      one-more d a h version order me times p =
          let s = named_by d.script in
          let room = both_true (nat_lt (length d.acts) (most_acts (is_func d.stage))) (nat_lt d.count 262144) p.room in
          let parts = both_true (nat_le (length d.acts) (most_acts (is_func d.stage))) (list_all (stands d.funcs s d.stage) d.acts && rises_after 0 d.acts) h.acts in
          let inner = both_true (list_all (stands d.funcs s d.stage) d.acts) (rises_after 0 d.acts) parts.1 in
          let long : length (d.acts ++ a ∷ []) ≡ length d.acts + 1 = length-append d.acts (a ∷ []) in
          let below : length d.acts < most_acts (is_func d.stage) = ltb-true (length d.acts) (most_acts (is_func d.stage)) room.0 in
          let few : d.count < 262144 = ltb-true d.count 262144 room.1 in
          let fits_here : act_fits d.funcs s a ≡ true = sym (fits-named d.funcs d.script a) ∙ p.numbers in
          let kinds_here : act_kind_fits s a ≡ true = sym (kind-named d.script a) ∙ p.kinds in
          let fit = both_true (names_exist s a) (values_fit d.funcs s a) fits_here in
          let here = stands-from d.funcs s d.stage a (record { verb = order; version = version; me = me; times = times; names = fit.0; values = fit.1; kind = kinds_here }) in
          let rising : act_rises (clock_after 0 d.acts) a ≡ true = subst (λ t. act_rises t a ≡ true) h.clock p.times in
          let f = h.firm in
          record {
            firm = record {
              version = f.version;
              hz = f.hz;
              cpus = f.cpus;
              buckets = f.buckets;
              funcs_most = f.funcs_most;
              locks_most = f.locks_most;
              timers_most = f.timers_most;
              clients_most = f.clients_most;
              funcs_room = f.funcs_room;
              ticks_room = f.ticks_room;
              specs = f.specs;
              funcs_fit = f.funcs_fit;
              clients_fit = f.clients_fit;
              ticks_fit = f.ticks_fit;
              total = omega (arith, f.total);
              count_most = omega (arith, few);
              turns_most = f.turns_most;
              turns_fit = f.turns_fit;
              no_timers = f.no_timers;
              no_funcs = f.no_funcs;
              no_clients = f.no_clients;
              no_ticks = f.no_ticks;
              no_turns = f.no_turns;
            };
            funcs_room = h.funcs_room;
            clients_room = h.clients_room;
            ticks_room = h.ticks_room;
            acts = and_from (nat_le (length (d.acts ++ a ∷ [])) (most_acts (is_func d.stage))) (list_all (stands d.funcs s d.stage) (d.acts ++ a ∷ []) && rises_after 0 (d.acts ++ a ∷ []))
                (le-leb (length (d.acts ++ a ∷ [])) (most_acts (is_func d.stage)) (omega (arith, long, below)))
                (and_from (list_all (stands d.funcs s d.stage) (d.acts ++ a ∷ [])) (rises_after 0 (d.acts ++ a ∷ []))
                (more-pass (stands d.funcs s d.stage) d.acts (a ∷ []) inner.0 (one-passes (stands d.funcs s d.stage) a here))
                (rises-more 0 d.acts a inner.1 rising));
            clock = ap (λ t. time_after t a) h.clock ∙ sym (clock-more 0 d.acts a);
            total = omega (arith, h.total, long);
          }
