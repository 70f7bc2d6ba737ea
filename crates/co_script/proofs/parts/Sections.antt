-- The three kinds of sections of a canonical text are read again.
use Rattle.std.proofs.Common.{◌≡◌, ℕ, ◌+◌, ◌*◌, ◌<◌, ◌≤◌, List, [], ◌∷◌, ◌++◌, length, refl, ap, sym, subst, ◌∙◌, arith}
use Rattle.std.specs.Prelude.{codes, nat_lt, nat_le, sum_by}
use Rattle.std.proofs.lemmas.Bool.{and_from, lt-ltb, le-leb}
use Rattle.std.proofs.lemmas.List.Sums.{sum_by_push}
use Rattle.co_program.specs.declared.Script.{Script}
use Rattle.co_program.specs.declared.Act.{Act}
use Rattle.co_grammar.specs.declared.Kind.TheVariants as kind
use Rattle.co_grammar.specs.Keywords.{rank}
use Rattle.co_grammar.specs.Statements as states
use Rattle.co_grammar.proofs.ActsBack.{IsShort}
use Rattle.co_grammar.proofs.FrameBack.{number-line}
use Rattle.co_script.specs.Drafts.{Draft, padded}
use Rattle.co_script.specs.Canonical.{section_lines, each_from}
use Rattle.co_script.specs.Fits.{section_fits}
use Rattle.co_script.proofs.Pads.{padded-whole}
use Rattle.co_script.proofs.drafts.Firm.{acts_in}
use Rattle.co_script.proofs.LinesFold.{opens-anywhere, no-verb}
use Rattle.co_script.proofs.Leads.{Leads, holding, all-lead}
use Rattle.co_script.proofs.SectionsBack.{IsBehind, section-leads}
use Rattle.co_script.proofs.parts.Fitting.{Fitting}
use Rattle.co_script.proofs.parts.Among.{among-below, among-passes, among-sum}
use Rattle.co_script.proofs.parts.After.{After, later-place, may-stand, next-of, letters, timed, with_funcs, with_clients, with_ticks}

abbrev pub section_size : List Act → ℕ
section_size acts = 150 * (1 + length acts)

module _ (s : Script) (f : Fitting s) where
  func-leads : (done : List (List Act)) (acts : List Act) (later : List (List Act)) (d : Draft) → done ++ acts ∷ later ≡ s.funcs → After (with_funcs s done) (length s.funcs) (acts_in done) 7 d
      → Leads d (section_lines (codes "func") (length done) acts) (section_size acts) (After (with_funcs s (done ++ acts ∷ [])) (length s.funcs) (acts_in (done ++ acts ∷ [])) 7)
  func-leads done acts later d is at =
      let n : ℕ = length done in
      let t : Script = with_funcs s done in
      let opened : Script = with_funcs s (padded n done) in
      let below : n < length s.funcs = among-below done acts later s.funcs is in
      let short : IsShort n = omega (arith, below, f.small.funcs_fit) in
      let sum : acts_in done + length acts ≤ acts_in s.funcs = among-sum done acts later s.funcs is (λ (x : List Act). length x) in
      let push : acts_in (done ++ acts ∷ []) ≡ acts_in done + length acts = sum_by_push (λ (x : List Act). length x) done acts in
      holding d (section_lines (codes "func") n acts) (section_size acts) (IsBehind s f.small d kind.Func opened acts) (After (with_funcs s (done ++ acts ∷ [])) (length s.funcs) (acts_in (done ++ acts ∷ [])) 7)
      (λ e b. record {
        script_is = b.script ∙ ap (λ l. with_funcs s (l ++ acts ∷ [])) (padded-whole n done (omega arith));
        funcs_are = b.funcs ∙ at.funcs_are;
        count_is = b.count ∙ (ap (λ k. k + length acts) at.count_is ∙ sym push);
        stage = let place : rank e.stage ≡ 7 = ap rank b.stage in omega (arith, place);
      })
      (section-leads s f.small d t opened kind.Func (codes "func") n (states.Func n) acts (record {
        before_is = at.script_is;
        word = letters (codes "func") (omega arith) refl;
        few = omega arith;
        short = short;
        opens = opens-anywhere d kind.Func (codes "func") (no-verb d.script.version (codes "func") refl refl refl) refl;
        stands = may-stand d.stage kind.Func at.stage refl;
        form = number-line n states.Func short;
        passes = record {
          numbers = and_from (nat_lt n d.funcs) (nat_le n n) (lt-ltb n d.funcs (omega (arith, below, at.funcs_are))) (le-leb n n (omega arith));
          kinds = refl;
          times = refl;
          room = refl;
        };
        adds = refl;
        section = refl;
        version = refl;
        funcs = at.funcs_are;
        named = refl;
      })
      (among-passes done acts later s.funcs is (section_fits s kind.Func) f.funcs)
      (omega (arith, at.count_is, sum, f.total)))

  pub funcs-lead : (d : Draft) → After (timed s s.timers) (length s.funcs) 0 6 d → Leads d (each_from (section_lines (codes "func")) 0 s.funcs) (sum_by section_size s.funcs) (After (with_funcs s s.funcs) (length s.funcs) (acts_in s.funcs) 7)
  funcs-lead d at = all-lead (section_lines (codes "func")) section_size s.funcs (λ done e. After (with_funcs s done) (length s.funcs) (acts_in done) 7 e) func-leads d (later-place (timed s s.timers) (length s.funcs) 0 6 7 d (omega arith) at)

  client-leads : (done : List (List Act)) (acts : List Act) (later : List (List Act)) (d : Draft) → done ++ acts ∷ later ≡ s.clients → After (with_clients s done) (length s.funcs) (acts_in s.funcs + acts_in done) 8 d
      → Leads d (section_lines (codes "client") (length done) acts) (section_size acts) (After (with_clients s (done ++ acts ∷ [])) (length s.funcs) (acts_in s.funcs + acts_in (done ++ acts ∷ [])) 8)
  client-leads done acts later d is at =
      let n : ℕ = length done in
      let t : Script = with_clients s done in
      let below : n < length s.clients = among-below done acts later s.clients is in
      let short : IsShort n = omega (arith, below, f.clients_few) in
      let sum : acts_in done + length acts ≤ acts_in s.clients = among-sum done acts later s.clients is (λ (x : List Act). length x) in
      let push : acts_in (done ++ acts ∷ []) ≡ acts_in done + length acts = sum_by_push (λ (x : List Act). length x) done acts in
      holding d (section_lines (codes "client") n acts) (section_size acts) (IsBehind s f.small d kind.Client t acts) (After (with_clients s (done ++ acts ∷ [])) (length s.funcs) (acts_in s.funcs + acts_in (done ++ acts ∷ [])) 8)
      (λ e b. record {
        script_is = b.script;
        funcs_are = b.funcs ∙ at.funcs_are;
        count_is = omega (arith, b.count, at.count_is, push);
        stage = let place : rank e.stage ≡ 8 = ap rank b.stage in omega (arith, place);
      })
      (section-leads s f.small d t t kind.Client (codes "client") n (states.Client n) acts (record {
        before_is = at.script_is;
        word = letters (codes "client") (omega arith) refl;
        few = omega arith;
        short = short;
        opens = opens-anywhere d kind.Client (codes "client") (no-verb d.script.version (codes "client") refl refl refl) refl;
        stands = may-stand d.stage kind.Client at.stage refl;
        form = number-line n states.Client short;
        passes = record { numbers = next-of 16 n (omega (arith, below, f.clients_few)); kinds = refl; times = refl; room = refl };
        adds = refl;
        section = refl;
        version = refl;
        funcs = at.funcs_are;
        named = refl;
      })
      (among-passes done acts later s.clients is (section_fits s kind.Client) f.clients)
      (omega (arith, at.count_is, sum, f.total)))

  pub clients-lead : (d : Draft) → After (with_funcs s s.funcs) (length s.funcs) (acts_in s.funcs) 7 d → Leads d (each_from (section_lines (codes "client")) 0 s.clients) (sum_by section_size s.clients) (After (with_clients s s.clients) (length s.funcs) (acts_in s.funcs + acts_in s.clients) 8)
  clients-lead d at =
      let none : acts_in s.funcs ≡ acts_in s.funcs + 0 = omega arith in
      all-lead (section_lines (codes "client")) section_size s.clients (λ done e. After (with_clients s done) (length s.funcs) (acts_in s.funcs + acts_in done) 8 e) client-leads d
      (subst (λ n. After (with_clients s []) (length s.funcs) n 8 d) none (later-place (with_funcs s s.funcs) (length s.funcs) (acts_in s.funcs) 7 8 d (omega arith) at))

  cpu-leads : (done : List (List Act)) (acts : List Act) (later : List (List Act)) (d : Draft) → done ++ acts ∷ later ≡ s.ticks → After (with_ticks s done) (length s.funcs) (acts_in s.funcs + acts_in s.clients + acts_in done) 9 d
      → Leads d (section_lines (codes "cpu") (length done) acts) (section_size acts) (After (with_ticks s (done ++ acts ∷ [])) (length s.funcs) (acts_in s.funcs + acts_in s.clients + acts_in (done ++ acts ∷ [])) 9)
  cpu-leads done acts later d is at =
      let n : ℕ = length done in
      let t : Script = with_ticks s done in
      let opened : Script = with_ticks s (padded n done) in
      let below : n < length s.ticks = among-below done acts later s.ticks is in
      let short : IsShort n = omega (arith, below, f.ticks_all, f.small.cpus) in
      let sum : acts_in done + length acts ≤ acts_in s.ticks = among-sum done acts later s.ticks is (λ (x : List Act). length x) in
      let push : acts_in (done ++ acts ∷ []) ≡ acts_in done + length acts = sum_by_push (λ (x : List Act). length x) done acts in
      holding d (section_lines (codes "cpu") n acts) (section_size acts) (IsBehind s f.small d kind.Cpu opened acts) (After (with_ticks s (done ++ acts ∷ [])) (length s.funcs) (acts_in s.funcs + acts_in s.clients + acts_in (done ++ acts ∷ [])) 9)
      (λ e b. record {
        script_is = b.script ∙ ap (λ l. with_ticks s (l ++ acts ∷ [])) (padded-whole n done (omega arith));
        funcs_are = b.funcs ∙ at.funcs_are;
        count_is = omega (arith, b.count, at.count_is, push);
        stage = let place : rank e.stage ≡ 9 = ap rank b.stage in omega (arith, place);
      })
      (section-leads s f.small d t opened kind.Cpu (codes "cpu") n (states.Cpu n) acts (record {
        before_is = at.script_is;
        word = letters (codes "cpu") (omega arith) refl;
        few = omega arith;
        short = short;
        opens = opens-anywhere d kind.Cpu (codes "cpu") (no-verb d.script.version (codes "cpu") refl refl refl) refl;
        stands = may-stand d.stage kind.Cpu at.stage refl;
        form = number-line n states.Cpu short;
        passes = record {
          numbers = and_from (nat_lt n s.cpus) (nat_le n n) (lt-ltb n s.cpus (omega (arith, below, f.ticks_all))) (le-leb n n (omega arith));
          kinds = refl;
          times = refl;
          room = refl;
        };
        adds = refl;
        section = refl;
        version = refl;
        funcs = at.funcs_are;
        named = refl;
      })
      (among-passes done acts later s.ticks is (section_fits s kind.Cpu) f.ticks)
      (omega (arith, at.count_is, sum, f.total)))

  pub ticks-lead : (d : Draft) → After (with_clients s s.clients) (length s.funcs) (acts_in s.funcs + acts_in s.clients) 8 d → Leads d (each_from (section_lines (codes "cpu")) 0 s.ticks) (sum_by section_size s.ticks) (After (with_ticks s s.ticks) (length s.funcs) (acts_in s.funcs + acts_in s.clients + acts_in s.ticks) 9)
  ticks-lead d at =
      let none : acts_in s.funcs + acts_in s.clients ≡ acts_in s.funcs + acts_in s.clients + 0 = omega arith in
      all-lead (section_lines (codes "cpu")) section_size s.ticks (λ done e. After (with_ticks s done) (length s.funcs) (acts_in s.funcs + acts_in s.clients + acts_in done) 9 e) cpu-leads d
      (subst (λ n. After (with_ticks s []) (length s.funcs) n 9 d) none (later-place (with_clients s s.clients) (length s.funcs) (acts_in s.funcs + acts_in s.clients) 8 9 d (omega arith) at))
