-- Lines that lead from one draft to another: read one after the other they give a draft of which something holds, each
-- of their words is one, and their text is at most so long. Such lines are put together, one line, one list and one
-- numbered list at a time.
use Rattle.std.proofs.Common.{◌≡◌, ℕ, ◌+◌, ◌≤◌, List, [], ◌∷◌, ◌++◌, length, map, refl, ap, sym, subst, ◌∙◌, arith, append_assoc, append-nil, length-append}
use Rattle.std.specs.Prelude.{Some, Ok, sum_by}
use Rattle.std.proofs.lemmas.List.Sums.{sum_by-cons}
use Rattle.co_text.specs.Lines.{Line, line_text, text}
use Rattle.co_text.specs.Values.{Word}
use Rattle.co_text.proofs.LinesBack.{AreWords, AreLines, whole_line}
use Rattle.co_text.proofs.Spacing.{text_append}
use Rattle.co_script.specs.Drafts.{Draft}
use Rattle.co_script.specs.Reading.{line_read, lines_read}
use Rattle.co_script.specs.Canonical.{each_from}
use Rattle.co_script.proofs.LinesFold.{lines-cons, map-append}

pub record Leads (d : Draft) (ls : List (List Word)) (most : ℕ) (P : Draft → Type 0) : Type 0 where
  pub draft : Draft
  pub holds : P draft
  pub words : AreLines ls
  pub short : length (text ls) ≤ most
  pub read : (k : ℕ) (more : List Line) → (j : ℕ) × (lines_read k (Some d) (map whole_line ls ++ more) ≡ lines_read j (Some draft) more)

pub no-lines : (d : Draft) (P : Draft → Type 0) → P d → Leads d [] 0 P
no-lines d P h = record { draft = d; holds = h; words = tt; short = omega arith; read = λ k more. (k, refl) }

-- a line more at the front
pub one-more : (d e : Draft) (ws : List Word) (ls : List (List Word)) (m n : ℕ) (P : Draft → Type 0) → AreWords ws → length (line_text ws) ≤ m → line_read (Some d) (whole_line ws) ≡ Ok (Some e) → Leads e ls n P → Leads d (ws ∷ ls) (m + n) P
one-more d e ws ls m n P words few reads l = record {
  draft = l.draft;
  holds = l.holds;
  words = (words, l.words);
  short = omega (arith, length-append (line_text ws) (text ls), few, l.short);
  read = λ k more. let r = l.read (k + 1) more in (r.0, lines-cons k (Some d) (Some e) (whole_line ws) (map whole_line ls ++ more) reads ∙ r.1);
}

both-lines : (xs ys : List (List Word)) → AreLines xs → AreLines ys → AreLines (xs ++ ys)
both-lines [] ys h k = k
both-lines (x ∷ xs) ys h k = (h.0, both-lines xs ys h.1 k)

-- further lines behind
pub and-then : (d : Draft) (xs ys : List (List Word)) (m n : ℕ) (P Q : Draft → Type 0) → Leads d xs m P → ((e : Draft) → P e → Leads e ys n Q) → Leads d (xs ++ ys) (m + n) Q
and-then d xs ys m n P Q l next =
    let r = next l.draft l.holds in
    record {
      draft = r.draft;
      holds = r.holds;
      words = both-lines xs ys l.words r.words;
      short = omega (arith, ap length (text_append xs ys), length-append (text xs) (text ys), l.short, r.short);
      read = λ k more.
          let first = l.read k (map whole_line ys ++ more) in
          let second = r.read first.0 more in (
            second.0,
            ap (λ ls. lines_read k (Some d) (ls ++ more)) (map-append xs ys)
                ∙ (ap (λ ls. lines_read k (Some d) ls) (append_assoc (map whole_line xs) (map whole_line ys) more)
                ∙ (first.1 ∙ second.1)),
          );
    }

-- a larger bound, and less that holds
pub at-most : (d : Draft) (ls : List (List Word)) (m n : ℕ) (P : Draft → Type 0) → m ≤ n → Leads d ls m P → Leads d ls n P
at-most d ls m n P le l = record { draft = l.draft; holds = l.holds; words = l.words; short = omega (arith, l.short, le); read = l.read }

pub holding : (d : Draft) (ls : List (List Word)) (m : ℕ) (P Q : Draft → Type 0) → ((e : Draft) → P e → Q e) → Leads d ls m P → Leads d ls m Q
holding d ls m P Q implies l = record { draft = l.draft; holds = implies l.draft l.holds; words = l.words; short = l.short; read = l.read }

-- what is numbered from 0, of which At says what the first lines give
module _ {X : Type 0} (lines : ℕ → X → List (List Word)) (most : X → ℕ) (whole : List X) (At : List X → Draft → Type 0)
    (step : (done : List X) (x : X) (later : List X) (d : Draft) → done ++ x ∷ later ≡ whole → At done d → Leads d (lines (length done) x) (most x) (At (done ++ x ∷ []))) where
  pub each-leads : (done rest : List X) (d : Draft) → done ++ rest ≡ whole → At done d → Leads d (each_from lines (length done) rest) (sum_by most rest) (At whole)
  each-leads done [] d is at = no-lines d (At whole) (subst (λ xs. At xs d) (sym (append-nil done) ∙ is) at)
  each-leads done (x ∷ rest) d is at =
      let count : length (done ++ x ∷ []) ≡ length done + 1 = length-append done (x ∷ []) in
      let sum : most x + sum_by most rest ≤ sum_by most (x ∷ rest) = omega (arith, sum_by-cons most x rest) in
      at-most d (lines (length done) x ++ each_from lines (length done + 1) rest) (most x + sum_by most rest) (sum_by most (x ∷ rest)) (At whole) sum
      (and-then d (lines (length done) x) (each_from lines (length done + 1) rest) (most x) (sum_by most rest) (At (done ++ x ∷ [])) (At whole)
      (step done x rest d is at)
      (λ e at'. subst (λ n. Leads e (each_from lines n rest) (sum_by most rest) (At whole)) count (each-leads (done ++ x ∷ []) rest e (append_assoc done (x ∷ []) rest ∙ is) at')))

  pub all-lead : (d : Draft) → At [] d → Leads d (each_from lines 0 whole) (sum_by most whole) (At whole)
  all-lead d at = each-leads [] whole d refl at
