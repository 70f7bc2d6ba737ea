-- What stands in a report around its places, in one text and in pieces.
use Rattle.std.proofs.Common.{◌≡◌, ℕ, List, [], ◌∷◌, ◌++◌, refl, ap, sym, ◌∙◌, append_assoc, append-nil}
use Rattle.std.specs.Prelude.{codes}
use Rattle.std.specs.List.{concat, flat_map}
use Rattle.std.proofs.lemmas.List.Folds.{concat-append}
use Rattle.co_object.specs.declared.Place.{Place}
use Rattle.co_object.specs.declared.Place.TheVariants.{Timer, Cpu, Actor}
use Rattle.co_program.specs.declared.Script.{Script}
use Rattle.co_script.specs.Canonical.{canonical, canonical_lines}
use Rattle.co_grammar.specs.Spelling.{numbered}
use Rattle.co_text.specs.Lines.{line_text, text}
use Rattle.co_text.specs.Values.{Word}
use Rattle.co_text.proofs.Spacing.{text_one, text_append}
use Rattle.co_print.specs.Histories.{PlaceHistories}
use Rattle.co_print.specs.Reports.{places, heading, place_lines, report, report_lines, head_text, framed}
use Rattle.co_notes.specs.Parts.{joined}

parts : (a : List Word) (b : List (List Word)) (h : List Word) (ls : List (List Word)) (e : List Word)
    → text (a ∷ (b ++ (h ∷ (ls ++ e ∷ [])))) ≡ line_text a ++ text b ++ line_text h ++ text ls ++ line_text e
parts a b h ls e =
    ap (λ t. line_text a ++ t) (text_append b (h ∷ (ls ++ e ∷ [])) ∙ ap (λ t. text b ++ (line_text h ++ t)) (text_append ls (e ∷ []) ∙ ap (λ t. text ls ++ t) (text_one e)))
    ∙ sym (pieces (line_text a) (text b) (line_text h) (text ls) (line_text e))
  where
    pieces : (v w x y z : List ℕ) → v ++ w ++ x ++ y ++ z ≡ v ++ (w ++ (x ++ (y ++ z)))
    pieces v w x y z = simp append_assoc

pub report-framed : (s : Script) (h : PlaceHistories) → report s h ≡ framed s (text (flat_map (place_lines s h) (places s)))
unfolding report report_lines canonical
report-framed s h = parts (numbered (codes "callout-report") 1) (canonical_lines s) (codes "histories" ∷ []) (flat_map (place_lines s h) (places s)) (codes "end" ∷ [])

-- the lines before the first place
pub head-written : (s : Script) (first then' : Word) (p0 p1 p2 p3 : List ℕ) → p1 ≡ p0 ++ line_text (numbered first 1) → p2 ≡ p1 ++ canonical s → p3 ≡ p2 ++ line_text (then' ∷ [])
    → first ≡ codes "callout-report" → then' ≡ codes "histories"
    → p3 ≡ p0 ++ line_text (numbered (codes "callout-report") 1) ++ canonical s ++ line_text (codes "histories" ∷ [])
head-written s first then' p0 p1 p2 p3 e1 e2 e3 f1 f2 = rw (e3, e2, e1, f1, f2) refl

-- head, places and last line, appended to one text
pub text-framed : (s : Script) (inner last : List ℕ) (p0 p1 p2 p3 : List ℕ) → p1 ≡ p0 ++ line_text (numbered (codes "callout-report") 1) ++ canonical s ++ line_text (codes "histories" ∷ [])
    → p2 ≡ p1 ++ inner → p3 ≡ p2 ++ line_text (last ∷ []) → last ≡ codes "end" → p3 ≡ p0 ++ framed s inner
text-framed s inner last p0 p1 p2 p3 e1 e2 e3 f3 =
    rw (e3, e2, e1, f3) (pieces p0 (line_text (numbered (codes "callout-report") 1)) (canonical s) (line_text (codes "histories" ∷ [])) inner (line_text (codes "end" ∷ [])))
  where
    pieces : (o a b c d e : List ℕ) → ((((o ++ a) ++ b) ++ c) ++ d) ++ e ≡ o ++ ((((a ++ b) ++ c) ++ d) ++ e)
    pieces o a b c d e = simp append_assoc

-- a page that begins empty holds the head alone
pub head-alone : (s : Script) (p0 p1 p2 : List ℕ) → p0 ≡ [] → p1 ≡ p0 ++ line_text (numbered (codes "callout-report") 1) ++ canonical s ++ line_text (codes "histories" ∷ []) → p2 ≡ p1
    → p2 ≡ head_text s
head-alone s p0 p1 p2 e0 e1 e2 = e2 ∙ (e1 ∙ ap (λ t. t ++ line_text (numbered (codes "callout-report") 1) ++ canonical s ++ line_text (codes "histories" ∷ [])) e0)

joined-pieces : (head last : List ℕ) (inner : List (List ℕ)) → concat ((([] ++ head ∷ []) ++ inner) ++ last ∷ []) ≡ (head ++ concat inner) ++ last
joined-pieces head last inner = concat-append (head ∷ inner) (last ∷ []) ∙ ap (λ t. (head ++ concat inner) ++ t) (append-nil last)

-- head, places and last line, appended to one list of pieces
pub pieces-joined : (head : List ℕ) (q0 q1 q2 q3 inner : List (List ℕ)) {last : List ℕ}
    → q0 ≡ [] → q1 ≡ q0 ++ head ∷ [] → q2 ≡ q1 ++ inner → last ≡ line_text (codes "end" ∷ []) → q3 ≡ q2 ++ last ∷ []
    → concat q3 ≡ head ++ concat inner ++ line_text (codes "end" ∷ [])
pieces-joined head q0 q1 q2 q3 inner {last} f0 f1 f2 is f3 =
    ap concat (f3 ∙ ap (λ q. q ++ last ∷ []) (f2 ∙ ap (λ q. q ++ inner) (f1 ∙ ap (λ q. q ++ head ∷ []) f0)))
    ∙ (joined-pieces head last inner
    ∙ ap (λ t. (head ++ concat inner) ++ t) is)

-- behind the head of a script
pub pieces-framed : (s : Script) (head : List ℕ) (q inner : List (List ℕ)) → head ≡ head_text s → concat q ≡ head ++ concat inner ++ line_text (codes "end" ∷ []) → concat q ≡ framed s (concat inner)
pieces-framed s head q inner is joined = joined ∙ ap (λ t. t ++ concat inner ++ line_text (codes "end" ∷ [])) is

-- the line that a place begins with, and its line feed
pub heading_ended : (s : Script) (p : Place) (old begun done : List ℕ) → begun ≡ old ++ joined (heading s p) → done ≡ begun ++ 10 ∷ [] → done ≡ old ++ line_text (heading s p)
heading_ended s p old begun done e f = f ∙ (ap (λ t. t ++ 10 ∷ []) e ∙ (append_assoc old (joined (heading s p)) (10 ∷ []) ∙ ap (λ t. old ++ t) (ended p))) where
  ended : (p : Place) → joined (heading s p) ++ 10 ∷ [] ≡ line_text (heading s p)
  ended (Timer i) = refl
  ended (Cpu c) = refl
  ended (Actor a) = refl
