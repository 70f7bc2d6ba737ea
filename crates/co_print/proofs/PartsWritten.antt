-- The places of a report, written part by part.
use Rattle.std.proofs.Common.{◌≡◌, ℕ, ◌+◌, ◌-◌, ◌≤◌, true, List, [], ◌∷◌, ◌++◌, take, drop, length, get_or, refl, ap, sym, ◌∙◌, arith, append_assoc, append-nil}
use Rattle.std.specs.Prelude.{slice_range, codes}
use Rattle.std.specs.List.{concat, flat_map}
use Rattle.std.proofs.Math.Seq.{take-add}
use Rattle.std.proofs.lemmas.Grind.{flat_map-append}
use Rattle.std.proofs.lemmas.List.{drop-drop, drop_more, take_all}
use Rattle.std.proofs.lemmas.List.Folds.{concat-append}
use Rattle.co_object.specs.declared.Note.{Note}
use Rattle.co_object.specs.declared.Place.{Place}
use Rattle.co_program.specs.declared.Script.{Script}
use Rattle.co_program.specs.Places.{place_exists}
use Rattle.co_text.specs.Lines.{line_text, text}
use Rattle.co_text.specs.Values.{Word}
use Rattle.co_text.proofs.Spacing.{text_append}
use Rattle.co_print.specs.Histories.{shown_history}
use Rattle.co_print.specs.declared.origin.Origin.{Origin}
use Rattle.co_print.specs.Order.{place_index, place_count, ShowsHistory}
use Rattle.co_print.specs.Origins.{lines_from}
use Rattle.co_print.specs.Reports.{places, heading, place_lines, lines_between, report_of, head_text, framed}
use Rattle.co_print.proofs.Framed.{report-framed, pieces-framed}
use Rattle.co_print.proofs.Places.{index_below}
use Rattle.co_print.proofs.PlacesAdded.{length-all, at-index}

-- what stands from a to c stands from a to b and from b to c
split : (xs : List Place) (a b c : ℕ) → a ≤ b → b ≤ c → slice_range xs a c ≡ slice_range xs a b ++ slice_range xs b c
split xs a b c ab bc =
    let all : c - a ≡ (b - a) + (c - b) = omega (arith, ab, bc) in
    let second : a + (b - a) ≡ b = omega (arith, ab) in
    ap (λ n. take n (drop a xs)) all
    ∙ (take-add (b - a) (c - b) (drop a xs)
    ∙ ap (λ ys. take (b - a) (drop a xs) ++ take (c - b) ys) (drop-drop (b - a) a xs ∙ ap (λ n. drop n xs) second))

module _ (s : Script) (lists : List (List Note)) where
  abbrev lines_of : Place → List (List Word)
  lines_of = place_lines s (shown_history lists)

  abbrev text_between : ℕ → ℕ → List ℕ
  text_between first end = text (lines_between s lists first end)

  text-split : (a b c : ℕ) → a ≤ b → b ≤ c → text_between a c ≡ text_between a b ++ text_between b c
  text-split a b c ab bc =
      ap text (ap (flat_map lines_of) (split (places s) a b c ab bc) ∙ flat_map-append lines_of (slice_range (places s) a b) (slice_range (places s) b c))
      ∙ text_append (lines_between s lists a b) (lines_between s lists b c)

  -- no place is before the first
  pub text-none : (first : ℕ) → [] ≡ text_between first first
  text-none first = let none : 0 ≡ first - first = omega arith in ap (λ n. text (flat_map lines_of (take n (drop first (places s))))) none

  -- the place at this index, alone
  alone : (p : Place) → place_exists s p ≡ true → lines_between s lists (place_index s p) (place_index s p + 1) ≡ lines_of p
  alone p exists =
      let one : place_index s p + 1 - place_index s p ≡ 1 = omega arith in
      let at : get_or (places s) (place_index s p) p ≡ p = at-index s p exists in
      ap (λ n. flat_map lines_of (take n (drop (place_index s p) (places s)))) one
      ∙ (ap (λ ps. flat_map lines_of (take 1 ps)) (drop_more (places s) (place_index s p) p (omega (arith, index_below s p exists, length-all s)))
      ∙ (ap (λ q. lines_of q ++ []) at
      ∙ append-nil (lines_of p)))

  -- a heading and the lines of the place's notes
  pub place-written : (p : Place) (origins : List Origin) (p0 p1 p2 : List ℕ) → ShowsHistory s lists p origins → p1 ≡ p0 ++ line_text (heading s p) → p2 ≡ p1 ++ text (lines_from s lists origins)
      → p2 ≡ p0 ++ text (lines_of p)
  place-written p origins p0 p1 p2 shows e1 e2 =
      e2
      ∙ (ap (λ t. t ++ text (lines_from s lists origins)) e1
      ∙ (append_assoc p0 (line_text (heading s p)) (text (lines_from s lists origins))
      ∙ ap (λ ls. p0 ++ text (heading s p ∷ ls)) shows.shows))

  -- one more place
  pub more-written : (first number : ℕ) (p : Place) (p0 p1 p2 : List ℕ) → first ≤ number → place_exists s p ≡ true → place_index s p ≡ number
      → p1 ≡ p0 ++ text_between first number → p2 ≡ p1 ++ text (lines_of p) → p2 ≡ p0 ++ text_between first (number + 1)
  more-written first number p p0 p1 p2 order exists index e1 e2 =
      let one : text (lines_of p) ≡ text_between number (number + 1) = ap text (sym (alone p exists)) ∙ ap (λ i. text_between i (i + 1)) index in
      e2
      ∙ (ap (λ t. t ++ text (lines_of p)) e1
      ∙ (append_assoc p0 (text_between first number) (text (lines_of p))
      ∙ (ap (λ t. p0 ++ (text_between first number ++ t)) one
      ∙ ap (λ t. p0 ++ t) (sym (text-split first number (number + 1) order (omega arith))))))

  -- the pieces of both halves
  pub halves-written : (first middle end : ℕ) (q0 q1 q2 : List (List ℕ)) → first ≤ middle → middle ≤ end → concat q0 ≡ text_between first middle → concat q1 ≡ text_between middle end → q2 ≡ q0 ++ q1
      → concat q2 ≡ text_between first end
  halves-written first middle end q0 q1 q2 before behind e0 e1 e2 =
      ap concat e2
      ∙ (concat-append q0 q1
      ∙ (ap (λ t. t ++ concat q1) e0
      ∙ (ap (λ t. text_between first middle ++ t) e1
      ∙ sym (text-split first middle end before behind))))

  -- in the frame, all places are the report
  pub report-written : (count : ℕ) → count ≡ place_count s → framed s (text_between 0 count) ≡ report_of s lists
  report-written count is =
      let long : length (places s) ≤ count - 0 = omega (arith, is, length-all s) in
      ap (λ ps. framed s (text (flat_map lines_of ps))) (take_all (count - 0) (places s) long)
      ∙ sym (report-framed s (shown_history lists))

-- the pieces of all places, printed of this script and these lists
pub all-written : (s script : Script) (xs lists : List (List Note)) (count : ℕ) (parts : List (List ℕ)) → s ≡ script → xs ≡ lists → count ≡ place_count s → concat parts ≡ text (lines_between s xs 0 count)
    → concat parts ≡ text (lines_between script lists 0 (place_count script))
all-written s script xs lists count parts same_script same_lists is written =
    written
    ∙ (ap (λ n. text (lines_between s xs 0 n)) is
    ∙ (ap (λ (z : Script). text (lines_between z xs 0 (place_count z))) same_script
    ∙ ap (λ ls. text (lines_between script ls 0 (place_count script))) same_lists))

-- in the frame they are the report
pub pieces-written : (s : Script) (lists : List (List Note)) (head : List ℕ) (parts q : List (List ℕ)) → head ≡ head_text s → concat parts ≡ text (lines_between s lists 0 (place_count s))
    → concat q ≡ head ++ concat parts ++ line_text (codes "end" ∷ []) → concat q ≡ report_of s lists
pieces-written s lists head parts q is written joined =
    pieces-framed s head q parts is joined
    ∙ (ap (framed s) written
    ∙ report-written s lists (place_count s) refl)
