-- One command more, whose service answers it.
use Rattle.std.proofs.Common.{◌≡◌, ℕ, ◌+◌, ◌<◌, List, ◌∷◌, ◌++◌, length, get_or, drop, refl, ap, sym, ◌∙◌, arith, append_assoc}
use Rattle.std.specs.List.{cons_option}
use Rattle.std.specs.Option.{option_to_list}
use Rattle.std.specs.declared.option.Option.{Option}
use Rattle.std.specs.declared.option.Option.TheVariants.{Some, None}
use Rattle.std.proofs.lemmas.List.{at_drop_more}
use Rattle.co_text.specs.Lines.{text}
use Rattle.co_batch.proofs.Answering.{answers_step}
use Rattle.co_desk.specs.Views.{PassesView}
use Rattle.co_single.specs.Alarms.{scan_times_of}
use Rattle.co_batch_text.specs.Ends.{Served, IsServed, IsUnderWay, all_counted, tick_times}

-- the first command's tick, and then the others
tick-first : (tick : Option ℕ) (times : List ℕ) → cons_option tick times ≡ option_to_list tick ++ times
tick-first None times = refl
tick-first (Some t) times = refl

module _ {C S : Type 0} (served : Served C S) (n : ℕ) (s : S) (p : PassesView) (page : List ℕ) (cs : List C) where
  -- before the first
  pub begins : IsUnderWay served n s p page cs 0 s p page
  begins = record { text_is = refl; scans = refl; gos = refl }

  module _ (i : ℕ) (t : S) (q : PassesView) (written : List ℕ) (way : IsUnderWay served n s p page cs i t q written) (c d : C) (inside : i < length cs) (is : c ≡ get_or cs i d) where
    rest-is : drop i cs ≡ c ∷ drop (i + 1) cs
    rest-is = at_drop_more (λ l. l) cs i d inside ∙ ap (λ x. x ∷ drop (i + 1) cs) (sym is)

    pub more : (u : S) (r : PassesView) (then : List ℕ) → IsServed served n t q c u r → then ≡ written ++ text (served.answering.answer n t c) → IsUnderWay served n s p page cs (i + 1) u r then
    more u r then one told =
        let later = tick_times served (drop (i + 1) cs) in
        let split : all_counted served n t (drop i cs) ≡ served.counted n t c + all_counted served n (served.answering.after n t c) (drop (i + 1) cs) = ap (all_counted served n t) rest-is in
        let next : all_counted served n u (drop (i + 1) cs) ≡ all_counted served n (served.answering.after n t c) (drop (i + 1) cs) = ap (λ x. all_counted served n x (drop (i + 1) cs)) one.state in
        let gos = one.gos in
        let before = way.gos in
        record {
          text_is = answers_step served.answering n t u cs i d c _ written then way.text_is inside is told one.state;
          scans = ap (λ l. l ++ later) one.scans
              ∙ (append_assoc (scan_times_of q) (option_to_list (served.language.moment c)) later
              ∙ (ap (λ l. scan_times_of q ++ l) (sym (tick-first (served.language.moment c) later) ∙ sym (ap (tick_times served) rest-is)) ∙ way.scans));
          gos = omega (arith, gos, split, next, before);
        }
