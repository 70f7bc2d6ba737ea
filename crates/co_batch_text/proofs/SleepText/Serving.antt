-- The timers that a tick serves: what is left of them, and with which arguments their functions were called.
use Rattle.std.proofs.Common.{◌≡◌, ◌≢◌, ℕ, zero, suc, ◌+◌, ◌<◌, ◌≤◌, ◌==◌, Bool, true, false, List, [], ◌∷◌, ◌++◌, length, map, refl, sym, ap, ◌∙◌, arith}
use Rattle.std.specs.Prelude.{if◌then◌else◌}
use Rattle.std.specs.declared.option.Option.{Option}
use Rattle.std.specs.declared.option.Option.TheVariants.{Some, None}
use Rattle.std.proofs.lemmas.Bool.Decides.{nat_tests}
use Rattle.co_desk.specs.Views.{PassesView}
use Rattle.co_single.specs.Alarms.{Alarm, alarm_at, all_gos, last_scan, callout_count, made_at, scan_times_of, times_in, waiting_of}
use Rattle.co_single.proofs.LawsHold.{each_counted}
use Rattle.co_sleepq.specs.declared.reply.SleepReply.{SleepReply}
use Rattle.co_sleepq.specs.Ticks.{AreFired}
use Rattle.co_sleepq.specs.Views.{SleepPassesView}
use Rattle.co_batch_text.specs.Sleep.Matching.{IsBetweenCalls}
use Rattle.co_batch_text.proofs.SleepText.Played.{fires, numbers}
use Rattle.co_batch_text.proofs.SleepText.Timeouts.{found-at, less, one_of, times-head, times-less}

-- ---- lists of numbers

pub times-here : (w i : ℕ) (ws : List ℕ) → w ≡ i → times_in i (w ∷ ws) ≡ 1 + times_in i ws
times-here w i ws is = (let e : (w == i) ≡ true = grind (arith, nat_tests) in let g : one_of (w == i) ≡ 1 = ap one_of e in omega (arith, g))

pub times-apart : (w i : ℕ) (ws : List ℕ) → i ≢ w → times_in i (w ∷ ws) ≡ times_in i ws
times-apart w i ws non = (let e : (w == i) ≡ false = grind (arith, nat_tests) in let g : one_of (w == i) ≡ 0 = ap one_of e in omega (arith, g))

-- a list of which two functions say the same
pub map-same : (f g : ℕ → ℕ) (ws : List ℕ) → ((i : ℕ) → 0 < times_in i ws → f i ≡ g i) → map f ws ≡ map g ws
map-same f g [] h = refl
map-same f g (w ∷ ws) h =
    ap (λ (a : ℕ). a ∷ map f ws) (h w (times-head w ws))
    ∙ ap (λ (l : List ℕ). g w ∷ l) (map-same f g ws (λ i more. h i (omega (arith, more))))

map-less : (g : ℕ → ℕ) (k s : ℕ) (ys : List ℕ) → 0 < times_in s ys → times_in k (map g ys) ≡ one_of (g s == k) + times_in k (map g (less s ys))
map-less g k s [] h = absurd (omega (arith, h))
map-less g k s (y ∷ ys) h = go (y == s) refl (map-less g k s ys) where
  go : (b : Bool) → (y == s) ≡ b → (0 < times_in s ys → times_in k (map g ys) ≡ one_of (g s == k) + times_in k (map g (less s ys))) → one_of (g y == k) + times_in k (map g ys) ≡ one_of (g s == k) + times_in k (map g (if b then ys else y ∷ less s ys))
  go true e more = ap (λ (n : ℕ). one_of (g n == k) + times_in k (map g ys)) (found-at y s e)
  go false e more =
      let z : one_of (y == s) ≡ 0 = ap one_of e in
      let rest = more (omega (arith, z, h)) in
      omega (arith, rest)

-- lists in which each number stands equally often, and so the values of a function
pub map-alike : (g : ℕ → ℕ) (xs ys : List ℕ) → ((i : ℕ) → times_in i xs ≡ times_in i ys) → (k : ℕ) → times_in k (map g xs) ≡ times_in k (map g ys)
map-alike g [] [] h k = refl
map-alike g [] (y ∷ ys) h k = absurd (let e = h y in let z = times-head y ys in omega (arith, e, z))
map-alike g (x ∷ xs) ys h k =
    let e = h x in
    let z = times-head x xs in
    let inside : 0 < times_in x ys = omega (arith, e, z) in
    let rest = map-alike g xs (less x ys) (λ i. let a = h i in let b = times-less i x ys inside in omega (arith, a, b)) k in
    let here = map-less g k x ys inside in
    omega (arith, rest, here)

-- ---- what is served

abbrev pub arg_of : Option Alarm → ℕ
arg_of None = 0
arg_of (Some a) = a.arg

abbrev pub arg_at : PassesView → ℕ → ℕ
arg_at p i = arg_of (alarm_at p i)

-- callouts ws were served, and their functions were called with these arguments
pub record IsServed (p : PassesView) (args ws : List ℕ) (q : PassesView) : Type 0 where
  pub waiting : waiting_of p ≡ ws ++ waiting_of q
  pub stay : (i : ℕ) → times_in i ws ≡ 0 → alarm_at q i ≡ alarm_at p i
  pub gone : (i : ℕ) → 0 < times_in i ws → alarm_at q i ≡ None
  pub made : (i : ℕ) → made_at q i ≡ made_at p i
  pub count : callout_count q ≡ callout_count p
  pub scans : scan_times_of q ≡ scan_times_of p
  pub clock : last_scan q ≡ last_scan p
  pub gos : all_gos q.timers ≡ all_gos p.timers + length ws
  pub many : length args ≡ length ws
  pub args_are : ((i : ℕ) → times_in i ws ≤ 1) → args ≡ map (arg_at p) ws

pub data Is (a b : ℕ) : Type 0 where
  same : a ≡ b → Is a b
  apart : a ≢ b → Is a b

pub which : (a b : ℕ) → Is a b
which a b = go (a == b) refl where
  go : (c : Bool) → (a == b) ≡ c → Is a b
  go true e = same (found-at a b e)
  go false e = apart (λ (is : a ≡ b). absurd (grind (arith, nat_tests)))

none-served : (p q : PassesView) → q ≡ p → IsServed p [] [] q
none-served p q e = record {
  waiting = ap waiting_of (sym e);
  stay = λ i h. ap (λ (v : PassesView). alarm_at v i) e;
  gone = λ i h. absurd (omega (arith, h));
  made = λ i. ap (λ (v : PassesView). made_at v i) e;
  count = ap callout_count e;
  scans = ap scan_times_of e;
  clock = ap last_scan e;
  gos = (let g = ap (λ (v : PassesView). all_gos v.timers) e in omega (arith, g));
  many = refl;
  args_are = λ h. refl;
}

-- all that AreFired tells of the service
pub serves : (n act : ℕ) (fs : List (ℕ × SleepReply)) (p q : SleepPassesView) → IsBetweenCalls n p.service → AreFired 1 p act fs q → (ws : List ℕ) × IsServed p.service (numbers fs) ws q.service
serves n act [] p q quiet is = ([], none-served p.service q.service (ap (λ (v : SleepPassesView). v.service) is))
serves n act (f ∷ fs) p q quiet is =
    let one = fires n p act f.0 f.1 is.0 quiet is.1 in
    let rest = serves n act fs is.0 q one.quiet is.2 in
    let w = one.who in
    let ws = rest.0 in
    let r = rest.1 in
    let b = is.0.service in
    let counted = each_counted p.service w f.0 b one.fired in
    let unlike : (i : ℕ) → times_in i (w ∷ ws) ≡ 0 → i ≢ w = λ i h e. absurd (let t = times-here w i ws (sym e) in omega (arith, t, h)) in (
      w ∷ ws,
      record {
        waiting = one.fired.waiting ∙ ap (λ (l : List ℕ). w ∷ l) r.waiting;
        stay = λ i h. r.stay i (omega (arith, h)) ∙ one.fired.others.alarms i (unlike i h);
        gone = λ i h. gone-by w i ws b p.service q.service one.fired.alarm r (which i w) h;
        made = λ i. made-by i w (made_at q.service) (made_at b) (made_at p.service) r.made one.fired.made one.fired.others.made (which i w);
        count = r.count ∙ one.fired.others.count;
        scans = r.scans ∙ one.fired.time.scans;
        clock = r.clock ∙ one.fired.time.clock;
        gos = (let g = r.gos in omega (arith, g, counted));
        many = (let m = r.many in omega (arith, m));
        args_are = λ once.
            let alone : times_in w ws ≡ 0 = (let o = once w in let t = times-here w w ws refl in omega (arith, o, t)) in
            let others : (i : ℕ) → times_in i ws ≤ 1 = λ i. (let o = once i in omega (arith, o)) in
            let head : f.0 ≡ arg_at p.service w = sym (ap arg_of one.fired.before ∙ one.fired.arg_is) in
            let far : (i : ℕ) → 0 < times_in i ws → i ≢ w = λ i h e. absurd (let t = ap (λ (j : ℕ). times_in j ws) e in omega (arith, t, h, alone)) in
            let tail : numbers fs ≡ map (arg_at p.service) ws = r.args_are others ∙ map-same (arg_at b) (arg_at p.service) ws (λ i h. ap arg_of (one.fired.others.alarms i (far i h))) in
            ap (λ (a : ℕ). a ∷ numbers fs) head ∙ ap (λ (l : List ℕ). arg_at p.service w ∷ l) tail;
      },
    ) where
      made-by : (i w : ℕ) (after between before : ℕ → ℕ) → ((j : ℕ) → after j ≡ between j) → between w ≡ before w → ((j : ℕ) → j ≢ w → between j ≡ before j) → Is i w → after i ≡ before i
      made-by i w after between before last here others (same e) = last i ∙ (ap between e ∙ (here ∙ ap before (sym e)))
      made-by i w after between before last here others (apart non) = last i ∙ others i non

      past : (n i : ℕ) (ws : List ℕ) (b z : PassesView) (args : List ℕ) → IsServed b args ws z → alarm_at b i ≡ None → times_in i ws ≡ n → alarm_at z i ≡ None
      past zero i ws b z args r none t = r.stay i t ∙ none
      past (suc n) i ws b z args r none t = r.gone i (omega (arith, t))

      gone-by : (w i : ℕ) (ws : List ℕ) (b p z : PassesView) → alarm_at b w ≡ None → IsServed b (numbers fs) ws z → Is i w → 0 < times_in i (w ∷ ws) → alarm_at z i ≡ None
      gone-by w i ws b p z none r (same e) h = past (times_in i ws) i ws b z (numbers fs) r (ap (alarm_at b) e ∙ none) refl
      gone-by w i ws b p z none r (apart non) h = r.gone i (let t = times-apart w i ws non in omega (arith, t, h))
