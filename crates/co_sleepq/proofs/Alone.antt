-- Where one actor alone writes in the book, nothing stands between its entries.
use Rattle.std.proofs.Common.{◌≡◌, ℕ, ◌<◌, cond, List, [], ◌∷◌, ◌++◌, length, get_or, refl, ap, sym, subst, ◌∙◌, arith, append-nil, length-append}
use Rattle.std.specs.List.{All}
use Rattle.std.proofs.lemmas.Bool.{eq-eqb}
use Rattle.co_life.specs.Seen.{own, Extends}
use Rattle.co_object.proofs.Histories.{legal-last, state-snoc}
use Rattle.co_sleepq.specs.declared.entry.SleepEntry.{SleepEntry}
use Rattle.co_sleepq.specs.Sleepers.{opening}
use Rattle.co_sleepq.specs.Queue.{step}
use Rattle.co_sleepq.specs.History.{by, next, May, state, IsLegal}
use Rattle.co_sleepq.specs.Laws.{OneActorSeesAll}
use Rattle.co_sleepq.specs.Shared.{entry}

-- of the one actor's entries none is left out
own-first : (x : SleepEntry) (xs : List SleepEntry) → by x ≡ 0 → own by 0 (x ∷ xs) ≡ x ∷ own by 0 xs
own-first x xs h = ap (λ b. cond b (x ∷ own by 0 xs) (own by 0 xs)) (eq-eqb (by x) 0 h)

middle : (xs : List SleepEntry) (x : SleepEntry) (ys : List SleepEntry) (d : SleepEntry) → get_or (xs ++ x ∷ ys) (length xs) d ≡ x
middle [] x ys d = refl
middle (y ∷ xs) x ys d = middle xs x ys d

regroup : (a b c : List SleepEntry) → (a ++ b) ++ c ≡ a ++ (b ++ c)
regroup [] b c = refl
regroup (y ∷ a) b c = ap (λ t. y ∷ t) (regroup a b c)

none-between : (before between : List SleepEntry) (e : SleepEntry) → own by 0 between ≡ [] → All (λ x. by x < 1) ((before ++ between) ++ e ∷ []) → between ≡ []
none-between before [] e none all = refl
none-between before (x ∷ xs) e none all =
    let one : by (get_or ((before ++ x ∷ xs) ++ e ∷ []) (length before) e) < 1 = all (length before) e (omega (arith, length-append (before ++ x ∷ xs) (e ∷ []), length-append before (x ∷ xs))) in
    let same : get_or ((before ++ x ∷ xs) ++ e ∷ []) (length before) e ≡ x = ap (λ l. get_or l (length before) e) (regroup before (x ∷ xs) (e ∷ [])) ∙ middle before x (xs ++ e ∷ []) e in
    let zero-by : by x ≡ 0 = (let low : by x < 1 = subst (λ y. by y < 1) same one in omega (arith, low)) in
    let never : x ∷ own by 0 xs ≡ [] = sym (own-first x xs zero-by) ∙ none in
    cc

extended : (before after : List SleepEntry) (e : SleepEntry) → Extends by 0 before e after → All (λ x. by x < 1) after → after ≡ before ++ e ∷ []
extended before after e x all =
    let nothing : x.0 ≡ [] = none-between before x.0 e x.1 (subst (All (λ y. by y < 1)) x.2 all) in
    x.2 ∙ (ap (λ b. (before ++ b) ++ e ∷ []) nothing ∙ ap (λ l. l ++ e ∷ []) (append-nil before))

answered : (before after : List SleepEntry) (e : SleepEntry) → after ≡ before ++ e ∷ [] → IsLegal after → step (state before) e.op ≡ (state after, e.reply)
answered before after e is legal =
    let reply : (step (state before) e.op).1 ≡ e.reply = legal-last next May opening before e (subst IsLegal is legal) in
    let left : state after ≡ (step (state before) e.op).0 = ap state is ∙ state-snoc next May opening before e in
    λ i. (sym left i, reply i)

pub alone : OneActorSeesAll
alone p q o r first told =
    let is = extended p.seen q.seen (entry p o r) (subst (λ (a : ℕ). Extends by a p.seen (entry p o r) q.seen) first told.extends) told.seen.others in
    record { seen = is; outcome = answered p.seen q.seen (entry p o r) is told.seen.legal }
